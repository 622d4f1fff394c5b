-- Kinds and their numbers undo each other.
use Rattle.std.specs.Prelude.{◌≡◌, refl, List, [], ◌∷◌, ℕ, zero, suc, ◌+◌, ◌≤◌, ◌<◌}
use Rattle.std.proofs.Common.{sym, ap, ◌∙◌, add-zero, arith}
use Rattle.std.proofs.Math.Option.{some}
use Rattle.std.proofs.Math.ListN.{get_elem?}
use Rattle.model.specs.Kind.{kinds, kind_of, kind_number}
use Rattle.model.specs.declared.Kind.{Kind}
use Rattle.model.specs.declared.Kind.TheVariants.{Topic, Partition, BrokerRegistration, DeleteTopic, TopicConfig, BrokerConfig, ClientQuota, ProducerIds, UnregisterBroker, KRaftVersion, FeatureLevel, ClientMetricsConfig, FeaturesEpoch, PartitionDirAssignment}
use Rattle.model.specs.declared.Kind.TheVariants.{PartitionOffsetAdvance, GroupConfig, ControllerRegistration, TopicFreeze, BreakGlassProposal, DeleteBreakGlassProposal, PartitionElr, PartitionRecovery, PartitionUpdate, BrokerRegistrationChange, UnregisterController, LogOffset}
use Rattle.laws.specs.Choice.{impossible}
use Rattle.laws.specs.Lists.{get_elem?_some}

pub kind_number_lem : (k : Kind) → kind_of (kind_number k) ≡ some k
unfolding kind_of kind_number
kind_number_lem Topic = refl
kind_number_lem Partition = refl
kind_number_lem BrokerRegistration = refl
kind_number_lem DeleteTopic = refl
kind_number_lem TopicConfig = refl
kind_number_lem BrokerConfig = refl
kind_number_lem ClientQuota = refl
kind_number_lem ProducerIds = refl
kind_number_lem UnregisterBroker = refl
kind_number_lem KRaftVersion = refl
kind_number_lem FeatureLevel = refl
kind_number_lem ClientMetricsConfig = refl
kind_number_lem FeaturesEpoch = refl
kind_number_lem PartitionDirAssignment = refl
kind_number_lem PartitionOffsetAdvance = refl
kind_number_lem GroupConfig = refl
kind_number_lem ControllerRegistration = refl
kind_number_lem TopicFreeze = refl
kind_number_lem BreakGlassProposal = refl
kind_number_lem DeleteBreakGlassProposal = refl
kind_number_lem PartitionElr = refl
kind_number_lem PartitionRecovery = refl
kind_number_lem PartitionUpdate = refl
kind_number_lem BrokerRegistrationChange = refl
kind_number_lem UnregisterController = refl
kind_number_lem LogOffset = refl

-- kinds numbered from one on
abbrev Numbered : ℕ → List Kind → Type 0
Numbered n [] = Unit {0}
Numbered n (k ∷ l) = (kind_number k ≡ n) × Numbered (suc n) l

nth_kind : (n i : ℕ) (l : List Kind) (k : Kind) → Numbered n l → get_elem? l i ≡ some k → kind_number k ≡ n + i
nth_kind n i [] k h e = impossible cc
nth_kind n zero (x ∷ l) k h e = let q : x ≡ k = cc in rw (← q, add-zero) h.0
nth_kind n (suc i) (x ∷ l) k h e = let q = nth_kind (suc n) i l k h.1 e in omega arith

kinds-numbered : Numbered 1 kinds
unfolding kinds kind_number
kinds-numbered = (
  refl,
  (
    refl,
    (
      refl,
      (
        refl,
        (
          refl,
          (
            refl,
            (
              refl,
              (
                refl,
                (
                  refl,
                  (
                    refl,
                    (
                      refl,
                      (
                        refl,
                        (
                          refl,
                          (refl, (refl, (refl, (refl, (refl, (refl, (refl, (refl, (refl, (refl, (refl, (refl, (refl, tt))))))))))))),
                        ),
                      ),
                    ),
                  ),
                ),
              ),
            ),
          ),
        ),
      ),
    ),
  ),
)

pub number_kind : (n : ℕ) (k : Kind) → kind_of n ≡ some k → kind_number k ≡ n
unfolding kind_of kind_number
number_kind zero k e = impossible cc
number_kind (suc n) k e =
    let q = nth_kind 1 n kinds k kinds-numbered e in
    omega arith

-- kinds with the same number are the same
pub number_injective : (a b : Kind) → kind_number a ≡ kind_number b → a ≡ b
number_injective a b e = let f : some a ≡ some b = sym (kind_number_lem a) ∙ ap kind_of e ∙ kind_number_lem b in cc

-- there are 26, from 1 on
kind_range : (n : ℕ) (k : Kind) → kind_of n ≡ some k → (0 < n) × (n ≤ 26)
unfolding kind_of
kind_range zero k e = impossible cc
kind_range (suc n) k e = let h = get_elem?_some kinds n k e in (omega arith, omega arith)

pub number_range : (k : Kind) → (0 < kind_number k) × (kind_number k ≤ 26)
number_range k = kind_range (kind_number k) k (kind_number_lem k)

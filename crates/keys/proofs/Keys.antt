-- Keys of two records: ranks first, then what tells the entries of a group apart, by its form.
use mathlib.Core.Path.{◌≡◌, refl, sym, ap, ap₂, ◌∙◌}
use mathlib.Core.List.{List, [], ◌∷◌}
use mathlib.Core.Option.{some}
use Prim.Native.Nat.{ℕ, zero, suc, ◌<◌, Ordering}
use native.Mathlib.Omega.{arith}
use lib.ListN.{length, get_or, drop}
use Rattle.model.specs.Number.{Bytes, AreBytes, number, bytes, span}
use Rattle.model.specs.Order.{Key, then_by, compare_bytes, compare_keys}
use Rattle.model.specs.Run.{Run, run_of, field, value, values}
use Rattle.model.specs.Kind.{kind_of}
use Rattle.model.specs.Key.{rank, rank_part, number_part, name_part, entities_key, subject, key_of, key_rank}
use Rattle.model.specs.declared.Kind.{Kind}
use Rattle.model.specs.declared.Kind.TheVariants.{Topic, Partition, BrokerRegistration, DeleteTopic, TopicConfig, BrokerConfig, ClientQuota, ProducerIds, UnregisterBroker, KRaftVersion, FeatureLevel, ClientMetricsConfig, FeaturesEpoch, PartitionDirAssignment}
use Rattle.model.specs.declared.Kind.TheVariants.{PartitionOffsetAdvance, GroupConfig, ControllerRegistration, TopicFreeze, BreakGlassProposal, DeleteBreakGlassProposal, PartitionElr, PartitionRecovery, PartitionUpdate, BrokerRegistrationChange, UnregisterController, LogOffset}
use Rattle.laws.specs.Order.{lt_flip, rank_lt, bytes-total, keys_total}
use Rattle.laws.specs.Numbers.{drop_are_bytes, number_bound, bytes-number}
use Rattle.laws_records.specs.Runs.{AreFields, fields-run}
use Rattle.laws_records.specs.Fields.{value_are_bytes}
use Rattle.laws_image.specs.Ranks.{rank_injective, key_rank_lem}
use Rattle.keys.specs.Keys.{kind_in, run_in, rank_of, key_in, WidthsFit, Keyed}
use Rattle.keys.specs.Forms.{key_form, form_of, by_form, FormFits}
use Rattle.keys.specs.Entities.{compare_entities}
use Rattle.keys.proofs.Orders.{then_same, number_part_lem}

-- 1. Parts

then_assoc : (a b c : Ordering) → then_by (then_by a b) c ≡ then_by a (then_by b c)
then_assoc Ordering.lt b c = refl
then_assoc Ordering.eq b c = refl
then_assoc Ordering.gt b c = refl

no_parts : compare_keys [] [] ≡ Ordering.eq
unfolding compare_keys
no_parts = refl

one-part : (x y : Bytes) → compare_keys (x ∷ []) (y ∷ []) ≡ compare_bytes x y
unfolding compare_keys
one-part x y = then_same (compare_bytes x y)

two-parts : (x z y w : Bytes) → compare_keys (x ∷ z ∷ []) (y ∷ w ∷ []) ≡ then_by (compare_bytes x y) (compare_bytes z w)
unfolding compare_keys
two-parts x z y w = ap (then_by (compare_bytes x y)) (then_same (compare_bytes z w))

-- a part before others
more_parts : (x y : Bytes) (k l : Key) → compare_keys (x ∷ k) (y ∷ l) ≡ then_by (compare_bytes x y) (compare_keys k l)
unfolding compare_keys
more_parts x y k l = refl

marked : (x y : Bytes) → compare_bytes (1 ∷ x) (1 ∷ y) ≡ compare_bytes x y
unfolding compare_bytes
marked x y = refl

-- the entities, then the config key
ends_first : (k : Key) (p : Bytes) (l : Key) → compare_keys ([] ∷ k) ((1 ∷ p) ∷ l) ≡ Ordering.lt
unfolding compare_keys compare_bytes
ends_first k p l = refl

ends_second : (p : Bytes) (k l : Key) → compare_keys ((1 ∷ p) ∷ k) ([] ∷ l) ≡ Ordering.gt
unfolding compare_keys compare_bytes
ends_second p k l = refl

both_ended : (k l : Key) → compare_keys ([] ∷ k) ([] ∷ l) ≡ compare_keys k l
unfolding compare_keys compare_bytes
both_ended k l = refl

entities_order : (es fs : List Bytes) (x y : Bytes)
    → compare_keys (entities_key es (x ∷ [])) (entities_key fs (y ∷ [])) ≡ then_by (compare_entities es fs) (compare_bytes x y)
unfolding entities_key compare_entities
entities_order [] [] x y = both_ended (x ∷ []) (y ∷ []) ∙ one-part x y
entities_order [] (f ∷ fs) x y = ends_first (x ∷ []) _ _
entities_order (e ∷ es) [] x y = ends_second _ _ (y ∷ [])
entities_order (e ∷ es) (f ∷ fs) x y =
    let types = compare_bytes (value 1 (run_of e)) (value 1 (run_of f)) in
    let names = compare_bytes (name_part (field 2 (run_of e))) (name_part (field 2 (run_of f))) in
    more_parts _ _ _ _
    ∙ ap₂ then_by (marked (value 1 (run_of e)) (value 1 (run_of f))) (more_parts _ _ _ _ ∙ ap (then_by names) (entities_order es fs x y))
    ∙ sym (then_assoc (then_by types names) (compare_entities es fs) (compare_bytes x y) ∙ then_assoc types names (then_by (compare_entities es fs) (compare_bytes x y)))

-- 2. What tells entries apart, by kind

node_order : (r q : Run) → AreFields r → AreFields q → length (value 1 r) ≡ 8 → length (value 1 q) ≡ 8
    → compare_bytes (number_part (value 1 r)) (number_part (value 1 q)) ≡ compare_bytes (value 1 r) (value 1 q)
node_order r q f g w v = number_part_lem (value 1 r) (value 1 q) (w ∙ sym v) (value_are_bytes 1 r f) (value_are_bytes 1 q g)

module _ (r q : Run) (f : AreFields r) (g : AreFields q) where
  subject_order : (k : Kind) → WidthsFit k r → WidthsFit k q → compare_keys (subject k r) (subject k q) ≡ by_form (key_form k) r q
  unfolding subject key_form
  subject_order Topic w v = one-part _ _
  subject_order Partition w v = two-parts _ _ _ _
  subject_order BrokerRegistration w v = one-part _ _ ∙ node_order r q f g w v
  subject_order DeleteTopic w v = no_parts
  subject_order TopicConfig w v = one-part _ _
  subject_order BrokerConfig w v = two-parts _ _ _ _ ∙ ap (λ o. then_by o (compare_bytes (value 2 r) (value 2 q))) (node_order r q f g w v)
  subject_order ClientQuota w v = entities_order (values 1 r) (values 1 q) (value 2 r) (value 2 q)
  subject_order ProducerIds w v = no_parts
  subject_order UnregisterBroker w v = no_parts
  subject_order KRaftVersion w v = no_parts
  subject_order FeatureLevel w v = one-part _ _
  subject_order ClientMetricsConfig w v = one-part _ _
  subject_order FeaturesEpoch w v = no_parts
  subject_order PartitionDirAssignment w v = no_parts
  subject_order PartitionOffsetAdvance w v = two-parts _ _ _ _
  subject_order GroupConfig w v = one-part _ _
  subject_order ControllerRegistration w v = one-part _ _ ∙ node_order r q f g w v
  subject_order TopicFreeze w v = two-parts _ _ _ _
  subject_order BreakGlassProposal w v = one-part _ _
  subject_order DeleteBreakGlassProposal w v = no_parts
  subject_order PartitionElr w v = two-parts _ _ _ _
  subject_order PartitionRecovery w v = two-parts _ _ _ _
  subject_order PartitionUpdate w v = no_parts
  subject_order BrokerRegistrationChange w v = no_parts
  subject_order UnregisterController w v = no_parts
  subject_order LogOffset w v = no_parts

form_fits : (k : Kind) (r : Run) → WidthsFit k r → FormFits (key_form k) r
unfolding key_form
form_fits Topic r w = ((λ e. absurd (omega arith)), (λ e. absurd (omega arith)))
form_fits Partition r w = ((λ e. w), (λ e. absurd (omega arith)))
form_fits BrokerRegistration r w = ((λ e. absurd (omega arith)), (λ e. absurd (omega arith)))
form_fits DeleteTopic r w = ((λ e. absurd (omega arith)), (λ e. absurd (omega arith)))
form_fits TopicConfig r w = ((λ e. absurd (omega arith)), (λ e. absurd (omega arith)))
form_fits BrokerConfig r w = ((λ e. absurd (omega arith)), (λ e. absurd (omega arith)))
form_fits ClientQuota r w = ((λ e. absurd (omega arith)), (λ e. w))
form_fits ProducerIds r w = ((λ e. absurd (omega arith)), (λ e. absurd (omega arith)))
form_fits UnregisterBroker r w = ((λ e. absurd (omega arith)), (λ e. absurd (omega arith)))
form_fits KRaftVersion r w = ((λ e. absurd (omega arith)), (λ e. absurd (omega arith)))
form_fits FeatureLevel r w = ((λ e. absurd (omega arith)), (λ e. absurd (omega arith)))
form_fits ClientMetricsConfig r w = ((λ e. absurd (omega arith)), (λ e. absurd (omega arith)))
form_fits FeaturesEpoch r w = ((λ e. absurd (omega arith)), (λ e. absurd (omega arith)))
form_fits PartitionDirAssignment r w = ((λ e. absurd (omega arith)), (λ e. absurd (omega arith)))
form_fits PartitionOffsetAdvance r w = ((λ e. w), (λ e. absurd (omega arith)))
form_fits GroupConfig r w = ((λ e. absurd (omega arith)), (λ e. absurd (omega arith)))
form_fits ControllerRegistration r w = ((λ e. absurd (omega arith)), (λ e. absurd (omega arith)))
form_fits TopicFreeze r w = ((λ e. absurd (omega arith)), (λ e. absurd (omega arith)))
form_fits BreakGlassProposal r w = ((λ e. absurd (omega arith)), (λ e. absurd (omega arith)))
form_fits DeleteBreakGlassProposal r w = ((λ e. absurd (omega arith)), (λ e. absurd (omega arith)))
form_fits PartitionElr r w = ((λ e. w), (λ e. absurd (omega arith)))
form_fits PartitionRecovery r w = ((λ e. w), (λ e. absurd (omega arith)))
form_fits PartitionUpdate r w = ((λ e. absurd (omega arith)), (λ e. absurd (omega arith)))
form_fits BrokerRegistrationChange r w = ((λ e. absurd (omega arith)), (λ e. absurd (omega arith)))
form_fits UnregisterController r w = ((λ e. absurd (omega arith)), (λ e. absurd (omega arith)))
form_fits LogOffset r w = ((λ e. absurd (omega arith)), (λ e. absurd (omega arith)))

-- 3. Whole keys

key_of_lem : (s : Bytes) (k : Kind) → kind_of (kind_in s) ≡ some k → key_in s ≡ key_of k (run_in s)
unfolding key_in
key_of_lem s k e = rw e

rank_is : (s : Bytes) (k : Kind) → kind_of (kind_in s) ≡ some k → rank_of (kind_in s) ≡ rank k
unfolding rank_of
rank_is s k e = rw e

pub form_is : (s : Bytes) (k : Kind) → kind_of (kind_in s) ≡ some k → form_of (kind_in s) ≡ key_form k
unfolding form_of
form_is s k e = rw e

key_rank_is : (s : Bytes) → Keyed s → key_rank (key_in s) ≡ rank_of (kind_in s)
key_rank_is s h = ap key_rank (key_of_lem s h.kind h.known) ∙ key_rank_lem h.kind (run_in s) ∙ sym (rank_is s h.kind h.known)

module _ (a b : Bytes) (x y : ℕ) (p : x ≡ rank_of (kind_in a)) (q : y ≡ rank_of (kind_in b)) (h : Keyed a) (k : Keyed b) where
  pub rank_less : x < y → Ordering.lt ≡ compare_keys (key_in a) (key_in b)
  rank_less l = sym (rank_lt (key_in a) (key_in b) (rw (key_rank_is a h, key_rank_is b k, ← p, ← q) l)).is

  pub rank_greater : y < x → Ordering.gt ≡ compare_keys (key_in a) (key_in b)
  rank_greater l = sym (lt_flip (rank_lt (key_in b) (key_in a) (rw (key_rank_is a h, key_rank_is b k, ← p, ← q) l)))

-- bytes of a slice
pub known_bytes : (s : Bytes) → ((i : ℕ) → get_or s i 0 < 256) → AreBytes s
known_bytes [] h = tt
known_bytes (x ∷ s) h = (h 0, known_bytes s (λ i. h (suc i)))

-- a field's number is one of its width
pub number-below : (s : Bytes) → AreBytes s → (tag width : ℕ) → length (value tag (run_in s)) ≡ width → number (value tag (run_in s)) < span width
number-below s are_bytes tag width wide =
    rw wide at (number_bound (value tag (run_in s)) (value_are_bytes tag (run_in s) (fields-run (drop 3 s) (drop_are_bytes 3 s are_bytes))))

-- the bytes that a field's number spells are its value
pub spelt-value : (s : Bytes) → AreBytes s → (tag width : ℕ) → length (value tag (run_in s)) ≡ width → {n : ℕ} → n ≡ number (value tag (run_in s))
    → bytes width n ≡ value tag (run_in s)
spelt-value s are_bytes tag width wide {n} e =
    let are = value_are_bytes tag (run_in s) (fields-run (drop 3 s) (drop_are_bytes 3 s are_bytes)) in
    ap₂ bytes (sym wide) e ∙ bytes-number (value tag (run_in s)) are

-- records of one rank: the same kind, or two that are in no snapshot
same_kind : (r q : Run) → AreFields r → AreFields q → (k : Kind) → WidthsFit k r → WidthsFit k q → compare_keys (key_of k r) (key_of k q) ≡ by_form (key_form k) r q
unfolding key_of
same_kind r q f g k w v =
    more_parts (rank_part k) (rank_part k) (subject k r) (subject k q)
    ∙ (let h : compare_bytes (rank_part k) (rank_part k) ≡ Ordering.eq = bytes-total.same (rank_part k) in rw h (subject_order r q f g k w v))

no_rank : (k : Kind) → rank k ≡ 0 → (r : Run) → (key_of k r ≡ (0 ∷ []) ∷ []) × (key_form k ≡ 0)
unfolding rank key_of subject key_form
no_rank Topic h r = absurd (omega arith)
no_rank Partition h r = absurd (omega arith)
no_rank BrokerRegistration h r = absurd (omega arith)
no_rank DeleteTopic h r = (refl, refl)
no_rank TopicConfig h r = absurd (omega arith)
no_rank BrokerConfig h r = absurd (omega arith)
no_rank ClientQuota h r = absurd (omega arith)
no_rank ProducerIds h r = absurd (omega arith)
no_rank UnregisterBroker h r = (refl, refl)
no_rank KRaftVersion h r = absurd (omega arith)
no_rank FeatureLevel h r = absurd (omega arith)
no_rank ClientMetricsConfig h r = absurd (omega arith)
no_rank FeaturesEpoch h r = absurd (omega arith)
no_rank PartitionDirAssignment h r = (refl, refl)
no_rank PartitionOffsetAdvance h r = absurd (omega arith)
no_rank GroupConfig h r = absurd (omega arith)
no_rank ControllerRegistration h r = absurd (omega arith)
no_rank TopicFreeze h r = absurd (omega arith)
no_rank BreakGlassProposal h r = absurd (omega arith)
no_rank DeleteBreakGlassProposal h r = (refl, refl)
no_rank PartitionElr h r = absurd (omega arith)
no_rank PartitionRecovery h r = absurd (omega arith)
no_rank PartitionUpdate h r = (refl, refl)
no_rank BrokerRegistrationChange h r = (refl, refl)
no_rank UnregisterController h r = (refl, refl)
no_rank LogOffset h r = (refl, refl)

module _ (a b : Bytes) (h : Keyed a) (k : Keyed b) (f : AreBytes a) (g : AreBytes b) where
  same_rank : (n : ℕ) → rank k.kind ≡ n → rank h.kind ≡ rank k.kind → compare_keys (key_in a) (key_in b) ≡ by_form (key_form h.kind) (run_in a) (run_in b)
  same_rank zero e r =
      let p = no_rank h.kind (r ∙ e) (run_in a) in
      let q = no_rank k.kind e (run_in b) in
      rw (key_of_lem a h.kind h.known, key_of_lem b k.kind k.known, p.0, q.0, p.1) (keys_total.same ((0 ∷ []) ∷ []))
  same_rank (suc n) e r =
      let s : h.kind ≡ k.kind = rank_injective h.kind k.kind r (omega arith) in
      let w : WidthsFit h.kind (run_in b) = rw s k.widths in
      rw (key_of_lem a h.kind h.known, key_of_lem b k.kind k.known, ← s)
      (same_kind (run_in a) (run_in b) (fields-run (drop 3 a) (drop_are_bytes 3 a f)) (fields-run (drop 3 b) (drop_are_bytes 3 b g)) h.kind h.widths w)

  other_fits : (n : ℕ) → rank k.kind ≡ n → rank h.kind ≡ rank k.kind → FormFits (key_form h.kind) (run_in b)
  other_fits zero e r = rw (no_rank h.kind (r ∙ e) (run_in a)).1 ((λ z. absurd (omega arith)), (λ z. absurd (omega arith)))
  other_fits (suc n) e r =
      let s : h.kind ≡ k.kind = rank_injective h.kind k.kind r (omega arith) in
      rw s (form_fits k.kind (run_in b) k.widths)

  module _ (x y form : ℕ) (p : x ≡ rank_of (kind_in a)) (q : y ≡ rank_of (kind_in b)) (e : x ≡ y) (o : form ≡ form_of (kind_in a)) where
    pub same_order : by_form form (run_in a) (run_in b) ≡ compare_keys (key_in a) (key_in b)
    same_order =
        let s : rank h.kind ≡ rank k.kind = sym (rank_is a h.kind h.known) ∙ sym p ∙ e ∙ q ∙ rank_is b k.kind k.known in
        rw (o, form_is a h.kind h.known) (sym (same_rank (rank k.kind) refl s))

    -- what the form asks of both
    pub both_fit : FormFits form (run_in a) × FormFits form (run_in b)
    both_fit =
        let s : rank h.kind ≡ rank k.kind = sym (rank_is a h.kind h.known) ∙ sym p ∙ e ∙ q ∙ rank_is b k.kind k.known in
        rw (o, form_is a h.kind h.known) (form_fits h.kind (run_in a) h.widths, other_fits (rank k.kind) refl s)

-- What a record's moves make of the fixed parts.
use mathlib.Core.Path.{◌≡◌, refl, ◌∙◌}
use mathlib.Core.Bool.{Bool, true, false, cond, not, ◌&&◌}
use mathlib.Core.List.{List, [], ◌∷◌}
use mathlib.Core.Option.{Option, none, some}
use lib.Dec.{eqb}
use Rattle.model.specs.Choice.{given, is_some, is_empty}
use Rattle.model.specs.Number.{Bytes, number}
use Rattle.model.specs.Run.{Run, run_of, field, value}
use Rattle.model.specs.Kind.{kind_number}
use Rattle.model.specs.Record.{Rec, rec}
use Rattle.model.specs.Key.{key_of, node_key, partition_key}
use Rattle.model.specs.Contents.{Fixed, Contents}
use Rattle.model.specs.Move.{Move, put_m, drop_m, directories_m, set_or_drop, join_or_leave, elr_rec, elr_move, recovery_rec, recovery_move, update_moves}
use Rattle.model.specs.Move.{run_at, broker_at, at_epoch, or_done, stored_next, is_above, changed_broker, replicas, directories, node_count, slot_of}
use Rattle.model.specs.Move.{filled, assigned, directory_moves, sorted_quota, on_fixed, move, moves, plan, moved}
use Rattle.model.specs.declared.Kind.{Kind}
use Rattle.model.specs.declared.Kind.TheVariants.{Topic, Partition, BrokerRegistration, DeleteTopic, TopicConfig, BrokerConfig, ClientQuota, ProducerIds, UnregisterBroker, KRaftVersion, FeatureLevel, ClientMetricsConfig, FeaturesEpoch, PartitionDirAssignment}
use Rattle.model.specs.declared.Kind.TheVariants.{PartitionOffsetAdvance, GroupConfig, ControllerRegistration, TopicFreeze, BreakGlassProposal, DeleteBreakGlassProposal, PartitionElr, PartitionRecovery, PartitionUpdate, BrokerRegistrationChange, UnregisterController, LogOffset}
use Rattle.laws.specs.Lists.{All, all_append}
use Rattle.apply_plan.specs.Fixed.{epoch_after, kraft_after}

-- 1. Moves that leave the fixed parts as they are

abbrev Still : Move → Type 0
Still m = (f : Fixed) → on_fixed m f ≡ f

all-still : (ms : List Move) (c : Contents) → All Still ms → (moves ms c).fixed ≡ c.fixed
unfolding moves move
all-still [] c h = refl
all-still (m ∷ ms) c h = all-still ms (move m c) h.1 ∙ h.0 c.fixed

set-still : (b : Bool) (r : Rec) → Still (set_or_drop b r)
unfolding on_fixed
set-still true r f = refl
set-still false r f = refl

join_still : (b : Bool) (r : Rec) → Still (join_or_leave b r)
unfolding on_fixed
join_still true r f = refl
join_still false r f = refl

-- moves that are made where a test holds
when_still : (b : Bool) (ms : List Move) → All Still ms → All Still (cond b ms [])
when_still true ms h = h
when_still false ms h = tt

-- moves that are made where there is a value
given-still : {A : Type 0} (o : Option A) (f : A → List Move) → ((a : A) → All Still (f a)) → All Still (given o [] f)
given-still none f h = tt
given-still (some a) f h = h a

-- 2. Plans of several moves

directories-still : (f p : Run) → All Still (directory_moves f p)
unfolding directory_moves on_fixed
directories-still f p =
    given-still (slot_of (node_count (replicas p)) (value 3 f) (replicas p))
    (λ slot. directories_m (key_of Partition p) (assigned slot (value 4 f) (filled (node_count (replicas p)) (directories p))) ∷ [])
    (λ slot. (λ x. refl, tt))

update_still : (f : Run) → All Still (update_moves f)
unfolding update_moves on_fixed
update_still f = (
  λ x. refl,
  all_append Still (given (field 2 f) [] (λ eligible. given (field 3 f) [] (elr eligible))) (given (field 4 f) [] recovery)
      (given-still (field 2 f) (λ eligible. given (field 3 f) [] (elr eligible)) elr_still) (given-still (field 4 f) recovery recovery_still),
)
  where
    p : Run
    p = run_of (value 1 f)

    elr : Bytes → Bytes → List Move
    elr eligible known = elr_move (elr_rec (value 1 p) (value 2 p) eligible known) ∷ []

    recovery : Bytes → List Move
    recovery state = recovery_move (recovery_rec (value 1 p) (value 2 p) state) ∷ []

    elr_still : (eligible : Bytes) → All Still (given (field 3 f) [] (elr eligible))
    elr_still eligible = given-still (field 3 f) (elr eligible) λ known.
        let r = elr_rec (value 1 p) (value 2 p) eligible known in
        (set-still (not (is_empty (value 3 r.run) && is_empty (value 4 r.run))) r, tt)

    recovery_still : (state : Bytes) → All Still (recovery state)
    recovery_still state =
        let r = recovery_rec (value 1 p) (value 2 p) state in
        (set-still (not (eqb (number (value 3 r.run)) 0)) r, tt)

-- 3. By kind

abbrev After : Rec → Contents → Fixed
After r c = record { epoch = epoch_after r c.fixed.epoch; kraft = kraft_after r c.fixed.kraft; offset = c.fixed.offset }

moved_kind : (k : Kind) (f : Run) (c : Contents) → (moves (plan k f c.real) c).fixed ≡ After (rec k f) c
unfolding plan moves move on_fixed kind_number epoch_after kraft_after
moved_kind Topic f c = refl
moved_kind Partition f c = refl
moved_kind BrokerRegistration f c = refl
moved_kind DeleteTopic f c = refl
moved_kind TopicConfig f c = set-still (is_some (field 2 f)) (rec TopicConfig f) c.fixed
moved_kind BrokerConfig f c = join_still (is_some (field 3 f)) (rec BrokerConfig f) c.fixed
moved_kind ClientQuota f c = join_still (is_some (field 3 f)) (sorted_quota f) c.fixed
moved_kind ProducerIds f c =
    all-still (plan ProducerIds f c.real) c
    (when_still (is_above 8 (value 3 f) (stored_next c.real)) (put_m (rec ProducerIds f) ∷ []) (λ x. refl, tt))
moved_kind UnregisterBroker f c =
    all-still (plan UnregisterBroker f c.real) c
    (when_still (at_epoch (value 2 f) (broker_at (value 1 f) c.real)) (drop_m (node_key BrokerRegistration (value 1 f)) ∷ []) (λ x. refl, tt))
moved_kind KRaftVersion f c = refl
moved_kind FeatureLevel f c = set-still (not (eqb (number (value 2 f)) 0)) (rec FeatureLevel f) (After (rec FeatureLevel f) c)
moved_kind ClientMetricsConfig f c = set-still (is_some (field 2 f)) (rec ClientMetricsConfig f) c.fixed
moved_kind FeaturesEpoch f c = refl
moved_kind PartitionDirAssignment f c =
    all-still (plan PartitionDirAssignment f c.real) c
    (given-still (run_at (partition_key Partition (value 1 f) (value 2 f)) c.real) (directory_moves f) (directories-still f))
moved_kind PartitionOffsetAdvance f c = refl
moved_kind GroupConfig f c = set-still (is_some (field 2 f)) (rec GroupConfig f) c.fixed
moved_kind ControllerRegistration f c = refl
moved_kind TopicFreeze f c = set-still (eqb (number (value 3 f)) 1) (rec TopicFreeze f) c.fixed
moved_kind BreakGlassProposal f c = refl
moved_kind DeleteBreakGlassProposal f c = refl
moved_kind PartitionElr f c = set-still (not (is_empty (value 3 f) && is_empty (value 4 f))) (rec PartitionElr f) c.fixed
moved_kind PartitionRecovery f c = set-still (not (eqb (number (value 3 f)) 0)) (rec PartitionRecovery f) c.fixed
moved_kind PartitionUpdate f c = all-still (update_moves f) c (update_still f)
moved_kind BrokerRegistrationChange f c =
    let o = broker_at (value 1 f) c.real in
    all-still (plan BrokerRegistrationChange f c.real) c
    (when_still (at_epoch (value 2 f) o) (put_m (rec BrokerRegistration (changed_broker f (or_done o))) ∷ []) (λ x. refl, tt))
moved_kind UnregisterController f c = refl
moved_kind LogOffset f c = refl

pub moved_fixed : (r : Rec) (c : Contents)
    → (moved r c).fixed ≡ record { epoch = epoch_after r c.fixed.epoch; kraft = kraft_after r c.fixed.kraft; offset = c.fixed.offset }
unfolding moved
moved_fixed r c = moved_kind r.kind r.run c

-- A record that Read accepts, by its kind number: as a record among entries, and its plan.
use mathlib.Core.Path.{◌≡◌, refl, sym, ap, ap₂, ◌∙◌, subst}
use mathlib.Core.Bool.{Bool, true, false, ◌||◌}
use mathlib.Core.List.{List, [], ◌∷◌, ◌++◌}
use Prim.Native.Nat.{◌+◌, ◌≤◌}
use native.Mathlib.Omega.{arith}
use lib.Dec.{eqb}
use lib.ListN.{length}
use Rattle.model.specs.Choice.{is_some}
use Rattle.model.specs.Number.{Bytes, number}
use Rattle.model.specs.Run.{Run, field, value}
use Rattle.model.specs.Kind.{kind_number}
use Rattle.model.specs.Shape.{rows_of, shape_of}
use Rattle.model.specs.Record.{rec}
use Rattle.model.specs.Contents.{Entry, storable, is_config}
use Rattle.model.specs.Move.{Move, drop_m, topic_m, part_m, delete_m, bump_m, epoch_m, kraft_m, update_moves, join_or_leave, on_real, on_empties, plan}
use Rattle.model.specs.declared.Kind.{Kind}
use Rattle.model.specs.declared.Kind.TheVariants.{Topic, Partition, BrokerRegistration, TopicConfig, ClientMetricsConfig, GroupConfig, TopicFreeze, PartitionElr, PartitionRecovery, PartitionUpdate}
use Rattle.model.specs.declared.Kind.TheVariants.{DeleteTopic, BrokerConfig, KRaftVersion, FeatureLevel, FeaturesEpoch, ControllerRegistration, BreakGlassProposal, DeleteBreakGlassProposal, UnregisterController}
use Rattle.laws.specs.Choice.{impossible}
use Rattle.laws_records.specs.Stored.{fault_stored}
use Rattle.laws_image.specs.Groups.{Grouped, config}
use Rattle.keys.specs.Keys.{kind_in, run_in}
use Rattle.entries.specs.Entries.{IsRecord, record_in}
use Rattle.entries.proofs.Changes.{record-in}
use Rattle.find.specs.Found.{Query, query_key}
use Rattle.find.specs.Logged.{IsLogged, logged_in}
use Rattle.find.proofs.Logged.{logged_in_lem, run_in_lem, passes, kind_is, value_of}
use Rattle.find.proofs.Queries.{controller_key, proposal_query, proposal_key}
use Rattle.apply_moves.specs.Moves.{IsPlain}
use Rattle.apply_moves.proofs.Singles.{set_move}
use Rattle.apply_work.specs.Work.{Good, held_in, Made}
use Rattle.apply_work.specs.declared.Bounds.{Bounds}
use Rattle.apply_work.proofs.Made.{made_none, made_one, made_then}
use Rattle.apply_plan.proofs.Arms.{same-moves}

module _ (s : Bytes) (i : IsLogged s) (k : Kind) (is : kind_in s ≡ kind_number k) where
  -- 1. As a record among entries, where it is no topic

  value_kind : i.value.kind ≡ k
  value_kind = ap (λ r. r.kind) (sym (logged_in_lem s i)) ∙ kind_is s i k is

  module _ (apart : k ≡ Topic → ⊥) where
    pub logged_is : IsRecord s
    logged_is = record {
      value = i.value;
      bytes = i.bytes;
      passes = fault_stored i.value.kind (λ e. apart (sym value_kind ∙ e)) i.value.run ∙ i.passes;
    }

    pub record-logged : record_in s ≡ logged_in s
    unfolding logged_is
    record-logged = record-in s logged_is ∙ sym (logged_in_lem s i)

    pub record-kind : (record_in s).kind ≡ k
    record-kind = ap (λ r. r.kind) record-logged ∙ kind_is s i k is

    pub record-plain : eqb (kind_number k) 1 ≡ false → eqb (kind_number k) 2 ≡ false → IsPlain (record_in s)
    record-plain a b = record {
      no_topic = ap (λ y. eqb (kind_number y) 1) record-kind ∙ a;
      no_partition = ap (λ y. eqb (kind_number y) 2) record-kind ∙ b;
    }

  -- 2. Its plan

  plan_kind : (l : List Entry) → plan k (run_in s) l ≡ plan (logged_in s).kind (logged_in s).run l
  plan_kind l = ap₂ (λ x f. plan x f l) (sym (kind_is s i k is)) (run_in_lem s i)

  set-fields : (k ≡ Topic → ⊥) → set_move (record_in s) ≡ set_move (rec k (record_in s).run)
  set-fields apart = ap (λ x. set_move (rec x (record_in s).run)) (record-kind apart)

  module _ {w v : Bytes} {bounds r : Bounds} where
    pub by_kind_lem : Made (plan k (run_in s) (held_in w bounds)) w bounds v r → Made (plan (logged_in s).kind (logged_in s).run (held_in w bounds)) w bounds v r
    by_kind_lem m = same-moves (plan_kind (held_in w bounds)) m

    module _ (apart : k ≡ Topic → ⊥) where
      pub by_record : Made (plan k (record_in s).run (held_in w bounds)) w bounds v r → Made (plan (logged_in s).kind (logged_in s).run (held_in w bounds)) w bounds v r
      by_record m = same-moves (ap₂ (λ x f. plan x f (held_in w bounds)) (sym (kind_is s i k is)) (ap (λ x. x.run) (record-logged apart))) m

-- 3. Kinds whose record is stored, or takes its key's entry out

pub data SetKind : Kind → Type 0 where
  broker : SetKind BrokerRegistration
  topic_config : SetKind TopicConfig
  level : SetKind FeatureLevel
  metrics : SetKind ClientMetricsConfig
  group : SetKind GroupConfig
  controller : SetKind ControllerRegistration
  freeze : SetKind TopicFreeze
  proposal : SetKind BreakGlassProposal
  elr : SetKind PartitionElr
  recovery : SetKind PartitionRecovery

-- none of them is a topic or a partition
pub set_apart : {k : Kind} → SetKind k → (eqb (kind_number k) 1 ≡ false) × (eqb (kind_number k) 2 ≡ false)
unfolding kind_number
set_apart broker = (refl, refl)
set_apart topic_config = (refl, refl)
set_apart level = (refl, refl)
set_apart metrics = (refl, refl)
set_apart group = (refl, refl)
set_apart controller = (refl, refl)
set_apart freeze = (refl, refl)
set_apart proposal = (refl, refl)
set_apart elr = (refl, refl)
set_apart recovery = (refl, refl)

no_topic : (k : Kind) → eqb (kind_number k) 1 ≡ false → k ≡ Topic → ⊥
unfolding kind_number
no_topic k a e = impossible_bool (sym (ap (λ x. eqb (kind_number x) 1) e) ∙ a)
  where
    impossible_bool : true ≡ false → ⊥
    impossible_bool q = impossible cc

-- a level moves the epoch first, which no entry shows
abbrev before : {k : Kind} → SetKind k → List Move
before broker = []
before topic_config = []
before level = bump_m ∷ []
before metrics = []
before group = []
before controller = []
before freeze = []
before proposal = []
before elr = []
before recovery = []

set-plan : {k : Kind} (x : SetKind k) (f : Run) (l : List Entry) → before x ++ (set_move (rec k f) ∷ []) ≡ plan k f l
unfolding plan storable
set-plan broker f l = refl
set-plan topic_config f l = refl
set-plan level f l = refl
set-plan metrics f l = refl
set-plan group f l = refl
set-plan controller f l = refl
set-plan freeze f l = refl
set-plan proposal f l = refl
set-plan elr f l = refl
set-plan recovery f l = refl

made-before : {k : Kind} (x : SetKind k) {w : Bytes} {bounds : Bounds} → Good w bounds → Made (before x) w bounds w bounds
unfolding on_real on_empties
made-before broker good = made_none good
made-before topic_config good = made_none good
made-before level good = made_one bump_m good refl refl (omega arith)
made-before metrics good = made_none good
made-before group good = made_none good
made-before controller good = made_none good
made-before freeze good = made_none good
made-before proposal good = made_none good
made-before elr good = made_none good
made-before recovery good = made_none good

module _ (s : Bytes) (i : IsLogged s) (k : Kind) (x : SetKind k) (is : kind_in s ≡ kind_number k) where
  pub set_is : IsRecord s
  set_is = logged_is s i k is (no_topic k (set_apart x).0)

  pub set_is_plain : IsPlain (record_in s)
  set_is_plain = record-plain s i k is (no_topic k (set_apart x).0) (set_apart x).0 (set_apart x).1

  pub set-made : {w v : Bytes} {bounds r : Bounds} → Good w bounds → Made (set_move (record_in s) ∷ []) w bounds v r
      → Made (plan (logged_in s).kind (logged_in s).run (held_in w bounds)) w bounds v r
  set-made {w} {v} {bounds} {r} good m =
      let apart = no_topic k (set_apart x).0 in
      by_record s i k is apart
      (same-moves (ap (λ y. before x ++ (y ∷ [])) (set-fields s i k is apart) ∙ set-plan x (record_in s).run (held_in w bounds))
      (made_then (before x) (set_move (record_in s) ∷ []) (made-before x good) m))

-- 4. Kinds with a plan of their own

module _ (s : Bytes) (i : IsLogged s) where
  pub topic_made : kind_in s ≡ 1 → {w v : Bytes} {bounds r : Bounds}
      → Made (topic_m (value 1 (run_in s)) (value 2 (run_in s)) (number (value 4 (run_in s))) ∷ []) w bounds v r
      → Made (plan (logged_in s).kind (logged_in s).run (held_in w bounds)) w bounds v r
  unfolding plan kind_number
  topic_made is m = by_kind_lem s i Topic is m

  pub part-made : kind_in s ≡ 2 → {w v : Bytes} {bounds r : Bounds} → Made (part_m (record_in s).run ∷ []) w bounds v r
      → Made (plan (logged_in s).kind (logged_in s).run (held_in w bounds)) w bounds v r
  unfolding plan kind_number
  part-made is m = by_record s i Partition is (λ e. impossible cc) m

  pub delete_made : kind_in s ≡ 4 → {w v : Bytes} {bounds r : Bounds} → Made (delete_m (value 1 (run_in s)) ∷ []) w bounds v r
      → Made (plan (logged_in s).kind (logged_in s).run (held_in w bounds)) w bounds v r
  unfolding plan kind_number
  delete_made is m = by_kind_lem s i DeleteTopic is m

  pub update_made : kind_in s ≡ 23 → {w v : Bytes} {bounds r : Bounds} → Made (update_moves (record_in s).run) w bounds v r
      → Made (plan (logged_in s).kind (logged_in s).run (held_in w bounds)) w bounds v r
  unfolding plan kind_number
  update_made is m = by_record s i PartitionUpdate is (λ e. impossible cc) m

  pub name_fits : kind_in s ≡ 4 → length (value 1 (run_in s)) ≤ 255
  unfolding rows_of shape_of kind_number
  name_fits is = (value_of s i DeleteTopic is 1 refl refl).1

  pub kraft-made : kind_in s ≡ 10 → {w : Bytes} {bounds : Bounds} → Good w bounds → Made (plan (logged_in s).kind (logged_in s).run (held_in w bounds)) w bounds w bounds
  unfolding plan kind_number on_real on_empties
  kraft-made is good = by_kind_lem s i KRaftVersion is (made_one (kraft_m (number (value 1 (run_in s)))) good refl refl (omega arith))

  pub epoch-made : kind_in s ≡ 13 → {w : Bytes} {bounds : Bounds} → Good w bounds → Made (plan (logged_in s).kind (logged_in s).run (held_in w bounds)) w bounds w bounds
  unfolding plan kind_number on_real on_empties
  epoch-made is good = by_kind_lem s i FeaturesEpoch is (made_one (epoch_m (number (value 1 (run_in s)))) good refl refl (omega arith))

  -- entries that another kind's record takes out
  pub proposal_asked : kind_in s ≡ 20 → Query 19 (value 1 (run_in s)) []
  unfolding rows_of shape_of kind_number
  proposal_asked is = proposal_query (value 1 (run_in s)) (omega (arith, value_of s i DeleteBreakGlassProposal is 1 refl refl))

  pub proposal_made : kind_in s ≡ 20 → {w v : Bytes} {bounds r : Bounds} → Made (drop_m (query_key 19 (value 1 (run_in s)) []) ∷ []) w bounds v r
      → Made (plan (logged_in s).kind (logged_in s).run (held_in w bounds)) w bounds v r
  unfolding plan kind_number
  proposal_made is m = by_kind_lem s i DeleteBreakGlassProposal is (same-moves (ap (λ k. drop_m k ∷ []) (proposal_key (value 1 (run_in s)))) m)

  pub controller_width : kind_in s ≡ 25 → length (value 1 (run_in s)) ≡ 8
  unfolding rows_of shape_of kind_number
  controller_width is = value_of s i UnregisterController is 1 refl refl

  pub controller_made : kind_in s ≡ 25 → {w v : Bytes} {bounds r : Bounds} → Made (drop_m (query_key 17 (value 1 (run_in s)) []) ∷ []) w bounds v r
      → Made (plan (logged_in s).kind (logged_in s).run (held_in w bounds)) w bounds v r
  unfolding plan kind_number
  controller_made is m = by_kind_lem s i UnregisterController is (same-moves (ap (λ k. drop_m k ∷ []) (controller_key (value 1 (run_in s)))) m)

  -- a member of a group, and a topic's end
  pub config_made : kind_in s ≡ 6 → {w v : Bytes} {bounds r : Bounds}
      → Made (join_or_leave (is_some (field 3 (record_in s).run)) (record_in s) ∷ []) w bounds v r → Made (plan (logged_in s).kind (logged_in s).run (held_in w bounds)) w bounds v r
  unfolding plan kind_number
  config_made is m =
      by_record s i BrokerConfig is (λ e. impossible cc)
      (same-moves (ap (λ k. join_or_leave (is_some (field 3 (record_in s).run)) (rec k (record_in s).run) ∷ []) (record-kind s i BrokerConfig is (λ e. impossible cc))) m)

  pub config_grouped : kind_in s ≡ 6 → Grouped (record_in s).kind
  unfolding kind_number
  config_grouped is = subst Grouped (sym (record-kind s i BrokerConfig is (λ e. impossible cc))) config

  pub config_ordered : (is : kind_in s ≡ 6) → (b : Bool) → is_config (record_in s) || b ≡ true
  unfolding kind_number
  config_ordered is b = rw (record-kind s i BrokerConfig is (λ e. impossible cc)) refl

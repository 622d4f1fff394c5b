-- The arms of a record's moves: what each asks of its record, and that it makes the plan of the kind.
use mathlib.Core.Path.{◌≡◌, refl, sym, ap, ◌∙◌, subst}
use mathlib.Core.Bool.{Bool, true, false, cond, ◌||◌, not, or-true}
use mathlib.Core.List.{List, [], ◌∷◌}
use Prim.Native.Nat.{ℕ, ◌≤◌, ◌<◌}
use native.Mathlib.Omega.{arith}
use borrow.Author.Tests.{lt-ltb, le-ltb}
use lib.Dec.{eqb, ltb}
use lib.ListN.{length, drop}
use Rattle.model.specs.Choice.{is_some}
use Rattle.model.specs.Number.{Bytes, AreBytes, number, place}
use Rattle.model.specs.Run.{Run, field, value, values}
use Rattle.model.specs.Kind.{kind_number}
use Rattle.model.specs.Shape.{rows_of, shape_of}
use Rattle.model.specs.Record.{Rec, rec}
use Rattle.model.specs.Key.{node_key}
use Rattle.model.specs.Contents.{Entry, storable, is_config, is_bare, entities_in_order}
use Rattle.model.specs.Move.{Move, put_m, drop_m, join_m, leave_m, set_or_drop, join_or_leave, sorted_quota, stored_next, is_above, at_epoch, broker_at, plan}
use Rattle.model.specs.declared.Kind.{Kind}
use Rattle.model.specs.declared.Kind.TheVariants.{BrokerRegistration, ClientQuota, ProducerIds, UnregisterBroker}
use Rattle.laws.specs.Choice.{impossible}
use Rattle.laws.specs.Lists.{All}
use Rattle.laws.specs.Numbers.{drop_are_bytes}
use Rattle.laws_records.specs.Runs.{AreFields, fields-run}
use Rattle.laws_records.specs.Fields.{value_are_bytes}
use Rattle.laws_image.specs.Groups.{Grouped, config, quota}
use Rattle.laws_apply.specs.Entries.{Stored}
use Rattle.laws_apply.specs.Quotas.{sorted_in_order, sorted_values, sorted_value}
use Rattle.laws_apply.specs.Found.{above-storable}
use Rattle.keys.specs.Keys.{run_in}
use Rattle.entries.specs.Entries.{IsRecord, record_in}
use Rattle.image_entries.proofs.Records.{headed, run_in_lem, kind_in_lem, value_is}
use Rattle.find.specs.Found.{query_key}
use Rattle.find.proofs.Queries.{broker_key}
use Rattle.apply_moves.specs.Moves.{IsPlain}
use Rattle.apply_moves.proofs.Singles.{set_move}
use Rattle.apply_work.specs.Work.{Good, Made}
use Rattle.apply_work.specs.declared.Bounds.{Bounds}
use Rattle.apply_work.proofs.Made.{made_none}

-- 1. Lists of moves that are equal

pub same-moves : {ms ns : List Move} {w v : Bytes} {bounds r : Bounds} → ms ≡ ns → Made ms w bounds v r → Made ns w bounds v r
same-moves {ms} {ns} {w} {v} {bounds} {r} e m = subst (λ x. Made x w bounds v r) e m

pub drop-lent : (kind : ℕ) {n name : Bytes} → n ≡ name → {w v : Bytes} {bounds r : Bounds}
    → Made (drop_m (query_key kind n []) ∷ []) w bounds v r → Made (drop_m (query_key kind name []) ∷ []) w bounds v r
drop-lent kind e m = same-moves (ap (λ x. drop_m (query_key kind x []) ∷ []) e) m

-- 2. Members of a group

bare_member : {k : Kind} → Grouped k → (run : Run) → is_bare (rec k run) ≡ not (is_some (field 3 run))
unfolding kind_number
bare_member config run = refl
bare_member quota run = refl

module _ (x : Rec) (g : Grouped x.kind) {b : Bool} (e : b ≡ is_bare x) {w v : Bytes} {bounds r : Bounds} where
  pub left : b ≡ true → Made (leave_m x ∷ []) w bounds v r → Made (join_or_leave (is_some (field 3 x.run)) x ∷ []) w bounds v r
  left t m = go (is_some (field 3 x.run)) (sym t ∙ e ∙ bare_member g x.run)
    where
      go : (s : Bool) → true ≡ not s → Made (join_or_leave s x ∷ []) w bounds v r
      go true q = impossible cc
      go false q = m

  pub joined : b ≡ false → Made (join_m x ∷ []) w bounds v r → Made (join_or_leave (is_some (field 3 x.run)) x ∷ []) w bounds v r
  joined t m = go (is_some (field 3 x.run)) (sym t ∙ e ∙ bare_member g x.run)
    where
      go : (s : Bool) → false ≡ not s → Made (join_or_leave s x ∷ []) w bounds v r
      go true q = m
      go false q = impossible cc

-- 3. A quota whose entities are sorted

module _ (f : Run) {x : Rec} (e : x ≡ sorted_quota f) where
  pub sorted_grouped : Grouped x.kind
  unfolding sorted_quota
  sorted_grouped = subst (λ y. Grouped y.kind) (sym e) quota

  pub sorted_ordered : is_config x || entities_in_order (values 1 x.run) ≡ true
  sorted_ordered =
      let ordered : entities_in_order (values 1 x.run) ≡ true =
      ap (λ y. entities_in_order (values 1 y.run)) e ∙ ap entities_in_order (sorted_values f) ∙ sorted_in_order (values 1 f) in
      rw (ordered, or-true)

  pub quota_made : (l : List Entry) {w v : Bytes} {bounds r : Bounds} → Made (join_or_leave (is_some (field 3 x.run)) x ∷ []) w bounds v r
      → Made (plan ClientQuota f l) w bounds v r
  unfolding plan
  quota_made l m =
      same-moves (ap (λ y. join_or_leave (is_some (field 3 y.run)) y ∷ []) e ∙ ap (λ o. join_or_leave (is_some o) (sorted_quota f) ∷ []) (sorted_value f)) m

-- 4. A record of a kind

kind_plain : (k : Kind) → eqb (kind_number k) 1 ≡ false → eqb (kind_number k) 2 ≡ false → (x : Rec) → x.kind ≡ k → IsPlain x
kind_plain k a b x e = record { no_topic = ap (λ y. eqb (kind_number y) 1) e ∙ a; no_partition = ap (λ y. eqb (kind_number y) 2) e ∙ b }

module _ (s : Bytes) (i : IsRecord s) where
  -- producer ids
  module _ (is : (record_in s).kind ≡ ProducerIds) where
    pub producers_plain : IsPlain (record_in s)
    unfolding kind_number
    producers_plain = kind_plain ProducerIds refl refl (record_in s) is

    producers_wide : length (value 3 (record_in s).run) ≡ 8
    unfolding rows_of shape_of kind_number
    producers_wide = value_is s i ProducerIds (kind_in_lem s i ∙ ap kind_number is) 3 refl refl

    pub producers_asked : (3 ≤ length s) × (0 < 8) × (8 ≤ 8) × (length (value 3 (run_in s)) ≡ 8)
    producers_asked = (headed s i, omega arith, omega arith, ap (λ r. length (value 3 r)) (run_in_lem s i) ∙ producers_wide)

    module _ (l : List Entry) {next new : ℕ} (en : next ≡ place 8 (number (stored_next l))) (ew : new ≡ place 8 (number (value 3 (run_in s)))) where
      above : ltb next new ≡ is_above 8 (value 3 (record_in s).run) (stored_next l)
      above = rw (en, ew, run_in_lem s i) refl

      pub producers-put : AreBytes s → All Stored l → next < new → {w v : Bytes} {bounds r : Bounds} → Made (set_move (record_in s) ∷ []) w bounds v r
          → Made (plan ProducerIds (record_in s).run l) w bounds v r
      unfolding plan
      producers-put are u h m =
          let f = (record_in s).run in
          let t : is_above 8 (value 3 f) (stored_next l) ≡ true = sym above ∙ lt-ltb next new h in
          let fields = subst AreFields (run_in_lem s i) (fields-run (drop 3 s) (drop_are_bytes 3 s are)) in
          let keeps = above-storable l u f (value_are_bytes 3 f fields) producers_wide t in
          same-moves (go t keeps) m
        where
          go : is_above 8 (value 3 (record_in s).run) (stored_next l) ≡ true → storable ProducerIds (record_in s).run ≡ true
              → set_move (record_in s) ∷ [] ≡ cond (is_above 8 (value 3 (record_in s).run) (stored_next l)) (put_m (rec ProducerIds (record_in s).run) ∷ []) []
          go t k =
              ap (λ y. set_move (rec y (record_in s).run) ∷ []) is
              ∙ ap (λ b. set_or_drop b (rec ProducerIds (record_in s).run) ∷ []) k
              ∙ sym (ap (λ b. cond b (put_m (rec ProducerIds (record_in s).run) ∷ []) []) t)

      pub producers-none : new ≤ next → {w : Bytes} {bounds : Bounds} → Good w bounds → Made (plan ProducerIds (record_in s).run l) w bounds w bounds
      unfolding plan
      producers-none h good =
          same-moves (sym (ap (λ b. cond b (put_m (rec ProducerIds (record_in s).run) ∷ []) []) (sym above ∙ le-ltb next new h))) (made_none good)

  -- a broker's unregistration
  module _ (is : (record_in s).kind ≡ UnregisterBroker) where
    pub node_wide : length (value 1 (run_in s)) ≡ 8
    unfolding rows_of shape_of kind_number
    node_wide = ap (λ r. length (value 1 r)) (run_in_lem s i) ∙ value_is s i UnregisterBroker (kind_in_lem s i ∙ ap kind_number is) 1 refl refl

    module _ (l : List Entry) {b : Bool} (e : b ≡ at_epoch (value 2 (run_in s)) (broker_at (value 1 (run_in s)) l)) where
      tested : b ≡ at_epoch (value 2 (record_in s).run) (broker_at (value 1 (record_in s).run) l)
      tested = e ∙ ap (λ r. at_epoch (value 2 r) (broker_at (value 1 r) l)) (run_in_lem s i)

      pub unregistered : b ≡ true → {n : Bytes} → n ≡ value 1 (run_in s) → {w v : Bytes} {bounds r : Bounds} → Made (drop_m (query_key 3 n []) ∷ []) w bounds v r
          → Made (plan UnregisterBroker (record_in s).run l) w bounds v r
      unfolding plan
      unregistered t {n} en m =
          same-moves
          (ap (λ k. drop_m k ∷ []) (ap (λ x. query_key 3 x []) (en ∙ ap (value 1) (run_in_lem s i)) ∙ broker_key (value 1 (record_in s).run))
          ∙ sym (ap (λ x. cond x (drop_m (node_key BrokerRegistration (value 1 (record_in s).run)) ∷ []) []) (sym tested ∙ t))) m

      pub not_registered : b ≡ false → {w : Bytes} {bounds : Bounds} → Good w bounds → Made (plan UnregisterBroker (record_in s).run l) w bounds w bounds
      unfolding plan
      not_registered t good =
          same-moves (sym (ap (λ x. cond x (drop_m (node_key BrokerRegistration (value 1 (record_in s).run)) ∷ []) []) (sym tested ∙ t))) (made_none good)

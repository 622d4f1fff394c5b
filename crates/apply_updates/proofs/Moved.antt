-- The moves of an update: its partition's, its ELR's and its recovery's, each by the record that was built for it.
use mathlib.Core.Path.{◌≡◌, refl, sym, ap, ap₂, ◌∙◌, subst}
use mathlib.Core.Bool.{Bool, true, false, cond, ◌&&◌, not}
use mathlib.Core.List.{List, [], ◌∷◌, ◌++◌}
use mathlib.Core.Option.{Option, none, some}
use Prim.Native.Nat.{◌≤◌}
use native.Mathlib.Omega.{arith}
use borrow.Author.Tests.{not-true, not-false}
use lib.ListN.{length, drop}
use Rattle.model.specs.Choice.{given, is_some}
use Rattle.model.specs.Number.{Bytes, AreBytes}
use Rattle.model.specs.Run.{Run, field, value, or_empty}
use Rattle.model.specs.Kind.{kind_number}
use Rattle.model.specs.Shape.{logged, fault}
use Rattle.model.specs.Record.{Rec, record_bytes}
use Rattle.model.specs.Contents.{storable}
use Rattle.model.specs.Move.{Move, part_m, elr_rec, recovery_rec, elr_move, recovery_move, update_moves}
use Rattle.model.specs.declared.Kind.TheVariants.{PartitionUpdate}
use Rattle.laws.specs.Choice.{impossible}
use Rattle.laws.specs.Numbers.{drop_are_bytes}
use Rattle.laws_records.specs.Runs.{AreFields, fields-run}
use Rattle.laws_image.specs.Fits.{Readable}
use Rattle.laws_apply.specs.Changes.{update_partition, elr_readable, recovery_readable}
use Rattle.keys.specs.Keys.{run_in}
use Rattle.entries.specs.Entries.{IsRecord, record_in}
use Rattle.entries.proofs.Changes.{record-in}
use Rattle.apply_work.specs.Work.{Good, Made}
use Rattle.apply_work.specs.declared.Bounds.{Bounds}
use Rattle.apply_work.proofs.Made.{made_none, made_then}
use Rattle.apply_moves.specs.Moves.{IsPlain}
use Rattle.apply_moves.proofs.Singles.{set_move}
use Rattle.apply_updates.specs.Updates.{IsUpdate, partition_of, partition_rec, updated_elr, updated_recovery, elr_moves, recovery_moves}
use Rattle.apply_updates.proofs.Values.{update_run, update_passes}

-- 1. A record that was built

readable_record : (r : Rec) → Readable r → (t : Bytes) → t ≡ record_bytes r → IsRecord t × (record_in t ≡ r)
readable_record r ok t e =
    let i : IsRecord t = record { value = r; bytes = e; passes = ok.passes } in
    (i, record-in t i)

-- a field that is there
there : (o : Option Bytes) → is_some o ≡ true → o ≡ some (or_empty o)
there none e = impossible cc
there (some v) e = refl

-- 2. No move

module _ {w : Bytes} {bounds : Bounds} (good : Good w bounds) (r : Run) where
  still : {ms : List Move} → ms ≡ [] → Made ms w bounds w bounds
  still e = subst (λ ms. Made ms w bounds w bounds) (sym e) (made_none good)

  module _ {a : Bool} (ea : a ≡ is_some (field 2 r)) where
    pub no_eligible : not a ≡ true → Made (elr_moves r) w bounds w bounds
    no_eligible h = still (ap (λ t. cond (t && is_some (field 3 r)) (elr_move (updated_elr r) ∷ []) []) (sym ea ∙ not-true a h))

    pub no_known : not a ≡ false → {b : Bool} → b ≡ is_some (field 3 r) → not b ≡ true → Made (elr_moves r) w bounds w bounds
    no_known h {b} eb k =
        still (ap₂ (λ t x. cond (t && x) (elr_move (updated_elr r) ∷ []) []) (sym ea ∙ not-false a h) (sym eb ∙ not-true b k))

  pub no_recovery : {a : Bool} → a ≡ is_some (field 4 r) → not a ≡ true → Made (recovery_moves r) w bounds w bounds
  no_recovery {a} ea h = still (ap (λ t. cond t (recovery_move (updated_recovery r) ∷ []) []) (sym ea ∙ not-true a h))

-- 3. The records

module _ (s : Bytes) (u : IsUpdate s) (are_bytes : AreBytes s) where
  abbrev run : Run
  run = (record_in s).run

  are_fields : AreFields run
  are_fields = subst AreFields (update_run s u) (fields-run (drop 3 s) (drop_are_bytes 3 s are_bytes))

  passes : fault logged PartitionUpdate run ≡ 0
  passes = subst (λ r. fault logged PartitionUpdate r ≡ 0) (update_run s u) (update_passes s u)

  pub partition_is : (t : Bytes) → t ≡ record_bytes (partition_rec (run_in s)) → IsRecord t × (record_in t ≡ partition_rec run)
  partition_is t e =
      readable_record (partition_rec run) (update_partition run passes are_fields) t (e ∙ ap (λ r. record_bytes (partition_rec r)) (update_run s u))

  pub elr_is : {a b : Bool} → a ≡ is_some (field 2 run) → not a ≡ false → b ≡ is_some (field 3 run) → not b ≡ false → (t : Bytes)
      → t ≡ record_bytes (updated_elr (run_in s)) → IsRecord t × (record_in t ≡ updated_elr run)
  elr_is {a} {b} ea ha eb hb t e =
      let eligible = there (field 2 run) (sym ea ∙ not-false a ha) in
      let known = there (field 3 run) (sym eb ∙ not-false b hb) in
      readable_record (updated_elr run) (elr_readable run passes are_fields (value 2 run) (value 3 run) eligible known) t
      (e ∙ ap (λ r. record_bytes (updated_elr r)) (update_run s u))

  pub recovery_is : {a : Bool} → a ≡ is_some (field 4 run) → not a ≡ false → (t : Bytes)
      → t ≡ record_bytes (updated_recovery (run_in s)) → IsRecord t × (record_in t ≡ updated_recovery run)
  recovery_is {a} ea ha t e =
      let state = there (field 4 run) (sym ea ∙ not-false a ha) in
      readable_record (updated_recovery run) (recovery_readable run passes are_fields (value 4 run) state) t
      (e ∙ ap (λ r. record_bytes (updated_recovery r)) (update_run s u))

-- 4. Their moves

module _ (r : Run) {x : Rec} where
  pub elr_plain : x ≡ updated_elr r → IsPlain x
  unfolding kind_number
  elr_plain e = rw e (record { no_topic = refl; no_partition = refl })

  pub recovery_plain : x ≡ updated_recovery r → IsPlain x
  unfolding kind_number
  recovery_plain e = rw e (record { no_topic = refl; no_partition = refl })

  module _ {w v : Bytes} {bounds q : Bounds} (m : Made (set_move x ∷ []) w bounds v q) where
    pub elr_made : x ≡ updated_elr r → {a b : Bool} → a ≡ is_some (field 2 r) → not a ≡ false → b ≡ is_some (field 3 r) → not b ≡ false
        → Made (elr_moves r) w bounds v q
    unfolding storable
    elr_made e {a} {b} ea ha eb hb =
        let made : Made (elr_move (updated_elr r) ∷ []) w bounds v q = subst (λ y. Made (set_move y ∷ []) w bounds v q) e m in
        let both : elr_move (updated_elr r) ∷ [] ≡ elr_moves r =
        ap₂ (λ y z. cond (y && z) (elr_move (updated_elr r) ∷ []) []) (sym (not-false a ha) ∙ ea) (sym (not-false b hb) ∙ eb) in
        subst (λ ms. Made ms w bounds v q) both made

    pub recovery_made : x ≡ updated_recovery r → {a : Bool} → a ≡ is_some (field 4 r) → not a ≡ false → Made (recovery_moves r) w bounds v q
    unfolding storable
    recovery_made e {a} ea ha =
        let made : Made (recovery_move (updated_recovery r) ∷ []) w bounds v q = subst (λ y. Made (set_move y ∷ []) w bounds v q) e m in
        let one : recovery_move (updated_recovery r) ∷ [] ≡ recovery_moves r =
        ap (λ y. cond y (recovery_move (updated_recovery r) ∷ []) []) (sym (not-false a ha) ∙ ea) in
        subst (λ ms. Made ms w bounds v q) one made

-- 5. All moves

moves_are : (r : Run) → update_moves r ≡ (part_m (partition_of r) ∷ []) ++ elr_moves r ++ recovery_moves r
unfolding update_moves
moves_are r = go (field 2 r) (field 3 r) (field 4 r)
  where
    p : Run
    p = partition_of r

    go : (a b c : Option Bytes)
        → part_m p
        ∷ given a [] (λ eligible. given b [] (λ known. elr_move (elr_rec (value 1 p) (value 2 p) eligible known) ∷ []))
        ++ given c [] (λ state. recovery_move (recovery_rec (value 1 p) (value 2 p) state) ∷ [])
        ≡ (part_m p ∷ [])
        ++ cond (is_some a && is_some b) (elr_move (elr_rec (value 1 p) (value 2 p) (or_empty a) (or_empty b)) ∷ []) []
        ++ cond (is_some c) (recovery_move (recovery_rec (value 1 p) (value 2 p) (or_empty c)) ∷ []) []
    go none b none = refl
    go none b (some z) = refl
    go (some x) none none = refl
    go (some x) none (some z) = refl
    go (some x) (some y) none = refl
    go (some x) (some y) (some z) = refl

pub elr_one : (r : Run) → length (elr_moves r) ≤ 1
elr_one r = go (is_some (field 2 r) && is_some (field 3 r))
  where
    go : (b : Bool) → length (cond b (elr_move (updated_elr r) ∷ []) []) ≤ 1
    go true = omega arith
    go false = omega arith

pub updated : (r : Run) {w v x y : Bytes} {bounds p q z : Bounds} {t : Rec} → t ≡ partition_rec r → Made (part_m t.run ∷ []) w bounds v p
    → Made (elr_moves r) v p x q → Made (recovery_moves r) x q y z → Made (update_moves r) w bounds y z
updated r {w} {v} {x} {y} {bounds} {p} {q} {z} e a b c =
    let part : Made (part_m (partition_of r) ∷ []) w bounds v p = subst (λ k. Made (part_m k.run ∷ []) w bounds v p) e a in
    subst (λ ms. Made ms w bounds y z) (sym (moves_are r))
    (made_then ((part_m (partition_of r) ∷ []) ++ elr_moves r) (recovery_moves r) (made_then (part_m (partition_of r) ∷ []) (elr_moves r) part b) c)

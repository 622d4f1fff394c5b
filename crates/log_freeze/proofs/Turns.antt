-- A pass over a run's records, turn by turn: each record is noted in its slot, so that a slot holds the last one.
use mathlib.Core.Path.{◌≡◌, refl, sym, ap, ◌∙◌, subst}
use mathlib.Core.Bool.{Bool, true, false, cond, ◌&&◌}
use mathlib.Core.List.{List, [], ◌∷◌}
use mathlib.Core.Option.{none, some}
use Prim.Native.Nat.{ℕ, zero, suc, ◌+◌, ◌-◌, ◌≤◌, ◌<◌}
use native.Mathlib.Omega.{arith}
use borrow.Author.Tests.{eqb-true, eqb-false, eq-eqb, ne_eqb}
use lib.Dec.{eqb}
use lib.ListN.{length, take, drop, get_or, set, replicate, get_or-replicate, length-drop, drop_of_length-le}
use lib.Seq.{get_or-set_same, get_or-set_other, get_or-take, get_or-drop, drop-drop}
use Rattle.model.specs.Choice.{given, last_of}
use Rattle.model.specs.Number.{Bytes, AreBytes, number}
use Rattle.model.specs.Order.{same_bytes}
use Rattle.model.specs.Run.{value}
use Rattle.model.specs.Kind.{kind_number}
use Rattle.model.specs.Shape.{rows_of, shape_of, framed, fault}
use Rattle.model.specs.Record.{Rec, record_bytes, bad, got, read}
use Rattle.model.specs.Items as Items
use Rattle.model.specs.Items.{Items, end, item, items_from, records}
use Rattle.model.specs.Reply.{accepted, refused}
use Rattle.model.specs.Snapshot.{is_offset_rec}
use Rattle.model.specs.Lookup.{literal, prefixed}
use Rattle.model.specs.Convert.{passes, fails, run_checked}
use Rattle.model.specs.LogFreeze.{is_freeze, is_freeze_of, in_force, last_freeze, log_checked}
use Rattle.model.specs.declared.Kind.TheVariants.{TopicFreeze}
use Rattle.model.specs.declared.answers.Answer.TheVariants.{Used, Refused}
use Rattle.laws.specs.Numbers.{drop_are_bytes}
use Rattle.laws_records.specs.Runs.{run-bytes}
use Rattle.laws_records.specs.Faults.{fault-value, fault-whole, fault-short}
use Rattle.laws_records.specs.Records.{reads}
use Rattle.laws_records.specs.Items.{items_got, items_bad}
use Rattle.laws_image.specs.Kinds.{is_kind}
use Rattle.laws_apply.specs.Accepts.{last-before}
use Rattle.records.specs.Answers.{got_reply}
use Rattle.records.proofs.Replies.{used_got, refused_bad}
use Rattle.keys.specs.Keys.{kind_in, run_in}
use Rattle.log_freeze.specs.Slots.{slot_count, literal_slot, slot_of, slot_value, noted, frozen_at, Holds, items_at, checked_from, ReadAs, frozen_from, Reached, Noted}
use Rattle.log_freeze.proofs.Fitting.{prefix_slot, literal_slot_lem}

-- 1. A slot after a record

module _ (run name : Bytes) (short : length name ≤ 255) (at : ℕ) (r : Rec) (n : ℕ) (e : read framed (drop at run) ≡ got r n) (slots : List ℕ)
    (long : length slots ≡ slot_count) where
  abbrev notes : List ℕ
  notes = cond (is_freeze r) (set slots (slot_of r.run name) (slot_value r.run at)) slots

  slot-after : (i : ℕ) → i < slot_count → get_or notes i 0 ≡ cond (is_freeze r && eqb (slot_of r.run name) i) (slot_value r.run at) (get_or slots i 0)
  slot-after i h = go (is_freeze r) (eqb (slot_of r.run name) i) refl
    where
      go : (f t : Bool) → eqb (slot_of r.run name) i ≡ t
          → get_or (cond f (set slots (slot_of r.run name) (slot_value r.run at)) slots) i 0 ≡ cond (f && t) (slot_value r.run at) (get_or slots i 0)
      go false t q = refl
      go true true q =
          let same : slot_of r.run name ≡ i = eqb-true (slot_of r.run name) i q in
          rw same (get_or-set_same slots i (slot_value r.run at) 0 (omega (arith, long)))
      go true false q = get_or-set_other slots (slot_of r.run name) i (slot_value r.run at) 0 (λ s. eqb-false (slot_of r.run name) i q (sym s))

  next : at + 1 ≡ suc at
  next = omega arith

  value-frozen : frozen_at run (slot_value r.run at) ≡ in_force r
  unfolding frozen_at
  value-frozen = go (eqb (number (value 3 r.run)) 1)
    where
      go : (b : Bool) → frozen_at run (cond b (at + 1) 0) ≡ cond b (some r) none
      go true = rw (next, e) refl
      go false = refl

  value-holds : Holds run (slot_value r.run at)
  value-holds = go (eqb (number (value 3 r.run)) 1)
    where
      go : (b : Bool) → Holds run (cond b (at + 1) 0)
      go true = subst (Holds run) (sym next) (r, n, e)
      go false = tt

  module _ (before : (i : ℕ) → i < slot_count → Holds run (get_or slots i 0)) where
    notes_hold : (i : ℕ) → i < slot_count → Holds run (get_or notes i 0)
    notes_hold i h = subst (Holds run) (sym (slot-after i h)) (go (is_freeze r && eqb (slot_of r.run name) i))
      where
        go : (b : Bool) → Holds run (cond b (slot_value r.run at) (get_or slots i 0))
        go true = value-holds
        go false = before i h

  frozen-after : (i : ℕ) → i < slot_count → (t : Bool) → t ≡ (is_freeze r && eqb (slot_of r.run name) i)
      → frozen_at run (get_or notes i 0) ≡ cond t (in_force r) (frozen_at run (get_or slots i 0))
  frozen-after i h t q = ap (frozen_at run) (slot-after i h) ∙ rw (← q) (go t)
    where
      go : (b : Bool) → frozen_at run (cond b (slot_value r.run at) (get_or slots i 0)) ≡ cond b (in_force r) (frozen_at run (get_or slots i 0))
      go true = value-frozen
      go false = refl

  and_assoc : (a b c : Bool) → (a && b && c) ≡ (a && (b && c))
  and_assoc true b c = refl
  and_assoc false b c = refl

  prefix_test_lem : (i : ℕ) → i ≤ length name → is_freeze_of prefixed (take i name) r ≡ (is_freeze r && eqb (slot_of r.run name) i)
  unfolding is_freeze_of
  prefix_test_lem i h =
      and_assoc (is_freeze r) (same_bytes (value 2 r.run) prefixed) (same_bytes (value 1 r.run) (take i name))
      ∙ ap (λ b. is_freeze r && b) (prefix_slot r.run name short i h)

  literal_test_lem : is_freeze_of literal name r ≡ (is_freeze r && eqb (slot_of r.run name) literal_slot)
  unfolding is_freeze_of
  literal_test_lem =
      and_assoc (is_freeze r) (same_bytes (value 2 r.run) literal) (same_bytes (value 1 r.run) name)
      ∙ ap (λ b. is_freeze r && b) (literal_slot_lem r.run name short)

  -- 2. A turn

  items-here : items_at run at ≡ item at r (items_at run (at + n))
  items-here = items_got framed at (drop at run) r n e ∙ ap (λ s. item at r (items_from framed 0 (at + n) s)) (drop-drop n at run)

  frozen_turn : (pattern scope : Bytes) (i : ℕ) → i < slot_count → is_freeze_of pattern scope r ≡ (is_freeze r && eqb (slot_of r.run name) i)
      → frozen_from run at (get_or slots i 0) pattern scope ≡ frozen_from run (at + n) (get_or notes i 0) pattern scope
  unfolding last_of records
  frozen_turn pattern scope i h q =
      let test = is_freeze_of pattern scope in
      let later = last_of test (records (items_at run (at + n))) in
      ap (λ is. given (last_of test (records is)) (frozen_at run (get_or slots i 0)) in_force) items-here
      ∙ sym (last-before in_force later (test r) r (frozen_at run (get_or slots i 0)))
      ∙ ap (λ x. given later x in_force) (sym (frozen-after i h (test r) q))

  pub turned : Reached run name at slots → ((rest : Items) → checked_from at (item at r rest) ≡ run_checked rest) → Reached run name (at + n) notes
  turned reached passed = record {
    within = omega (arith, fits, length-drop at run, reached.within);
    checks = reached.checks ∙ ap (checked_from at) items-here ∙ passed (items_at run (at + n)) ∙ ap (λ k. checked_from k (items_at run (at + n))) (sym later);
    prefixes = λ i h. reached.prefixes i h ∙ frozen_turn prefixed (take i name) i (omega arith) (prefix_test_lem i h);
    literals = reached.literals ∙ frozen_turn literal name literal_slot (omega arith) literal_test_lem;
    holds = notes_hold reached.holds;
  }
    where
      fits : n ≤ length (drop at run)
      fits = (reads framed (drop at run) r n e).fits

      later : at + n ≡ suc (at + n - 1)
      later = omega (arith, (reads framed (drop at run) r n e).head)

-- 3. The record by its bytes

module _ (run : Bytes) (are : AreBytes run) (at : ℕ) (r : Rec) (n : ℕ) (e : read framed (drop at run) ≡ got r n) where
  -- as the code lends them
  abbrev part : Bytes
  part = take (at + n - at) (drop at run)

  passing : fault framed r.kind r.run ≡ 0
  passing = (reads framed (drop at run) r n e).passes

  pub spelt-part : part ≡ record_bytes r
  spelt-part =
      let size : at + n - at ≡ n = omega arith in
      ap (λ m. take m (drop at run)) size ∙ (reads framed (drop at run) r n e).spelt (drop_are_bytes at run are)

  kind_part : kind_in part ≡ kind_number r.kind
  kind_part = ap kind_in spelt-part ∙ first
    where
      first : kind_in (record_bytes r) ≡ kind_number r.kind
      first = unfold record_bytes in refl

  run-part : run_in part ≡ r.run
  run-part = ap run_in spelt-part ∙ body
    where
      body : run_in (record_bytes r) ≡ r.run
      body = unfold record_bytes in run-bytes r.run (fault-whole framed r.kind r.run passing) (fault-short framed r.kind r.run passing)

  pub part-head : 3 ≤ length part
  part-head =
      let d = reads framed (drop at run) r n e in
      omega (arith, ap length spelt-part, d.used, d.head)

  pub part_fits : (3 ≤ n) × (at + n ≤ length run)
  part_fits =
      let d = reads framed (drop at run) r n e in
      (d.head, omega (arith, d.fits, d.head, length-drop at run))

  is_freeze_lem : kind_number r.kind ≡ 18 → is_freeze r ≡ true
  unfolding kind_number
  is_freeze_lem h = eq-eqb (kind_number r.kind) 18 h

  flag_one : r.kind ≡ TopicFreeze → length (value 3 r.run) ≡ 1
  unfolding rows_of shape_of kind_number
  flag_one k = ap length (fault-value framed TopicFreeze r.run (subst (λ x. fault framed x r.run ≡ 0) k passing) 3 refl refl).only

  pub part-flag : kind_in part ≡ 18 → length (value 3 (run_in part)) ≡ 1
  part-flag h = rw run-part (flag_one (is_kind r.kind TopicFreeze (is_freeze_lem (sym kind_part ∙ h))))

  pub part-noted : (name : Bytes) (slots : List ℕ) → noted slots name part at ≡ cond (is_freeze r) (set slots (slot_of r.run name) (slot_value r.run at)) slots
  unfolding noted kind_number
  part-noted name slots = rw (kind_part, run-part) refl

-- 4. The record at a place, as the code reads it

module _ (run : Bytes) (are : AreBytes run) (at : ℕ) (within : at < length run) where
  first-there : (get_or run at 0 ≡ get_or (drop at run) 0 0)
  first-there = sym (get_or-drop at run 0 0 ∙ ap (λ k. get_or run k 0) zero_more)
    where
      zero_more : at + 0 ≡ at
      zero_more = omega arith

  pub read-refused : {m : ℕ} → refused m ≡ got_reply (read framed (drop at run)) → ReadAs run at (Refused m)
  read-refused {m} q = go (drop at run) (length-drop at run) (refused_bad (read framed (drop at run)) m q)
    where
      by_place : (k : ℕ) → checked_from k (Items.bad m at) ≡ fails m at
      by_place zero = unfold log_checked in refl
      by_place (suc k) = unfold run_checked in refl

      go : (s : Bytes) → length s ≡ length run - at → read framed s ≡ bad m → checked_from at (items_from framed 0 at s) ≡ fails m at
      go [] h e = absurd (omega arith)
      go (b ∷ s) h e = ap (checked_from at) (items_bad framed at b s m e) ∙ by_place at

  module _ {n : ℕ} (q : accepted (n ∷ []) ≡ got_reply (read framed (drop at run))) where
    pub it : (r : Rec) × (read framed (drop at run) ≡ got r n)
    it = used_got (read framed (drop at run)) n q

    kind_there : get_or run at 0 ≡ kind_number it.0.kind
    kind_there =
        let d = reads framed (drop at run) it.0 n it.1 in
        first-there ∙ sym (get_or-take n (drop at run) 0 0 (omega (arith, d.head)))
        ∙ ap (λ x. get_or x 0 0) (d.spelt (drop_are_bytes at run are)) ∙ unfold record_bytes in refl

    inner : (k : ℕ) (r : Rec) → is_offset_rec r ≡ false → (rest : Items) → checked_from k (item at r rest) ≡ run_checked rest
    inner zero r h rest = unfold log_checked in refl
    inner (suc k) r h rest = unfold run_checked in rw h refl

    pub read_other : (get_or run at 0 ≡ 26 → ⊥) → ReadAs run at (Used n)
    read_other h = (it.0, it.1, inner at it.0 (ne_eqb (kind_number it.0.kind) 26 (λ s. h (kind_there ∙ s))))

    first-place : (k : ℕ) → k ≡ 0 → (r : Rec) (rest : Items) → checked_from k (item at r rest) ≡ run_checked rest
    first-place zero h r rest = unfold log_checked in refl
    first-place (suc k) h r rest = absurd (omega arith)

    pub read_first : at ≡ 0 → ReadAs run at (Used n)
    read_first h = (it.0, it.1, first-place at h it.0)

    pub read_misplaced : get_or run at 0 ≡ 26 → (at ≡ 0 → ⊥) → ReadAs run at (Refused 22)
    read_misplaced h later =
        ap (checked_from at) (items_got framed at (drop at run) it.0 n it.1) ∙ by_place at later
      where
        offset : is_offset_rec it.0 ≡ true
        offset = eq-eqb (kind_number it.0.kind) 26 (sym kind_there ∙ h)

        by_place : (k : ℕ) → (k ≡ 0 → ⊥) → checked_from k (item at it.0 (items_from framed 0 (at + n) (drop n (drop at run)))) ≡ fails 22 at
        by_place zero z = absurd (z refl)
        by_place (suc k) z = unfold run_checked in rw offset refl

-- 5. The first turn and the last

pub begun : (run name : Bytes) (slots : List ℕ) → slots ≡ replicate slot_count 0 → length name ≤ 255 → Reached run name 0 slots
unfolding last_freeze frozen_at
begun run name slots e short = record {
  within = omega arith;
  checks = refl;
  prefixes = λ i h. rw (empty i (omega arith)) refl;
  literals = rw (empty literal_slot (omega arith)) refl;
  holds = λ i h. subst (Holds run) (sym (empty i h)) tt;
}
  where
    empty : (i : ℕ) → i < slot_count → get_or slots i 0 ≡ 0
    empty i h = ap (λ l. get_or l i 0) e ∙ get_or-replicate slot_count i 0 0 h

pub finished : {run name : Bytes} {at : ℕ} {slots : List ℕ} → Reached run name at slots → length run ≤ at → Noted run name slots
unfolding items_from records last_of
finished {run} {name} {at} {slots} reached h = record {
  checks = reached.checks ∙ ap (checked_from at) nothing ∙ by_place at;
  prefixes = λ i k. reached.prefixes i k ∙ ap (λ is. given (last_of (is_freeze_of prefixed (take i name)) (records is)) (frozen_at run (get_or slots i 0)) in_force) nothing;
  literals = reached.literals ∙ ap (λ is. given (last_of (is_freeze_of literal name) (records is)) (frozen_at run (get_or slots literal_slot 0)) in_force) nothing;
  holds = reached.holds;
}
  where
    nothing : items_at run at ≡ end
    nothing = ap (items_from framed 0 at) (drop_of_length-le run h)

    by_place : (k : ℕ) → checked_from k end ≡ passes
    by_place zero = unfold log_checked in refl
    by_place (suc k) = unfold run_checked in refl

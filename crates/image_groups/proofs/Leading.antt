-- The fields that a record begins with: what they keep of its run, and the walk to where they end.
use mathlib.Core.Path.{◌≡◌, refl, sym, ap, ap₂, ◌∙◌}
use mathlib.Core.Bool.{Bool, true, false, cond}
use mathlib.Core.List.{◌∷◌, ◌++◌, append_assoc, append-nil}
use mathlib.Core.Option.{none}
use Prim.Native.Nat.{ℕ, ◌+◌, ◌-◌, ◌≤◌}
use native.Mathlib.Omega.{arith}
use borrow.Author.Tests.{eqb-true, eqb-false, eq-eqb, ne_eqb}
use lib.Dec.{eqb}
use lib.ListN.{length, take, drop, length-append, take-append-drop}
use lib.Seq.{slice, slice_empty, length-slice, length-take-le, take-take, take-append_seam, drop-append-le}
use Rattle.model.specs.Number.{Bytes, AreBytes, bytes}
use Rattle.model.specs.Run.{Run, done, torn, item, run_of, bytes_of, field, values}
use Rattle.model.specs.Shape.{stored}
use Rattle.laws.specs.Numbers.{slice_are_bytes}
use Rattle.laws_records.specs.Runs.{Whole, Short, bytes_run, run-bytes}
use Rattle.laws_records.specs.Faults.{fault-whole, fault-short}
use Rattle.laws_records.specs.Fields.{Ascending, ascending_from, values-below}
use Rattle.fields.specs.Fields.{fields_from}
use Rattle.fields.specs.declared.Cursor.{Cursor}
use Rattle.fields.proofs.Parse.{take-slice}
use Rattle.fields.proofs.Took.{Moved}
use Rattle.keys.specs.Keys.{run_in}
use Rattle.keys.proofs.Elements.{begins}
use Rattle.entries.specs.Entries.{IsRecord}
use Rattle.entries.proofs.Records.{record-run}
use Rattle.entries.proofs.Changes.{is_keyed}
use Rattle.image_groups.specs.Groups.{leading}

-- 1. A field at the front

module _ (t : ℕ) (v : Bytes) (r : Run) where
  leading-one : t ≡ 1 → leading (item t v r) ≡ item t v (leading r)
  unfolding leading
  leading-one e = rw (eq-eqb t 1 e)

  pub leading_other : (t ≡ 1 → ⊥) → leading (item t v r) ≡ done
  unfolding leading
  leading_other n = rw (ne_eqb t 1 n)

pub leading_torn : leading torn ≡ done
unfolding leading
leading_torn = refl

pub leading_done : leading done ≡ done
unfolding leading
leading_done = refl

-- 2. What they keep

leading-whole : (r : Run) → Whole (leading r)
unfolding leading
leading-whole done = tt
leading-whole torn = tt
leading-whole (item t v r) = go (eqb t 1) (leading-whole r)
  where
    go : (b : Bool) → Whole (leading r) → Whole (cond b (item t v (leading r)) done)
    go true w = w
    go false w = tt

leading-short : (r : Run) → Short r → Short (leading r)
unfolding leading
leading-short done h = tt
leading-short torn h = tt
leading-short (item t v r) h = go (eqb t 1) (leading-short r h.1)
  where
    go : (b : Bool) → Short (leading r) → Short (cond b (item t v (leading r)) done)
    go true w = (h.0, w)
    go false w = tt

pub leading-ascends : (last : ℕ) (r : Run) → Ascending last r → Ascending last (leading r)
unfolding leading
leading-ascends last done h = tt
leading-ascends last torn h = tt
leading-ascends last (item t v r) h = go (eqb t 1) (leading-ascends t r h.1)
  where
    go : (b : Bool) → Ascending t (leading r) → Ascending last (cond b (item t v (leading r)) done)
    go true w = (h.0, w)
    go false w = tt

-- all of tag 1, as tags ascend
pub leading-values : (r : Run) → Ascending 1 r → values 1 (leading r) ≡ values 1 r
unfolding leading values
leading-values done h = refl
leading-values torn h = refl
leading-values (item t v r) h = go (eqb t 1) refl (λ e. leading-values r (ascending_from 1 t r h.0 h.1))
  where
    go : (b : Bool) → eqb t 1 ≡ b → (b ≡ true → values 1 (leading r) ≡ values 1 r)
        → values 1 (cond b (item t v (leading r)) done) ≡ cond b (v ∷ values 1 r) (values 1 r)
    go true e i = rw e (ap (λ l. v ∷ l) (i refl))
    go false e i = let other = eqb-false t 1 e in let low = h.0 in sym (values-below t 1 r h.1 (omega arith))

-- and none of tag 2
pub leading_name : (r : Run) → field 2 (leading r) ≡ none
unfolding leading field
leading_name done = refl
leading_name torn = refl
leading_name (item t v r) = go (eqb t 1) refl (leading_name r)
  where
    go : (b : Bool) → eqb t 1 ≡ b → field 2 (leading r) ≡ none → field 2 (cond b (item t v (leading r)) done) ≡ none
    go true e i = let one = eqb-true t 1 e in let a : t ≡ 2 → ⊥ = λ q. omega arith in rw (ne_eqb t 2 a) i
    go false e i = refl

-- 3. Two parts that meet

joined_slices : (a b c : ℕ) (s : Bytes) → a ≤ b → b ≤ c → c ≤ length s → slice a b s ++ slice b c s ≡ slice a c s
joined_slices a b c s low high most =
    let whole : take b s ++ slice b c s ≡ take c s = ap (λ x. x ++ slice b c s) (sym (take-take b c s high)) ∙ take-append-drop b (take c s) in
    sym (drop-append-le a (take b s) (slice b c s) (rw (length-take-le b s (omega arith)) low)) ∙ ap (drop a) whole

-- the bytes of a field, and those of the fields after it
abbrev field_bytes : ℕ → Bytes → Bytes
field_bytes t v = t ∷ bytes 2 (length v) ++ v

item_bytes : (t : ℕ) (v : Bytes) (r : Run) → bytes_of (item t v r) ≡ field_bytes t v ++ bytes_of r
unfolding bytes_of
item_bytes t v r = refl

-- 4. The walk

-- a record's fields, by its bytes
pub run_in_lem : (s : Bytes) (i : IsRecord s) → run_in s ≡ i.value.run
run_in_lem s i = ap run_in i.bytes ∙ record-run i.value i.passes

-- the fields that were passed, and the leading ones of the rest, are the leading ones of all
pub record Ahead (s : Bytes) (c : Cursor) : Type 0 where
  pub low : 3 ≤ c.at
  pub order : c.at ≤ c.to
  pub last : c.to ≡ length s
  pub whole : Whole (fields_from s c)
  pub same : slice 3 c.at s ++ bytes_of (leading (fields_from s c)) ≡ bytes_of (leading (run_in s))

pub ahead_start : (s : Bytes) → IsRecord s → Ahead s (record { at = 3; to = length s })
ahead_start s i = record {
  low = omega arith;
  order = (is_keyed s i).headed;
  last = refl;
  whole = rw (begins s, run_in_lem s i) (fault-whole stored i.value.kind i.value.run i.passes);
  same = ap₂ (λ a b. a ++ bytes_of (leading b)) (slice_empty 3 s) (begins s);
}

module _ (s : Bytes) (c : Cursor) (a : Ahead s c) where
  -- where no more of them come
  pub ahead_end : IsRecord s → (r : Run) → fields_from s c ≡ r → leading r ≡ done
      → (run_in (take c.at s) ≡ leading (run_in s)) × (3 ≤ c.at) × (c.at ≤ length s)
  unfolding bytes_of
  ahead_end i r e ends =
      let all : slice 3 c.at s ≡ bytes_of (leading (run_in s)) =
      sym (append-nil (slice 3 c.at s)) ∙ ap (λ r. slice 3 c.at s ++ bytes_of r) (sym (ap leading e ∙ ends)) ∙ a.same in
      let short : Short (run_in s) = rw (run_in_lem s i) (fault-short stored i.value.kind i.value.run i.passes) in
      (ap run_of all ∙ run-bytes (leading (run_in s)) (leading-whole (run_in s)) (leading-short (run_in s) short), a.low, omega (arith, a.order, a.last))

  module _ (are : AreBytes s) (tag start len : ℕ) (next : Cursor) (m : Moved c tag start len next) (v : Bytes) (e : fields_from s c ≡ item tag v (fields_from s next)) where
    -- the fields after it are whole, and it stands before them
    rest-whole : Whole (fields_from s next)
    rest-whole = let w = a.whole in rw e at w

    spelt_from : (d : Cursor) → Whole (fields_from s d) → slice d.at d.to s ≡ bytes_of (fields_from s d)
    spelt_from d w = sym (bytes_run (slice d.at d.to s) (slice_are_bytes d.at d.to s are) w)

    front : slice c.at next.at s ≡ field_bytes tag v
    front =
        let f = field_bytes tag v in
        let rest = bytes_of (fields_from s next) in
        let all : slice c.at c.to s ≡ f ++ rest = spelt_from c a.whole ∙ ap bytes_of e ∙ item_bytes tag v (fields_from s next) in
        let size : c.to - c.at ≡ length f + length rest =
        sym (length-slice c.at c.to s (omega (arith, a.last))) ∙ ap length all ∙ length-append f rest in
        let left : next.to - next.at ≡ length rest =
        sym (length-slice next.at next.to s (omega (arith, m.ends, a.last))) ∙ ap length (spelt_from next rest-whole) in
        let n : c.at + length f ≡ next.at = omega (arith, m.onward, m.most, m.ends) in
        ap (λ x. slice c.at x s) (sym n)
        ∙ sym (take-slice s c.at (length f) c.to (omega (arith, m.most)))
        ∙ ap (take (length f)) all
        ∙ take-append_seam f rest

    pub ahead_turn : tag ≡ 1 → Ahead s next
    ahead_turn one = let rest = leading (fields_from s next) in record {
      low = omega (arith, a.low, m.onward);
      order = omega (arith, m.most, m.ends);
      last = m.ends ∙ a.last;
      whole = rest-whole;
      same =
          ap (λ x. x ++ bytes_of rest) (sym (joined_slices 3 c.at next.at s a.low (omega (arith, m.onward)) (omega (arith, m.most, a.last))))
          ∙ append_assoc (slice 3 c.at s) (slice c.at next.at s) (bytes_of rest)
          ∙ ap (λ x. slice 3 c.at s ++ x) (ap (λ x. x ++ bytes_of rest) front ∙ sym (item_bytes tag v rest))
          ∙ ap (λ r. slice 3 c.at s ++ bytes_of r) (sym (ap leading e ∙ leading-one tag v (fields_from s next) one))
          ∙ a.same;
    }

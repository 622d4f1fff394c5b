-- What a caller of `field` learns, by the variant.
use mathlib.Core.Path.{◌≡◌, sym, ap, ◌∙◌}
use mathlib.Core.List.{[]}
use mathlib.Core.Option.{none, some}
use Prim.Native.Nat.{ℕ, ◌+◌, ◌-◌, ◌≤◌}
use native.Mathlib.Omega.{arith}
use lib.ListN.{length, take, drop, length-drop}
use lib.Seq.{slice, take_all, take-length, length-slice}
use Rattle.model.specs.Number.{Bytes, number}
use Rattle.model.specs.Run.{Run, field, value, or_empty}
use Rattle.fields.proofs.Parse.{take-drop}
use Rattle.fields.specs.Fields.{held}
use Rattle.fields.specs.declared.Found.{Found}
use Rattle.fields.specs.declared.Found.TheVariants.{Part, Missing}

-- a part that is lent, as a slice
pub lent_slice : (s : Bytes) (a e : ℕ) → a ≤ e → take (e - a) (drop a s) ≡ slice a e s
lent_slice s a e h = let q : a + (e - a) ≡ e = omega arith in take-drop a (e - a) s ∙ rw q

-- a part that begins after what changed
pub slice_again : (s t : Bytes) (from to : ℕ) → from ≤ to → drop from s ≡ drop from t → slice from to s ≡ slice from to t
slice_again s t from to h e = sym (lent_slice s from to h) ∙ ap (take (to - from)) e ∙ lent_slice t from to h

-- the rest, as it is lent
pub rest-lent : (from : ℕ) (s : Bytes) → take (length s - from) (drop from s) ≡ drop from s
rest-lent from s = take_all (length s - from) (drop from s) (omega (arith, length-drop from s))

-- the rest of a slice
pub slice-rest : (n : ℕ) (s : Bytes) → slice n (length s) s ≡ drop n s
slice-rest n s = rw take-length

module _ (s : Bytes) (tag : ℕ) (run : Run) {r : Found} (e : held s r ≡ field tag run) where
  pub field-part : {start len : ℕ} → r ≡ Part start len → field tag run ≡ some (slice start (start + len) s)
  unfolding held
  field-part {start} {len} h = sym e ∙ rw h

  pub field-missing : r ≡ Missing → field tag run ≡ none
  unfolding held
  field-missing h = sym e ∙ rw h

  pub value-part : {start len : ℕ} → r ≡ Part start len → slice start (start + len) s ≡ value tag run
  value-part {start} {len} h = sym (ap or_empty (field-part h))

  pub value-missing : r ≡ Missing → ◌≡◌ {A = Bytes} [] (value tag run)
  value-missing h = sym (ap or_empty (field-missing h))

-- a part's length is its value's
pub part_length : (s : Bytes) (a e : ℕ) (v : Bytes) → a ≤ e → e ≤ length s → slice a e s ≡ v → e ≡ a + length v
part_length s a e v h k q = let w : e - a ≡ length v = sym (length-slice a e s k) ∙ ap length q in omega arith

-- the number that a value of a width spells where it stands
pub spelt-number : (s : Bytes) (a e : ℕ) (v : Bytes) → (slice a e s ≡ v) × (a ≤ e) × (e ≤ length s) → (width : ℕ) → length v ≡ width → (r : ℕ)
    → r ≡ number (slice a (a + width) s) → r ≡ number v
spelt-number s a e v p width wide r h =
    let q : a + width ≡ e = omega (arith, part_length s a e v p.1 p.2 p.0) in
    h ∙ ap number (ap (λ t. slice a t s) q ∙ p.0)

-- A stored freeze, by an entry's bytes: its kind, its pattern and its scope.
use mathlib.Core.Path.{◌≡◌, refl, sym, ap, ap₂, ◌∙◌, subst}
use mathlib.Core.Bool.{Bool, true, false}
use Prim.Native.Nat.{ℕ, ◌-◌, ◌≤◌}
use native.Mathlib.Omega.{arith}
use borrow.Author.Tests.{ne_eqb}
use lib.ListN.{length, take, drop, get_or}
use lib.Seq.{slice}
use Rattle.model.specs.Number.{Bytes}
use Rattle.model.specs.Order.{compare_bytes, same_bytes, is_below}
use Rattle.model.specs.Run.{value}
use Rattle.model.specs.Kind.{kind_number}
use Rattle.model.specs.Record.{Rec}
use Rattle.model.specs.Key.{rank, key_rank, key_name, key_scope, key_of, subject}
use Rattle.model.specs.Contents.{key}
use Rattle.model.specs.Image.{entry_of}
use Rattle.model.specs.FreezeList.{is_freeze}
use Rattle.model.specs.declared.Kind.TheVariants.{TopicFreeze}
use Rattle.laws_records.specs.Kinds.{number_injective}
use Rattle.laws_image.specs.Ranks.{rank_injective}
use Rattle.laws_image.specs.Entries.{entry_key}
use Rattle.keys.specs.Keys.{run_in}
use Rattle.keys.proofs.Found.{lent_slice, rest-lent}
use Rattle.entries.specs.declared.Cursor.{Cursor}
use Rattle.entries.proofs.Turns.{Stands}
use Rattle.image_counts.proofs.Topics.{kind_here, run-here}
use Rattle.name_marks.specs.Marks.{fits_name, marked, jobs, BehindAt}
use Rattle.lookup_freeze_list.specs.Passes.{pattern_of, pattern_in, scope_in}

-- 1. Records

other_kind : (r : Rec) → (kind_number r.kind ≡ 18 → ⊥) → is_freeze (key (entry_of r)) ≡ false
unfolding key_rank key_of rank kind_number
other_kind r h = rw (entry_key r) (ne_eqb (rank r.kind) 14 λ q. h (ap kind_number (rank_injective r.kind TopicFreeze q (omega arith))))

module _ (r : Rec) (h : kind_number r.kind ≡ 18) where
  is_kind : r.kind ≡ TopicFreeze
  unfolding kind_number
  is_kind = number_injective r.kind TopicFreeze h

  freeze_kind : is_freeze (key (entry_of r)) ≡ true
  unfolding key_rank key_of rank
  freeze_kind = rw (entry_key r, is_kind) refl

  name_of : key_name (key (entry_of r)) ≡ value 2 r.run
  unfolding key_name key_of subject
  name_of = rw (entry_key r, is_kind) refl

  scope_of : key_scope (key (entry_of r)) ≡ value 1 r.run
  unfolding key_scope key_of subject
  scope_of = rw (entry_key r, is_kind) refl

-- 2. Their bytes

module _ {s : Bytes} {at start end : ℕ} {next : Cursor} (t : Stands s at start end next) where
  pub no_freeze_lem : (get_or s start 0 ≡ 18 → ⊥) → is_freeze (key (entry_of t.entry.entry)) ≡ false
  no_freeze_lem h = other_kind t.entry.entry (λ q. h (kind_here t ∙ q))

  module _ (h : get_or s start 0 ≡ 18) where
    kind_there : kind_number t.entry.entry.kind ≡ 18
    kind_there = sym (kind_here t) ∙ h

    pub is_freeze_lem : is_freeze (key (entry_of t.entry.entry)) ≡ true
    is_freeze_lem = freeze_kind t.entry.entry kind_there

    pub pattern_is : pattern_in (take (end - start) (drop start s)) ≡ key_name (key (entry_of t.entry.entry))
    pattern_is = ap (value 2) (run-here t) ∙ sym (name_of t.entry.entry kind_there)

    pub scope_is : scope_in (take (end - start) (drop start s)) ≡ key_scope (key (entry_of t.entry.entry))
    scope_is = ap (value 1) (run-here t) ∙ sym (scope_of t.entry.entry kind_there)

-- 3. Its pattern and its scope as they are lent

-- where a field's value stands
abbrev Part : Bytes → ℕ → ℕ → ℕ → Type 0
Part e tag start end = (slice start end e ≡ value tag (run_in e)) × (start ≤ end) × (end ≤ length e)

lent : (e : Bytes) (tag : ℕ) {start end : ℕ} → Part e tag start end → take (end - start) (drop start e) ≡ value tag (run_in e)
lent e tag {start} {end} p = lent_slice e start end p.1 ∙ p.0

pub pattern-told : (e : Bytes) {start end : ℕ} → Part e 2 start end → (which : Bool) {isLiteral b : Bool} → isLiteral ≡ which
    → b ≡ same_bytes (take (end - start) (drop start e)) (pattern_of which) → b ≡ same_bytes (pattern_in e) (pattern_of isLiteral)
pattern-told e p which is told = rw is (told ∙ ap (λ v. same_bytes v (pattern_of which)) (lent e 2 p))

module _ (e list : Bytes) {start end : ℕ} (p : Part e 1 start end) where
  pub above-told : (last : ℕ) {b is : Bool} → b ≡ is_below (compare_bytes (take (length list - last) (drop last list)) (take (end - start) (drop start e))) → b ≡ is
      → is_below (compare_bytes (drop last list) (scope_in e)) ≡ is
  above-told last told is = ap₂ (λ x y. is_below (compare_bytes x y)) (sym (rest-lent last list)) (sym (lent e 1 p)) ∙ sym told ∙ is

  pub behind-lent : {at n : ℕ} → BehindAt list at n (scope_in e) → BehindAt list at n (take (end - start) (drop start e))
  behind-lent {at} {n} b = subst (λ x. BehindAt list at n x) (sym (lent e 1 p)) b

  pub marked-told : (isLiteral : Bool) (index : ℕ) (out : Bytes) {at n : ℕ} {v : Bytes}
      → (v ≡ marked (fits_name isLiteral (take (end - start) (drop start e))) index (jobs list) out) × BehindAt list at n (take (end - start) (drop start e))
      → (v ≡ marked (fits_name isLiteral (scope_in e)) index (jobs list) out) × BehindAt list at n (scope_in e)
  marked-told isLiteral index out {at} {n} {v} h =
      subst (λ x. (v ≡ marked (fits_name isLiteral x) index (jobs list) out) × BehindAt list at n x) (lent e 1 p) h

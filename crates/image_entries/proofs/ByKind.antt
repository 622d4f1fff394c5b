-- What is asked of an entry, by the number of its kind.
use mathlib.Core.Path.{◌≡◌, refl, sym, ap, ◌∙◌}
use mathlib.Core.Bool.{Bool, true, false, ◌&&◌, ◌||◌, not}
use Prim.Native.Nat.{ℕ, ◌≤◌, ◌<◌}
use native.Mathlib.Omega.{arith}
use borrow.Author.Tests.{eqb-false, eq-eqb, ne_eqb}
use lib.Dec.{eqb, leb}
use Rattle.model.specs.Choice.{is_some, is_empty}
use Rattle.model.specs.Number.{Bytes, number}
use Rattle.model.specs.Run.{field, value, values}
use Rattle.model.specs.Kind.{kind_number}
use Rattle.model.specs.Shape.{stored}
use Rattle.model.specs.Record.{rec}
use Rattle.model.specs.Contents.{is_bare, is_group, entities_in_order}
use Rattle.model.specs.Image.{flag_reads}
use Rattle.model.specs.declared.Kind.{Kind}
use Rattle.laws_records.specs.Faults.{fault-known}
use Rattle.keys.specs.Keys.{kind_in}
use Rattle.entries.specs.Entries.{IsRecord, record_in}
use Rattle.entries.proofs.Records.{known_range}
use Rattle.image_entries.specs.Stored.{storable_record}
use Rattle.image_entries.proofs.Records.{kind_in_lem, passes, kind_is}

module _ (e : Bytes) (i : IsRecord e) where
  -- 1. What Apply stores: what is asked of a kind is asked of the entry

  pub by_kind_lem : (k : Kind) → kind_in e ≡ kind_number k → storable_record (rec k (record_in e).run) ≡ storable_record (record_in e)
  by_kind_lem k is = ap (λ x. storable_record (rec x (record_in e).run)) (sym (kind_is e i k is))

  -- a number that no kind has
  kind_range : (0 < kind_in e) × (kind_in e ≤ 25)
  kind_range =
      let r = known_range (record_in e).kind (fault-known stored (record_in e).kind (record_in e).run (passes e i)) in
      (omega (arith, kind_in_lem e i), omega (arith, kind_in_lem e i))

  pub kind_zero : {A : Type 0} → kind_in e ≡ 0 → A
  kind_zero h = absurd (omega (arith, kind_range))

  pub kind_past : {A : Type 0} → 26 ≤ kind_in e → A
  kind_past h = absurd (omega (arith, kind_range))

  -- 2. Bare entries: of the kinds 6 and 7

  bare_is : (eqb (kind_in e) 6 || eqb (kind_in e) 7) && not (is_some (field 3 (record_in e).run)) ≡ is_bare (record_in e)
  unfolding kind_number
  bare_is = rw (kind_in_lem e i)

  pub not_bare : (kind_in e ≡ 6 → ⊥) → (kind_in e ≡ 7 → ⊥) → false ≡ is_bare (record_in e)
  not_bare p q = rw (ne_eqb (kind_in e) 6 p, ne_eqb (kind_in e) 7 q) at bare_is

  six_or_seven : (n : ℕ) → 6 ≤ n → n < 8 → eqb n 6 || eqb n 7 ≡ true
  six_or_seven n p q = go (eqb n 6) refl
    where
      go : (b : Bool) → eqb n 6 ≡ b → b || eqb n 7 ≡ true
      go true h = refl
      go false h = let d = eqb-false n 6 h in eq-eqb n 7 (omega arith)

  pub bare_told : 6 ≤ kind_in e → kind_in e < 8 → {b : Bool} → b ≡ is_some (field 3 (record_in e).run) → not b ≡ is_bare (record_in e)
  bare_told p q {b} h = ap not h ∙ (rw (six_or_seven (kind_in e) p q) at bare_is)

  -- 3. Empty groups

  group_is : is_bare (record_in e) && is_empty (value 2 (record_in e).run) && (eqb (kind_in e) 6 || entities_in_order (values 1 (record_in e).run)) ≡ is_group (record_in e)
  unfolding is_group kind_number
  group_is = rw (kind_in_lem e i)

  module _ {b : Bool} (p : b ≡ is_bare (record_in e)) where
    pub group_not_bare : b ≡ false → false ≡ is_group (record_in e)
    group_not_bare h = rw (← p, h) at group_is

    module _ (bare : b ≡ true) {n : Bool} (q : n ≡ is_empty (value 2 (record_in e).run)) where
      pub group_named : n ≡ false → false ≡ is_group (record_in e)
      group_named h = rw (← p, bare, ← q, h) at group_is

      module _ (nameless : n ≡ true) where
        pub group_config : kind_in e ≡ 6 → true ≡ is_group (record_in e)
        group_config h = rw (← p, bare, ← q, nameless, eq-eqb (kind_in e) 6 h) at group_is

        pub group_quota : (kind_in e ≡ 6 → ⊥) → {t : Bool} → t ≡ entities_in_order (values 1 (record_in e).run) → t ≡ is_group (record_in e)
        group_quota h {t} o = o ∙ (rw (← p, bare, ← q, nameless, ne_eqb (kind_in e) 6 h) at group_is)

  -- 4. A topic's flag

  pub no_flag : (kind_in e ≡ 1 → ⊥) → true ≡ flag_reads (record_in e)
  unfolding flag_reads
  no_flag h = rw (← kind_in_lem e i, ne_eqb (kind_in e) 1 h)

  pub flag-told : kind_in e ≡ 1 → (n : ℕ) → n ≡ number (value 5 (record_in e).run) → leb n 1 ≡ flag_reads (record_in e)
  unfolding flag_reads
  flag-told h n q = rw (← kind_in_lem e i, eq-eqb (kind_in e) 1 h, q)

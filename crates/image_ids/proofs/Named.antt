-- A record by its bytes: whether it is a named topic, its id, and the place of the id's mark.
use mathlib.Core.Path.{◌≡◌, refl, sym, ap, ◌∙◌}
use mathlib.Core.Bool.{Bool, true, false, cond, ◌&&◌, and-true, and-false}
use Prim.Native.Nat.{ℕ, ◌+◌, ◌≤◌}
use native.Mathlib.Omega.{arith}
use borrow.Author.Tests.{eqb-true, eq-eqb, ne_eqb}
use lib.Dec.{eqb}
use lib.ListN.{length, get_or, take, drop}
use lib.Seq.{slice, drop-drop}
use Rattle.model.specs.Number.{Bytes, number}
use Rattle.model.specs.Order.{same_bytes}
use Rattle.model.specs.Run.{value}
use Rattle.model.specs.Kind.{kind_number}
use Rattle.model.specs.Shape.{stored, fault, rows_of, shape_of}
use Rattle.model.specs.Record.{Rec, record_bytes}
use Rattle.model.specs.Contents.{topic, part, plain, names_id}
use Rattle.model.specs.Image.{entry_of}
use Rattle.model.specs.declared.Kind.TheVariants.{Topic}
use Rattle.laws.specs.Choice.{and_left}
use Rattle.laws_records.specs.Faults.{fault-value}
use Rattle.laws_records.specs.Kinds.{number_injective}
use Rattle.keys.specs.Keys.{run_in}
use Rattle.keys.proofs.Found.{part_length}
use Rattle.entries.specs.Entries.{IsRecord, record_in}
use Rattle.entries.proofs.Records.{record-run}
use Rattle.entries.proofs.Changes.{record-in, is_keyed}
use Rattle.image_ids.specs.Ids.{is_named, id_of, place_of}

-- 1. Records

abbrev IsTopic : Rec → Type 0
IsTopic r = kind_number r.kind ≡ 1

-- a topic's id has 16 bytes, and its flag 5
topic_widths : (r : Rec) → IsTopic r → fault stored r.kind r.run ≡ 0 → (length (value 2 r.run) ≡ 16) × (length (value 5 r.run) ≡ 5)
unfolding rows_of shape_of kind_number
topic_widths r e ok =
    let is : r.kind ≡ Topic = number_injective r.kind Topic e in
    let passes : fault stored Topic r.run ≡ 0 = rw is at ok in
    (fault-value stored Topic r.run passes 2 refl refl, fault-value stored Topic r.run passes 5 refl refl)

named_topic : (r : Rec) → is_named r ≡ true → IsTopic r
unfolding is_named
named_topic r h = eqb-true _ _ (and_left (eqb (kind_number r.kind) 1) (eqb (number (value 5 r.run)) 1) h)

other_unnamed : (r : Rec) → (IsTopic r → ⊥) → is_named r ≡ false
unfolding is_named
other_unnamed r h = rw (ne_eqb _ _ h)

topic_named_lem : (r : Rec) → IsTopic r → is_named r ≡ eqb (number (value 5 r.run)) 1
unfolding is_named
topic_named_lem r e = rw (eq-eqb _ _ e)

-- the entry of a record is named for an id where the record is named and has that id
pub record-names : (id : Bytes) (r : Rec) → names_id id (entry_of r) ≡ is_named r && same_bytes (id_of r) id
unfolding names_id entry_of is_named
record-names id r = go (eqb (kind_number r.kind) 1) (eqb (kind_number r.kind) 2)
  where
    flag : Bool
    flag = eqb (number (value 5 r.run)) 1

    go : (a b : Bool)
        → names_id id (cond a (topic (value 1 r.run) (value 2 r.run) (number (value 3 r.run)) (number (value 4 r.run)) flag)
        (cond b (part r.run) (plain r)))
        ≡ a && flag && same_bytes (id_of r) id
    go true b = refl
    go false true = refl
    go false false = refl

-- 2. By the bytes

first_byte : (r : Rec) → get_or (record_bytes r) 0 0 ≡ kind_number r.kind
unfolding record_bytes
first_byte r = refl

-- where a value stands
abbrev Found : Bytes → ℕ → ℕ → ℕ → Type 0
Found s tag a z = (slice a z s ≡ value tag (run_in s)) × (a ≤ z) × (z ≤ length s)

module _ (s : Bytes) (i : IsRecord s) where
  pub headed : 3 ≤ length s
  headed = (is_keyed s i).headed

  run_in_lem : run_in s ≡ (record_in s).run
  run_in_lem = ap run_in i.bytes ∙ record-run i.value i.passes ∙ ap (λ r. r.run) (sym (record-in s i))

  kind_in_lem : get_or s 0 0 ≡ kind_number (record_in s).kind
  kind_in_lem = ap (λ b. get_or b 0 0) i.bytes ∙ first_byte i.value ∙ ap (λ r. kind_number r.kind) (sym (record-in s i))

  widths : IsTopic (record_in s) → (length (value 2 (run_in s)) ≡ 16) × (length (value 5 (run_in s)) ≡ 5)
  widths e = rw run_in_lem (topic_widths (record_in s) e (rw (record-in s i) i.passes))

  -- whether it is named
  pub not_topic : (get_or s 0 0 ≡ 1 → ⊥) → false ≡ is_named (record_in s)
  not_topic h = sym (other_unnamed (record_in s) (λ e. h (kind_in_lem ∙ e)))

  module _ (e : get_or s 0 0 ≡ 1) where
    pub flag_width : length (value 5 (run_in s)) ≡ 5
    flag_width = (widths (sym kind_in_lem ∙ e)).1

    pub flag_says : (n : ℕ) → n ≡ number (value 5 (run_in s)) → eqb n 1 ≡ is_named (record_in s)
    flag_says n h = ap (λ x. eqb x 1) (h ∙ ap (λ x. number (value 5 x)) run_in_lem) ∙ sym (topic_named_lem (record_in s) (sym kind_in_lem ∙ e))

  -- whether it is named for an id
  module _ (id v : Bytes) (b : Bool) (is : v ≡ value 2 (run_in s)) (same : b ≡ same_bytes v id) where
    names_both : names_id id (entry_of (record_in s)) ≡ is_named (record_in s) && b
    names_both = record-names id (record_in s) ∙ ap (λ x. is_named (record_in s) && x) (sym (same ∙ ap (λ x. same_bytes x id) (is ∙ ap (value 2) run_in_lem)))

    pub other_id : b ≡ false → false ≡ names_id id (entry_of (record_in s))
    other_id h = sym (names_both ∙ ap (λ x. is_named (record_in s) && x) h ∙ and-false (is_named (record_in s)))

    pub same_id : b ≡ true → (x : Bool) → x ≡ is_named (record_in s) → x ≡ names_id id (entry_of (record_in s))
    same_id h x e = e ∙ sym (names_both ∙ ap (λ y. is_named (record_in s) && y) h ∙ and-true (is_named (record_in s)))

  pub id_in : (v : Bytes) → v ≡ value 2 (run_in s) → v ≡ id_of (record_in s)
  id_in v e = e ∙ ap (value 2) run_in_lem

  -- where its id's mark stands
  module _ (named : is_named (record_in s) ≡ true) (a z : ℕ) (p : Found s 2 a z) where
    id_end : z ≡ a + 14 + 2
    id_end =
        let e = part_length s a z (value 2 (run_in s)) p.1 p.2 p.0 in
        let w = (widths (named_topic (record_in s) named)).0 in
        omega arith

    pub id_fits : a + 14 + 2 ≤ length s
    id_fits = omega (arith, id_end, p.2)

    pub place_in : (n : ℕ) → n ≡ number (slice (a + 14) (a + 14 + 2) s) → n ≡ place_of (id_of (record_in s))
    unfolding place_of
    place_in n h =
        h
        ∙ ap (λ x. number (slice (a + 14) x s)) (sym id_end)
        ∙ ap number (sym (drop-drop 14 a (take z s)))
        ∙ ap (λ x. number (drop 14 x)) (id_in (slice a z s) p.0)

-- The running total: what an entry's record adds to it.
use mathlib.Core.Path.{◌≡◌, refl, sym, ap, ◌∙◌}
use mathlib.Core.Bool.{Bool, true, false, cond}
use mathlib.Core.List.{List, [], ◌∷◌, ◌++◌, map}
use Prim.Native.Nat.{ℕ, ◌+◌, ◌-◌, ◌≤◌}
use native.Mathlib.Omega.{arith}
use lib.Dec.{eqb}
use lib.ListN.{length, take, drop, get_or}
use Rattle.model.specs.Choice.{total}
use Rattle.model.specs.Number.{Bytes, AreBytes}
use Rattle.model.specs.Shape.{stored}
use Rattle.model.specs.Record.{Rec, record_bytes}
use Rattle.model.specs.Contents.{returned}
use Rattle.model.specs.Image.{entry_of}
use Rattle.model.specs.Snapshot.{offset_size, lengths}
use Rattle.laws.specs.Lists.{map-append, total-append, total-map, length-joined}
use Rattle.laws_records.specs.Items.{AllPass}
use Rattle.entries.specs.Entries.{records_in, record_in, Entries}
use Rattle.entries.proofs.Changes.{record-in}
use Rattle.entries.proofs.Parts.{entries_pass}
use Rattle.entries.proofs.Seeks.{entries-spelt}
use Rattle.find.specs.Found.{AllKept}
use Rattle.find.specs.Returned.{flag_size, returned_size, returned_bytes}
use Rattle.find.proofs.Puts.{length-returned}
use Rattle.find.proofs.Records.{record-returned}
use Rattle.find.proofs.Finds.{entire}
use Rattle.snapshot.specs.Returned.{returned_records, returned_in, returned_at, Behind}

-- the sum of the entries' records' lengths is the length of their bytes
pub lengths-returned : (s : Bytes) → lengths (returned_records s) ≡ length (returned_in s)
lengths-returned s =
    total-map (λ r. length (record_bytes r)) (λ r. returned (entry_of r)) (records_in s)
    ∙ sym (length-joined (λ r. record_bytes (returned (entry_of r))) (records_in s))

-- a record is no longer than its entry
pub size_low : (e : Bytes) → returned_size e ≤ length e
size_low e = go (eqb (get_or e 0 0) 1)
  where
    go : (b : Bool) → cond b (length e - flag_size) (length e) ≤ length e
    go true = omega arith
    go false = omega arith

-- records are together no longer than their entries
returned_few : (l : List Rec) → AllKept l → AllPass stored l → total (λ r. length (record_bytes (returned (entry_of r)))) l ≤ total (λ r. length (record_bytes r)) l
unfolding total
returned_few [] k p = omega arith
returned_few (r ∷ l) k p =
    let e = record_bytes r in
    let long = length-returned e (entire e (record { value = r; bytes = refl; passes = p.0 })) in
    omega (arith, ap length (record-returned r k.0), long, size_low e, returned_few l k.1 p.1)

pub returned_low : (s : Bytes) → AreBytes s → Entries s → AllKept (records_in s) → length (returned_in s) ≤ length s
returned_low s are_bytes e k =
    let l = records_in s in
    let few = returned_few l k (entries_pass s are_bytes e) in
    omega (
      arith,
      length-joined (λ r. record_bytes (returned (entry_of r))) l,
      few,
      length-joined record_bytes l,
      ap length (entries-spelt s are_bytes e),
    )

module _ {s : Bytes} {start end : ℕ} (b : Behind s start end) where
  abbrev here : Bytes
  here = take (end - start) (drop start s)

  pub here-bytes : record_bytes (returned_at s start end) ≡ returned_bytes here
  here-bytes =
      record-returned (record_in here) b.keeps
      ∙ ap returned_bytes (ap record_bytes (record-in here b.is) ∙ sym b.is.bytes)

  pub here-length : length (record_bytes (returned_at s start end)) ≡ returned_size here
  here-length = ap length here-bytes ∙ length-returned here (entire here b.is)

  -- with this record
  pub total_with : {n : ℕ} → n ≡ offset_size + lengths (returned_records (take start s))
      → n + length (record_bytes (returned_at s start end)) ≡ offset_size + lengths (returned_records (take end s))
  unfolding total
  total_with {n} e =
      let f : Rec → Rec = λ r. returned (entry_of r) in
      let one : lengths (returned_at s start end ∷ []) ≡ length (record_bytes (returned_at s start end)) = omega arith in
      let all : lengths (returned_records (take end s)) ≡ lengths (returned_records (take start s)) + lengths (returned_at s start end ∷ []) =
      ap (λ l. lengths (map f l)) b.joins
      ∙ ap lengths (map-append f (records_in (take start s)) (record_in here ∷ []))
      ∙ total-append (λ r. length (record_bytes r)) (returned_records (take start s)) (returned_at s start end ∷ []) in
      omega (arith, e, one, all)

-- What a place says of the key's entry, for the callers of `seek`: it is there where the place is not empty.
use mathlib.Core.Path.{◌≡◌, refl, sym, ap, ◌∙◌}
use mathlib.Core.List.{[], ◌∷◌, append-nil}
use mathlib.Core.Option.{Option, none, some}
use Prim.Native.Nat.{ℕ, ◌-◌, ◌≤◌, ◌<◌}
use native.Mathlib.Omega.{arith}
use lib.ListN.{length}
use lib.Seq.{slice, length-slice}
use Rattle.model.specs.Choice.{given}
use Rattle.model.specs.Number.{Bytes, AreBytes}
use Rattle.model.specs.Order.{Key}
use Rattle.model.specs.Shape.{stored, fault}
use Rattle.model.specs.Record.{Rec, record_bytes}
use Rattle.model.specs.Map.{get}
use Rattle.model.specs.Contents.{record_key}
use Rattle.laws.specs.Lists.{in_all}
use Rattle.laws.specs.Map.{get_in}
use Rattle.laws_records.specs.Records.{length_record}
use Rattle.entries.specs.Entries.{records_in, spelt, Entries, Placed, IsRecord, record_in}
use Rattle.entries.proofs.Changes.{record-in}
use Rattle.entries.proofs.Parts.{entries_pass}

module _ (s : Bytes) (k : Key) (at end : ℕ) (p : Placed s k at end) where
  size : (o : Option Rec) → get record_key k (records_in s) ≡ o → end - at ≡ length (spelt (given o [] (λ r. r ∷ [])))
  size o e = sym (length-slice at end s p.most) ∙ ap length p.found ∙ ap (λ x. length (spelt (given x [] (λ r. r ∷ [])))) e

  pub absent : end ≤ at → get record_key k (records_in s) ≡ none
  absent empty = go (get record_key k (records_in s)) refl
    where
      go : (o : Option Rec) → get record_key k (records_in s) ≡ o → o ≡ none
      go none e = refl
      go (some r) e = absurd (omega (arith, size (some r) e, ap length (append-nil (record_bytes r)), length_record r))

  -- the bytes at the place are a record's, and the key has it
  pub present : AreBytes s → Entries s → at < end → IsRecord (slice at end s) × (get record_key k (records_in s) ≡ some (record_in (slice at end s)))
  present are_bytes whole longer = go (get record_key k (records_in s)) refl
    where
      go : (o : Option Rec) → get record_key k (records_in s) ≡ o → IsRecord (slice at end s) × (o ≡ some (record_in (slice at end s)))
      go none e = absurd (omega (arith, size none e))
      go (some r) e =
          let i : IsRecord (slice at end s) = record {
            value = r;
            bytes = p.found ∙ ap (λ x. spelt (given x [] (λ y. y ∷ []))) e ∙ append-nil (record_bytes r);
            passes =
                in_all (λ x. fault stored x.kind x.run ≡ 0) (records_in s) (entries_pass s are_bytes whole) r
                (get_in record_key k (records_in s) r e).0;
          } in
          (i, ap some (sym (record-in (slice at end s) i)))

-- A turn of a walk over entries: the entry that a step found, by the bytes that are lent.
use mathlib.Core.Path.{◌≡◌, ap, ◌∙◌}
use mathlib.Core.List.{[]}
use Prim.Native.Nat.{ℕ, ◌+◌, ◌-◌, ◌≤◌}
use native.Mathlib.Omega.{arith}
use lib.ListN.{length, take, drop, drop_of_length-le}
use Rattle.model.specs.Number.{Bytes}
use Rattle.entries.specs.Entries.{records_in, size_at, IsRecord, record_in}
use Rattle.entries.specs.declared.Cursor.{Cursor}
use Rattle.entries.proofs.Changes.{record-in}
use Rattle.entries.proofs.Seeks.{no_records}
use Rattle.entries.proofs.Turns.{Stands, lent}

module _ {s : Bytes} {at start end : ℕ} {next : Cursor} (t : Stands s at start end next) where
  pub forward : start ≤ end
  forward = omega (arith, t.first, t.last)

  pub inside : end ≤ length s
  inside = omega (arith, t.last, t.entry.fits)

  pub is_record : IsRecord (take (end - start) (drop start s))
  is_record = record { value = t.entry.entry; bytes = lent s at start end next t; passes = t.entry.passes }

  pub entry_is : record_in (take (end - start) (drop start s)) ≡ t.entry.entry
  unfolding is_record
  entry_is = record-in (take (end - start) (drop start s)) is_record

  pub next-at : next.at ≡ at + size_at s at
  next-at = ap (λ c. c.at) t.after ∙ t.last

-- past the end there is none
pub past_end : (s : Bytes) (at : ℕ) → length s ≤ at → records_in (drop at s) ≡ []
past_end s at past = no_records (drop at s) (drop_of_length-le s past)

-- A turn of a walk over entries: the entry that a step found, and those before and after it.
use mathlib.Core.Path.{◌≡◌, sym, ap, ◌∙◌}
use mathlib.Core.List.{◌∷◌}
use Prim.Native.Nat.{ℕ, ◌-◌, ◌≤◌}
use native.Mathlib.Omega.{arith}
use lib.ListN.{length, take, drop}
use Rattle.model.specs.Number.{Bytes}
use Rattle.entries.specs.Entries.{records_in, Entries, IsRecord, record_in}
use Rattle.entries.specs.declared.Cursor.{Cursor}
use Rattle.entries.proofs.Changes.{record-in}
use Rattle.entries.proofs.Turns.{Stands, lent}

module _ {s : Bytes} {at start end : ℕ} {next : Cursor} (t : Stands s at start end next) where
  pub bounds : (start ≡ at) × (start ≤ end) × (end ≤ length s)
  bounds = (t.first, omega (arith, t.first, t.last), omega (arith, t.last, t.entry.fits))

  pub next-end : next.at ≡ end
  next-end = ap (λ c. c.at) t.after

  -- the entry as it is lent
  pub is_record : IsRecord (take (end - start) (drop start s))
  is_record = record { value = t.entry.entry; bytes = lent s at start end next t; passes = t.entry.passes }

  pub record-here : record_in (take (end - start) (drop start s)) ≡ t.entry.entry
  unfolding is_record
  record-here = record-in (take (end - start) (drop start s)) is_record

  -- the entries from it on
  pub list : records_in (drop at s) ≡ t.entry.entry ∷ records_in (drop end s)
  list = t.entry.list ∙ ap (λ x. t.entry.entry ∷ records_in (drop x s)) (sym t.last)

  pub rest : Entries (drop end s)
  rest = rw t.last t.entry.rest

  -- the entries before it as they are lent
  pub before-it : Entries (take at s) → Entries (take start s)
  before-it e = rw t.first e

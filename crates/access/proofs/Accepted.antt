-- Where Read accepts, the fields are the record's own.
use mathlib.Core.Path.{◌≡◌, refl, sym, ap, ◌∙◌}
use mathlib.Core.List.{[], ◌∷◌}
use mathlib.Core.Bool.{Bool, true, false, cond}
use mathlib.Core.Option.{Option, none, some}
use Prim.Native.Nat.{ℕ, zero, suc, ◌+◌, ◌*◌, ◌≤◌}
use native.Mathlib.Omega.{arith}
use borrow.Author.Tests.{ltb-false}
use lib.Dec.{ltb}
use lib.ListN.{length, take}
use Rattle.model.specs.Choice.{given}
use Rattle.model.specs.Number.{Bytes}
use Rattle.model.specs.Run.{Run, run_of, field}
use Rattle.model.specs.Kind.{kind_of}
use Rattle.model.specs.declared.Kind.{Kind}
use Rattle.model.specs.Shape.{Source, fault}
use Rattle.model.specs.Record.{Rec, rec, bad, got, whole, read}
use Rattle.laws.specs.Choice.{impossible}
use Rattle.laws_records.specs.Halves.{three_add}
use Rattle.access.specs.Access.{record_field}
use Rattle.access.proofs.Body.{field-whole}

module _ (run : Run) (m : ℕ) (r : Rec) (used : ℕ) where
  whole_run : (c : ℕ) (kind : Kind) → whole c (rec kind run) m ≡ got r used → run ≡ r.run
  whole_run zero kind e = let q : rec kind run ≡ r = cc in ap (λ (q : Rec). q.run) q
  whole_run (suc c) kind e = impossible cc

  -- the body is there, and its fields are the record's
  got_run : (short : Bool) (kind : Option Kind) (f : Kind → ℕ)
      → cond short (bad 2) (given kind (bad 3) λ k. whole (f k) (rec k run) m) ≡ got r used
      → (short ≡ false) × (run ≡ r.run)
  got_run true kind f e = impossible cc
  got_run false none f e = impossible cc
  got_run false (some k) f e = (refl, whole_run (f k) k e)

pub field-read : (source : Source) (s : Bytes) (r : Rec) (used tag : ℕ) → read source s ≡ got r used → record_field s tag ≡ field tag r.run
unfolding read
field-read source [] r used tag e = impossible cc
field-read source (k ∷ []) r used tag e = impossible cc
field-read source (k ∷ h ∷ []) r used tag e = impossible cc
field-read source (k ∷ h ∷ l ∷ s) r used tag e =
    let m : ℕ = h * 256 + l in
    let run = run_of (take m s) in
    let g = got_run run (3 + m) r used (ltb (length s) m) (kind_of k) (λ kind. fault source kind run) e in
    let room : m ≤ length s = ltb-false (length s) m g.0 in
    sym (field-whole (k ∷ h ∷ l ∷ s) tag m (omega arith) (omega arith)) ∙ rw (three_add m) (ap (field tag) g.1)

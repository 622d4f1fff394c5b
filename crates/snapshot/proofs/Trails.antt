-- The records of the fixed parts.
use mathlib.Core.Path.{◌≡◌, refl, sym, ap, ◌∙◌}
use mathlib.Core.List.{List, []}
use mathlib.Core.Bool.{Bool, true, false}
use Prim.Native.Nat.{ℕ, zero, suc, ◌+◌, ◌≤◌, ◌<◌}
use native.Mathlib.Omega.{arith}
use borrow.Author.Tests.{lt-leb, le-leb, leb-true, leb-false, ne_eqb}
use lib.Dec.{leb}
use lib.ListN.{length}
use Rattle.model.specs.Choice.{joined}
use Rattle.model.specs.Number.{Bytes, half}
use Rattle.model.specs.Run.{bytes_of}
use Rattle.model.specs.Kind.{kind_number}
use Rattle.model.specs.Record.{Rec, record_bytes}
use Rattle.model.specs.Snapshot.{offset_size, lengths, epoch_records, kraft_records}
use Rattle.laws.specs.Lists.{length-joined}
use Rattle.records.specs.Answers.{put_at, number_bytes}
use Rattle.records.proofs.Written.{put_at_nothing}
use Rattle.records.proofs.Numbers.{length-number, offset-number}
use Rattle.snapshot.specs.Returned.{offset_bytes, epoch_bytes, kraft_bytes}

-- 1. The log offset

pub offset_long : (n : ℕ) → length (offset_bytes n) ≡ offset_size
offset_long n = ap length (offset-number n) ∙ length-number 26 8 n

pub offset-written : (out : Bytes) (offset : ℕ) {n r : ℕ} {w : Bytes} → n ≡ offset → (r ≡ 14) × (w ≡ put_at out 0 (number_bytes 26 8 n))
    → (r ≡ offset_size) × (w ≡ put_at out 0 (offset_bytes offset))
offset-written out offset e h = (h.0, h.1 ∙ ap (λ n. put_at out 0 (number_bytes 26 8 n)) e ∙ ap (put_at out 0) (sym (offset-number offset)))

-- 2. The epoch, unless it is negative

pub epoch-some : (e : ℕ) → e < half 8 → epoch_bytes e ≡ number_bytes 13 8 e
unfolding epoch_records record_bytes bytes_of kind_number
epoch-some e h = rw (lt-leb (half 8) e h) refl

pub epoch-none : (e : ℕ) → half 8 ≤ e → epoch_bytes e ≡ []
unfolding epoch_records
epoch-none e h = rw (le-leb (half 8) e h) refl

pub epoch-most : (e : ℕ) → length (epoch_bytes e) ≤ 14
epoch-most e = go (leb (half 8) e) refl
  where
    go : (b : Bool) → leb (half 8) e ≡ b → length (epoch_bytes e) ≤ 14
    go true h = omega (arith, ap length (epoch-none e (leb-true (half 8) e h)))
    go false h = omega (arith, ap length (epoch-some e (leb-false (half 8) e h)), length-number 13 8 e)

-- 3. The kraft version, unless it is 0

pub kraft-some : (v : ℕ) → (v ≡ 0 → ⊥) → kraft_bytes v ≡ number_bytes 10 2 v
unfolding kraft_records record_bytes bytes_of kind_number
kraft-some v h = rw (ne_eqb v 0 h) refl

pub kraft-none : (v : ℕ) → v ≡ 0 → kraft_bytes v ≡ []
unfolding kraft_records
kraft-none v h = rw h refl

pub kraft-most : (v : ℕ) → length (kraft_bytes v) ≤ 8
kraft-most zero = omega (arith, ap length (kraft-none 0 refl))
kraft-most (suc v) = omega (arith, ap length (kraft-some (suc v) (λ e. omega (arith, e))), length-number 10 2 (suc v))

-- 4. A record of the fixed parts behind the others, where there is one

module _ (rs : List Rec) (out : Bytes) (before : ℕ) where
  pub number_fits : (kind width n : ℕ) → joined record_bytes rs ≡ number_bytes kind width n → before + lengths rs ≤ length out → before + 6 + width ≤ length out
  number_fits kind width n e fits = omega (arith, length-joined record_bytes rs, ap length e, length-number kind width n)

  pub put_some : (kind width n : ℕ) → joined record_bytes rs ≡ number_bytes kind width n → {r : ℕ} {w : Bytes}
      → (r ≡ before + 6 + width) × (w ≡ put_at out before (number_bytes kind width n)) → (r ≡ before + lengths rs) × (w ≡ put_at out before (joined record_bytes rs))
  put_some kind width n e h =
      (omega (arith, h.0, length-joined record_bytes rs, ap length e, length-number kind width n), h.1 ∙ ap (put_at out before) (sym e))

  pub put-none : joined record_bytes rs ≡ [] → (before ≡ before + lengths rs) × (out ≡ put_at out before (joined record_bytes rs))
  put-none e = (omega (arith, length-joined record_bytes rs, ap length e), sym (put_at_nothing out before) ∙ ap (put_at out before) (sym e))

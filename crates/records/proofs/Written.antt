-- Bytes written into a buffer: nothing, one byte, and one part after another.
use mathlib.Core.Path.{◌≡◌, ap, ◌∙◌}
use mathlib.Core.List.{[], ◌∷◌, ◌++◌, append_assoc, append-nil}
use Prim.Native.Nat.{ℕ, ◌+◌, ◌≤◌, ◌<◌}
use native.Mathlib.Nat.{add-zero, add_assoc}
use native.Mathlib.Numerals.{add-one}
use native.Mathlib.Omega.{arith}
use lib.ListN.{length, set, take, drop, length-append, length-drop, take-append-drop}
use lib.Seq.{take_at, drop-drop, drop-append-add, length-take-le, set_split, append_snoc}
use Rattle.model.specs.Number.{Bytes, bytes}
use Rattle.records.specs.Answers.{put_at, head}

pub put_at_nothing : (out : Bytes) (at : ℕ) → put_at out at [] ≡ out
put_at_nothing out at = rw (add-zero, append-nil) (take-append-drop at out)

pub put_at_byte : (out : Bytes) (at x : ℕ) → at < length out → set out at x ≡ put_at out at (x ∷ [])
put_at_byte out at x h = set_split out at x h ∙ rw (add-one, append_snoc)

module _ (out : Bytes) (at : ℕ) (s : Bytes) (fits : at + length s ≤ length out) where
  before : length (take at out ++ s) ≡ at + length s
  before = rw (length-append, length-take-le at out (omega arith))

  pub length-written : length (put_at out at s) ≡ length out
  length-written = rw (length-append (take at out ++ s) (drop (at + length s) out), before, length-drop) (omega arith)

  pub put_at-append : (t : Bytes) → put_at (put_at out at s) (at + length s) t ≡ put_at out at (s ++ t)
  put_at-append t =
      let p = take at out ++ s in
      let q = drop (at + length s) out in
      let e : at + length s + length t ≡ length p + length t = omega (arith, before) in
      let d = ap (λ (n : ℕ). drop n (p ++ q)) e ∙ drop-append-add p q (length t) ∙ drop-drop (length t) (at + length s) out in
      rw (take_at p q (at + length s) before, d, length-append s t, append_assoc (take at out) s t, add_assoc)

-- a head, and a value after it
pub head-written : (out : Bytes) (at first n : ℕ) → at + 3 ≤ length out
    → put_at (set out at first) (at + 1) (bytes 2 n) ≡ put_at out at (head first n)
head-written out at first n h =
    let k : at < length out = omega arith in
    rw (put_at_byte out at first k) (put_at-append out at (first ∷ []) (omega arith) (bytes 2 n))

pub field-written : (out : Bytes) (at tag : ℕ) (v : Bytes) {headed field : Bytes} → at + 3 + length v ≤ length out
    → headed ≡ put_at out at (head tag (length v)) → field ≡ put_at headed (at + 3) v → field ≡ put_at out at (head tag (length v) ++ v)
field-written out at tag v h e f = f ∙ rw e (put_at-append out at (head tag (length v)) (omega arith) v)

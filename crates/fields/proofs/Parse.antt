-- The fields of a part of a slice, from a place on: none, a torn one, or a whole one and the rest.
use mathlib.Core.Path.{◌≡◌, refl, sym, ◌∙◌}
use mathlib.Core.List.{[], ◌∷◌}
use mathlib.Core.Bool.{cond}
use Prim.Native.Nat.{ℕ, zero, suc, ◌+◌, ◌*◌, ◌-◌, ◌≤◌, ◌<◌}
use native.Mathlib.Nat.{not-suc-le-zero, zero-add, suc-add}
use native.Mathlib.Omega.{arith}
use borrow.Author.Tests.{le-leb, lt-leb}
use lib.Dec.{leb}
use lib.ListN.{length, get_or, take, drop}
use lib.Seq.{slice, slice_empty, length-slice, drop-drop, take-take, take-nil}
use Rattle.model.specs.Number.{Bytes, number}
use Rattle.model.specs.Run.{done, torn, item, parse, run_of}
use Rattle.laws_records.specs.Runs.{parse_skip}
use Rattle.wire.proofs.Numbers.{slice-step, number_pair}

parse-short : (xs : Bytes) → 0 < length xs → length xs < 3 → run_of xs ≡ torn
unfolding parse
parse-short [] p q = absurd (not-suc-le-zero p)
parse-short (t ∷ []) p q = refl
parse-short (t ∷ h ∷ []) p q = refl
parse-short (t ∷ h ∷ l ∷ rest) p q = absurd (omega arith)

-- a part of a part
pub take-drop : (a n : ℕ) (l : Bytes) → take n (drop a l) ≡ drop a (take (a + n) l)
take-drop zero n l = rw zero-add
take-drop (suc a) n [] = rw (take-nil, take-nil)
take-drop (suc a) n (x ∷ l) = rw suc-add (take-drop a n l)

pub take-slice : (s : Bytes) (a n to : ℕ) → a + n ≤ to → take n (slice a to s) ≡ slice a (a + n) s
take-slice s a n to h = take-drop a n (take to s) ∙ rw (take-take (a + n) to s h)

module _ (s : Bytes) (to : ℕ) (within : to ≤ length s) where
  pub parse-end : (at : ℕ) → at ≡ to → run_of (slice at to s) ≡ done
  unfolding parse
  parse-end at e = rw (e, slice_empty)

  pub parse_cut : (at : ℕ) → at < to → to - at < 3 → run_of (slice at to s) ≡ torn
  parse_cut at h k =
      let e = length-slice at to s within in
      parse-short (slice at to s) (rw e (omega arith)) (rw e k)

  head : (at : ℕ) → at + 3 ≤ to → slice at to s ≡ get_or s at 0 ∷ get_or s (at + 1) 0 ∷ get_or s (at + 1 + 1) 0 ∷ slice (at + 3) to s
  head at h =
      let a : at < to = omega arith in
      let b : at + 1 < to = omega arith in
      let d : at + 1 + 1 < to = omega arith in
      let e : at + 1 + 1 + 1 ≡ at + 3 = omega arith in
      rw (slice-step s at to a within, slice-step s (at + 1) to b within, slice-step s (at + 1 + 1) to d within, e)

  module _ (at n : ℕ) (h : at + 3 ≤ to) (en : n ≡ number (slice (at + 1) (at + 1 + 2) s)) where
    parse-head : run_of (slice at to s) ≡ cond (leb n (to - at - 3)) (item (get_or s at 0) (take n (slice (at + 3) to s)) (parse n (slice (at + 3) to s))) torn
    unfolding parse
    parse-head =
        let q : to - at - 3 ≡ to - (at + 3) = omega arith in
        let w : n ≡ get_or s (at + 1) 0 * 256 + get_or s (at + 1 + 1) 0 = en ∙ sym (number_pair s (at + 1) (get_or s (at + 1) 0) (get_or s (at + 1 + 1) 0) (omega arith) refl refl) in
        rw (head at h, length-slice (at + 3) to s within, w, q)

    pub parse_past : to - at - 3 < n → run_of (slice at to s) ≡ torn
    parse_past k = parse-head ∙ rw (lt-leb _ _ k)

    pub parse_item : n ≤ to - at - 3 → run_of (slice at to s) ≡ item (get_or s at 0) (slice (at + 3) (at + 3 + n) s) (run_of (slice (at + 3 + n) to s))
    parse_item k =
        let w : n ≤ length (slice (at + 3) to s) = rw (length-slice (at + 3) to s within) (omega arith) in
        parse-head ∙ rw (le-leb _ _ k, parse_skip n (slice (at + 3) to s) w, drop-drop, take-slice s (at + 3) n to (omega arith))

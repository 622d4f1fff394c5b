-- A history's records one after the other, from the leftmost position on: how many bytes they have, and that they are written.
use mathlib.Core.Path.{◌≡◌, sym, ap, subst, ◌∙◌}
use mathlib.Core.List.{[], ◌++◌}
use Prim.Native.Nat.{ℕ, suc, ◌+◌, ◌-◌, ◌/◌, ◌%◌, ◌^◌, ◌≤◌, ◌<◌}
use native.Mathlib.Omega.{arith}
use native.Mathlib.Nat.{mod-lt}
use lib.ListN.{length, take, drop, length-append, length-drop}
use lib.Seq.{length-take-le}
use Rattle.model.specs.Number.{Bytes}
use Rattle.model.specs.ShortHistory.{positions, bytes_at, history_bytes}
use Rattle.laws_short.specs.Numbers.{power_pos, positions-below}
use Rattle.records.proofs.Growing.{Growing, grown_length, part_fits, grow}
use Rattle.short_histories.specs.Histories.{records_in, PartAs}

-- the bytes of the records from a position of the history on
abbrev pub rest_of : Bytes → ℕ → ℕ → ℕ → Bytes
rest_of s n left i = history_bytes (records_in s) (positions n left i)

part-size : (s : Bytes) {position start end : ℕ} → PartAs s position start end → end - start ≡ length (bytes_at (records_in s) position)
part-size s {position} {start} {end} d =
    sym (length-take-le (end - start) (drop start s) (omega (arith, d.ordered, d.within, length-drop start s))) ∙ ap length d.spelt

-- 1. The next position

module _ (s : Bytes) (n : ℕ) (some_record : 0 < n) {left i : ℕ} (k : 0 < left) (h : i < n ^ left) {p : ℕ} (ep : p ≡ n ^ (left - 1)) where
  one_left : left ≡ suc (left - 1)
  one_left = omega arith

  pub weight : 0 < p
  weight = omega (arith, ep, power_pos n some_record (left - 1))

  position_below : i / p < n
  unfolding positions
  position_below =
      let low : i < n ^ suc (left - 1) = omega (arith, ap (λ l. n ^ l) one_left) in
      rw ep (positions-below n some_record (suc (left - 1)) i low).0

  pub position_inside : n ≡ length (records_in s) → i / p < length (records_in s)
  position_inside e = subst (λ m. i / p < m) e position_below

  pub rest_below : i % p < n ^ (left - 1)
  rest_below = rw ep (mod-lt i (power_pos n some_record (left - 1)))

  rest-next : rest_of s n left i ≡ bytes_at (records_in s) (i / p) ++ rest_of s n (left - 1) (i % p)
  unfolding positions
  rest-next = ap (λ l. rest_of s n l i) one_left ∙ ap (λ w. bytes_at (records_in s) (i / w) ++ rest_of s n (left - 1) (i % w)) (sym ep)

  module _ {start end : ℕ} (d : PartAs s (i / p) start end) where
    -- 2. How many bytes

    pub size-next : length (rest_of s n left i) ≡ end - start + length (rest_of s n (left - 1) (i % p))
    size-next =
        ap length rest-next
        ∙ length-append (bytes_at (records_in s) (i / p)) (rest_of s n (left - 1) (i % p))
        ∙ ap (λ m. m + length (rest_of s n (left - 1) (i % p))) (sym (part-size s d))

    -- 3. Written

    module _ {out w all : Bytes} {at : ℕ} (g : Growing out w 0 at all (rest_of s n left i)) where
      pub record-room : at + length (take (end - start) (drop start s)) ≤ length w
      record-room = omega (arith, part_fits g (bytes_at (records_in s) (i / p)) (rest_of s n (left - 1) (i % p)) rest-next, ap length d.spelt)

      pub place_fits : at + (end - start) ≤ length out
      place_fits =
          omega (arith, part_fits g (bytes_at (records_in s) (i / p)) (rest_of s n (left - 1) (i % p)) rest-next, part-size s d, grown_length g)

      pub written_next : {v : Bytes}
          → v ≡ take at w ++ take (end - start) (drop start s) ++ drop (at + length (take (end - start) (drop start s))) w
          → Growing out v 0 (at + (end - start)) all (rest_of s n (left - 1) (i % p))
      written_next e =
          grow g (bytes_at (records_in s) (i / p)) (rest_of s n (left - 1) (i % p)) rest-next
          (ap (λ m. at + m) (part-size s d), e ∙ ap (λ t. take at w ++ t ++ drop (at + length t) w) d.spelt)

-- nothing is left
pub nothing_left : (s : Bytes) (n i : ℕ) {left : ℕ} → left ≤ 0 → rest_of s n left i ≡ []
unfolding positions
nothing_left s n i {left} h = let none : left ≡ 0 = omega arith in ap (λ l. rest_of s n l i) none

-- A loop that stores bytes: after each turn a part of them stands, counted from the front (`paste`) or from the end (`laid`).
use mathlib.Core.Path.{◌≡◌, sym, ◌∙◌}
use mathlib.Core.List.{◌++◌, append_assoc, append-nil}
use Prim.Native.Nat.{ℕ, zero, suc, ◌+◌, ◌-◌, ◌≤◌, ◌<◌}
use native.Mathlib.Nat.{add-suc}
use native.Mathlib.Numerals.{add-one}
use native.Mathlib.Omega.{arith}
use lib.ListN.{length, get_or, set, take, drop, length-drop, take-append-drop, get_or-append}
use lib.Seq.{paste, paste-suc, drop-paste, drop-length, take-suc, drop-cons, set_at, drop-drop, get_or-drop, get_or-take, length-take-le}
use Rattle.model.specs.Number.{Bytes}

-- from the front
pub paste-step : (w : Bytes) (at : ℕ) (s : Bytes) (i : ℕ) → at + i < length w → i < length s
    → set (paste w at s i) (at + i) (get_or s i 0) ≡ paste w at s (i + 1)
paste-step w at s i h k = rw add-one (paste-suc w at s i 0 h k)

-- what is stored where it stands already changes nothing
pub paste-same : (w : Bytes) (to from n : ℕ) → to ≡ from → w ≡ paste w to (drop from w) n
paste-same w to from n e = rw e (stays from)
  where
    stays : (at : ℕ) → w ≡ paste w at (drop at w) n
    stays at = sym (rw (append_assoc, ← drop-drop n at w, take-append-drop, take-append-drop))

-- what stands past the part that is stored
paste_past : (w : Bytes) (at : ℕ) (s : Bytes) (i k : ℕ) → at ≤ length w → i ≤ length s → at + i ≤ k → get_or (paste w at s i) k 0 ≡ get_or w k 0
paste_past w at s i k h l m =
    let j = k - (at + i) in
    let e : k ≡ at + i + j = omega arith in
    rw (e, ← get_or-drop (at + i) (paste w at s i), drop-paste w at s i h l, get_or-drop)

-- moving down reads past what it has stored
pub down_step : (w : Bytes) (from to i : ℕ) → to ≤ from → from + i < length w
    → set (paste w to (drop from w) i) (to + i) (get_or (paste w to (drop from w) i) (from + i) 0) ≡ paste w to (drop from w) (i + 1)
down_step w from to i h k =
    let l : i < length (drop from w) = simp length-drop (omega arith) in
    rw (paste_past w to (drop from w) i (from + i) (omega arith) (omega arith) (omega arith), ← get_or-drop from w i 0)
    (paste-step w to (drop from w) i (omega arith) l)

-- from the end: of the n bytes s, those from i on stand
abbrev pub laid : Bytes → ℕ → Bytes → ℕ → ℕ → Bytes
laid w at s n i = take (at + i) w ++ drop i s ++ drop (at + n) w

module _ (w : Bytes) (at : ℕ) (s : Bytes) (n : ℕ) where
  pub laid_none : length s ≡ n → w ≡ laid w at s n n
  laid_none e = rw (← e, drop-length, append-nil) (sym (take-append-drop (at + length s) w))

  laid-suc : (j : ℕ) → length s ≡ n → at + n ≤ length w → j < n → set (laid w at s n (suc j)) (at + j) (get_or s j 0) ≡ laid w at s n j
  laid-suc j e h k =
      let l : length (take (at + j) w) ≡ at + j = length-take-le (at + j) w (omega arith) in
      let there : at + j < length w = omega arith in
      let here : j < length s = omega arith in
      rw (add-suc, take-suc w (at + j) 0, drop-cons s j 0)
      (simp append_assoc (set_at (take (at + j) w) (get_or w (at + j) 0) (drop (suc j) s ++ drop (at + n) w) (get_or s j 0) (at + j) l))

  pub laid-step : (i x : ℕ) → length s ≡ n → at + n ≤ length w → 0 < i → i ≤ n → x ≡ get_or s (i - 1) 0
      → set (laid w at s n i) (at + (i - 1)) x ≡ laid w at s n (i - 1)
  laid-step zero x e h k l q = absurd (omega arith)
  laid-step (suc j) x e h k l q = let p : suc j - 1 ≡ j = omega arith in rw (q, p) (laid-suc j e h l)

  -- what stands before the part that is stored
  laid-before : (i k : ℕ) → at + n ≤ length w → i ≤ n → k < at + i → get_or (laid w at s n i) k 0 ≡ get_or w k 0
  laid-before i k h l m =
      let p : length (take (at + i) w) ≡ at + i = length-take-le (at + i) w (omega arith) in
      let q : k < length (take (at + i) w) = omega arith in
      simp append_assoc (get_or-append (take (at + i) w) (drop i s ++ drop (at + n) w) 0 k q) ∙ get_or-take (at + i) w k 0 m

-- the n bytes from a place on
abbrev pub part : Bytes → ℕ → ℕ → Bytes
part w from n = take n (drop from w)

pub length_part : (w : Bytes) (from n : ℕ) → from + n ≤ length w → length (part w from n) ≡ n
length_part w from n h = length-take-le n (drop from w) (simp length-drop (omega arith))

-- moving up reads before what it has stored
pub up_step : (w : Bytes) (from to n i : ℕ) → from ≤ to → to + n ≤ length w → 0 < i → i ≤ n
    → set (laid w to (part w from n) n i) (to + (i - 1)) (get_or (laid w to (part w from n) n i) (from + (i - 1)) 0)
    ≡ laid w to (part w from n) n (i - 1)
up_step w from to n i h k l m =
    let s = part w from n in
    let j : i - 1 < n = omega arith in
    laid-step w to s n i _ (length_part w from n (omega arith)) k l m
    (laid-before w to s n i (from + (i - 1)) k m (omega arith) ∙ sym (get_or-take n (drop from w) (i - 1) 0 j ∙ get_or-drop from w (i - 1) 0))

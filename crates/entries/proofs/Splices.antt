-- A splice: bytes are moved, and then a record is laid in the gap.
use mathlib.Core.Path.{◌≡◌, sym, ap, ◌∙◌}
use mathlib.Core.List.{◌++◌, append_assoc}
use Prim.Native.Nat.{ℕ, ◌+◌, ◌≤◌}
use native.Mathlib.Omega.{arith}
use lib.ListN.{length, take, drop, length-append, length-drop}
use lib.Seq.{paste, slice, length-take-le, take-append-le, take-take, take_at, drop_at}
use Rattle.model.specs.Number.{Bytes}
use Rattle.fields.proofs.Parse.{take-drop}

pub spliced : (w w1 w2 r : Bytes) (at end n used : ℕ) → at ≤ end → used ≡ end + n → used ≤ length w → at + length r + n ≤ length w
    → w1 ≡ paste w (at + length r) (drop end w) n → w2 ≡ take at w1 ++ r ++ drop (at + length r) w1
    → take (at + length r + n) w2 ≡ take at w ++ r ++ slice end used w
spliced w w1 w2 r at end n used h1 h2 h3 h4 e1 e2 =
    let to = at + length r in
    let M = take n (drop end w) in
    let Z = drop (to + n) w in
    let lt : length (take to w) ≡ to = length-take-le to w (omega arith) in
    let lM : length M ≡ n = length-take-le n (drop end w) (simp length-drop (omega arith)) in
    let la : length (take at w) ≡ at = length-take-le at w (omega arith) in
    let front : take at w1 ≡ take at w =
    ap (take at) (e1 ∙ append_assoc (take to w) M Z)
    ∙ take-append-le at (take to w) (M ++ Z) (omega arith)
    ∙ take-take at to w (omega arith) in
    let back : drop to w1 ≡ M ++ Z =
    ap (drop to) (e1 ∙ append_assoc (take to w) M Z)
    ∙ drop_at (take to w) (M ++ Z) to lt in
    let whole : w2 ≡ (take at w ++ r ++ M) ++ Z = e2 ∙ rw (front, back) (sym (append_assoc (take at w ++ r) M Z)) in
    let ll : length (take at w ++ r ++ M) ≡ to + n = simp length-append (omega arith) in
    let mid : M ≡ slice end used w = take-drop end n w ∙ ap (λ x. slice end x w) (sym h2) in
    ap (take (to + n)) whole
    ∙ take_at (take at w ++ r ++ M) Z (to + n) ll
    ∙ ap (λ x. take at w ++ r ++ x) mid

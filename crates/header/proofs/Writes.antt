-- A buffer that is written part after part, from the start on; and the header so written.
use mathlib.Core.Path.{◌≡◌, refl, sym, ap, ap₂, ◌∙◌}
use mathlib.Core.List.{◌++◌}
use Prim.Native.Nat.{ℕ, ◌+◌}
use lib.ListN.{length, take, drop}
use lib.Seq.{take_at, drop_at, drop-drop}
use Rattle.model.specs.Number.{Bytes, bytes}
use Rattle.model.specs.Image.{mark, header, head_size}
use Rattle.header.specs.Header.{fixed_of}

-- one part more
next : (b x y v w : Bytes) (n : ℕ) → length x ≡ n → v ≡ x ++ drop n b → w ≡ take n v ++ y ++ drop (n + length y) v
    → w ≡ (x ++ y) ++ drop (n + length y) b
next b x y v w n ex ev ew =
    let front : take n v ≡ x = ap (take n) ev ∙ take_at x (drop n b) n ex in
    let back : drop (n + length y) v ≡ drop (n + length y) b = sym (drop-drop (length y) n v) ∙ ap (drop (length y)) (ap (drop n) ev ∙ drop_at x (drop n b) n ex) ∙ drop-drop (length y) n b in
    ew ∙ ap₂ (λ p q. p ++ y ++ q) front back

module _ (b b1 b2 b3 b4 b5 b6 b7 : Bytes) (used epoch kraft offset : ℕ)
    (e1 : b1 ≡ take 0 b ++ mark ++ drop 8 b)
    (e2 : b2 ≡ take 8 b1 ++ bytes 4 used ++ drop 12 b1)
    (e3 : b3 ≡ take 12 b2 ++ bytes 4 0 ++ drop 16 b2)
    (e4 : b4 ≡ take 16 b3 ++ bytes 8 epoch ++ drop 24 b3)
    (e5 : b5 ≡ take 24 b4 ++ bytes 2 kraft ++ drop 26 b4)
    (e6 : b6 ≡ take 26 b5 ++ bytes 30 0 ++ drop 56 b5)
    (e7 : b7 ≡ take 56 b6 ++ bytes 8 offset ++ drop 64 b6) where
  pub header-written : b7 ≡ header used (fixed_of epoch kraft offset) ++ drop head_size b
  unfolding header mark
  header-written =
      let h2 = next b mark (bytes 4 used) b1 b2 8 refl e1 e2 in
      let h3 = next b (mark ++ bytes 4 used) (bytes 4 0) b2 b3 12 refl h2 e3 in
      let h4 = next b (mark ++ bytes 4 used ++ bytes 4 0) (bytes 8 epoch) b3 b4 16 refl h3 e4 in
      let h5 = next b (mark ++ bytes 4 used ++ bytes 4 0 ++ bytes 8 epoch) (bytes 2 kraft) b4 b5 24 refl h4 e5 in
      let h6 = next b (mark ++ bytes 4 used ++ bytes 4 0 ++ bytes 8 epoch ++ bytes 2 kraft) (bytes 30 0) b5 b6 26 refl h5 e6 in
      next b (mark ++ bytes 4 used ++ bytes 4 0 ++ bytes 8 epoch ++ bytes 2 kraft ++ bytes 30 0) (bytes 8 offset) b6 b7 56 refl h6 e7

-- Open, exit by exit.
use mathlib.Core.Path.{◌≡◌, refl, sym, ap, ◌∙◌}
use mathlib.Core.Bool.{Bool, true, false, not}
use mathlib.Core.List.{◌++◌, append-nil}
use Prim.Native.Nat.{ℕ, zero, suc, ◌-◌, ◌≤◌}
use native.Mathlib.Omega.{arith}
use borrow.Author.Tests.{not-true, not-false}
use lib.ListN.{length, drop, length-replicate}
use Rattle.model.specs.Number.{Bytes, span}
use Rattle.model.specs.Contents.{fresh}
use Rattle.model.specs.Image.{is_capacity, zeros, header, head_size, entry_bytes, image_of, open_of}
use Rattle.laws_image.specs.Tests.{capacity-least}
use Rattle.model.specs.Answers.{number_reply}
use Rattle.header.specs.Header.{fixed_of}

drop-zeros : (k n : ℕ) → drop k (zeros n) ≡ zeros (n - k)
drop-zeros zero n = let e : n ≡ n - 0 = omega arith in ap zeros e
drop-zeros (suc k) zero = let e : 0 ≡ 0 - suc k = omega arith in ap zeros e
drop-zeros (suc k) (suc n) = let e : n - k ≡ suc n - suc k = omega arith in drop-zeros k n ∙ ap zeros e

fresh_image : (n : ℕ) → header head_size (fixed_of (span 8 - 1) 0 (span 8 - 1)) ++ zeros (n - head_size) ≡ image_of n fresh
unfolding image_of entry_bytes
fresh_image n = ap (λ t. t ++ zeros (n - head_size)) (sym (append-nil (header head_size (fixed_of (span 8 - 1) 0 (span 8 - 1)))))

module _ (b : Bytes) {k : Bool} (ek : k ≡ is_capacity (length b)) where
  pub open_refused : not k ≡ true → (number_reply 1 ≡ (open_of b).reply) × (b ≡ (open_of b).buffer)
  unfolding open_of
  open_refused h = rw (← ek, not-true k h) (refl, refl)

  module _ (h : not k ≡ false) {v : Bytes} (ev : v ≡ zeros (length b)) where
    pub head_fits : head_size ≤ length v
    head_fits = let l = capacity-least (length b) (sym ek ∙ not-false k h) in rw (ev, length-replicate) (omega arith)

    pub opened : {w : Bytes} → w ≡ header head_size (fixed_of (span 8 - 1) 0 (span 8 - 1)) ++ drop head_size v
        → (number_reply 0 ≡ (open_of b).reply) × (w ≡ (open_of b).buffer)
    unfolding open_of
    opened {w} ew =
        let rest : drop head_size v ≡ zeros (length b - head_size) = ap (drop head_size) ev ∙ drop-zeros head_size (length b) in
        let image = ew ∙ ap (λ t. header head_size (fixed_of (span 8 - 1) 0 (span 8 - 1)) ++ t) rest ∙ fresh_image (length b) in
        rw (← ek, not-false k h) (refl, image)

-- `packing::pack` meets its contract: the two numbers take a half of the word each.
use Prim.Native.Nat.{◌*◌, ◌+◌}
use mathlib.Core.Path.{◌≡◌, sym, ap, ◌∙◌}
use native.Mathlib.Omega.{arith}
use Rattle.model.specs.Answers.{replied}
use Rattle.packing.specs.Packed.{packed}
use Rattle.packing.proofs.pack.Goals as goal

pub returns-in-Used : goal.returns-in-Used
returns-in-Used c =
    let n = c.in-Used.n in
    let whole : n ≡ 0 * 4294967296 + n = omega arith in
    whole ∙ ap (λ a. packed (replied a)) (sym c.in-Used.is)

pub returns-in-Refused : goal.returns-in-Refused
returns-in-Refused c =
    let n = c.in-Refused.number in
    let whole : n * 4294967296 ≡ n * 4294967296 + 0 = omega arith in
    c.alone.ensures ∙ whole ∙ ap (λ a. packed (replied a)) (sym c.in-Refused.is)

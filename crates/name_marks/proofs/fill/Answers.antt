use mathlib.Core.Path.{◌≡◌, refl, ap, ◌∙◌}
use mathlib.Core.List.{◌++◌}
use native.Mathlib.Omega.{arith}
use lib.ListN.{drop, replicate, length-set}
use borrow.Author.Fill.{fill_none, fill_more}
use Rattle.name_marks.proofs.fill.Goals as goal

pub loop-i-init : goal.loop-i-init
loop-i-init c = (omega arith, refl, fill_none c.args.out.now 255)

pub bounds-out-i : goal.bounds-out-i
bounds-out-i c = let l = c.loop-i in omega (arith, c.requires, l.invariant.1)

pub loop-i-preserved : goal.loop-i-preserved
loop-i-preserved c =
    let l = c.loop-i in
    (omega arith, simp length-set (omega arith), rw l.invariant.2 (fill_more l.i 255 c.args.out.now (omega (arith, c.requires))))

pub returns : goal.returns
returns c =
    let l = c.loop-i in
    let e : l.i ≡ c.args.n = omega arith in
    l.invariant.2 ∙ ap (λ k. replicate k 255 ++ drop k c.args.out.now) e

-- `varints::put_varint` meets its contract: one byte, or two.
use native.Mathlib.Omega.{arith}
use lib.ListN.{length-set}
use Rattle.varints.proofs.Shortest.{one_long, two_long, one-put, two-put}
use Rattle.varints.proofs.put_varint.Goals as goal

pub bounds-out-at : goal.bounds-out-at
bounds-out-at c = omega (arith, c.requires.1, one_long c.args.n c.if-n-lt128.true)

pub returns-then-n-lt128 : goal.returns-then-n-lt128
returns-then-n-lt128 c = let a = c.args in one-put a.out.now a.at a.n c.if-n-lt128.true c.requires.1

pub bounds-out-at-2 : goal.bounds-out-at-2
bounds-out-at-2 c = omega (arith, c.requires.1, two_long c.args.n c.if-n-lt128.false c.requires.0)

pub bounds-out-at-3 : goal.bounds-out-at-3
bounds-out-at-3 c =
    simp length-set (omega (arith, c.requires.1, two_long c.args.n c.if-n-lt128.false c.requires.0))

pub returns : goal.returns
returns c = let a = c.args in two-put a.out.now a.at a.n c.if-n-lt128.false c.requires.0 c.requires.1

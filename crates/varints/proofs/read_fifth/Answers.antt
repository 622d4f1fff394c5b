-- `varints::read_fifth` meets its contract, an exit after the other.
use native.Mathlib.Omega.{arith}
use Rattle.varints.proofs.Turns.{fifth_ended, fifth_wrong, fifth_right}
use Rattle.varints.proofs.read_fifth.Goals as goal

pub returns-then-at-s : goal.returns-then-at-s
returns-then-at-s c = let a = c.args in fifth_ended a.s.now a.at a.n c.if-at-s.true

pub returns-then-b-gt-FIFTH_LIMIT : goal.returns-then-b-gt-FIFTH_LIMIT
returns-then-b-gt-FIFTH_LIMIT c =
    fifth_wrong c.args.s.now c.args.at c.args.n (omega (arith, c.requires.0, c.if-at-s.false)) c.wide-b.ensures c.if-b-gt-FIFTH_LIMIT.true

pub returns : goal.returns
returns c =
    fifth_right c.args.s.now c.args.at c.args.n (omega (arith, c.requires.0, c.if-at-s.false)) c.wide-b.ensures c.if-b-gt-FIFTH_LIMIT.false
    c.requires.1

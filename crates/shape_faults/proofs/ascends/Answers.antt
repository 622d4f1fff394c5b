-- `shape_faults::ascends` meets its contract: with no key before any key ascends, else the comparison decides.
use Rattle.shape_faults.proofs.Leaves.{above-none, above-some}
use Rattle.shape_faults.proofs.ascends.Goals as goal

pub returns-then-start-end : goal.returns-then-start-end
returns-then-start-end c = let a = c.args in above-none a.s.now a.prior a.v.now c.if-start-end.true

pub returns-in-Less : goal.returns-in-Less
returns-in-Less c =
    above-some c.args.s.now c.args.prior c.args.v.now c.requires c.if-start-end.false c.compare.ensures c.in-Less.is

pub returns-in-Equal : goal.returns-in-Equal
returns-in-Equal c =
    above-some c.args.s.now c.args.prior c.args.v.now c.requires c.if-start-end.false c.compare.ensures c.in-Equal.is

pub returns-in-Greater : goal.returns-in-Greater
returns-in-Greater c =
    above-some c.args.s.now c.args.prior c.args.v.now c.requires c.if-start-end.false c.compare.ensures c.in-Greater.is

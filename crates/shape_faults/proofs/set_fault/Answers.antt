-- `shape_faults::set_fault` meets its contract, test by test.
use Rattle.shape_faults.proofs.Leaves.{set_long, set_apart, set_repeated}
use Rattle.shape_faults.proofs.set_fault.Goals as goal

pub returns-then-f-ne0 : goal.returns-then-f-ne0
returns-then-f-ne0 c = set_long _ _ c.list_fault-f.ensures c.if-f-ne0.true

pub returns-then-apart_in : goal.returns-then-apart_in
returns-then-apart_in c =
    set_apart _ _ c.list_fault-f.ensures c.if-f-ne0.false c.apart_in.ensures c.if-apart_in.true

pub returns : goal.returns
returns c =
    set_repeated _ _ c.list_fault-f.ensures c.if-f-ne0.false c.apart_in.ensures c.if-apart_in.false

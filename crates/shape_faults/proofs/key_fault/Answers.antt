-- `shape_faults::key_fault` meets its contract, test by test.
use Rattle.shape_faults.proofs.Leaves.{key_not_above, key_text}
use Rattle.shape_faults.proofs.key_fault.Goals as goal

pub returns-then-not-ascends : goal.returns-then-not-ascends
returns-then-not-ascends c = key_not_above _ _ _ _ c.ascends.ensures c.if-not-ascends.true-raw

pub returns : goal.returns
returns c = key_text _ _ _ _ c.ascends.ensures c.if-not-ascends.false-raw c.text_fault.ensures

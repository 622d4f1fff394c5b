-- `shape_faults::begin` meets its contract.
use Rattle.shape_faults.proofs.begin.Goals as goal

pub returns : goal.returns
returns c = rw c.no_key.ensures

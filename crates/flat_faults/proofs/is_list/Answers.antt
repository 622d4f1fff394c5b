-- `flat_faults::is_list` meets its contract.
use Rattle.flat_faults.proofs.Flat.{never}
use Rattle.flat_faults.proofs.is_list.Goals as goal

pub returns-then-len-width-ne0 : goal.returns-then-len-width-ne0
returns-then-len-width-ne0 c = never

-- `shape_faults::count_fault` meets its contract: only what repeats has a limit.
use Rattle.shape_faults.proofs.Tags.{count_once, count_right, count_wrong}
use Rattle.shape_faults.proofs.count_fault.Goals as goal

pub returns-then-many-lt2 : goal.returns-then-many-lt2
returns-then-many-lt2 c = count_once _ _ c.if-many-lt2.true

pub returns-then-count-many : goal.returns-then-count-many
returns-then-count-many c = count_right _ _ c.if-many-lt2.false c.if-count-many.true

pub returns : goal.returns
returns c = count_wrong _ _ c.if-many-lt2.false c.if-count-many.false

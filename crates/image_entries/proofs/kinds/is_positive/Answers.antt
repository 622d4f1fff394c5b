-- `kinds::is_positive` meets its contract.
use Rattle.image_entries.proofs.Both.{not_positive, is_positive}
use Rattle.image_entries.proofs.kinds.is_positive.Goals as goal

pub returns-then-n-eq0 : goal.returns-then-n-eq0
returns-then-n-eq0 c = not_positive _ c.if-n-eq0.true

pub returns : goal.returns
returns c = is_positive _ c.if-n-eq0.false

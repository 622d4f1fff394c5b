-- `kinds::is_stored` meets its contract: both tests, the second only where the first passes.
use Rattle.image_entries.proofs.Both.{both_first, both_second}
use Rattle.image_entries.proofs.kinds.is_stored.Goals as goal

pub returns-then-flag_reads : goal.returns-then-flag_reads
returns-then-flag_reads c = both_second _ c.flag_reads.ensures c.if-flag_reads.true c.is_storable.ensures

pub returns-else-flag_reads : goal.returns-else-flag_reads
returns-else-flag_reads c = both_first _ c.flag_reads.ensures c.if-flag_reads.false

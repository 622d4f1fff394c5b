-- `partitions::is_partition_of` meets its contract: the kind decides, then the name.
use native.Mathlib.Omega.{arith}
use Rattle.image_entries.proofs.Records.{headed}
use Rattle.judge.proofs.Counted.{not_of, is_of}
use Rattle.judge.proofs.partitions.is_partition_of.Goals as goal

pub bounds-e-0 : goal.bounds-e-0
bounds-e-0 c = omega (arith, headed _ c.requires.0)

pub returns-then-e-ne-PARTITION : goal.returns-then-e-ne-PARTITION
returns-then-e-ne-PARTITION c = not_of _ _ c.requires.0 c.if-e-ne-PARTITION.true

pub same_value-requires : goal.same_value-requires
same_value-requires c = (headed _ c.requires.0, c.requires.1)

pub returns : goal.returns
returns c = is_of _ _ c.requires.0 c.if-e-ne-PARTITION.false c.same_value.ensures

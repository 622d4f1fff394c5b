-- `lookup_scans::is_short` meets its contract: of a partition, the three parts that `value_at` found have their values.
use native.Mathlib.Omega.{arith}
use Rattle.image_entries.proofs.Records.{headed}
use Rattle.lookup_scans.proofs.Short.{not_short, replicas_few, adding_few, short-told}
use Rattle.lookup_scans.proofs.is_short.Goals as goal

pub bounds-e-0 : goal.bounds-e-0
bounds-e-0 c = omega (arith, headed _ c.requires)

pub returns-then-e-ne-PARTITION : goal.returns-then-e-ne-PARTITION
returns-then-e-ne-PARTITION c = not_short _ c.requires c.if-e-ne-PARTITION.true

pub value_at-replicas-requires : goal.value_at-replicas-requires
value_at-replicas-requires c = headed _ c.requires

pub value_at-isr-requires : goal.value_at-isr-requires
value_at-isr-requires c = headed _ c.requires

pub value_at-adding-requires : goal.value_at-adding-requires
value_at-adding-requires c = headed _ c.requires

pub outside_in-requires : goal.outside_in-requires
outside_in-requires c =
    let i = c.requires in
    (replicas_few _ i c.if-e-ne-PARTITION.false c.value_at-replicas.ensures, adding_few _ i c.if-e-ne-PARTITION.false c.value_at-adding.ensures)

pub returns : goal.returns
returns c =
    short-told _ c.requires c.if-e-ne-PARTITION.false c.value_at-replicas.ensures c.value_at-isr.ensures c.value_at-adding.ensures
    c.outside_in.ensures

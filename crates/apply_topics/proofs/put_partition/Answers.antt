-- `apply_topics::put_partition` meets its contract.
use mathlib.Core.Path.{sym, ap, ◌∙◌}
use native.Mathlib.Omega.{arith}
use lib.Seq.{length-take-le}
use Rattle.model.specs.Run.{value}
use Rattle.image_entries.proofs.Records.{headed, run_in_lem}
use Rattle.keys.proofs.Fields.{lent-value}
use Rattle.apply_work.proofs.Made.{record-size}
use Rattle.apply_topics.proofs.Moved.{counts_few, part-kept, part_moved}
use Rattle.apply_topics.proofs.put_partition.Goals as goal

pub slice_bounds-is_new-end-2 : goal.slice_bounds-is_new-end-2
slice_bounds-is_new-end-2 c =
    sym (length-take-le _ _ (omega (arith, c.requires.0.order, c.requires.0.fits)))

pub value_at-p-requires : goal.value_at-p-requires
value_at-p-requires c = headed _ c.requires.1

pub count_partition-requires : goal.count_partition-requires
count_partition-requires c =
    (c.requires.0, c.is_new-new.ensures.1, counts_few _ c.requires.1 c.requires.2 c.replica_count-replicas.ensures, c.requires.3)

pub put_real-requires : goal.put_real-requires
put_real-requires c =
    (c.count_partition.ensures.0, c.requires.1, part-kept _ c.requires.2, omega (arith, record-size _ c.requires.1, c.requires.4))

pub returns : goal.returns
returns c =
    part_moved _ c.requires.2 (lent-value _ _ _ _ c.value_at-p.ensures ∙ ap (value 1) (run_in_lem _ c.requires.1)) c.is_new-new.ensures.0
    c.replica_count-replicas.ensures
    (record-size _ c.requires.1) c.count_partition.ensures c.put_real.ensures

-- `update` meets its contract: the moves of three records, one after the other.
use mathlib.Core.Path.{◌≡◌, sym, ap}
use native.Mathlib.Omega.{arith}
use lib.ListN.{take}
use lib.Seq.{length-take-le}
use Rattle.keys.proofs.Keys.{known_bytes}
use Rattle.entries.specs.Entries.{IsRecord, record_in}
use Rattle.apply_updates.specs.Updates.{partition_rec}
use Rattle.apply_updates.proofs.Moved.{partition_is, elr_one, updated}
use Rattle.apply_updates.proofs.update.Goals as goal

pub slice_bounds-put_partition-end-2 : goal.slice_bounds-put_partition-end-2
slice_bounds-put_partition-end-2 c =
    let r = c.partition_record-n in
    sym (length-take-le _ r.new.b (omega (arith, r.ensures.1, r.auto.b, c.requires.5)))

pub put_partition-placed-requires : goal.put_partition-placed-requires
put_partition-placed-requires c =
    let partition : IsRecord (take c.partition_record-n.result c.partition_record-n.new.b) × (record_in (take c.partition_record-n.result c.partition_record-n.new.b) ≡ partition_rec (record_in c.args.rec.now).run) = let s = c.args.rec.now in let are = known_bytes s (λ i. omega (arith, c.type_inv.rec i)) in partition_is s (record { is = c.requires.1; kind = c.requires.2 }) are _ c.partition_record-n.ensures.0 in
    let p = partition in
    (c.requires.0, p.0, ap (λ r. r.kind) p.1, c.requires.3, omega (arith, c.requires.4))

pub set_recovery-requires : goal.set_recovery-requires
set_recovery-requires c =
    let e = c.set_elr-chosen in
    let m = c.put_partition-placed in
    let r = c.partition_record-n in
    let few = elr_one (record_in c.args.rec.now).run in (
      e.ensures.good,
      record { is = c.requires.1; kind = c.requires.2 },
      omega (arith, few, e.ensures.most, m.ensures.most, e.auto.w, m.auto.w, c.requires.4),
      omega (arith, e.auto.b, r.auto.b, c.requires.5),
    )

pub returns : goal.returns
returns c =
    let partition : IsRecord (take c.partition_record-n.result c.partition_record-n.new.b) × (record_in (take c.partition_record-n.result c.partition_record-n.new.b) ≡ partition_rec (record_in c.args.rec.now).run) = let s = c.args.rec.now in let are = known_bytes s (λ i. omega (arith, c.type_inv.rec i)) in partition_is s (record { is = c.requires.1; kind = c.requires.2 }) are _ c.partition_record-n.ensures.0 in
    updated (record_in c.args.rec.now).run partition.1 c.put_partition-placed.ensures c.set_elr-chosen.ensures
    c.set_recovery.ensures

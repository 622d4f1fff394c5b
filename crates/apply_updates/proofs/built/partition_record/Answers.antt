-- `built::partition_record` meets its contract: a field's value, with a record's head, is the partition's record.
use native.Mathlib.Omega.{arith}
use Rattle.keys.proofs.Keys.{known_bytes}
use Rattle.apply_updates.proofs.Values.{update_headed, partition_fits, partition-written}
use Rattle.apply_updates.proofs.built.partition_record.Goals as goal

pub value_at-p-requires : goal.value_at-p-requires
value_at-p-requires c =
    update_headed _ c.requires.0

pub put_field-requires : goal.put_field-requires
put_field-requires c =
    let p = c.value_at-p in
    partition_fits c.args.rec.now c.requires.0 p.result.start p.result.end p.ensures c.args.b.now c.requires.1

pub returns : goal.returns
returns c =
    let f = c.put_field in
    let are = known_bytes c.args.rec.now (λ i. omega (arith, c.type_inv.rec i)) in
    let v = c.value_at-p in
    partition-written c.args.rec.now c.requires.0 v.result.start v.result.end v.ensures are c.args.b.now f.new.out f.ensures

-- `kafka_write::write_named` meets its contract: the name's length and one is the first part.
use mathlib.Core.Path.{sym, ap}
use native.Mathlib.Omega.{arith}
use lib.ListN.{length, replicate, length-append, length-take}
use lib.Seq.{length-take-le}
use Rattle.keys.proofs.Found.{part_length}
use Rattle.kafka_write.proofs.Fields.{part_fits, varint-room, named_sent}
use Rattle.kafka_write.proofs.write_named.Goals as goal

pub put_varint-n-requires : goal.put_varint-n-requires
put_varint-n-requires c =
    let a = c.args in
    varint-room (omega (arith, part_length _ _ _ _ c.value_at-name.ensures.1 c.value_at-name.ensures.2 c.value_at-name.ensures.0, c.requires.1.0))

pub slice_bounds-size-end : goal.slice_bounds-size-end
slice_bounds-size-end c = let put = c.put_varint-n in omega (arith, put.ensures.0, simp length-append at (ap length put.ensures.1))

pub slice_bounds-emit-end : goal.slice_bounds-emit-end
slice_bounds-emit-end c =
    let put = c.put_varint-n in
    sym (length-take-le put.result _ (omega (arith, put.ensures.0, simp length-append at (ap length put.ensures.1))))

pub emit-requires : goal.emit-requires
emit-requires c =
    let a = c.args in (
      simp length-take (omega (arith, c.put_varint-n.auto.out)),
      part_fits a.s.now 1 _ _ c.value_at-name.ensures 255 c.requires.1.0,
      part_fits a.s.now 2 _ _ c.value_at-rest.ensures 255 c.requires.1.1,
    )

pub returns : goal.returns
returns c =
    let a = c.args in
    named_sent a.s.now c.value_at-name.result.start c.value_at-name.result.end c.value_at-name.ensures (replicate 2 0) c.put_varint-n.ensures
    a.key a.out.now _ _ c.value_at-rest.ensures c.emit.ensures

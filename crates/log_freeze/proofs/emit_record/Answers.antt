-- `log_freeze::emit_record` meets its contract.
use native.Mathlib.Omega.{arith}
use Rattle.model.specs.Number.{AreBytes}
use Rattle.keys.proofs.Keys.{known_bytes}
use Rattle.log_freeze.proofs.Emits.{header_fits, record-fits, record-emitted}
use Rattle.log_freeze.proofs.emit_record.Goals as goal

pub overflow_add-end : goal.overflow_add-end
overflow_add-end c = omega (arith, header_fits c.args.run.now c.args.at c.requires, c.ranges)

pub overflow_add-at : goal.overflow_add-at
overflow_add-at c = omega (arith, header_fits c.args.run.now c.args.at c.requires, c.ranges)

pub get16-requires : goal.get16-requires
get16-requires c = header_fits c.args.run.now c.args.at c.requires

pub overflow_add-end-2 : goal.overflow_add-end-2
overflow_add-end-2 c =
    omega (arith, record-fits c.args.run.now c.args.at c.requires c.get16.ensures.0, c.ranges)

pub slice_bounds-emit_bytes-end : goal.slice_bounds-emit_bytes-end
slice_bounds-emit_bytes-end c = record-fits c.args.run.now c.args.at c.requires c.get16.ensures.0

pub returns : goal.returns
returns c =
    let bytes_in : AreBytes c.args.run.now = known_bytes c.args.run.now (λ i. omega (arith, c.type_inv.run i)) in
    let the_whole = record-emitted c.args.run.now c.args.at c.requires bytes_in c.get16.ensures.0 c.args.out.now (c.emit_bytes.ensures.result_value, c.emit_bytes.ensures.out_after) in record { result_value = the_whole.0; out_after = the_whole.1 }

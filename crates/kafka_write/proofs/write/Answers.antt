-- `kafka_write::write` meets its contract: the record is read, then sent by its kind.
use mathlib.Core.Path.{sym, ap, ◌∙◌}
use native.Mathlib.Omega.{arith}
use lib.Seq.{length-take-le}
use Rattle.model.specs.Number.{AreBytes}
use Rattle.model.specs.Answers.{replied}
use Rattle.keys.proofs.Keys.{known_bytes}
use Rattle.kafka_write.proofs.Sent.{not_read, used-within, sendable, sent}
use Rattle.kafka_write.proofs.write.Goals as goal

pub slice_bounds-write_record-end : goal.slice_bounds-write_record-end
slice_bounds-write_record-end c =
    let bytes_in : AreBytes c.args.input.now = known_bytes c.args.input.now (λ i. omega (arith, c.type_inv.input i)) in
    let a = c.args in
    sym (length-take-le _ a.input.now (used-within a.input.now a.out.now bytes_in (ap replied (sym c.in-Used.is) ∙ c.read.ensures.result_value)))

pub write_record-requires : goal.write_record-requires
write_record-requires c =
    let bytes_in : AreBytes c.args.input.now = known_bytes c.args.input.now (λ i. omega (arith, c.type_inv.input i)) in
    let a = c.args in
    sendable a.input.now a.out.now bytes_in (ap replied (sym c.in-Used.is) ∙ c.read.ensures.result_value)

pub returns-in-Refused : goal.returns-in-Refused
returns-in-Refused c =
    let a = c.args in
    let the_whole = not_read a.input.now a.out.now (ap replied (sym c.in-Refused.is) ∙ c.read.ensures.result_value) in record { result_value = the_whole.0; out_after = the_whole.1 }

pub returns-in-Used : goal.returns-in-Used
returns-in-Used c =
    let bytes_in : AreBytes c.args.input.now = known_bytes c.args.input.now (λ i. omega (arith, c.type_inv.input i)) in
    let a = c.args in
    let the_whole = sent a.input.now a.out.now bytes_in (ap replied (sym c.in-Used.is) ∙ c.read.ensures.result_value) c.write_record.ensures in record { result_value = the_whole.0; out_after = the_whole.1 }

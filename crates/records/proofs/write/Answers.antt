-- `records::write` meets its contract, exit by exit. What passes fits a length of two bytes.
use native.Mathlib.Omega.{arith}
use Rattle.records.proofs.Writing.{write_faulty, fields-whole, body-short, body_is, write_short, write_right}
use Rattle.records.proofs.write.Goals as goal

pub returns-then-f-ne0 : goal.returns-then-f-ne0
returns-then-f-ne0 c =
    let the_whole = write_faulty _ _ _ _ c.fields_fault-f.ensures _ c.if-f-ne0.true in record { result_value = the_whole.0; out_after = the_whole.1 }

pub body_length-len-requires : goal.body_length-len-requires
body_length-len-requires c = body-short _ _ _ _ c.fields_fault-f.ensures c.if-f-ne0.false

pub overflow_add-size : goal.overflow_add-size
overflow_add-size c = omega (arith, c.body_length-len.ensures, body-short _ _ _ _ c.fields_fault-f.ensures c.if-f-ne0.false)

pub returns-then-out-size : goal.returns-then-out-size
returns-then-out-size c =
    let the_whole = write_short _ _ _ _ c.fields_fault-f.ensures c.if-f-ne0.false c.body_length-len.ensures _ c.if-out-size.true in record { result_value = the_whole.0; out_after = the_whole.1 }

pub put_fields-requires : goal.put_fields-requires
put_fields-requires c =
    let f = c.fields_fault-f.ensures in
    record { whole = fields-whole _ _ _ _ f c.if-f-ne0.false; values_in_bounds = omega (arith, c.put_head.auto.out, body_is _ _ _ _ f c.if-f-ne0.false c.body_length-len.ensures) }

pub returns : goal.returns
returns c =
    let the_whole = write_right _ _ _ _ c.fields_fault-f.ensures c.if-f-ne0.false c.body_length-len.ensures _ c.if-out-size.false c.kind_number.ensures
    c.put_head.ensures c.put_fields.ensures in record { result_value = the_whole.0; out_after = the_whole.1 }

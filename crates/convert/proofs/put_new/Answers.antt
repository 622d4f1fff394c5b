-- `convert::put_new` meets its contract.
use native.Mathlib.Omega.{arith}
use Rattle.convert.proofs.Forms.{new-short, new-written}
use Rattle.convert.proofs.put_new.Goals as goal

pub returns-then-out-lt-OFFSET_SIZE : goal.returns-then-out-lt-OFFSET_SIZE
returns-then-out-lt-OFFSET_SIZE c =
    let a = c.args in
    let the_whole = new-short a.run.now a.offset a.out.now (omega (arith, c.if-out-lt-OFFSET_SIZE.true)) in record { result_value = the_whole.0; out_after = the_whole.1 }

pub returns-then-out-run : goal.returns-then-out-run
returns-then-out-run c =
    let a = c.args in
    let the_whole = new-short a.run.now a.offset a.out.now (omega (arith, c.if-out-run.true, c.if-out-lt-OFFSET_SIZE.false)) in record { result_value = the_whole.0; out_after = the_whole.1 }

pub returns : goal.returns
returns c =
    let a = c.args in
    let the_whole = new-written a.run.now a.offset a.out.now (omega (arith, c.if-out-run.false, c.if-out-lt-OFFSET_SIZE.false)) c.put_number.ensures.1 c.copy.ensures in record { result_value = the_whole.0; out_after = the_whole.1 }

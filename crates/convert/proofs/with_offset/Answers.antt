-- `convert::with_offset` meets its contract, exit by exit.
use Rattle.convert.proofs.Exits.{too_low, old-stopped, old-passed}
use Rattle.convert.proofs.with_offset.Goals as goal

pub returns-then-not-is_offset : goal.returns-then-not-is_offset
returns-then-not-is_offset c =
    let a = c.args in
    let the_whole = too_low a.run.now a.offset a.out.now c.is_offset.ensures c.if-not-is_offset.true-raw in record { result_value = the_whole.0; out_after = the_whole.1 }

pub returns-in-Fails : goal.returns-in-Fails
returns-in-Fails c =
    let a = c.args in
    let the_whole = old-stopped a.run.now a.offset a.out.now c.is_offset.ensures c.if-not-is_offset.false-raw c.check_run.ensures c.in-Fails.is in record { result_value = the_whole.0; out_after = the_whole.1 }

pub returns-in-Passes : goal.returns-in-Passes
returns-in-Passes c =
    let a = c.args in
    let the_whole = old-passed a.run.now a.offset a.out.now c.is_offset.ensures c.if-not-is_offset.false-raw c.check_run.ensures c.in-Passes.is (c.put_new.ensures.result_value, c.put_new.ensures.out_after) in record { result_value = the_whole.0; out_after = the_whole.1 }

-- `convert::without_offset` meets its contract, exit by exit.
use Rattle.convert.proofs.Exits.{new-stopped, new_passes, new-passed}
use Rattle.convert.proofs.without_offset.Goals as goal

pub put_old-requires : goal.put_old-requires
put_old-requires c =
    let a = c.args in
    new_passes a.run.now a.out.now c.check_new.ensures c.in-Passes.is

pub returns-in-Fails : goal.returns-in-Fails
returns-in-Fails c =
    let a = c.args in
    let the_whole = new-stopped a.run.now a.out.now c.check_new.ensures c.in-Fails.is in record { result_value = the_whole.0; out_after = the_whole.1 }

pub returns-in-Passes : goal.returns-in-Passes
returns-in-Passes c =
    let a = c.args in
    let the_whole = new-passed a.run.now a.out.now c.check_new.ensures c.in-Passes.is (c.put_old.ensures.result_value, c.put_old.ensures.out_after) in record { result_value = the_whole.0; out_after = the_whole.1 }

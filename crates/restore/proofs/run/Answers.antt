-- `restore::run` meets its contract: the records behind the log offset are applied to a fresh state at it.
use Rattle.restore.proofs.Restoring.{reached-start, ran_unbegun}
use Rattle.restore.proofs.run.Goals as goal

pub run_from-requires : goal.run_from-requires
run_from-requires c =
    let a = c.args in (
      reached-start a.capacity a.input.now a.w.now c.requires.0 c.begin.ensures c.in-At.is c.no_records-in-At.ensures,
      c.requires.1,
      c.requires.2,
      c.requires.3,
    )

pub returns-in-Refused : goal.returns-in-Refused
returns-in-Refused c =
    let a = c.args in
    ran_unbegun a.capacity a.input.now a.w.now c.requires.0 c.begin.ensures c.in-Refused.is c.no_records.ensures

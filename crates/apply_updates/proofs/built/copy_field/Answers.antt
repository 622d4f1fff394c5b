-- `built::copy_field` meets its contract: the part that is lent is the value.
use lib.ListN.{take}
use Rattle.model.specs.Run.{value}
use Rattle.keys.specs.Keys.{kind_in, run_in}
use Rattle.apply_updates.proofs.Drafting.{copy_asks, copy_says}
use Rattle.apply_updates.proofs.built.copy_field.Goals as goal

pub set_field-requires : goal.set_field-requires
set_field-requires c =
    let p = c.value_at-p in
    let a = c.args in
    copy_asks a.rec.now (value a.from (run_in a.rec.now)) p.result.start p.result.end p.ensures a.b.now a.n (c.requires.1, c.requires.2, c.requires.3)

pub returns : goal.returns
returns c =
    let p = c.value_at-p in
    let a = c.args in
    copy_says a.rec.now (value a.from (run_in a.rec.now)) p.result.start p.result.end p.ensures a.b.now a.n (kind_in a.b.now) a.tag
    (run_in (take a.n a.b.now)) c.set_field.ensures

-- `log_freeze::slot_of` meets its contract.
use Rattle.log_freeze.proofs.Picks.{no_slot, some-slot}
use Rattle.log_freeze.proofs.slot_of.Goals as goal

pub returns-then-not-begins_with : goal.returns-then-not-begins_with
returns-then-not-begins_with c =
    let a = c.args in
    no_slot a.e.now a.name.now c.value_at-s.ensures c.begins_with.ensures c.if-not-begins_with.true-raw

pub returns : goal.returns
returns c =
    let a = c.args in
    some-slot a.e.now a.name.now c.value_at-s.ensures c.begins_with.ensures c.if-not-begins_with.false-raw
    c.value_at-p.ensures c.pattern_slot.ensures

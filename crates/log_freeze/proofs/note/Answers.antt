-- `log_freeze::note` meets its contract.
use Rattle.log_freeze.proofs.Picks.{no_freeze_lem, set-slot, other_scope}
use Rattle.log_freeze.proofs.note.Goals as goal

pub returns-then-e-ne-TOPIC_FREEZE : goal.returns-then-e-ne-TOPIC_FREEZE
returns-then-e-ne-TOPIC_FREEZE c = let a = c.args in no_freeze_lem a.slots.now a.name.now a.e.now a.at c.if-e-ne-TOPIC_FREEZE.true

pub slot_value-requires : goal.slot_value-requires
slot_value-requires c =
    let p = c.requires in
    (p.0, p.1 c.if-e-ne-TOPIC_FREEZE.false, p.2)

pub returns-then-i-slots : goal.returns-then-i-slots
returns-then-i-slots c =
    let a = c.args in
    set-slot a.slots.now a.name.now a.e.now a.at c.if-e-ne-TOPIC_FREEZE.false c.slot_of-i.ensures c.slot_value.ensures

pub returns-else-i-slots : goal.returns-else-i-slots
returns-else-i-slots c =
    let a = c.args in
    other_scope a.slots.now a.name.now a.e.now a.at c.if-e-ne-TOPIC_FREEZE.false c.slot_of-i.ensures c.if-i-slots.false

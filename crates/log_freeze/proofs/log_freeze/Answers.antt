-- `log_freeze::log_freeze` meets its contract.
use mathlib.Core.Path.{◌≡◌, refl, sym, ap, subst, ◌∙◌}
use Rattle.model.specs.Answers.{replied}
use Rattle.model.specs.Shape.{string_limit, text_fault}
use Rattle.lookup_freezes.proofs.Names.{name_fits}
use Rattle.log_freeze.specs.Slots.{PassAs, Noted}
use Rattle.log_freeze.proofs.Answers.{name_refused, record-refused, all_right}
use Rattle.log_freeze.proofs.log_freeze.Goals as goal

pub returns-then-f-ne0 : goal.returns-then-f-ne0
returns-then-f-ne0 c =
    let the_whole = name_refused _ _ _ c.text_fault-f.ensures c.if-f-ne0.true in record { result_value = the_whole.0; out_after = the_whole.1 }

pub note_all-requires : goal.note_all-requires
note_all-requires c =
    let right : 0 ≡ text_fault string_limit c.args.name.now = sym c.if-f-ne0.false ∙ c.text_fault-f.ensures in
    (refl, name_fits _ right)

pub emit_noted-requires : goal.emit_noted-requires
emit_noted-requires c =
    let right : 0 ≡ text_fault string_limit c.args.name.now = sym c.if-f-ne0.false ∙ c.text_fault-f.ensures in
    let noted : (let a = c.args in Noted a.run.now a.name.now c.note_all.new.slots) = subst (PassAs _ _ c.note_all.new.slots) c.in-Done.is c.note_all.ensures in
    (noted, c.note_all.auto.slots, name_fits _ right)

pub returns-in-Stopped : goal.returns-in-Stopped
returns-in-Stopped c =
    let right : 0 ≡ text_fault string_limit c.args.name.now = sym c.if-f-ne0.false ∙ c.text_fault-f.ensures in
    let the_whole = record-refused _ _ _ right (subst (PassAs _ _ c.note_all.new.slots) c.in-Stopped.is c.note_all.ensures) in record { result_value = the_whole.0; out_after = the_whole.1 }

pub returns-in-Used : goal.returns-in-Used
returns-in-Used c =
    let right : 0 ≡ text_fault string_limit c.args.name.now = sym c.if-f-ne0.false ∙ c.text_fault-f.ensures in
    let noted : (let a = c.args in Noted a.run.now a.name.now c.note_all.new.slots) = subst (PassAs _ _ c.note_all.new.slots) c.in-Done.is c.note_all.ensures in
    let w = c.emit_noted.ensures in
    let the_whole = all_right _ _ _ right noted.checks (ap replied (sym c.in-Used.is) ∙ w.result_value, w.out_after) in record { result_value = the_whole.0; out_after = the_whole.1 }

pub returns-in-Refused : goal.returns-in-Refused
returns-in-Refused c =
    let right : 0 ≡ text_fault string_limit c.args.name.now = sym c.if-f-ne0.false ∙ c.text_fault-f.ensures in
    let noted : (let a = c.args in Noted a.run.now a.name.now c.note_all.new.slots) = subst (PassAs _ _ c.note_all.new.slots) c.in-Done.is c.note_all.ensures in
    let w = c.emit_noted.ensures in
    let the_whole = all_right _ _ _ right noted.checks (ap replied (sym c.in-Refused.is) ∙ w.result_value, w.out_after) in record { result_value = the_whole.0; out_after = the_whole.1 }

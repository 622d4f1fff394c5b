-- `restore::next_record` meets its contract: what Read behind the log offset and the step over the record's bytes say.
use mathlib.Core.Path.{◌≡◌, subst}
use mathlib.Core.List.{[], ◌∷◌}
use native.Mathlib.Omega.{arith}
use Rattle.model.specs.Number.{AreBytes}
use Rattle.model.specs.Shape.{logged}
use Rattle.model.specs.Record.{read}
use Rattle.model.specs.Reply.{accepted}
use Rattle.keys.proofs.Keys.{known_bytes}
use Rattle.records.specs.Answers.{got_reply}
use Rattle.find.proofs.Logged.{record-length, record-logged}
use Rattle.restore.specs.Restore.{InsideAs}
use Rattle.restore.proofs.Restoring.{next_unread, next-refused, next-moved}
use Rattle.restore.proofs.next_record.Goals as goal

pub slice_bounds-step-end : goal.slice_bounds-step-end
slice_bounds-step-end c =
    let bytes_in : AreBytes c.args.input.now = known_bytes c.args.input.now (λ i. omega (arith, c.type_inv.input i)) in
    let used : accepted (c.in-Used.n ∷ []) ≡ got_reply (read logged c.args.input.now) = subst (InsideAs c.args.input.now) c.in-Used.is c.read_inside.ensures in
    record-length c.args.input.now bytes_in used

pub step-requires : goal.step-requires
step-requires c =
    let bytes_in : AreBytes c.args.input.now = known_bytes c.args.input.now (λ i. omega (arith, c.type_inv.input i)) in
    let used : accepted (c.in-Used.n ∷ []) ≡ got_reply (read logged c.args.input.now) = subst (InsideAs c.args.input.now) c.in-Used.is c.read_inside.ensures in
    let p = c.requires in
    (p.0, record-logged _ bytes_in used, p.1, p.2, p.3)

pub returns-in-Refused : goal.returns-in-Refused
returns-in-Refused c =
    let a = c.args in next_unread a.w.now a.state a.capacity a.input.now (subst (InsideAs a.input.now) c.in-Refused.is c.read_inside.ensures)

pub returns-in-Refused-step : goal.returns-in-Refused-step
returns-in-Refused-step c =
    let bytes_in : AreBytes c.args.input.now = known_bytes c.args.input.now (λ i. omega (arith, c.type_inv.input i)) in
    let used : accepted (c.in-Used.n ∷ []) ≡ got_reply (read logged c.args.input.now) = subst (InsideAs c.args.input.now) c.in-Used.is c.read_inside.ensures in
    let a = c.args in
    next-refused a.w.now a.state a.capacity a.input.now bytes_in used c.step.new.w _ c.step.ensures c.in-Refused-step.is

pub returns-in-Moved : goal.returns-in-Moved
returns-in-Moved c =
    let bytes_in : AreBytes c.args.input.now = known_bytes c.args.input.now (λ i. omega (arith, c.type_inv.input i)) in
    let used : accepted (c.in-Used.n ∷ []) ≡ got_reply (read logged c.args.input.now) = subst (InsideAs c.args.input.now) c.in-Used.is c.read_inside.ensures in
    let a = c.args in
    next-moved a.w.now a.state a.capacity a.input.now bytes_in used c.step.new.w _ c.step.ensures c.in-Moved.is

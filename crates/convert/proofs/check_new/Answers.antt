-- `convert::check_new` meets its contract, exit by exit.
use mathlib.Core.Path.{◌≡◌, sym, ap, ◌∙◌}
use mathlib.Core.List.{[], ◌∷◌}
use native.Mathlib.Omega.{arith}
use Rattle.model.specs.Number.{AreBytes}
use Rattle.model.specs.Shape.{framed}
use Rattle.model.specs.Record.{read}
use Rattle.model.specs.Reply.{accepted}
use Rattle.model.specs.Answers.{replied}
use Rattle.keys.proofs.Keys.{known_bytes}
use Rattle.records.specs.Answers.{got_reply}
use Rattle.convert.proofs.Checking.{start_empty, start_unread, start_fits, start_other, start_offset_lem}
use Rattle.convert.proofs.check_new.Goals as goal

pub returns-then-run-eq0 : goal.returns-then-run-eq0
returns-then-run-eq0 c = start_empty _ c.if-run-eq0.true

pub returns-then-run-ne-LOG_OFFSET : goal.returns-then-run-ne-LOG_OFFSET
returns-then-run-ne-LOG_OFFSET c =
    let bytes_in : AreBytes c.args.run.now = known_bytes c.args.run.now (λ i. omega (arith, c.type_inv.run i)) in
    let used : accepted (c.in-Used.n ∷ []) ≡ got_reply (read framed c.args.run.now) = ap replied (sym c.in-Used.is) ∙ c.read_from.ensures in
    start_other _ bytes_in used c.if-run-ne-LOG_OFFSET.true

pub check_run-requires : goal.check_run-requires
check_run-requires c =
    let bytes_in : AreBytes c.args.run.now = known_bytes c.args.run.now (λ i. omega (arith, c.type_inv.run i)) in
    let used : accepted (c.in-Used.n ∷ []) ≡ got_reply (read framed c.args.run.now) = ap replied (sym c.in-Used.is) ∙ c.read_from.ensures in
    (c.requires, start_fits _ bytes_in used)

pub returns-in-Refused : goal.returns-in-Refused
returns-in-Refused c =
    start_unread _ c.if-run-eq0.false (ap replied (sym c.in-Refused.is) ∙ c.read_from.ensures)

pub returns-else-run-ne-LOG_OFFSET : goal.returns-else-run-ne-LOG_OFFSET
returns-else-run-ne-LOG_OFFSET c =
    let bytes_in : AreBytes c.args.run.now = known_bytes c.args.run.now (λ i. omega (arith, c.type_inv.run i)) in
    let used : accepted (c.in-Used.n ∷ []) ≡ got_reply (read framed c.args.run.now) = ap replied (sym c.in-Used.is) ∙ c.read_from.ensures in
    start_offset_lem _ bytes_in used c.if-run-ne-LOG_OFFSET.false c.check_run.ensures

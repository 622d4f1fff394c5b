-- `restore::read_inside` meets its contract, exit by exit.
use mathlib.Core.Path.{◌≡◌, sym, ap, ◌∙◌}
use mathlib.Core.List.{[], ◌∷◌}
use native.Mathlib.Omega.{arith}
use Rattle.model.specs.Number.{AreBytes}
use Rattle.model.specs.Record.{read_of}
use Rattle.model.specs.Reply.{accepted}
use Rattle.model.specs.Answers.{replied}
use Rattle.keys.proofs.Keys.{known_bytes}
use Rattle.restore.proofs.Framed.{first_is_lem, inside_unread, inside_offset, inside_other}
use Rattle.restore.proofs.read_inside.Goals as goal

pub bounds-input-0 : goal.bounds-input-0
bounds-input-0 c =
    let bytes_in : AreBytes c.args.input.now = known_bytes c.args.input.now (λ i. omega (arith, c.shared_slice_known-1.given i)) in
    let used : accepted (c.in-Used.n ∷ []) ≡ read_of c.args.input.now = ap replied (sym c.in-Used.is) ∙ c.read.ensures.result_value in
    first_is_lem c.args.input.now bytes_in used

pub returns-then-input-eq-LOG_OFFSET : goal.returns-then-input-eq-LOG_OFFSET
returns-then-input-eq-LOG_OFFSET c =
    let bytes_in : AreBytes c.args.input.now = known_bytes c.args.input.now (λ i. omega (arith, c.shared_slice_known-1.given i)) in
    let used : accepted (c.in-Used.n ∷ []) ≡ read_of c.args.input.now = ap replied (sym c.in-Used.is) ∙ c.read.ensures.result_value in
    inside_offset c.args.input.now bytes_in used c.if-input-eq-LOG_OFFSET.true

pub returns-in-Refused : goal.returns-in-Refused
returns-in-Refused c = inside_unread _ (ap replied (sym c.in-Refused.is) ∙ c.read.ensures.result_value)

pub returns-else-input-eq-LOG_OFFSET : goal.returns-else-input-eq-LOG_OFFSET
returns-else-input-eq-LOG_OFFSET c =
    let bytes_in : AreBytes c.args.input.now = known_bytes c.args.input.now (λ i. omega (arith, c.shared_slice_known-1.given i)) in
    let used : accepted (c.in-Used.n ∷ []) ≡ read_of c.args.input.now = ap replied (sym c.in-Used.is) ∙ c.read.ensures.result_value in
    inside_other c.args.input.now bytes_in used c.if-input-eq-LOG_OFFSET.false

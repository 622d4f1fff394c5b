-- `restore::begin` meets its contract, exit by exit.
use mathlib.Core.Path.{◌≡◌, sym, ap, ◌∙◌}
use mathlib.Core.List.{[], ◌∷◌}
use native.Mathlib.Omega.{arith}
use Rattle.model.specs.Number.{AreBytes}
use Rattle.model.specs.Record.{read_of}
use Rattle.model.specs.Reply.{accepted}
use Rattle.model.specs.Answers.{replied}
use Rattle.keys.proofs.Keys.{known_bytes}
use Rattle.restore.proofs.Framed.{run_empty, begun_unread, begun-length, begun_other, number_fits, begun-at}
use Rattle.restore.proofs.begin.Goals as goal

pub returns-then-input-eq0 : goal.returns-then-input-eq0
returns-then-input-eq0 c = λ capacity. run_empty capacity _ c.if-input-eq0.true

pub returns-then-input-ne-LOG_OFFSET : goal.returns-then-input-ne-LOG_OFFSET
returns-then-input-ne-LOG_OFFSET c =
    let bytes_in : AreBytes c.args.input.now = known_bytes c.args.input.now (λ i. omega (arith, c.shared_slice_known-1.given i)) in
    let used : accepted (c.in-Used.n ∷ []) ≡ read_of c.args.input.now = ap replied (sym c.in-Used.is) ∙ c.read.ensures.result_value in
    begun_other c.args.input.now bytes_in used c.if-input-ne-LOG_OFFSET.true

pub slice_bounds-number_at-end : goal.slice_bounds-number_at-end
slice_bounds-number_at-end c =
    let bytes_in : AreBytes c.args.input.now = known_bytes c.args.input.now (λ i. omega (arith, c.shared_slice_known-1.given i)) in
    let used : accepted (c.in-Used.n ∷ []) ≡ read_of c.args.input.now = ap replied (sym c.in-Used.is) ∙ c.read.ensures.result_value in
    begun-length c.args.input.now bytes_in used

pub number_at-requires : goal.number_at-requires
number_at-requires c =
    let bytes_in : AreBytes c.args.input.now = known_bytes c.args.input.now (λ i. omega (arith, c.shared_slice_known-1.given i)) in
    let used : accepted (c.in-Used.n ∷ []) ≡ read_of c.args.input.now = ap replied (sym c.in-Used.is) ∙ c.read.ensures.result_value in
    number_fits c.args.input.now bytes_in used c.if-input-ne-LOG_OFFSET.false

pub returns-in-Refused : goal.returns-in-Refused
returns-in-Refused c =
    begun_unread _ c.if-input-eq0.false (ap replied (sym c.in-Refused.is) ∙ c.read.ensures.result_value)

pub returns-else-input-ne-LOG_OFFSET : goal.returns-else-input-ne-LOG_OFFSET
returns-else-input-ne-LOG_OFFSET c =
    let bytes_in : AreBytes c.args.input.now = known_bytes c.args.input.now (λ i. omega (arith, c.shared_slice_known-1.given i)) in
    let used : accepted (c.in-Used.n ∷ []) ≡ read_of c.args.input.now = ap replied (sym c.in-Used.is) ∙ c.read.ensures.result_value in
    begun-at c.args.input.now bytes_in used c.if-input-ne-LOG_OFFSET.false c.number_at.ensures

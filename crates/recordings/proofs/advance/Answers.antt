-- `recordings::advance` meets its contract: the run has ended, or what Read and Apply say of its next record.
use mathlib.Core.Path.{◌≡◌, sym, ap, ◌∙◌}
use mathlib.Core.List.{[], ◌∷◌}
use native.Mathlib.Omega.{arith}
use Rattle.model.specs.Number.{AreBytes}
use Rattle.model.specs.Shape.{logged}
use Rattle.model.specs.Record.{read}
use Rattle.model.specs.Reply.{accepted}
use Rattle.model.specs.Answers.{replied}
use Rattle.keys.proofs.Keys.{known_bytes}
use Rattle.records.specs.Answers.{got_reply}
use Rattle.find.proofs.Logged.{record-length, record-logged}
use Rattle.recordings.proofs.Advances.{stands_ended, stands_unread, stands-refused, moves}
use Rattle.recordings.proofs.advance.Goals as goal

pub returns-then-run-eq0 : goal.returns-then-run-eq0
returns-then-run-eq0 c = stands_ended c.args.image.now c.args.offset c.args.run.now c.if-run-eq0.true

pub slice_bounds-apply_later-end : goal.slice_bounds-apply_later-end
slice_bounds-apply_later-end c =
    let bytes_in : AreBytes c.args.run.now = known_bytes c.args.run.now (λ i. omega (arith, c.type_inv.run i)) in
    let used : accepted (c.in-Used.n ∷ []) ≡ got_reply (read logged c.args.run.now) = ap replied (sym c.in-Used.is) ∙ c.read_logged.ensures in
    record-length c.args.run.now bytes_in used

pub apply_later-number-requires : goal.apply_later-number-requires
apply_later-number-requires c =
    let bytes_in : AreBytes c.args.run.now = known_bytes c.args.run.now (λ i. omega (arith, c.type_inv.run i)) in
    let used : accepted (c.in-Used.n ∷ []) ≡ got_reply (read logged c.args.run.now) = ap replied (sym c.in-Used.is) ∙ c.read_logged.ensures in
    (c.requires.is, record-logged c.args.run.now bytes_in used)

pub returns-then-number-ne0 : goal.returns-then-number-ne0
returns-then-number-ne0 c =
    let bytes_in : AreBytes c.args.run.now = known_bytes c.args.run.now (λ i. omega (arith, c.type_inv.run i)) in
    let used : accepted (c.in-Used.n ∷ []) ≡ got_reply (read logged c.args.run.now) = ap replied (sym c.in-Used.is) ∙ c.read_logged.ensures in
    stands-refused c.args.image.now c.args.offset c.requires (omega (arith, c.ranges)) c.args.run.now bytes_in used
    (c.apply_later-number.ensures.result_value, c.apply_later-number.ensures.image_after) c.if-number-ne0.true

pub returns-in-Refused : goal.returns-in-Refused
returns-in-Refused c =
    stands_unread c.args.image.now c.args.offset c.args.run.now c.if-run-eq0.false
    (ap replied (sym c.in-Refused.is) ∙ c.read_logged.ensures)

pub returns-else-number-ne0 : goal.returns-else-number-ne0
returns-else-number-ne0 c =
    let bytes_in : AreBytes c.args.run.now = known_bytes c.args.run.now (λ i. omega (arith, c.type_inv.run i)) in
    let used : accepted (c.in-Used.n ∷ []) ≡ got_reply (read logged c.args.run.now) = ap replied (sym c.in-Used.is) ∙ c.read_logged.ensures in
    moves c.args.image.now c.args.offset c.requires (omega (arith, c.ranges)) c.args.run.now bytes_in used
    (c.apply_later-number.ensures.result_value, c.apply_later-number.ensures.image_after) c.if-number-ne0.false

-- `recordings::advance_both` meets its contract: one try serves both where images and records are equal bytes.
use mathlib.Core.Path.{◌≡◌, sym, ap, ◌∙◌}
use mathlib.Core.List.{[], ◌∷◌}
use native.Mathlib.Omega.{arith}
use lib.ListN.{length}
use lib.Seq.{length-take-le}
use Rattle.model.specs.Number.{AreBytes}
use Rattle.model.specs.Shape.{logged}
use Rattle.model.specs.Record.{read}
use Rattle.model.specs.Reply.{accepted}
use Rattle.model.specs.Answers.{replied}
use Rattle.keys.proofs.Keys.{known_bytes}
use Rattle.records.specs.Answers.{got_reply}
use Rattle.find.proofs.Logged.{record-length, record-logged}
use Rattle.recordings.proofs.Copies.{copied}
use Rattle.recordings.proofs.Advances.{stays_put, moves}
use Rattle.recordings.proofs.Turning.{both_moved}
use Rattle.recordings.proofs.advance_both.Goals as goal

pub slice_bounds-same-end : goal.slice_bounds-same-end
slice_bounds-same-end c =
    let bytes_in : AreBytes c.args.one.now = known_bytes c.args.one.now (λ i. omega (arith, c.type_inv.one i)) in
    let used : accepted (c.in-Used.n ∷ []) ≡ got_reply (read logged c.args.one.now) = ap replied (sym c.in-Used.is) ∙ c.read_logged.ensures in
    record-length c.args.one.now bytes_in used

pub slice_bounds-same-end-in-Used : goal.slice_bounds-same-end-in-Used
slice_bounds-same-end-in-Used c = sym (length-take-le _ _ c.if-other-n.false)

pub slice_bounds-apply_later-end : goal.slice_bounds-apply_later-end
slice_bounds-apply_later-end c =
    let bytes_in : AreBytes c.args.one.now = known_bytes c.args.one.now (λ i. omega (arith, c.type_inv.one i)) in
    let used : accepted (c.in-Used.n ∷ []) ≡ got_reply (read logged c.args.one.now) = ap replied (sym c.in-Used.is) ∙ c.read_logged.ensures in
    record-length c.args.one.now bytes_in used

pub apply_later-requires : goal.apply_later-requires
apply_later-requires c =
    let bytes_in : AreBytes c.args.one.now = known_bytes c.args.one.now (λ i. omega (arith, c.type_inv.one i)) in
    let used : accepted (c.in-Used.n ∷ []) ≡ got_reply (read logged c.args.one.now) = ap replied (sym c.in-Used.is) ∙ c.read_logged.ensures in
    (c.requires.0.is, record-logged c.args.one.now bytes_in used)

pub returns-then-apply_later-ne0 : goal.returns-then-apply_later-ne0
returns-then-apply_later-ne0 c =
    let bytes_in : AreBytes c.args.one.now = known_bytes c.args.one.now (λ i. omega (arith, c.type_inv.one i)) in
    let used : accepted (c.in-Used.n ∷ []) ≡ got_reply (read logged c.args.one.now) = ap replied (sym c.in-Used.is) ∙ c.read_logged.ensures in (
      stays_put c.args.first.now c.args.offset c.requires.0 (omega (arith, c.ranges)) c.args.one.now bytes_in used
          (c.apply_later.ensures.result_value, c.apply_later.ensures.image_after) c.if-apply_later-ne0.true,
      c.requires.1,
    )

pub copy-requires : goal.copy-requires
copy-requires c =
    omega (arith, c.apply_later.auto, ap length c.requires.1)

pub returns-else-apply_later-ne0 : goal.returns-else-apply_later-ne0
returns-else-apply_later-ne0 c =
    let bytes_in : AreBytes c.args.one.now = known_bytes c.args.one.now (λ i. omega (arith, c.type_inv.one i)) in
    let used : accepted (c.in-Used.n ∷ []) ≡ got_reply (read logged c.args.one.now) = ap replied (sym c.in-Used.is) ∙ c.read_logged.ensures in
    let moved =
    moves c.args.first.now c.args.offset c.requires.0 (omega (arith, c.ranges)) c.args.one.now bytes_in used
    (c.apply_later.ensures.result_value, c.apply_later.ensures.image_after) c.if-apply_later-ne0.false in
    both_moved c.args.first.now c.args.offset c.args.one.now c.args.other.now c.same.ensures c.if-not-same.false-raw moved
    (copied c.args.second.now _ (moved.long ∙ ap length (sym c.requires.1)) c.copy.ensures)

use Prim.Native.Nat.{◌-◌}
use mathlib.Core.Path.{◌≡◌, sym, ap, ◌∙◌}
use mathlib.Core.List.{[], ◌∷◌}
use native.Mathlib.Omega.{arith}
use lib.ListN.{length, take, drop}
use Rattle.model.specs.Number.{AreBytes}
use Rattle.model.specs.Record.{read}
use Rattle.model.specs.Reply.{accepted}
use Rattle.model.specs.Answers.{replied}
use Rattle.keys.proofs.Keys.{known_bytes}
use Rattle.records.specs.Answers.{got_reply, source_of}
use Rattle.convert.proofs.Checking.{reached-start, stopped_unread, stopped-offset, all_passes, turn_places, turned}
use Rattle.convert.proofs.check_run.Goals as goal

pub loop-at-init : goal.loop-at-init
loop-at-init c = reached-start _ c.args.run.now c.args.start c.requires.1

pub slice_bounds-read_from-count : goal.slice_bounds-read_from-count
slice_bounds-read_from-count c = c.loop-at.invariant.within

pub slice_bounds-read_from-start : goal.slice_bounds-read_from-start
slice_bounds-read_from-start c = omega (arith, c.loop-at.invariant.within)

pub slice_bounds-read_from-end : goal.slice_bounds-read_from-end
slice_bounds-read_from-end c = omega (arith, c.loop-at.invariant.within)

pub read_from-requires : goal.read_from-requires
read_from-requires c = c.requires.0

pub returns-in-Refused : goal.returns-in-Refused
returns-in-Refused c =
    stopped_unread _ c.args.run.now c.loop-at.invariant c.loop-at-test.true (ap replied (sym c.in-Refused.is) ∙ c.read_from.ensures)

pub returns-then-run-at-eq-LOG_OFFSET : goal.returns-then-run-at-eq-LOG_OFFSET
returns-then-run-at-eq-LOG_OFFSET c =
    let bytes_in : AreBytes c.args.run.now = known_bytes c.args.run.now (λ i. omega (arith, c.type_inv.run i)) in
    let used : (let a = c.args in accepted (c.in-Used.n ∷ []) ≡ got_reply (read (source_of a.source) (take (length a.run.now - c.loop-at.at) (drop c.loop-at.at a.run.now)))) = ap replied (sym c.in-Used.is) ∙ c.read_from.ensures in
    stopped-offset _ c.args.run.now c.loop-at.invariant bytes_in used c.if-run-at-eq-LOG_OFFSET.true

pub overflow_add-at : goal.overflow_add-at
overflow_add-at c =
    let bytes_in : AreBytes c.args.run.now = known_bytes c.args.run.now (λ i. omega (arith, c.type_inv.run i)) in
    let used : (let a = c.args in accepted (c.in-Used.n ∷ []) ≡ got_reply (read (source_of a.source) (take (length a.run.now - c.loop-at.at) (drop c.loop-at.at a.run.now)))) = ap replied (sym c.in-Used.is) ∙ c.read_from.ensures in
    omega (arith, turn_places _ c.args.run.now c.loop-at.invariant bytes_in used, c.ranges)

pub loop-at-smaller : goal.loop-at-smaller
loop-at-smaller c =
    let bytes_in : AreBytes c.args.run.now = known_bytes c.args.run.now (λ i. omega (arith, c.type_inv.run i)) in
    let used : (let a = c.args in accepted (c.in-Used.n ∷ []) ≡ got_reply (read (source_of a.source) (take (length a.run.now - c.loop-at.at) (drop c.loop-at.at a.run.now)))) = ap replied (sym c.in-Used.is) ∙ c.read_from.ensures in
    omega (arith, turn_places _ c.args.run.now c.loop-at.invariant bytes_in used)

pub loop-at-preserved : goal.loop-at-preserved
loop-at-preserved c =
    let bytes_in : AreBytes c.args.run.now = known_bytes c.args.run.now (λ i. omega (arith, c.type_inv.run i)) in
    let used : (let a = c.args in accepted (c.in-Used.n ∷ []) ≡ got_reply (read (source_of a.source) (take (length a.run.now - c.loop-at.at) (drop c.loop-at.at a.run.now)))) = ap replied (sym c.in-Used.is) ∙ c.read_from.ensures in
    turned _ c.args.run.now c.loop-at.invariant bytes_in used c.if-run-at-eq-LOG_OFFSET.false

pub returns : goal.returns
returns c = all_passes _ c.args.run.now c.loop-at.invariant c.loop-at-test.false

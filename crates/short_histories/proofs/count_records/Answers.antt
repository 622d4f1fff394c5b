use Prim.Native.Nat.{◌-◌}
use mathlib.Core.Path.{◌≡◌, sym, ap, ◌∙◌}
use mathlib.Core.List.{[], ◌∷◌}
use native.Mathlib.Omega.{arith}
use lib.ListN.{length, take, drop}
use Rattle.model.specs.Shape.{framed}
use Rattle.model.specs.Record.{read}
use Rattle.model.specs.Reply.{accepted}
use Rattle.model.specs.Answers.{replied}
use Rattle.records.specs.Answers.{got_reply}
use Rattle.short_histories.proofs.Counting.{reached-start, ninth, all_read, stopped, turn_places, turned}
use Rattle.short_histories.proofs.count_records.Goals as goal

pub loop-at-init : goal.loop-at-init
loop-at-init c = reached-start c.args.s.now

pub returns-then-n-eq-RECORD_LIMIT : goal.returns-then-n-eq-RECORD_LIMIT
returns-then-n-eq-RECORD_LIMIT c = ninth c.args.s.now c.loop-at.invariant c.loop-at-test.true c.if-n-eq-RECORD_LIMIT.true

pub slice_bounds-read_from-count : goal.slice_bounds-read_from-count
slice_bounds-read_from-count c = c.loop-at.invariant.within

pub slice_bounds-read_from-start : goal.slice_bounds-read_from-start
slice_bounds-read_from-start c = omega (arith, c.loop-at.invariant.within)

pub slice_bounds-read_from-end : goal.slice_bounds-read_from-end
slice_bounds-read_from-end c = omega (arith, c.loop-at.invariant.within)

pub read_from-requires : goal.read_from-requires
read_from-requires c = c.requires

pub returns-in-Refused : goal.returns-in-Refused
returns-in-Refused c =
    stopped c.args.s.now c.loop-at.invariant c.if-n-eq-RECORD_LIMIT.false c.loop-at-test.true (ap replied (sym c.in-Refused.is) ∙ c.read_from.ensures)

pub overflow_add-at : goal.overflow_add-at
overflow_add-at c =
    let accepts : (let s = c.args.s.now in accepted (c.in-Used.used ∷ []) ≡ got_reply (read framed (take (length s - c.loop-at.at) (drop c.loop-at.at s)))) = ap replied (sym c.in-Used.is) ∙ c.read_from.ensures in
    omega (arith, turn_places c.args.s.now c.loop-at.invariant c.if-n-eq-RECORD_LIMIT.false accepts)

pub overflow_add-n : goal.overflow_add-n
overflow_add-n c = omega (arith, c.loop-at.invariant.few)

pub loop-at-smaller : goal.loop-at-smaller
loop-at-smaller c =
    let accepts : (let s = c.args.s.now in accepted (c.in-Used.used ∷ []) ≡ got_reply (read framed (take (length s - c.loop-at.at) (drop c.loop-at.at s)))) = ap replied (sym c.in-Used.is) ∙ c.read_from.ensures in
    omega (arith, turn_places c.args.s.now c.loop-at.invariant c.if-n-eq-RECORD_LIMIT.false accepts)

pub loop-at-preserved : goal.loop-at-preserved
loop-at-preserved c =
    let accepts : (let s = c.args.s.now in accepted (c.in-Used.used ∷ []) ≡ got_reply (read framed (take (length s - c.loop-at.at) (drop c.loop-at.at s)))) = ap replied (sym c.in-Used.is) ∙ c.read_from.ensures in
    turned c.args.s.now c.loop-at.invariant c.if-n-eq-RECORD_LIMIT.false accepts

pub returns : goal.returns
returns c = all_read c.args.s.now c.loop-at.invariant c.loop-at-test.false

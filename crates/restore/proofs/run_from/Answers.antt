use Prim.Native.Nat.{◌+◌, ◌≤◌, ◌<◌}
use mathlib.Core.Path.{refl}
use native.Mathlib.Omega.{arith}
use lib.ListN.{length}
use Rattle.restore.proofs.Restoring.{turn_places, turned, ran_unread, ran_refused, ran_done}
use Rattle.restore.proofs.run_from.Goals as goal

pub loop-at-init : goal.loop-at-init
loop-at-init c = (c.requires.0, refl, refl, refl)

pub slice_bounds-next_record-count : goal.slice_bounds-next_record-count
slice_bounds-next_record-count c = omega (arith, c.loop-at.invariant.0.within)

pub slice_bounds-next_record-start : goal.slice_bounds-next_record-start
slice_bounds-next_record-start c = omega (arith, c.loop-at.invariant.0.within)

pub slice_bounds-next_record-end : goal.slice_bounds-next_record-end
slice_bounds-next_record-end c = omega (arith, c.loop-at.invariant.0.within)

pub next_record-requires : goal.next_record-requires
next_record-requires c =
    let i = c.loop-at.invariant in
    (i.0.holding, omega (arith, i.1, c.requires.1), omega (arith, i.2, c.requires.2), omega (arith, i.3, c.requires.3))

pub overflow_add-at : goal.overflow_add-at
overflow_add-at c =
    let places : (let n = c.in-Moved.n in (0 < n) × (c.loop-at.at + n ≤ length c.args.input.now)) = let a = c.args in turn_places a.capacity a.input.now _ _ c.loop-at.state c.loop-at.invariant.0 c.next_record.new.w _ c.next_record.ensures c.in-Moved.is in
    omega (arith, places, c.ranges)

pub loop-at-smaller : goal.loop-at-smaller
loop-at-smaller c =
    let places : (let n = c.in-Moved.n in (0 < n) × (c.loop-at.at + n ≤ length c.args.input.now)) = let a = c.args in turn_places a.capacity a.input.now _ _ c.loop-at.state c.loop-at.invariant.0 c.next_record.new.w _ c.next_record.ensures c.in-Moved.is in
    omega (arith, places)

pub loop-at-preserved : goal.loop-at-preserved
loop-at-preserved c =
    let a = c.args in
    let next = c.next_record in (
      turned a.capacity a.input.now _ _ c.loop-at.state c.loop-at.invariant.0 next.new.w _ next.ensures c.in-Moved.is,
      omega (arith, c.loop-at.invariant.1, next.auto.w),
      omega (arith, c.loop-at.invariant.2, next.auto.a),
      omega (arith, c.loop-at.invariant.3, next.auto.b),
    )

pub shape_of-w-in-Unread : goal.shape_of-w-in-Unread
shape_of-w-in-Unread c =
    omega (arith, c.loop-at.invariant.1, c.next_record.auto.w)

pub shape_of-a-in-Unread : goal.shape_of-a-in-Unread
shape_of-a-in-Unread c =
    omega (arith, c.loop-at.invariant.2, c.next_record.auto.a)

pub shape_of-b-in-Unread : goal.shape_of-b-in-Unread
shape_of-b-in-Unread c =
    omega (arith, c.loop-at.invariant.3, c.next_record.auto.b)

pub returns-in-Unread : goal.returns-in-Unread
returns-in-Unread c =
    let a = c.args in
    let next = c.next_record in
    ran_unread a.capacity a.input.now _ _ c.loop-at.state c.loop-at.invariant.0 next.new.w _ next.ensures c.loop-at-test.true c.in-Unread.is

pub shape_of-w-in-Refused : goal.shape_of-w-in-Refused
shape_of-w-in-Refused c =
    omega (arith, c.loop-at.invariant.1, c.next_record.auto.w)

pub shape_of-a-in-Refused : goal.shape_of-a-in-Refused
shape_of-a-in-Refused c =
    omega (arith, c.loop-at.invariant.2, c.next_record.auto.a)

pub shape_of-b-in-Refused : goal.shape_of-b-in-Refused
shape_of-b-in-Refused c =
    omega (arith, c.loop-at.invariant.3, c.next_record.auto.b)

pub returns-in-Refused : goal.returns-in-Refused
returns-in-Refused c =
    let a = c.args in
    let next = c.next_record in
    ran_refused a.capacity a.input.now _ _ c.loop-at.state c.loop-at.invariant.0 next.new.w _ next.ensures c.in-Refused.is

pub shape_of-w : goal.shape_of-w
shape_of-w c = c.loop-at.invariant.1

pub shape_of-a : goal.shape_of-a
shape_of-a c = c.loop-at.invariant.2

pub shape_of-b : goal.shape_of-b
shape_of-b c = c.loop-at.invariant.3

pub returns : goal.returns
returns c =
    let a = c.args in
    ran_done a.capacity a.input.now _ _ c.loop-at.state c.loop-at.invariant.0 c.loop-at-test.false

use native.Mathlib.Omega.{arith}
use Rattle.judge.proofs.Approvals.{Next, next-at, extending_start, all_there, one-missing, one_differs, both_moved}
use Rattle.judge.proofs.proposals.extends.Goals as goal

pub loop-start-init : goal.loop-start-init
loop-start-init c = let p = c.requires in extending_start _ _ p.0 p.1

pub next_value-requires : goal.next_value-requires
next_value-requires c = c.loop-start.invariant.old_inside

pub next_value-requires-in-At : goal.next_value-requires-in-At
next_value-requires-in-At c = c.loop-start.invariant.new_inside

pub slice_bounds-same-count : goal.slice_bounds-same-count
slice_bounds-same-count c =
    let first : (Next c.args.old.now c.loop-start.c 8 c.in-At.start c.in-At.end c.in-At.next) = next-at c.in-At.is c.next_value.ensures in
    first.forward

pub slice_bounds-same-start : goal.slice_bounds-same-start
slice_bounds-same-start c =
    let first : (Next c.args.old.now c.loop-start.c 8 c.in-At.start c.in-At.end c.in-At.next) = next-at c.in-At.is c.next_value.ensures in
    let n = first in omega (arith, n.forward, n.most)

pub slice_bounds-same-end : goal.slice_bounds-same-end
slice_bounds-same-end c =
    let first : (Next c.args.old.now c.loop-start.c 8 c.in-At.start c.in-At.end c.in-At.next) = next-at c.in-At.is c.next_value.ensures in
    let n = first in omega (arith, n.forward, n.most)

pub slice_bounds-same-count-in-At-next_value : goal.slice_bounds-same-count-in-At-next_value
slice_bounds-same-count-in-At-next_value c =
    let second : (Next c.args.new.now c.loop-start.d 8 c.in-At-next_value.from c.in-At-next_value.to c.in-At-next_value.after) = next-at c.in-At-next_value.is c.next_value-in-At.ensures in
    second.forward

pub slice_bounds-same-start-in-At-next_value : goal.slice_bounds-same-start-in-At-next_value
slice_bounds-same-start-in-At-next_value c =
    let second : (Next c.args.new.now c.loop-start.d 8 c.in-At-next_value.from c.in-At-next_value.to c.in-At-next_value.after) = next-at c.in-At-next_value.is c.next_value-in-At.ensures in
    let n = second in omega (arith, n.forward, n.most)

pub slice_bounds-same-end-in-At-next_value : goal.slice_bounds-same-end-in-At-next_value
slice_bounds-same-end-in-At-next_value c =
    let second : (Next c.args.new.now c.loop-start.d 8 c.in-At-next_value.from c.in-At-next_value.to c.in-At-next_value.after) = next-at c.in-At-next_value.is c.next_value-in-At.ensures in
    let n = second in omega (arith, n.forward, n.most)

pub returns-then-not-same : goal.returns-then-not-same
returns-then-not-same c =
    let first : (Next c.args.old.now c.loop-start.c 8 c.in-At.start c.in-At.end c.in-At.next) = next-at c.in-At.is c.next_value.ensures in
    let second : (Next c.args.new.now c.loop-start.d 8 c.in-At-next_value.from c.in-At-next_value.to c.in-At-next_value.after) = next-at c.in-At-next_value.is c.next_value-in-At.ensures in
    one_differs c.loop-start.invariant first second c.same.ensures c.if-not-same.true-raw

pub loop-start-smaller : goal.loop-start-smaller
loop-start-smaller c =
    let first : (Next c.args.old.now c.loop-start.c 8 c.in-At.start c.in-At.end c.in-At.next) = next-at c.in-At.is c.next_value.ensures in
    let n = first in omega (arith, n.onward, n.inside, n.ends)

pub loop-start-preserved : goal.loop-start-preserved
loop-start-preserved c =
    let first : (Next c.args.old.now c.loop-start.c 8 c.in-At.start c.in-At.end c.in-At.next) = next-at c.in-At.is c.next_value.ensures in
    let second : (Next c.args.new.now c.loop-start.d 8 c.in-At-next_value.from c.in-At-next_value.to c.in-At-next_value.after) = next-at c.in-At-next_value.is c.next_value-in-At.ensures in
    both_moved c.loop-start.invariant first second c.same.ensures c.if-not-same.false-raw

pub returns-in-Last-next_value : goal.returns-in-Last-next_value
returns-in-Last-next_value c =
    let first : (Next c.args.old.now c.loop-start.c 8 c.in-At.start c.in-At.end c.in-At.next) = next-at c.in-At.is c.next_value.ensures in
    one-missing c.loop-start.invariant first c.in-Last-next_value.is c.next_value-in-At.ensures

pub returns-in-Last : goal.returns-in-Last
returns-in-Last c = all_there c.loop-start.invariant c.in-Last.is c.next_value.ensures

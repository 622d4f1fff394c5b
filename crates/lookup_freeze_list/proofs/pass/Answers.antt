use mathlib.Core.Path.{ap, ◌∙◌, subst}
use native.Mathlib.Omega.{arith}
use lib.ListN.{length}
use Rattle.model.specs.Number.{AreBytes}
use Rattle.keys.proofs.Keys.{known_bytes}
use Rattle.entries.proofs.Turns.{Stands, stands, ended, not_torn, turn_falls}
use Rattle.image_entries.proofs.Turns.{forward, inside}
use Rattle.image_counts.proofs.Topics.{headed_here}
use Rattle.lookup_freeze_list.specs.Passes.{ScopeAs}
use Rattle.lookup_freeze_list.proofs.Walks.{passing-start, passing-all, room, passing_other, passing_skip, behind-here, passing_on, passing_stop}
use Rattle.lookup_freeze_list.proofs.pass.Goals as goal

pub loop-start-init : goal.loop-start-init
loop-start-init c = let p = c.requires in passing-start _ _ _ _ _ p.0 p.1 p.2

pub bounds-s-start : goal.bounds-s-start
bounds-s-start c =
    let bytes_in : AreBytes c.args.s.now = known_bytes c.args.s.now (λ i. omega (arith, c.shared_slice_known-1.given i)) in
    let entry : (Stands c.args.s.now c.loop-start.c.at c.in-Entry.start c.in-Entry.end c.in-Entry.next) = stands _ bytes_in _ c.loop-start.invariant.entries c.next.ensures c.in-Entry.is in
    let t = entry in omega (arith, inside t, t.first, t.last)

pub loop-start-smaller-then-s-start-ne-TOPIC_FREEZE : goal.loop-start-smaller-then-s-start-ne-TOPIC_FREEZE
loop-start-smaller-then-s-start-ne-TOPIC_FREEZE c =
    let bytes_in : AreBytes c.args.s.now = known_bytes c.args.s.now (λ i. omega (arith, c.shared_slice_known-1.given i)) in
    let entry : (Stands c.args.s.now c.loop-start.c.at c.in-Entry.start c.in-Entry.end c.in-Entry.next) = stands _ bytes_in _ c.loop-start.invariant.entries c.next.ensures c.in-Entry.is in
    turn_falls _ _ _ _ _ entry

pub loop-start-preserved-then-s-start-ne-TOPIC_FREEZE : goal.loop-start-preserved-then-s-start-ne-TOPIC_FREEZE
loop-start-preserved-then-s-start-ne-TOPIC_FREEZE c =
    let bytes_in : AreBytes c.args.s.now = known_bytes c.args.s.now (λ i. omega (arith, c.shared_slice_known-1.given i)) in
    let entry : (Stands c.args.s.now c.loop-start.c.at c.in-Entry.start c.in-Entry.end c.in-Entry.next) = stands _ bytes_in _ c.loop-start.invariant.entries c.next.ensures c.in-Entry.is in
    passing_other c.loop-start.invariant entry c.if-s-start-ne-TOPIC_FREEZE.true

pub overflow_add-index : goal.overflow_add-index
overflow_add-index c =
    let bytes_in : AreBytes c.args.s.now = known_bytes c.args.s.now (λ i. omega (arith, c.shared_slice_known-1.given i)) in
    let entry : (Stands c.args.s.now c.loop-start.c.at c.in-Entry.start c.in-Entry.end c.in-Entry.next) = stands _ bytes_in _ c.loop-start.invariant.entries c.next.ensures c.in-Entry.is in
    omega (arith, room c.loop-start.invariant entry)

pub slice_bounds-has_pattern-count : goal.slice_bounds-has_pattern-count
slice_bounds-has_pattern-count c =
    let bytes_in : AreBytes c.args.s.now = known_bytes c.args.s.now (λ i. omega (arith, c.shared_slice_known-1.given i)) in
    let entry : (Stands c.args.s.now c.loop-start.c.at c.in-Entry.start c.in-Entry.end c.in-Entry.next) = stands _ bytes_in _ c.loop-start.invariant.entries c.next.ensures c.in-Entry.is in
    forward entry

pub slice_bounds-has_pattern-start : goal.slice_bounds-has_pattern-start
slice_bounds-has_pattern-start c =
    let bytes_in : AreBytes c.args.s.now = known_bytes c.args.s.now (λ i. omega (arith, c.shared_slice_known-1.given i)) in
    let entry : (Stands c.args.s.now c.loop-start.c.at c.in-Entry.start c.in-Entry.end c.in-Entry.next) = stands _ bytes_in _ c.loop-start.invariant.entries c.next.ensures c.in-Entry.is in
    let t = entry in omega (arith, forward t, inside t)

pub slice_bounds-has_pattern-end : goal.slice_bounds-has_pattern-end
slice_bounds-has_pattern-end c =
    let bytes_in : AreBytes c.args.s.now = known_bytes c.args.s.now (λ i. omega (arith, c.shared_slice_known-1.given i)) in
    let entry : (Stands c.args.s.now c.loop-start.c.at c.in-Entry.start c.in-Entry.end c.in-Entry.next) = stands _ bytes_in _ c.loop-start.invariant.entries c.next.ensures c.in-Entry.is in
    let t = entry in omega (arith, forward t, inside t)

pub has_pattern-requires : goal.has_pattern-requires
has_pattern-requires c =
    let bytes_in : AreBytes c.args.s.now = known_bytes c.args.s.now (λ i. omega (arith, c.shared_slice_known-1.given i)) in
    let entry : (Stands c.args.s.now c.loop-start.c.at c.in-Entry.start c.in-Entry.end c.in-Entry.next) = stands _ bytes_in _ c.loop-start.invariant.entries c.next.ensures c.in-Entry.is in
    headed_here entry

pub loop-start-smaller-then-not-has_pattern : goal.loop-start-smaller-then-not-has_pattern
loop-start-smaller-then-not-has_pattern c =
    let bytes_in : AreBytes c.args.s.now = known_bytes c.args.s.now (λ i. omega (arith, c.shared_slice_known-1.given i)) in
    let entry : (Stands c.args.s.now c.loop-start.c.at c.in-Entry.start c.in-Entry.end c.in-Entry.next) = stands _ bytes_in _ c.loop-start.invariant.entries c.next.ensures c.in-Entry.is in
    turn_falls _ _ _ _ _ entry

pub loop-start-preserved-then-not-has_pattern : goal.loop-start-preserved-then-not-has_pattern
loop-start-preserved-then-not-has_pattern c =
    let bytes_in : AreBytes c.args.s.now = known_bytes c.args.s.now (λ i. omega (arith, c.shared_slice_known-1.given i)) in
    let entry : (Stands c.args.s.now c.loop-start.c.at c.in-Entry.start c.in-Entry.end c.in-Entry.next) = stands _ bytes_in _ c.loop-start.invariant.entries c.next.ensures c.in-Entry.is in
    passing_skip c.loop-start.invariant entry c.if-s-start-ne-TOPIC_FREEZE.false c.has_pattern.ensures c.if-not-has_pattern.true-raw

pub overflow_add-read : goal.overflow_add-read
overflow_add-read c =
    let bytes_in : AreBytes c.args.s.now = known_bytes c.args.s.now (λ i. omega (arith, c.shared_slice_known-1.given i)) in
    let entry : (Stands c.args.s.now c.loop-start.c.at c.in-Entry.start c.in-Entry.end c.in-Entry.next) = stands _ bytes_in _ c.loop-start.invariant.entries c.next.ensures c.in-Entry.is in
    omega (arith, room c.loop-start.invariant entry)

pub slice_bounds-turn-count : goal.slice_bounds-turn-count
slice_bounds-turn-count c =
    let bytes_in : AreBytes c.args.s.now = known_bytes c.args.s.now (λ i. omega (arith, c.shared_slice_known-1.given i)) in
    let entry : (Stands c.args.s.now c.loop-start.c.at c.in-Entry.start c.in-Entry.end c.in-Entry.next) = stands _ bytes_in _ c.loop-start.invariant.entries c.next.ensures c.in-Entry.is in
    forward entry

pub slice_bounds-turn-start : goal.slice_bounds-turn-start
slice_bounds-turn-start c =
    let bytes_in : AreBytes c.args.s.now = known_bytes c.args.s.now (λ i. omega (arith, c.shared_slice_known-1.given i)) in
    let entry : (Stands c.args.s.now c.loop-start.c.at c.in-Entry.start c.in-Entry.end c.in-Entry.next) = stands _ bytes_in _ c.loop-start.invariant.entries c.next.ensures c.in-Entry.is in
    let t = entry in omega (arith, forward t, inside t)

pub slice_bounds-turn-end : goal.slice_bounds-turn-end
slice_bounds-turn-end c =
    let bytes_in : AreBytes c.args.s.now = known_bytes c.args.s.now (λ i. omega (arith, c.shared_slice_known-1.given i)) in
    let entry : (Stands c.args.s.now c.loop-start.c.at c.in-Entry.start c.in-Entry.end c.in-Entry.next) = stands _ bytes_in _ c.loop-start.invariant.entries c.next.ensures c.in-Entry.is in
    let t = entry in omega (arith, forward t, inside t)

pub turn-requires : goal.turn-requires
turn-requires c =
    let bytes_in : AreBytes c.args.s.now = known_bytes c.args.s.now (λ i. omega (arith, c.shared_slice_known-1.given i)) in
    let entry : (Stands c.args.s.now c.loop-start.c.at c.in-Entry.start c.in-Entry.end c.in-Entry.next) = stands _ bytes_in _ c.loop-start.invariant.entries c.next.ensures c.in-Entry.is in
    let p = c.requires in
    let t = entry in
    (p.2, omega (arith, p.3, c.loop-start.invariant.size), p.4, headed_here t, behind-here c.loop-start.invariant t c.if-s-start-ne-TOPIC_FREEZE.false c.has_pattern.ensures c.if-not-has_pattern.false-raw)

pub shape_of-out-in-Above : goal.shape_of-out-in-Above
shape_of-out-in-Above c =
    ap length (subst (ScopeAs _ _ _ _ _ _ _) c.in-Above.is c.turn.ensures).1 ∙ c.loop-start.invariant.size

pub returns-in-Above : goal.returns-in-Above
returns-in-Above c =
    let bytes_in : AreBytes c.args.s.now = known_bytes c.args.s.now (λ i. omega (arith, c.shared_slice_known-1.given i)) in
    let entry : (Stands c.args.s.now c.loop-start.c.at c.in-Entry.start c.in-Entry.end c.in-Entry.next) = stands _ bytes_in _ c.loop-start.invariant.entries c.next.ensures c.in-Entry.is in
    let p = c.requires in
    let the_whole = passing_stop c.loop-start.invariant entry c.if-s-start-ne-TOPIC_FREEZE.false c.has_pattern.ensures c.if-not-has_pattern.false-raw p.2 p.5
    (subst (ScopeAs _ _ _ _ _ _ _) c.in-Above.is c.turn.ensures) in record { value = the_whole.0; out_after = the_whole.1 }

pub loop-start-smaller : goal.loop-start-smaller
loop-start-smaller c =
    let bytes_in : AreBytes c.args.s.now = known_bytes c.args.s.now (λ i. omega (arith, c.shared_slice_known-1.given i)) in
    let entry : (Stands c.args.s.now c.loop-start.c.at c.in-Entry.start c.in-Entry.end c.in-Entry.next) = stands _ bytes_in _ c.loop-start.invariant.entries c.next.ensures c.in-Entry.is in
    turn_falls _ _ _ _ _ entry

pub loop-start-preserved : goal.loop-start-preserved
loop-start-preserved c =
    let bytes_in : AreBytes c.args.s.now = known_bytes c.args.s.now (λ i. omega (arith, c.shared_slice_known-1.given i)) in
    let entry : (Stands c.args.s.now c.loop-start.c.at c.in-Entry.start c.in-Entry.end c.in-Entry.next) = stands _ bytes_in _ c.loop-start.invariant.entries c.next.ensures c.in-Entry.is in
    passing_on c.loop-start.invariant entry c.if-s-start-ne-TOPIC_FREEZE.false c.has_pattern.ensures c.if-not-has_pattern.false-raw
    (subst (ScopeAs _ _ _ _ _ _ _) c.in-From.is c.turn.ensures)

pub shape_of-out-in-Torn : goal.shape_of-out-in-Torn
shape_of-out-in-Torn c = c.loop-start.invariant.size

pub returns-in-Torn : goal.returns-in-Torn
returns-in-Torn c =
    let bytes_in : AreBytes c.args.s.now = known_bytes c.args.s.now (λ i. omega (arith, c.type_inv.s i)) in
    record {
      value = not_torn _ bytes_in _ c.loop-start.invariant.entries c.next.ensures c.in-Torn.is;
      out_after = not_torn _ bytes_in _ c.loop-start.invariant.entries c.next.ensures c.in-Torn.is;
    }

pub shape_of-out-in-End : goal.shape_of-out-in-End
shape_of-out-in-End c = c.loop-start.invariant.size

pub returns-in-End : goal.returns-in-End
returns-in-End c =
    let bytes_in : AreBytes c.args.s.now = known_bytes c.args.s.now (λ i. omega (arith, c.type_inv.s i)) in
    let h = c.loop-start.invariant in
    let the_whole = passing-all h (ended _ bytes_in _ h.entries c.next.ensures c.in-End.is) in record { value = the_whole.0; out_after = the_whole.1 }

use mathlib.Core.Path.{refl}
use native.Mathlib.Omega.{arith}
use borrow.Author.Tests.{not-true, not-false}
use Rattle.model.specs.Number.{AreBytes}
use Rattle.keys.proofs.Keys.{known_bytes}
use Rattle.entries.proofs.Turns.{Stands, stands, ended, not_torn, turn_falls}
use Rattle.image_counts.proofs.Tallies.{bounds}
use Rattle.image_counts.proofs.Topics.{headed_here}
use Rattle.image_counts.proofs.Merges.{merged_start, left-lent, merged_other, to_fits, merged_topic}
use Rattle.restore_settled.proofs.Merges.{aligned_start, aligned_end, aligned_other, widths_here, aligned_fails, aligned_topic, count_low}
use Rattle.restore_settled.proofs.is_settled.Goals as goal

pub loop-start-init : goal.loop-start-init
loop-start-init c = aligned_start _ (merged_start _ c.requires.0 c.requires.1)

pub bounds-s-start : goal.bounds-s-start
bounds-s-start c =
    let bytes_in : AreBytes c.args.s.now = known_bytes c.args.s.now (λ i. omega (arith, c.shared_slice_known-1.given i)) in
    let entry : Stands c.args.s.now c.loop-start.c.at c.in-Entry.start c.in-Entry.end c.in-Entry.next = stands _ bytes_in _ c.loop-start.invariant.merged.entries c.next.ensures c.in-Entry.is in
    let t = entry in omega (arith, t.first, t.last, t.entry.fits)

pub loop-start-smaller-then-s-start-ne-TOPIC : goal.loop-start-smaller-then-s-start-ne-TOPIC
loop-start-smaller-then-s-start-ne-TOPIC c =
    let bytes_in : AreBytes c.args.s.now = known_bytes c.args.s.now (λ i. omega (arith, c.shared_slice_known-1.given i)) in
    let entry : Stands c.args.s.now c.loop-start.c.at c.in-Entry.start c.in-Entry.end c.in-Entry.next = stands _ bytes_in _ c.loop-start.invariant.merged.entries c.next.ensures c.in-Entry.is in
    turn_falls _ _ _ _ _ entry

pub loop-start-preserved-then-s-start-ne-TOPIC : goal.loop-start-preserved-then-s-start-ne-TOPIC
loop-start-preserved-then-s-start-ne-TOPIC c =
    let bytes_in : AreBytes c.args.s.now = known_bytes c.args.s.now (λ i. omega (arith, c.shared_slice_known-1.given i)) in
    let entry : Stands c.args.s.now c.loop-start.c.at c.in-Entry.start c.in-Entry.end c.in-Entry.next = stands _ bytes_in _ c.loop-start.invariant.merged.entries c.next.ensures c.in-Entry.is in
    aligned_other c.loop-start.invariant entry c.if-s-start-ne-TOPIC.true (merged_other c.loop-start.invariant.merged entry c.if-s-start-ne-TOPIC.true)

pub slice_bounds-tally_for-count : goal.slice_bounds-tally_for-count
slice_bounds-tally_for-count c =
    let bytes_in : AreBytes c.args.s.now = known_bytes c.args.s.now (λ i. omega (arith, c.shared_slice_known-1.given i)) in
    let entry : Stands c.args.s.now c.loop-start.c.at c.in-Entry.start c.in-Entry.end c.in-Entry.next = stands _ bytes_in _ c.loop-start.invariant.merged.entries c.next.ensures c.in-Entry.is in
    omega (arith, bounds entry)

pub slice_bounds-tally_for-start : goal.slice_bounds-tally_for-start
slice_bounds-tally_for-start c =
    let bytes_in : AreBytes c.args.s.now = known_bytes c.args.s.now (λ i. omega (arith, c.shared_slice_known-1.given i)) in
    let entry : Stands c.args.s.now c.loop-start.c.at c.in-Entry.start c.in-Entry.end c.in-Entry.next = stands _ bytes_in _ c.loop-start.invariant.merged.entries c.next.ensures c.in-Entry.is in
    omega (arith, bounds entry)

pub slice_bounds-tally_for-end : goal.slice_bounds-tally_for-end
slice_bounds-tally_for-end c =
    let bytes_in : AreBytes c.args.s.now = known_bytes c.args.s.now (λ i. omega (arith, c.shared_slice_known-1.given i)) in
    let entry : Stands c.args.s.now c.loop-start.c.at c.in-Entry.start c.in-Entry.end c.in-Entry.next = stands _ bytes_in _ c.loop-start.invariant.merged.entries c.next.ensures c.in-Entry.is in
    omega (arith, bounds entry)

pub slice_bounds-tally_for-count-in-Entry : goal.slice_bounds-tally_for-count-in-Entry
slice_bounds-tally_for-count-in-Entry c = omega (arith, c.loop-start.invariant.merged.far)

pub slice_bounds-tally_for-start-in-Entry : goal.slice_bounds-tally_for-start-in-Entry
slice_bounds-tally_for-start-in-Entry c = omega (arith, c.loop-start.invariant.merged.far)

pub slice_bounds-tally_for-end-in-Entry : goal.slice_bounds-tally_for-end-in-Entry
slice_bounds-tally_for-end-in-Entry c = omega (arith, c.loop-start.invariant.merged.far)

pub tally_for-t-requires : goal.tally_for-t-requires
tally_for-t-requires c =
    let bytes_in : AreBytes c.args.s.now = known_bytes c.args.s.now (λ i. omega (arith, c.shared_slice_known-1.given i)) in
    let entry : Stands c.args.s.now c.loop-start.c.at c.in-Entry.start c.in-Entry.end c.in-Entry.next = stands _ bytes_in _ c.loop-start.invariant.merged.entries c.next.ensures c.in-Entry.is in
    let l = left-lent c.loop-start.invariant.merged in (headed_here entry, (widths_here c.loop-start.invariant entry c.if-s-start-ne-TOPIC.false).1, l.0, l.1)

pub slice_bounds-agrees-count : goal.slice_bounds-agrees-count
slice_bounds-agrees-count c =
    let bytes_in : AreBytes c.args.s.now = known_bytes c.args.s.now (λ i. omega (arith, c.shared_slice_known-1.given i)) in
    let entry : Stands c.args.s.now c.loop-start.c.at c.in-Entry.start c.in-Entry.end c.in-Entry.next = stands _ bytes_in _ c.loop-start.invariant.merged.entries c.next.ensures c.in-Entry.is in
    omega (arith, bounds entry)

pub slice_bounds-agrees-start : goal.slice_bounds-agrees-start
slice_bounds-agrees-start c =
    let bytes_in : AreBytes c.args.s.now = known_bytes c.args.s.now (λ i. omega (arith, c.shared_slice_known-1.given i)) in
    let entry : Stands c.args.s.now c.loop-start.c.at c.in-Entry.start c.in-Entry.end c.in-Entry.next = stands _ bytes_in _ c.loop-start.invariant.merged.entries c.next.ensures c.in-Entry.is in
    omega (arith, bounds entry)

pub slice_bounds-agrees-end : goal.slice_bounds-agrees-end
slice_bounds-agrees-end c =
    let bytes_in : AreBytes c.args.s.now = known_bytes c.args.s.now (λ i. omega (arith, c.shared_slice_known-1.given i)) in
    let entry : Stands c.args.s.now c.loop-start.c.at c.in-Entry.start c.in-Entry.end c.in-Entry.next = stands _ bytes_in _ c.loop-start.invariant.merged.entries c.next.ensures c.in-Entry.is in
    omega (arith, bounds entry)

pub agrees-requires : goal.agrees-requires
agrees-requires c =
    let bytes_in : AreBytes c.args.s.now = known_bytes c.args.s.now (λ i. omega (arith, c.shared_slice_known-1.given i)) in
    let entry : Stands c.args.s.now c.loop-start.c.at c.in-Entry.start c.in-Entry.end c.in-Entry.next = stands _ bytes_in _ c.loop-start.invariant.merged.entries c.next.ensures c.in-Entry.is in
    let w = widths_here c.loop-start.invariant entry c.if-s-start-ne-TOPIC.false in (headed_here entry, w.0, w.1, w.2)

pub returns-then-not-agrees : goal.returns-then-not-agrees
returns-then-not-agrees c =
    let bytes_in : AreBytes c.args.s.now = known_bytes c.args.s.now (λ i. omega (arith, c.shared_slice_known-1.given i)) in
    let entry : Stands c.args.s.now c.loop-start.c.at c.in-Entry.start c.in-Entry.end c.in-Entry.next = stands _ bytes_in _ c.loop-start.invariant.merged.entries c.next.ensures c.in-Entry.is in
    aligned_fails c.loop-start.invariant entry c.if-s-start-ne-TOPIC.false c.tally_for-t.ensures _ c.agrees.ensures (not-true _ c.if-not-agrees.true-raw)

pub overflow_add-from : goal.overflow_add-from
overflow_add-from c =
    let bytes_in : AreBytes c.args.s.now = known_bytes c.args.s.now (λ i. omega (arith, c.shared_slice_known-1.given i)) in
    let entry : Stands c.args.s.now c.loop-start.c.at c.in-Entry.start c.in-Entry.end c.in-Entry.next = stands _ bytes_in _ c.loop-start.invariant.merged.entries c.next.ensures c.in-Entry.is in
    omega (arith, to_fits c.loop-start.invariant.merged entry c.if-s-start-ne-TOPIC.false c.tally_for-t.ensures.0)

pub loop-start-smaller : goal.loop-start-smaller
loop-start-smaller c =
    let bytes_in : AreBytes c.args.s.now = known_bytes c.args.s.now (λ i. omega (arith, c.shared_slice_known-1.given i)) in
    let entry : Stands c.args.s.now c.loop-start.c.at c.in-Entry.start c.in-Entry.end c.in-Entry.next = stands _ bytes_in _ c.loop-start.invariant.merged.entries c.next.ensures c.in-Entry.is in
    turn_falls _ _ _ _ _ entry

pub loop-start-preserved : goal.loop-start-preserved
loop-start-preserved c =
    let bytes_in : AreBytes c.args.s.now = known_bytes c.args.s.now (λ i. omega (arith, c.shared_slice_known-1.given i)) in
    let entry : Stands c.args.s.now c.loop-start.c.at c.in-Entry.start c.in-Entry.end c.in-Entry.next = stands _ bytes_in _ c.loop-start.invariant.merged.entries c.next.ensures c.in-Entry.is in
    let h = c.loop-start.invariant in let t = entry in let p = c.tally_for-t.ensures in let yes = not-false _ c.if-not-agrees.false-raw in aligned_topic h t
    c.if-s-start-ne-TOPIC.false p _ c.agrees.ensures yes (merged_topic h.merged t c.if-s-start-ne-TOPIC.false p.0 _ refl (count_low h t c.if-s-start-ne-TOPIC.false p _ c.agrees.ensures yes))

pub returns-in-Torn : goal.returns-in-Torn
returns-in-Torn c =
    let bytes_in : AreBytes c.args.s.now = known_bytes c.args.s.now (λ i. omega (arith, c.type_inv.s i)) in
    not_torn _ bytes_in _ c.loop-start.invariant.merged.entries c.next.ensures c.in-Torn.is

pub returns-in-End : goal.returns-in-End
returns-in-End c =
    let bytes_in : AreBytes c.args.s.now = known_bytes c.args.s.now (λ i. omega (arith, c.type_inv.s i)) in
    let h = c.loop-start.invariant in aligned_end h (ended _ bytes_in _ h.merged.entries c.next.ensures c.in-End.is)

use native.Mathlib.Omega.{arith}
use Rattle.model.specs.Number.{AreBytes}
use Rattle.keys.proofs.Keys.{known_bytes}
use Rattle.entries.proofs.Turns.{Stands, stands, ended, not_torn, turn_falls}
use Rattle.image_counts.proofs.Tallies.{bounds}
use Rattle.image_counts.proofs.Topics.{headed_here, width_here}
use Rattle.image_counts.proofs.Merges.{merged_start, merged_end, left-lent, merged_other, to_fits, merged_exceeds, merged_topic}
use Rattle.image_counts.proofs.counts_fit.Goals as goal

pub loop-start-init : goal.loop-start-init
loop-start-init c = merged_start _ c.requires.0 c.requires.1

pub bounds-s-start : goal.bounds-s-start
bounds-s-start c =
    let bytes_in : AreBytes c.args.s.now = known_bytes c.args.s.now (λ i. omega (arith, c.shared_slice_known-1.given i)) in
    let entry : Stands c.args.s.now c.loop-start.c.at c.in-Entry.start c.in-Entry.end c.in-Entry.next = stands _ bytes_in _ c.loop-start.invariant.entries c.next.ensures c.in-Entry.is in
    let t = entry in omega (arith, t.first, t.last, t.entry.fits)

pub loop-start-smaller-then-s-start-ne-TOPIC : goal.loop-start-smaller-then-s-start-ne-TOPIC
loop-start-smaller-then-s-start-ne-TOPIC c =
    let bytes_in : AreBytes c.args.s.now = known_bytes c.args.s.now (λ i. omega (arith, c.shared_slice_known-1.given i)) in
    let entry : Stands c.args.s.now c.loop-start.c.at c.in-Entry.start c.in-Entry.end c.in-Entry.next = stands _ bytes_in _ c.loop-start.invariant.entries c.next.ensures c.in-Entry.is in
    turn_falls _ _ _ _ _ entry

pub loop-start-preserved-then-s-start-ne-TOPIC : goal.loop-start-preserved-then-s-start-ne-TOPIC
loop-start-preserved-then-s-start-ne-TOPIC c =
    let bytes_in : AreBytes c.args.s.now = known_bytes c.args.s.now (λ i. omega (arith, c.shared_slice_known-1.given i)) in
    let entry : Stands c.args.s.now c.loop-start.c.at c.in-Entry.start c.in-Entry.end c.in-Entry.next = stands _ bytes_in _ c.loop-start.invariant.entries c.next.ensures c.in-Entry.is in
    merged_other c.loop-start.invariant entry c.if-s-start-ne-TOPIC.true

pub slice_bounds-count_for-count : goal.slice_bounds-count_for-count
slice_bounds-count_for-count c =
    let bytes_in : AreBytes c.args.s.now = known_bytes c.args.s.now (λ i. omega (arith, c.shared_slice_known-1.given i)) in
    let entry : Stands c.args.s.now c.loop-start.c.at c.in-Entry.start c.in-Entry.end c.in-Entry.next = stands _ bytes_in _ c.loop-start.invariant.entries c.next.ensures c.in-Entry.is in
    omega (arith, bounds entry)

pub slice_bounds-count_for-start : goal.slice_bounds-count_for-start
slice_bounds-count_for-start c =
    let bytes_in : AreBytes c.args.s.now = known_bytes c.args.s.now (λ i. omega (arith, c.shared_slice_known-1.given i)) in
    let entry : Stands c.args.s.now c.loop-start.c.at c.in-Entry.start c.in-Entry.end c.in-Entry.next = stands _ bytes_in _ c.loop-start.invariant.entries c.next.ensures c.in-Entry.is in
    omega (arith, bounds entry)

pub slice_bounds-count_for-end : goal.slice_bounds-count_for-end
slice_bounds-count_for-end c =
    let bytes_in : AreBytes c.args.s.now = known_bytes c.args.s.now (λ i. omega (arith, c.shared_slice_known-1.given i)) in
    let entry : Stands c.args.s.now c.loop-start.c.at c.in-Entry.start c.in-Entry.end c.in-Entry.next = stands _ bytes_in _ c.loop-start.invariant.entries c.next.ensures c.in-Entry.is in
    omega (arith, bounds entry)

pub slice_bounds-count_for-count-in-Entry : goal.slice_bounds-count_for-count-in-Entry
slice_bounds-count_for-count-in-Entry c = omega (arith, c.loop-start.invariant.far)

pub slice_bounds-count_for-start-in-Entry : goal.slice_bounds-count_for-start-in-Entry
slice_bounds-count_for-start-in-Entry c = omega (arith, c.loop-start.invariant.far)

pub slice_bounds-count_for-end-in-Entry : goal.slice_bounds-count_for-end-in-Entry
slice_bounds-count_for-end-in-Entry c = omega (arith, c.loop-start.invariant.far)

pub count_for-n-requires : goal.count_for-n-requires
count_for-n-requires c =
    let bytes_in : AreBytes c.args.s.now = known_bytes c.args.s.now (λ i. omega (arith, c.shared_slice_known-1.given i)) in
    let entry : Stands c.args.s.now c.loop-start.c.at c.in-Entry.start c.in-Entry.end c.in-Entry.next = stands _ bytes_in _ c.loop-start.invariant.entries c.next.ensures c.in-Entry.is in
    let l = left-lent c.loop-start.invariant in
    (headed_here entry, l.0, l.1)

pub slice_bounds-number_at-count : goal.slice_bounds-number_at-count
slice_bounds-number_at-count c =
    let bytes_in : AreBytes c.args.s.now = known_bytes c.args.s.now (λ i. omega (arith, c.shared_slice_known-1.given i)) in
    let entry : Stands c.args.s.now c.loop-start.c.at c.in-Entry.start c.in-Entry.end c.in-Entry.next = stands _ bytes_in _ c.loop-start.invariant.entries c.next.ensures c.in-Entry.is in
    omega (arith, bounds entry)

pub slice_bounds-number_at-start : goal.slice_bounds-number_at-start
slice_bounds-number_at-start c =
    let bytes_in : AreBytes c.args.s.now = known_bytes c.args.s.now (λ i. omega (arith, c.shared_slice_known-1.given i)) in
    let entry : Stands c.args.s.now c.loop-start.c.at c.in-Entry.start c.in-Entry.end c.in-Entry.next = stands _ bytes_in _ c.loop-start.invariant.entries c.next.ensures c.in-Entry.is in
    omega (arith, bounds entry)

pub slice_bounds-number_at-end : goal.slice_bounds-number_at-end
slice_bounds-number_at-end c =
    let bytes_in : AreBytes c.args.s.now = known_bytes c.args.s.now (λ i. omega (arith, c.shared_slice_known-1.given i)) in
    let entry : Stands c.args.s.now c.loop-start.c.at c.in-Entry.start c.in-Entry.end c.in-Entry.next = stands _ bytes_in _ c.loop-start.invariant.entries c.next.ensures c.in-Entry.is in
    omega (arith, bounds entry)

pub number_at-requires : goal.number_at-requires
number_at-requires c =
    let bytes_in : AreBytes c.args.s.now = known_bytes c.args.s.now (λ i. omega (arith, c.shared_slice_known-1.given i)) in
    let entry : Stands c.args.s.now c.loop-start.c.at c.in-Entry.start c.in-Entry.end c.in-Entry.next = stands _ bytes_in _ c.loop-start.invariant.entries c.next.ensures c.in-Entry.is in
    let t = entry in (headed_here t, omega arith, width_here t c.if-s-start-ne-TOPIC.false)

pub returns-then-n-number_at : goal.returns-then-n-number_at
returns-then-n-number_at c =
    let bytes_in : AreBytes c.args.s.now = known_bytes c.args.s.now (λ i. omega (arith, c.shared_slice_known-1.given i)) in
    let entry : Stands c.args.s.now c.loop-start.c.at c.in-Entry.start c.in-Entry.end c.in-Entry.next = stands _ bytes_in _ c.loop-start.invariant.entries c.next.ensures c.in-Entry.is in
    merged_exceeds c.loop-start.invariant entry c.if-s-start-ne-TOPIC.false c.count_for-n.ensures _ c.number_at.ensures c.if-n-number_at.true

pub overflow_add-from : goal.overflow_add-from
overflow_add-from c =
    let bytes_in : AreBytes c.args.s.now = known_bytes c.args.s.now (λ i. omega (arith, c.shared_slice_known-1.given i)) in
    let entry : Stands c.args.s.now c.loop-start.c.at c.in-Entry.start c.in-Entry.end c.in-Entry.next = stands _ bytes_in _ c.loop-start.invariant.entries c.next.ensures c.in-Entry.is in
    omega (arith, to_fits c.loop-start.invariant entry c.if-s-start-ne-TOPIC.false c.count_for-n.ensures)

pub loop-start-smaller : goal.loop-start-smaller
loop-start-smaller c =
    let bytes_in : AreBytes c.args.s.now = known_bytes c.args.s.now (λ i. omega (arith, c.shared_slice_known-1.given i)) in
    let entry : Stands c.args.s.now c.loop-start.c.at c.in-Entry.start c.in-Entry.end c.in-Entry.next = stands _ bytes_in _ c.loop-start.invariant.entries c.next.ensures c.in-Entry.is in
    turn_falls _ _ _ _ _ entry

pub loop-start-preserved : goal.loop-start-preserved
loop-start-preserved c =
    let bytes_in : AreBytes c.args.s.now = known_bytes c.args.s.now (λ i. omega (arith, c.shared_slice_known-1.given i)) in
    let entry : Stands c.args.s.now c.loop-start.c.at c.in-Entry.start c.in-Entry.end c.in-Entry.next = stands _ bytes_in _ c.loop-start.invariant.entries c.next.ensures c.in-Entry.is in
    merged_topic c.loop-start.invariant entry c.if-s-start-ne-TOPIC.false c.count_for-n.ensures _ c.number_at.ensures c.if-n-number_at.false

pub returns-in-Torn : goal.returns-in-Torn
returns-in-Torn c =
    let bytes_in : AreBytes c.args.s.now = known_bytes c.args.s.now (λ i. omega (arith, c.type_inv.s i)) in
    not_torn _ bytes_in _ c.loop-start.invariant.entries c.next.ensures c.in-Torn.is

pub returns-in-End : goal.returns-in-End
returns-in-End c =
    let bytes_in : AreBytes c.args.s.now = known_bytes c.args.s.now (λ i. omega (arith, c.type_inv.s i)) in
    let h = c.loop-start.invariant in
    merged_end h (ended _ bytes_in _ h.entries c.next.ensures c.in-End.is)

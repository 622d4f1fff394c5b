use borrow.Author.Tests.{not-true, not-false}
use mathlib.Core.Path.{◌≡◌, sym, ◌∙◌}
use native.Mathlib.Omega.{arith}
use lib.ListN.{length}
use lib.Seq.{length-take-le}
use Rattle.model.specs.Number.{AreBytes}
use Rattle.keys.proofs.Keys.{known_bytes}
use Rattle.entries.proofs.Turns.{Stands, stands, ended, not_torn, turn_falls}
use Rattle.image_ids.proofs.Turns.{bounds, is_record, before-it}
use Rattle.image_ids.proofs.Marks.{walk_start, walk_end, walk_unnamed, walk_unmarked, walk_new, walk_shared}
use Rattle.image_ids.proofs.ids_apart_with.Goals as goal

pub loop-start-init : goal.loop-start-init
loop-start-init c =
    walk_start _ _ c.requires.0 c.requires.1

pub slice_bounds-is_named-count : goal.slice_bounds-is_named-count
slice_bounds-is_named-count c =
    let bytes_in : AreBytes c.args.s.now = known_bytes c.args.s.now (λ i. omega (arith, c.type_inv.s i)) in
    let entry : Stands c.args.s.now c.loop-start.c.at c.in-Entry.start c.in-Entry.end c.in-Entry.next = stands _ bytes_in _ c.loop-start.invariant.entries c.next.ensures c.in-Entry.is in
    omega (arith, bounds entry)

pub slice_bounds-is_named-start : goal.slice_bounds-is_named-start
slice_bounds-is_named-start c =
    let bytes_in : AreBytes c.args.s.now = known_bytes c.args.s.now (λ i. omega (arith, c.type_inv.s i)) in
    let entry : Stands c.args.s.now c.loop-start.c.at c.in-Entry.start c.in-Entry.end c.in-Entry.next = stands _ bytes_in _ c.loop-start.invariant.entries c.next.ensures c.in-Entry.is in
    omega (arith, bounds entry)

pub slice_bounds-is_named-end : goal.slice_bounds-is_named-end
slice_bounds-is_named-end c =
    let bytes_in : AreBytes c.args.s.now = known_bytes c.args.s.now (λ i. omega (arith, c.type_inv.s i)) in
    let entry : Stands c.args.s.now c.loop-start.c.at c.in-Entry.start c.in-Entry.end c.in-Entry.next = stands _ bytes_in _ c.loop-start.invariant.entries c.next.ensures c.in-Entry.is in
    omega (arith, bounds entry)

pub is_named-requires : goal.is_named-requires
is_named-requires c =
    let bytes_in : AreBytes c.args.s.now = known_bytes c.args.s.now (λ i. omega (arith, c.type_inv.s i)) in
    let entry : Stands c.args.s.now c.loop-start.c.at c.in-Entry.start c.in-Entry.end c.in-Entry.next = stands _ bytes_in _ c.loop-start.invariant.entries c.next.ensures c.in-Entry.is in
    is_record entry

pub loop-start-smaller-then-not-is_named : goal.loop-start-smaller-then-not-is_named
loop-start-smaller-then-not-is_named c =
    let bytes_in : AreBytes c.args.s.now = known_bytes c.args.s.now (λ i. omega (arith, c.type_inv.s i)) in
    let entry : Stands c.args.s.now c.loop-start.c.at c.in-Entry.start c.in-Entry.end c.in-Entry.next = stands _ bytes_in _ c.loop-start.invariant.entries c.next.ensures c.in-Entry.is in
    turn_falls _ _ _ _ _ entry

pub loop-start-preserved-then-not-is_named : goal.loop-start-preserved-then-not-is_named
loop-start-preserved-then-not-is_named c =
    let bytes_in : AreBytes c.args.s.now = known_bytes c.args.s.now (λ i. omega (arith, c.type_inv.s i)) in
    let entry : Stands c.args.s.now c.loop-start.c.at c.in-Entry.start c.in-Entry.end c.in-Entry.next = stands _ bytes_in _ c.loop-start.invariant.entries c.next.ensures c.in-Entry.is in
    walk_unnamed bytes_in c.loop-start.invariant entry (sym c.is_named.ensures ∙ not-true _ c.if-not-is_named.true-raw)

pub slice_bounds-mark_place-count : goal.slice_bounds-mark_place-count
slice_bounds-mark_place-count c =
    let bytes_in : AreBytes c.args.s.now = known_bytes c.args.s.now (λ i. omega (arith, c.type_inv.s i)) in
    let entry : Stands c.args.s.now c.loop-start.c.at c.in-Entry.start c.in-Entry.end c.in-Entry.next = stands _ bytes_in _ c.loop-start.invariant.entries c.next.ensures c.in-Entry.is in
    omega (arith, bounds entry)

pub slice_bounds-mark_place-start : goal.slice_bounds-mark_place-start
slice_bounds-mark_place-start c =
    let bytes_in : AreBytes c.args.s.now = known_bytes c.args.s.now (λ i. omega (arith, c.type_inv.s i)) in
    let entry : Stands c.args.s.now c.loop-start.c.at c.in-Entry.start c.in-Entry.end c.in-Entry.next = stands _ bytes_in _ c.loop-start.invariant.entries c.next.ensures c.in-Entry.is in
    omega (arith, bounds entry)

pub slice_bounds-mark_place-end : goal.slice_bounds-mark_place-end
slice_bounds-mark_place-end c =
    let bytes_in : AreBytes c.args.s.now = known_bytes c.args.s.now (λ i. omega (arith, c.type_inv.s i)) in
    let entry : Stands c.args.s.now c.loop-start.c.at c.in-Entry.start c.in-Entry.end c.in-Entry.next = stands _ bytes_in _ c.loop-start.invariant.entries c.next.ensures c.in-Entry.is in
    omega (arith, bounds entry)

pub mark_place-place-requires : goal.mark_place-place-requires
mark_place-place-requires c =
    let bytes_in : AreBytes c.args.s.now = known_bytes c.args.s.now (λ i. omega (arith, c.type_inv.s i)) in
    let entry : Stands c.args.s.now c.loop-start.c.at c.in-Entry.start c.in-Entry.end c.in-Entry.next = stands _ bytes_in _ c.loop-start.invariant.entries c.next.ensures c.in-Entry.is in
    (is_record entry, sym c.is_named.ensures ∙ not-false _ c.if-not-is_named.false-raw)

pub bounds-seen-place : goal.bounds-seen-place
bounds-seen-place c = omega (arith, c.mark_place-place.ensures.1, c.loop-start.invariant.size)

pub bounds-seen-place-then-seen-place-eq0 : goal.bounds-seen-place-then-seen-place-eq0
bounds-seen-place-then-seen-place-eq0 c = omega (arith, c.mark_place-place.ensures.1, c.loop-start.invariant.size)

pub loop-start-smaller-then-seen-place-eq0 : goal.loop-start-smaller-then-seen-place-eq0
loop-start-smaller-then-seen-place-eq0 c =
    let bytes_in : AreBytes c.args.s.now = known_bytes c.args.s.now (λ i. omega (arith, c.type_inv.s i)) in
    let entry : Stands c.args.s.now c.loop-start.c.at c.in-Entry.start c.in-Entry.end c.in-Entry.next = stands _ bytes_in _ c.loop-start.invariant.entries c.next.ensures c.in-Entry.is in
    turn_falls _ _ _ _ _ entry

pub loop-start-preserved-then-seen-place-eq0 : goal.loop-start-preserved-then-seen-place-eq0
loop-start-preserved-then-seen-place-eq0 c =
    let bytes_in : AreBytes c.args.s.now = known_bytes c.args.s.now (λ i. omega (arith, c.type_inv.s i)) in
    let entry : Stands c.args.s.now c.loop-start.c.at c.in-Entry.start c.in-Entry.end c.in-Entry.next = stands _ bytes_in _ c.loop-start.invariant.entries c.next.ensures c.in-Entry.is in
    walk_unmarked bytes_in c.loop-start.invariant entry _ c.mark_place-place.ensures c.if-seen-place-eq0.true

pub slice_bounds-is_new-end : goal.slice_bounds-is_new-end
slice_bounds-is_new-end c =
    let bytes_in : AreBytes c.args.s.now = known_bytes c.args.s.now (λ i. omega (arith, c.type_inv.s i)) in
    let entry : Stands c.args.s.now c.loop-start.c.at c.in-Entry.start c.in-Entry.end c.in-Entry.next = stands _ bytes_in _ c.loop-start.invariant.entries c.next.ensures c.in-Entry.is in
    sym (length-take-le _ _ (omega (arith, bounds entry)))

pub slice_bounds-is_new-count : goal.slice_bounds-is_new-count
slice_bounds-is_new-count c =
    let bytes_in : AreBytes c.args.s.now = known_bytes c.args.s.now (λ i. omega (arith, c.type_inv.s i)) in
    let entry : Stands c.args.s.now c.loop-start.c.at c.in-Entry.start c.in-Entry.end c.in-Entry.next = stands _ bytes_in _ c.loop-start.invariant.entries c.next.ensures c.in-Entry.is in
    omega (arith, bounds entry)

pub slice_bounds-is_new-start : goal.slice_bounds-is_new-start
slice_bounds-is_new-start c =
    let bytes_in : AreBytes c.args.s.now = known_bytes c.args.s.now (λ i. omega (arith, c.type_inv.s i)) in
    let entry : Stands c.args.s.now c.loop-start.c.at c.in-Entry.start c.in-Entry.end c.in-Entry.next = stands _ bytes_in _ c.loop-start.invariant.entries c.next.ensures c.in-Entry.is in
    omega (arith, bounds entry)

pub slice_bounds-is_new-end-in-Entry : goal.slice_bounds-is_new-end-in-Entry
slice_bounds-is_new-end-in-Entry c =
    let bytes_in : AreBytes c.args.s.now = known_bytes c.args.s.now (λ i. omega (arith, c.type_inv.s i)) in
    let entry : Stands c.args.s.now c.loop-start.c.at c.in-Entry.start c.in-Entry.end c.in-Entry.next = stands _ bytes_in _ c.loop-start.invariant.entries c.next.ensures c.in-Entry.is in
    omega (arith, bounds entry)

pub is_new-requires : goal.is_new-requires
is_new-requires c =
    let bytes_in : AreBytes c.args.s.now = known_bytes c.args.s.now (λ i. omega (arith, c.type_inv.s i)) in
    let entry : Stands c.args.s.now c.loop-start.c.at c.in-Entry.start c.in-Entry.end c.in-Entry.next = stands _ bytes_in _ c.loop-start.invariant.entries c.next.ensures c.in-Entry.is in
    (before-it entry c.loop-start.invariant.passed, is_record entry)

pub shape_of-seen-then-not-is_new : goal.shape_of-seen-then-not-is_new
shape_of-seen-then-not-is_new c =
    let same_size : length c.loop-start.seen ≡ length c.args.seen.now = omega (arith, c.loop-start.invariant.size, c.requires.1) in
    same_size

pub returns-then-not-is_new : goal.returns-then-not-is_new
returns-then-not-is_new c =
    let bytes_in : AreBytes c.args.s.now = known_bytes c.args.s.now (λ i. omega (arith, c.type_inv.s i)) in
    let entry : Stands c.args.s.now c.loop-start.c.at c.in-Entry.start c.in-Entry.end c.in-Entry.next = stands _ bytes_in _ c.loop-start.invariant.entries c.next.ensures c.in-Entry.is in
    walk_shared bytes_in c.loop-start.invariant entry _ c.is_new.ensures (not-true _ c.if-not-is_new.true-raw)
    (sym c.is_named.ensures ∙ not-false _ c.if-not-is_named.false-raw)

pub loop-start-smaller : goal.loop-start-smaller
loop-start-smaller c =
    let bytes_in : AreBytes c.args.s.now = known_bytes c.args.s.now (λ i. omega (arith, c.type_inv.s i)) in
    let entry : Stands c.args.s.now c.loop-start.c.at c.in-Entry.start c.in-Entry.end c.in-Entry.next = stands _ bytes_in _ c.loop-start.invariant.entries c.next.ensures c.in-Entry.is in
    turn_falls _ _ _ _ _ entry

pub loop-start-preserved : goal.loop-start-preserved
loop-start-preserved c =
    let bytes_in : AreBytes c.args.s.now = known_bytes c.args.s.now (λ i. omega (arith, c.type_inv.s i)) in
    let entry : Stands c.args.s.now c.loop-start.c.at c.in-Entry.start c.in-Entry.end c.in-Entry.next = stands _ bytes_in _ c.loop-start.invariant.entries c.next.ensures c.in-Entry.is in
    walk_new bytes_in c.loop-start.invariant entry _ c.is_new.ensures (not-false _ c.if-not-is_new.false-raw) _
    c.mark_place-place.ensures c.if-seen-place-eq0.false

pub shape_of-seen-in-Torn : goal.shape_of-seen-in-Torn
shape_of-seen-in-Torn c =
    let same_size : length c.loop-start.seen ≡ length c.args.seen.now = omega (arith, c.loop-start.invariant.size, c.requires.1) in
    same_size

pub returns-in-Torn : goal.returns-in-Torn
returns-in-Torn c =
    let bytes_in : AreBytes c.args.s.now = known_bytes c.args.s.now (λ i. omega (arith, c.type_inv.s i)) in
    not_torn _ bytes_in _ c.loop-start.invariant.entries c.next.ensures c.in-Torn.is

pub shape_of-seen-in-End : goal.shape_of-seen-in-End
shape_of-seen-in-End c =
    let same_size : length c.loop-start.seen ≡ length c.args.seen.now = omega (arith, c.loop-start.invariant.size, c.requires.1) in
    same_size

pub returns-in-End : goal.returns-in-End
returns-in-End c =
    let bytes_in : AreBytes c.args.s.now = known_bytes c.args.s.now (λ i. omega (arith, c.type_inv.s i)) in
    let h = c.loop-start.invariant in
    walk_end h (ended _ bytes_in _ h.entries c.next.ensures c.in-End.is)

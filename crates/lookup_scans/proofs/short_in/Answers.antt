use mathlib.Core.Path.{◌∙◌}
use native.Mathlib.Omega.{arith}
use Rattle.model.specs.Number.{AreBytes}
use Rattle.keys.proofs.Keys.{known_bytes}
use Rattle.entries.proofs.Turns.{Stands, stands, ended, not_torn, turn_falls}
use Rattle.image_entries.proofs.Turns.{forward, inside, is_record}
use Rattle.image_entries.proofs.Counted.{counted_start, counted-all, room, counted-one, counted_other}
use Rattle.lookup_scans.proofs.Counted.{short_count_lem}
use Rattle.lookup_scans.proofs.short_in.Goals as goal

pub loop-start-init : goal.loop-start-init
loop-start-init c = counted_start _ _ c.requires

pub slice_bounds-is_short-count : goal.slice_bounds-is_short-count
slice_bounds-is_short-count c =
    let bytes_in : AreBytes c.args.s.now = known_bytes c.args.s.now (λ i. omega (arith, c.type_inv.s i)) in
    let entry : (Stands c.args.s.now c.loop-start.c.at c.in-Entry.start c.in-Entry.end c.in-Entry.next) = stands _ bytes_in _ c.loop-start.invariant.entries c.next.ensures c.in-Entry.is in
    forward entry

pub slice_bounds-is_short-start : goal.slice_bounds-is_short-start
slice_bounds-is_short-start c =
    let bytes_in : AreBytes c.args.s.now = known_bytes c.args.s.now (λ i. omega (arith, c.type_inv.s i)) in
    let entry : (Stands c.args.s.now c.loop-start.c.at c.in-Entry.start c.in-Entry.end c.in-Entry.next) = stands _ bytes_in _ c.loop-start.invariant.entries c.next.ensures c.in-Entry.is in
    let t = entry in omega (arith, forward t, inside t)

pub slice_bounds-is_short-end : goal.slice_bounds-is_short-end
slice_bounds-is_short-end c =
    let bytes_in : AreBytes c.args.s.now = known_bytes c.args.s.now (λ i. omega (arith, c.type_inv.s i)) in
    let entry : (Stands c.args.s.now c.loop-start.c.at c.in-Entry.start c.in-Entry.end c.in-Entry.next) = stands _ bytes_in _ c.loop-start.invariant.entries c.next.ensures c.in-Entry.is in
    let t = entry in omega (arith, forward t, inside t)

pub is_short-requires : goal.is_short-requires
is_short-requires c =
    let bytes_in : AreBytes c.args.s.now = known_bytes c.args.s.now (λ i. omega (arith, c.type_inv.s i)) in
    let entry : (Stands c.args.s.now c.loop-start.c.at c.in-Entry.start c.in-Entry.end c.in-Entry.next) = stands _ bytes_in _ c.loop-start.invariant.entries c.next.ensures c.in-Entry.is in
    is_record entry

pub overflow_add-n : goal.overflow_add-n
overflow_add-n c =
    let bytes_in : AreBytes c.args.s.now = known_bytes c.args.s.now (λ i. omega (arith, c.type_inv.s i)) in
    let entry : (Stands c.args.s.now c.loop-start.c.at c.in-Entry.start c.in-Entry.end c.in-Entry.next) = stands _ bytes_in _ c.loop-start.invariant.entries c.next.ensures c.in-Entry.is in
    omega (arith, room c.loop-start.invariant entry)

pub loop-start-smaller-then-is_short : goal.loop-start-smaller-then-is_short
loop-start-smaller-then-is_short c =
    let bytes_in : AreBytes c.args.s.now = known_bytes c.args.s.now (λ i. omega (arith, c.type_inv.s i)) in
    let entry : (Stands c.args.s.now c.loop-start.c.at c.in-Entry.start c.in-Entry.end c.in-Entry.next) = stands _ bytes_in _ c.loop-start.invariant.entries c.next.ensures c.in-Entry.is in
    turn_falls _ _ _ _ _ entry

pub loop-start-preserved-then-is_short : goal.loop-start-preserved-then-is_short
loop-start-preserved-then-is_short c =
    let bytes_in : AreBytes c.args.s.now = known_bytes c.args.s.now (λ i. omega (arith, c.type_inv.s i)) in
    let entry : (Stands c.args.s.now c.loop-start.c.at c.in-Entry.start c.in-Entry.end c.in-Entry.next) = stands _ bytes_in _ c.loop-start.invariant.entries c.next.ensures c.in-Entry.is in
    counted-one c.loop-start.invariant entry c.is_short.ensures c.if-is_short.true

pub loop-start-smaller : goal.loop-start-smaller
loop-start-smaller c =
    let bytes_in : AreBytes c.args.s.now = known_bytes c.args.s.now (λ i. omega (arith, c.type_inv.s i)) in
    let entry : (Stands c.args.s.now c.loop-start.c.at c.in-Entry.start c.in-Entry.end c.in-Entry.next) = stands _ bytes_in _ c.loop-start.invariant.entries c.next.ensures c.in-Entry.is in
    turn_falls _ _ _ _ _ entry

pub loop-start-preserved : goal.loop-start-preserved
loop-start-preserved c =
    let bytes_in : AreBytes c.args.s.now = known_bytes c.args.s.now (λ i. omega (arith, c.type_inv.s i)) in
    let entry : (Stands c.args.s.now c.loop-start.c.at c.in-Entry.start c.in-Entry.end c.in-Entry.next) = stands _ bytes_in _ c.loop-start.invariant.entries c.next.ensures c.in-Entry.is in
    counted_other c.loop-start.invariant entry c.is_short.ensures c.if-is_short.false

pub returns-in-Torn : goal.returns-in-Torn
returns-in-Torn c =
    let bytes_in : AreBytes c.args.s.now = known_bytes c.args.s.now (λ i. omega (arith, c.type_inv.s i)) in
    not_torn _ bytes_in _ c.loop-start.invariant.entries c.next.ensures c.in-Torn.is

pub returns-in-End : goal.returns-in-End
returns-in-End c =
    let bytes_in : AreBytes c.args.s.now = known_bytes c.args.s.now (λ i. omega (arith, c.type_inv.s i)) in
    let h = c.loop-start.invariant in
    (counted-all h (ended _ bytes_in _ h.entries c.next.ensures c.in-End.is)).0 ∙ short_count_lem _

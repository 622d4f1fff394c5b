use native.Mathlib.Omega.{arith}
use Rattle.model.specs.Number.{AreBytes}
use Rattle.keys.proofs.Keys.{known_bytes}
use Rattle.entries.proofs.Turns.{Stands, stands, ended, not_torn, lent-keyed, turn_falls}
use Rattle.image_groups.proofs.Places.{bounds, lent_record}
use Rattle.image_groups.proofs.Merge.{merge_start, rest-entries, lent_group, place-within, reached-entries, merge_found, merge_turn, merge_end}
use Rattle.image_groups.proofs.groups_apart.Goals as goal

pub loop-start-init : goal.loop-start-init
loop-start-init c = let p = c.requires in merge_start _ _ p.0 p.1 p.2 p.3 p.4

pub slice_bounds-seek-count : goal.slice_bounds-seek-count
slice_bounds-seek-count c = c.loop-start.invariant.most

pub slice_bounds-seek-start : goal.slice_bounds-seek-start
slice_bounds-seek-start c = omega (arith, c.loop-start.invariant.most)

pub slice_bounds-seek-count-in-Entry : goal.slice_bounds-seek-count-in-Entry
slice_bounds-seek-count-in-Entry c =
    let group_bytes : AreBytes c.args.t.now = known_bytes c.args.t.now (λ i. omega (arith, c.type_inv.t i)) in
    let found : (Stands c.args.t.now c.loop-start.c.at c.in-Entry.start c.in-Entry.end c.in-Entry.next) = stands _ group_bytes _ c.loop-start.invariant.groups c.next.ensures c.in-Entry.is in
    (bounds found).0

pub slice_bounds-seek-start-in-Entry : goal.slice_bounds-seek-start-in-Entry
slice_bounds-seek-start-in-Entry c =
    let group_bytes : AreBytes c.args.t.now = known_bytes c.args.t.now (λ i. omega (arith, c.type_inv.t i)) in
    let found : (Stands c.args.t.now c.loop-start.c.at c.in-Entry.start c.in-Entry.end c.in-Entry.next) = stands _ group_bytes _ c.loop-start.invariant.groups c.next.ensures c.in-Entry.is in
    omega (arith, bounds found)

pub slice_bounds-seek-end-in-Entry : goal.slice_bounds-seek-end-in-Entry
slice_bounds-seek-end-in-Entry c =
    let group_bytes : AreBytes c.args.t.now = known_bytes c.args.t.now (λ i. omega (arith, c.type_inv.t i)) in
    let found : (Stands c.args.t.now c.loop-start.c.at c.in-Entry.start c.in-Entry.end c.in-Entry.next) = stands _ group_bytes _ c.loop-start.invariant.groups c.next.ensures c.in-Entry.is in
    omega (arith, bounds found)

pub seek-p-requires : goal.seek-p-requires
seek-p-requires c =
    let group_bytes : AreBytes c.args.t.now = known_bytes c.args.t.now (λ i. omega (arith, c.type_inv.t i)) in
    let found : (Stands c.args.t.now c.loop-start.c.at c.in-Entry.start c.in-Entry.end c.in-Entry.next) = stands _ group_bytes _ c.loop-start.invariant.groups c.next.ensures c.in-Entry.is in
    (rest-entries _ _ _ _ c.loop-start.invariant, lent-keyed _ _ _ _ _ found)

-- the place is within the entries
pub overflow_add-from : goal.overflow_add-from
overflow_add-from c =
    let entry_bytes_lem : AreBytes c.args.s.now = known_bytes c.args.s.now (λ i. omega (arith, c.type_inv.s i)) in
    let group_bytes : AreBytes c.args.t.now = known_bytes c.args.t.now (λ i. omega (arith, c.type_inv.t i)) in
    let found : (Stands c.args.t.now c.loop-start.c.at c.in-Entry.start c.in-Entry.end c.in-Entry.next) = stands _ group_bytes _ c.loop-start.invariant.groups c.next.ensures c.in-Entry.is in
    omega (arith, place-within c.loop-start.invariant found entry_bytes_lem c.seek-p.ensures)

pub slice_bounds-begins_in-count : goal.slice_bounds-begins_in-count
slice_bounds-begins_in-count c =
    let entry_bytes_lem : AreBytes c.args.s.now = known_bytes c.args.s.now (λ i. omega (arith, c.type_inv.s i)) in
    let group_bytes : AreBytes c.args.t.now = known_bytes c.args.t.now (λ i. omega (arith, c.type_inv.t i)) in
    let found : (Stands c.args.t.now c.loop-start.c.at c.in-Entry.start c.in-Entry.end c.in-Entry.next) = stands _ group_bytes _ c.loop-start.invariant.groups c.next.ensures c.in-Entry.is in
    place-within c.loop-start.invariant found entry_bytes_lem c.seek-p.ensures

pub slice_bounds-begins_in-start : goal.slice_bounds-begins_in-start
slice_bounds-begins_in-start c = omega (arith, slice_bounds-begins_in-count c)

pub slice_bounds-begins_in-count-in-Entry : goal.slice_bounds-begins_in-count-in-Entry
slice_bounds-begins_in-count-in-Entry c =
    let group_bytes : AreBytes c.args.t.now = known_bytes c.args.t.now (λ i. omega (arith, c.type_inv.t i)) in
    let found : (Stands c.args.t.now c.loop-start.c.at c.in-Entry.start c.in-Entry.end c.in-Entry.next) = stands _ group_bytes _ c.loop-start.invariant.groups c.next.ensures c.in-Entry.is in
    (bounds found).0

pub slice_bounds-begins_in-start-in-Entry : goal.slice_bounds-begins_in-start-in-Entry
slice_bounds-begins_in-start-in-Entry c =
    let group_bytes : AreBytes c.args.t.now = known_bytes c.args.t.now (λ i. omega (arith, c.type_inv.t i)) in
    let found : (Stands c.args.t.now c.loop-start.c.at c.in-Entry.start c.in-Entry.end c.in-Entry.next) = stands _ group_bytes _ c.loop-start.invariant.groups c.next.ensures c.in-Entry.is in
    omega (arith, bounds found)

pub slice_bounds-begins_in-end-in-Entry : goal.slice_bounds-begins_in-end-in-Entry
slice_bounds-begins_in-end-in-Entry c =
    let group_bytes : AreBytes c.args.t.now = known_bytes c.args.t.now (λ i. omega (arith, c.type_inv.t i)) in
    let found : (Stands c.args.t.now c.loop-start.c.at c.in-Entry.start c.in-Entry.end c.in-Entry.next) = stands _ group_bytes _ c.loop-start.invariant.groups c.next.ensures c.in-Entry.is in
    omega (arith, bounds found)

pub begins_in-requires : goal.begins_in-requires
begins_in-requires c =
    let entry_bytes_lem : AreBytes c.args.s.now = known_bytes c.args.s.now (λ i. omega (arith, c.type_inv.s i)) in
    let group_bytes : AreBytes c.args.t.now = known_bytes c.args.t.now (λ i. omega (arith, c.type_inv.t i)) in
    let found : (Stands c.args.t.now c.loop-start.c.at c.in-Entry.start c.in-Entry.end c.in-Entry.next) = stands _ group_bytes _ c.loop-start.invariant.groups c.next.ensures c.in-Entry.is in
    let inv = c.loop-start.invariant in
    (reached-entries inv found entry_bytes_lem c.seek-p.ensures, lent_record found, lent_group inv found)

pub returns-then-begins_in : goal.returns-then-begins_in
returns-then-begins_in c =
    let entry_bytes_lem : AreBytes c.args.s.now = known_bytes c.args.s.now (λ i. omega (arith, c.type_inv.s i)) in
    let group_bytes : AreBytes c.args.t.now = known_bytes c.args.t.now (λ i. omega (arith, c.type_inv.t i)) in
    let found : (Stands c.args.t.now c.loop-start.c.at c.in-Entry.start c.in-Entry.end c.in-Entry.next) = stands _ group_bytes _ c.loop-start.invariant.groups c.next.ensures c.in-Entry.is in
    merge_found c.loop-start.invariant found entry_bytes_lem c.seek-p.ensures c.begins_in.ensures
    c.if-begins_in.true

pub loop-start-smaller : goal.loop-start-smaller
loop-start-smaller c =
    let group_bytes : AreBytes c.args.t.now = known_bytes c.args.t.now (λ i. omega (arith, c.type_inv.t i)) in
    let found : (Stands c.args.t.now c.loop-start.c.at c.in-Entry.start c.in-Entry.end c.in-Entry.next) = stands _ group_bytes _ c.loop-start.invariant.groups c.next.ensures c.in-Entry.is in
    turn_falls _ _ _ _ _ found

pub loop-start-preserved : goal.loop-start-preserved
loop-start-preserved c =
    let entry_bytes_lem : AreBytes c.args.s.now = known_bytes c.args.s.now (λ i. omega (arith, c.type_inv.s i)) in
    let group_bytes : AreBytes c.args.t.now = known_bytes c.args.t.now (λ i. omega (arith, c.type_inv.t i)) in
    let found : (Stands c.args.t.now c.loop-start.c.at c.in-Entry.start c.in-Entry.end c.in-Entry.next) = stands _ group_bytes _ c.loop-start.invariant.groups c.next.ensures c.in-Entry.is in
    merge_turn c.loop-start.invariant found entry_bytes_lem c.seek-p.ensures c.begins_in.ensures
    c.if-begins_in.false

pub returns-in-Torn : goal.returns-in-Torn
returns-in-Torn c =
    let group_bytes : AreBytes c.args.t.now = known_bytes c.args.t.now (λ i. omega (arith, c.type_inv.t i)) in
    not_torn _ group_bytes _ c.loop-start.invariant.groups c.next.ensures c.in-Torn.is

pub returns-in-End : goal.returns-in-End
returns-in-End c =
    let group_bytes : AreBytes c.args.t.now = known_bytes c.args.t.now (λ i. omega (arith, c.type_inv.t i)) in
    merge_end _ _ _ _ c.loop-start.invariant (ended _ group_bytes _ c.loop-start.invariant.groups c.next.ensures c.in-End.is)

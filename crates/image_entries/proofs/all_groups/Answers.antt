use native.Mathlib.Omega.{arith}
use borrow.Author.Tests.{not-true, not-false}
use Rattle.model.specs.Number.{AreBytes}
use Rattle.model.specs.Contents.{is_group}
use Rattle.keys.proofs.Keys.{known_bytes}
use Rattle.entries.proofs.Turns.{Stands, stands, ended, not_torn, turn_falls}
use Rattle.image_entries.proofs.Turns.{forward, inside, is_record}
use Rattle.image_entries.proofs.Walks.{asked_start, asked_all, passed, failed}
use Rattle.image_entries.proofs.all_groups.Goals as goal

pub loop-start-init : goal.loop-start-init
loop-start-init c = asked_start _ _ c.requires

pub slice_bounds-is_group-count : goal.slice_bounds-is_group-count
slice_bounds-is_group-count c =
    let bytes_in : AreBytes c.args.s.now = known_bytes c.args.s.now (λ i. omega (arith, c.type_inv.s i)) in
    let entry : (Stands c.args.s.now c.loop-start.c.at c.in-Entry.start c.in-Entry.end c.in-Entry.next) = stands _ bytes_in _ c.loop-start.invariant.entries c.next.ensures c.in-Entry.is in
    forward entry

pub slice_bounds-is_group-start : goal.slice_bounds-is_group-start
slice_bounds-is_group-start c =
    let bytes_in : AreBytes c.args.s.now = known_bytes c.args.s.now (λ i. omega (arith, c.type_inv.s i)) in
    let entry : (Stands c.args.s.now c.loop-start.c.at c.in-Entry.start c.in-Entry.end c.in-Entry.next) = stands _ bytes_in _ c.loop-start.invariant.entries c.next.ensures c.in-Entry.is in
    let t = entry in omega (arith, forward t, inside t)

pub slice_bounds-is_group-end : goal.slice_bounds-is_group-end
slice_bounds-is_group-end c =
    let bytes_in : AreBytes c.args.s.now = known_bytes c.args.s.now (λ i. omega (arith, c.type_inv.s i)) in
    let entry : (Stands c.args.s.now c.loop-start.c.at c.in-Entry.start c.in-Entry.end c.in-Entry.next) = stands _ bytes_in _ c.loop-start.invariant.entries c.next.ensures c.in-Entry.is in
    let t = entry in omega (arith, forward t, inside t)

pub is_group-requires : goal.is_group-requires
is_group-requires c =
    let bytes_in : AreBytes c.args.s.now = known_bytes c.args.s.now (λ i. omega (arith, c.type_inv.s i)) in
    let entry : (Stands c.args.s.now c.loop-start.c.at c.in-Entry.start c.in-Entry.end c.in-Entry.next) = stands _ bytes_in _ c.loop-start.invariant.entries c.next.ensures c.in-Entry.is in
    is_record entry

pub returns-then-not-is_group : goal.returns-then-not-is_group
returns-then-not-is_group c =
    let bytes_in : AreBytes c.args.s.now = known_bytes c.args.s.now (λ i. omega (arith, c.type_inv.s i)) in
    let entry : (Stands c.args.s.now c.loop-start.c.at c.in-Entry.start c.in-Entry.end c.in-Entry.next) = stands _ bytes_in _ c.loop-start.invariant.entries c.next.ensures c.in-Entry.is in
    failed c.loop-start.invariant entry c.is_group.ensures (not-true _ c.if-not-is_group.true-raw)

pub loop-start-smaller : goal.loop-start-smaller
loop-start-smaller c =
    let bytes_in : AreBytes c.args.s.now = known_bytes c.args.s.now (λ i. omega (arith, c.type_inv.s i)) in
    let entry : (Stands c.args.s.now c.loop-start.c.at c.in-Entry.start c.in-Entry.end c.in-Entry.next) = stands _ bytes_in _ c.loop-start.invariant.entries c.next.ensures c.in-Entry.is in
    turn_falls _ _ _ _ _ entry

pub loop-start-preserved : goal.loop-start-preserved
loop-start-preserved c =
    let bytes_in : AreBytes c.args.s.now = known_bytes c.args.s.now (λ i. omega (arith, c.type_inv.s i)) in
    let entry : (Stands c.args.s.now c.loop-start.c.at c.in-Entry.start c.in-Entry.end c.in-Entry.next) = stands _ bytes_in _ c.loop-start.invariant.entries c.next.ensures c.in-Entry.is in
    passed c.loop-start.invariant entry c.is_group.ensures (not-false _ c.if-not-is_group.false-raw)

pub returns-in-Torn : goal.returns-in-Torn
returns-in-Torn c =
    let bytes_in : AreBytes c.args.s.now = known_bytes c.args.s.now (λ i. omega (arith, c.type_inv.s i)) in
    not_torn _ bytes_in _ c.loop-start.invariant.entries c.next.ensures c.in-Torn.is

pub returns-in-End : goal.returns-in-End
returns-in-End c =
    let bytes_in : AreBytes c.args.s.now = known_bytes c.args.s.now (λ i. omega (arith, c.type_inv.s i)) in
    let h = c.loop-start.invariant in
    asked_all h (ended _ bytes_in _ h.entries c.next.ensures c.in-End.is)

use native.Mathlib.Omega.{arith}
use Rattle.model.specs.Number.{AreBytes}
use Rattle.keys.proofs.Keys.{known_bytes}
use Rattle.entries.proofs.Turns.{Stands, stands, ended, not_torn, turn_falls}
use Rattle.image_entries.proofs.Turns.{forward, inside, is_record}
use Rattle.image_entries.proofs.Tails.{cut_start, cut_end, cut_here, cut_on}
use Rattle.image_entries.proofs.tail_start.Goals as goal

pub loop-start-init : goal.loop-start-init
loop-start-init c = cut_start _ c.requires

pub slice_bounds-is_bare-count : goal.slice_bounds-is_bare-count
slice_bounds-is_bare-count c =
    let bytes_in : AreBytes c.args.s.now = known_bytes c.args.s.now (λ i. omega (arith, c.type_inv.s i)) in
    let entry : (Stands c.args.s.now c.loop-start.c.at c.in-Entry.start c.in-Entry.end c.in-Entry.next) = stands _ bytes_in _ c.loop-start.invariant.entries c.next.ensures c.in-Entry.is in
    forward entry

pub slice_bounds-is_bare-start : goal.slice_bounds-is_bare-start
slice_bounds-is_bare-start c =
    let bytes_in : AreBytes c.args.s.now = known_bytes c.args.s.now (λ i. omega (arith, c.type_inv.s i)) in
    let entry : (Stands c.args.s.now c.loop-start.c.at c.in-Entry.start c.in-Entry.end c.in-Entry.next) = stands _ bytes_in _ c.loop-start.invariant.entries c.next.ensures c.in-Entry.is in
    let t = entry in omega (arith, forward t, inside t)

pub slice_bounds-is_bare-end : goal.slice_bounds-is_bare-end
slice_bounds-is_bare-end c =
    let bytes_in : AreBytes c.args.s.now = known_bytes c.args.s.now (λ i. omega (arith, c.type_inv.s i)) in
    let entry : (Stands c.args.s.now c.loop-start.c.at c.in-Entry.start c.in-Entry.end c.in-Entry.next) = stands _ bytes_in _ c.loop-start.invariant.entries c.next.ensures c.in-Entry.is in
    let t = entry in omega (arith, forward t, inside t)

pub is_bare-requires : goal.is_bare-requires
is_bare-requires c =
    let bytes_in : AreBytes c.args.s.now = known_bytes c.args.s.now (λ i. omega (arith, c.type_inv.s i)) in
    let entry : (Stands c.args.s.now c.loop-start.c.at c.in-Entry.start c.in-Entry.end c.in-Entry.next) = stands _ bytes_in _ c.loop-start.invariant.entries c.next.ensures c.in-Entry.is in
    is_record entry

pub returns-then-is_bare : goal.returns-then-is_bare
returns-then-is_bare c =
    let bytes_in : AreBytes c.args.s.now = known_bytes c.args.s.now (λ i. omega (arith, c.type_inv.s i)) in
    let entry : (Stands c.args.s.now c.loop-start.c.at c.in-Entry.start c.in-Entry.end c.in-Entry.next) = stands _ bytes_in _ c.loop-start.invariant.entries c.next.ensures c.in-Entry.is in
    cut_here c.loop-start.invariant entry c.is_bare.ensures c.if-is_bare.true

pub loop-start-smaller : goal.loop-start-smaller
loop-start-smaller c =
    let bytes_in : AreBytes c.args.s.now = known_bytes c.args.s.now (λ i. omega (arith, c.type_inv.s i)) in
    let entry : (Stands c.args.s.now c.loop-start.c.at c.in-Entry.start c.in-Entry.end c.in-Entry.next) = stands _ bytes_in _ c.loop-start.invariant.entries c.next.ensures c.in-Entry.is in
    turn_falls _ _ _ _ _ entry

pub loop-start-preserved : goal.loop-start-preserved
loop-start-preserved c =
    let bytes_in : AreBytes c.args.s.now = known_bytes c.args.s.now (λ i. omega (arith, c.type_inv.s i)) in
    let entry : (Stands c.args.s.now c.loop-start.c.at c.in-Entry.start c.in-Entry.end c.in-Entry.next) = stands _ bytes_in _ c.loop-start.invariant.entries c.next.ensures c.in-Entry.is in
    cut_on c.loop-start.invariant entry c.is_bare.ensures bytes_in c.if-is_bare.false

pub returns-in-Torn : goal.returns-in-Torn
returns-in-Torn c =
    let bytes_in : AreBytes c.args.s.now = known_bytes c.args.s.now (λ i. omega (arith, c.type_inv.s i)) in
    not_torn _ bytes_in _ c.loop-start.invariant.entries c.next.ensures c.in-Torn.is

pub returns-in-End : goal.returns-in-End
returns-in-End c =
    let bytes_in : AreBytes c.args.s.now = known_bytes c.args.s.now (λ i. omega (arith, c.type_inv.s i)) in
    let h = c.loop-start.invariant in
    cut_end h (ended _ bytes_in _ h.entries c.next.ensures c.in-End.is)

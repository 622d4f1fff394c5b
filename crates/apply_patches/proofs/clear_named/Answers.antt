use Prim.Native.Nat.{◌≤◌}
use mathlib.Core.Path.{sym}
use native.Mathlib.Omega.{arith}
use lib.ListN.{length, take}
use Rattle.keys.proofs.Keys.{known_bytes}
use Rattle.entries.proofs.Turns.{Stands, stands, ended, not_torn}
use Rattle.apply_patches.proofs.Walks.{walked_start, whole, walked_bytes, place-within, falls, here-stands, turned, closed, all_sound, clear_named_suits}
use Rattle.apply_patches.proofs.clear_named.Goals as goal

pub loop-start-init : goal.loop-start-init
loop-start-init c =
    let are = known_bytes c.args.w.now (λ i. omega (arith, c.type_inv.w i)) in
    walked_start _ _ _ _ are c.requires.reals (all_sound are c.requires)

pub slice_bounds-next-end : goal.slice_bounds-next-end
slice_bounds-next-end c =
    let within : c.args.bounds.mid ≤ length c.args.w.now = omega (arith, c.requires.order, c.requires.fits) in
    omega (arith, within, c.loop-start.invariant.same)

pub slice_bounds-next-end-in-loop-start : goal.slice_bounds-next-end-in-loop-start
slice_bounds-next-end-in-loop-start c =
    let within : c.args.bounds.mid ≤ length c.args.w.now = omega (arith, c.requires.order, c.requires.fits) in
    sym (whole within c.loop-start.invariant)

pub slice_bounds-clear_in_entry-count : goal.slice_bounds-clear_in_entry-count
slice_bounds-clear_in_entry-count c =
    let within : c.args.bounds.mid ≤ length c.args.w.now = omega (arith, c.requires.order, c.requires.fits) in
    let entry : (Stands (take c.args.bounds.mid c.loop-start.w) c.loop-start.c.at c.in-Entry.start c.in-Entry.end c.in-Entry.next) = stands _ (walked_bytes within c.loop-start.invariant) _ c.loop-start.invariant.entries c.next.ensures c.in-Entry.is in
    let place : (c.in-Entry.start ≤ c.in-Entry.end) × (c.in-Entry.end ≤ length c.loop-start.w) = place-within (clear_named_suits _) within c.loop-start.invariant entry in
    place.0

pub slice_bounds-clear_in_entry-start : goal.slice_bounds-clear_in_entry-start
slice_bounds-clear_in_entry-start c =
    let within : c.args.bounds.mid ≤ length c.args.w.now = omega (arith, c.requires.order, c.requires.fits) in
    let entry : (Stands (take c.args.bounds.mid c.loop-start.w) c.loop-start.c.at c.in-Entry.start c.in-Entry.end c.in-Entry.next) = stands _ (walked_bytes within c.loop-start.invariant) _ c.loop-start.invariant.entries c.next.ensures c.in-Entry.is in
    let place : (c.in-Entry.start ≤ c.in-Entry.end) × (c.in-Entry.end ≤ length c.loop-start.w) = place-within (clear_named_suits _) within c.loop-start.invariant entry in
    omega (arith, place)

pub slice_bounds-clear_in_entry-end : goal.slice_bounds-clear_in_entry-end
slice_bounds-clear_in_entry-end c =
    let within : c.args.bounds.mid ≤ length c.args.w.now = omega (arith, c.requires.order, c.requires.fits) in
    let entry : (Stands (take c.args.bounds.mid c.loop-start.w) c.loop-start.c.at c.in-Entry.start c.in-Entry.end c.in-Entry.next) = stands _ (walked_bytes within c.loop-start.invariant) _ c.loop-start.invariant.entries c.next.ensures c.in-Entry.is in
    let place : (c.in-Entry.start ≤ c.in-Entry.end) × (c.in-Entry.end ≤ length c.loop-start.w) = place-within (clear_named_suits _) within c.loop-start.invariant entry in
    omega (arith, place)

pub clear_in_entry-requires : goal.clear_in_entry-requires
clear_in_entry-requires c =
    let within : c.args.bounds.mid ≤ length c.args.w.now = omega (arith, c.requires.order, c.requires.fits) in
    let entry : (Stands (take c.args.bounds.mid c.loop-start.w) c.loop-start.c.at c.in-Entry.start c.in-Entry.end c.in-Entry.next) = stands _ (walked_bytes within c.loop-start.invariant) _ c.loop-start.invariant.entries c.next.ensures c.in-Entry.is in
    here-stands (clear_named_suits c.args.id.now) within c.loop-start.invariant entry

pub loop-start-smaller : goal.loop-start-smaller
loop-start-smaller c =
    let within : c.args.bounds.mid ≤ length c.args.w.now = omega (arith, c.requires.order, c.requires.fits) in
    let entry : (Stands (take c.args.bounds.mid c.loop-start.w) c.loop-start.c.at c.in-Entry.start c.in-Entry.end c.in-Entry.next) = stands _ (walked_bytes within c.loop-start.invariant) _ c.loop-start.invariant.entries c.next.ensures c.in-Entry.is in
    falls (clear_named_suits c.args.id.now) within c.loop-start.invariant entry

pub loop-start-preserved : goal.loop-start-preserved
loop-start-preserved c =
    let within : c.args.bounds.mid ≤ length c.args.w.now = omega (arith, c.requires.order, c.requires.fits) in
    let entry : (Stands (take c.args.bounds.mid c.loop-start.w) c.loop-start.c.at c.in-Entry.start c.in-Entry.end c.in-Entry.next) = stands _ (walked_bytes within c.loop-start.invariant) _ c.loop-start.invariant.entries c.next.ensures c.in-Entry.is in
    turned (clear_named_suits c.args.id.now) within c.loop-start.invariant entry c.clear_in_entry.ensures
    (λ i. omega (arith, c.type_inv.w i))

pub shape_of-w-in-Torn : goal.shape_of-w-in-Torn
shape_of-w-in-Torn c = c.loop-start.invariant.same

pub returns-in-Torn : goal.returns-in-Torn
returns-in-Torn c =
    let within : c.args.bounds.mid ≤ length c.args.w.now = omega (arith, c.requires.order, c.requires.fits) in
    not_torn _ (walked_bytes within c.loop-start.invariant) _ c.loop-start.invariant.entries c.next.ensures c.in-Torn.is

pub shape_of-w-in-End : goal.shape_of-w-in-End
shape_of-w-in-End c = c.loop-start.invariant.same

pub returns-in-End : goal.returns-in-End
returns-in-End c =
    let within : c.args.bounds.mid ≤ length c.args.w.now = omega (arith, c.requires.order, c.requires.fits) in
    let are = known_bytes c.args.w.now (λ i. omega (arith, c.slice_known-1.given i)) in
    closed (clear_named_suits c.args.id.now) c.requires (all_sound are c.requires) c.loop-start.invariant
    (ended _ (walked_bytes within c.loop-start.invariant) _ c.loop-start.invariant.entries c.next.ensures c.in-End.is)

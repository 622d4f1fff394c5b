use Prim.Native.Nat.{suc}
use mathlib.Core.Path.{sym}
use native.Mathlib.Omega.{arith}
use lib.Seq.{length-take-le}
use Rattle.model.specs.Number.{AreBytes}
use Rattle.model.specs.Lookup.{prefixed}
use Rattle.keys.proofs.Keys.{known_bytes}
use Rattle.lookup_freezes.specs.Freezes.{frozen_in, Chosen}
use Rattle.lookup_freezes.proofs.Prefixes.{shorter}
use Rattle.lookup_freezes.proofs.Places.{freeze_query}
use Rattle.lookup_freezes.proofs.Climbs.{climb_start, lent-entries, prefix_fits, place-within, climb_found, climb_kept, climb_end, climb_on}
use Rattle.lookup_freezes.proofs.longest.Goals as goal
use Rattle.lookup_freezes.proofs.longest.Goals.{then-at-end, else-at-end}

pub loop-best-init : goal.loop-best-init
loop-best-init c = climb_start _ _ c.requires.0

pub slice_bounds-find-count : goal.slice_bounds-find-count
slice_bounds-find-count c = c.loop-best.invariant.inside

pub slice_bounds-find-start : goal.slice_bounds-find-start
slice_bounds-find-start c = omega (arith, c.loop-best.invariant.inside)

pub slice_bounds-find-end-in-loop-best : goal.slice_bounds-find-end-in-loop-best
slice_bounds-find-end-in-loop-best c = sym (length-take-le c.loop-best.n c.args.name.now c.loop-best.invariant.within)

pub find-p-requires : goal.find-p-requires
find-p-requires c = (lent-entries c.loop-best.invariant, freeze_query _ _ (prefix_fits c.loop-best.invariant c.requires.2) (omega arith))

pub overflow_add-at : goal.overflow_add-at
overflow_add-at c = omega (arith, (place-within c.loop-best.invariant c.find-p.ensures).0)

pub overflow_add-end : goal.overflow_add-end
overflow_add-end c = omega (arith, (place-within c.loop-best.invariant c.find-p.ensures).1)

pub returns-then-n-name : goal.returns-then-n-name
returns-then-n-name c =
    let bytes_in : AreBytes c.args.s.now = known_bytes c.args.s.now (λ i. omega (arith, c.type_inv.s i)) in
    let best : (let s = c.args.s.now in Chosen s (shorter (frozen_in s prefixed) c.args.name.now (suc c.loop-best.n)) c.if-at-end.best.at c.if-at-end.best.end) = let p = c.find-p.ensures in let keeps = c.requires.1 in elim c.if-at-end.branch [ then-at-end w ↦ climb_found c.loop-best.invariant p bytes_in keeps w.if-at-end.true w.best-is | else-at-end w ↦ climb_kept c.loop-best.invariant p bytes_in keeps w.if-at-end.false w.best-is ] in
    climb_end c.loop-best.invariant c.find-p.ensures bytes_in c.requires.1 best c.if-n-name.true

pub overflow_add-n : goal.overflow_add-n
overflow_add-n c = omega (arith, c.loop-best.invariant.within)

pub loop-best-smaller : goal.loop-best-smaller
loop-best-smaller c = omega (arith, c.loop-best.invariant.within, c.if-n-name.false)

pub loop-best-preserved : goal.loop-best-preserved
loop-best-preserved c =
    let bytes_in : AreBytes c.args.s.now = known_bytes c.args.s.now (λ i. omega (arith, c.type_inv.s i)) in
    let best : (let s = c.args.s.now in Chosen s (shorter (frozen_in s prefixed) c.args.name.now (suc c.loop-best.n)) c.if-at-end.best.at c.if-at-end.best.end) = let p = c.find-p.ensures in let keeps = c.requires.1 in elim c.if-at-end.branch [ then-at-end w ↦ climb_found c.loop-best.invariant p bytes_in keeps w.if-at-end.true w.best-is | else-at-end w ↦ climb_kept c.loop-best.invariant p bytes_in keeps w.if-at-end.false w.best-is ] in
    climb_on c.loop-best.invariant c.find-p.ensures bytes_in c.requires.1 best c.if-n-name.false

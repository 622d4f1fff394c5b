use mathlib.Core.Path.{refl}
use native.Mathlib.Omega.{arith}
use Rattle.model.specs.Number.{AreBytes}
use Rattle.keys.proofs.Keys.{known_bytes}
use Rattle.entries.proofs.Turns.{Stands, stands, ended, not_torn, turn_falls}
use Rattle.image_entries.proofs.Walks.{asked_start, asked_all, passed, failed}
use Rattle.restore_settled.proofs.Levels.{level-here, no_level-here}
use Rattle.restore_settled.proofs.has_no_level.Goals as goal

pub loop-start-init : goal.loop-start-init
loop-start-init c = asked_start _ _ c.requires

pub bounds-s-start : goal.bounds-s-start
bounds-s-start c =
    let bytes_in : AreBytes c.args.s.now = known_bytes c.args.s.now (λ i. omega (arith, c.shared_slice_known-1.given i)) in
    let entry : Stands c.args.s.now c.loop-start.c.at c.in-Entry.start c.in-Entry.end c.in-Entry.next = stands _ bytes_in _ c.loop-start.invariant.entries c.next.ensures c.in-Entry.is in
    let t = entry in omega (arith, t.first, t.last, t.entry.fits)

pub returns-then-s-start-eq-FEATURE_LEVEL : goal.returns-then-s-start-eq-FEATURE_LEVEL
returns-then-s-start-eq-FEATURE_LEVEL c =
    let bytes_in : AreBytes c.args.s.now = known_bytes c.args.s.now (λ i. omega (arith, c.shared_slice_known-1.given i)) in
    let entry : Stands c.args.s.now c.loop-start.c.at c.in-Entry.start c.in-Entry.end c.in-Entry.next = stands _ bytes_in _ c.loop-start.invariant.entries c.next.ensures c.in-Entry.is in
    failed c.loop-start.invariant entry (level-here entry c.if-s-start-eq-FEATURE_LEVEL.true) refl

pub loop-start-smaller : goal.loop-start-smaller
loop-start-smaller c =
    let bytes_in : AreBytes c.args.s.now = known_bytes c.args.s.now (λ i. omega (arith, c.shared_slice_known-1.given i)) in
    let entry : Stands c.args.s.now c.loop-start.c.at c.in-Entry.start c.in-Entry.end c.in-Entry.next = stands _ bytes_in _ c.loop-start.invariant.entries c.next.ensures c.in-Entry.is in
    turn_falls _ _ _ _ _ entry

pub loop-start-preserved : goal.loop-start-preserved
loop-start-preserved c =
    let bytes_in : AreBytes c.args.s.now = known_bytes c.args.s.now (λ i. omega (arith, c.shared_slice_known-1.given i)) in
    let entry : Stands c.args.s.now c.loop-start.c.at c.in-Entry.start c.in-Entry.end c.in-Entry.next = stands _ bytes_in _ c.loop-start.invariant.entries c.next.ensures c.in-Entry.is in
    passed c.loop-start.invariant entry (no_level-here entry c.if-s-start-eq-FEATURE_LEVEL.false) refl

pub returns-in-Torn : goal.returns-in-Torn
returns-in-Torn c =
    let bytes_in : AreBytes c.args.s.now = known_bytes c.args.s.now (λ i. omega (arith, c.type_inv.s i)) in
    not_torn _ bytes_in _ c.loop-start.invariant.entries c.next.ensures c.in-Torn.is

pub returns-in-End : goal.returns-in-End
returns-in-End c =
    let bytes_in : AreBytes c.args.s.now = known_bytes c.args.s.now (λ i. omega (arith, c.type_inv.s i)) in
    let h = c.loop-start.invariant in asked_all h (ended _ bytes_in _ h.entries c.next.ensures c.in-End.is)

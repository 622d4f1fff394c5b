-- `apply_step::step` meets its contract: the record's moves are made or refused, and what they make is weighed.
use mathlib.Core.Path.{subst}
use native.Mathlib.Omega.{arith}
use Rattle.keys.proofs.Keys.{known_bytes}
use Rattle.find.specs.Logged.{logged_in}
use Rattle.apply_plan.specs.Plans.{Planned}
use Rattle.apply_step.proofs.Stepping.{capacity_fits, space, counts_fit, ascends-after, overflowing, too_heavy, becomes_after, holding-after}
use Rattle.apply_step.proofs.step.Goals as goal

pub make-requires : goal.make-requires
make-requires c =
    let a = c.args in
    let holding = c.requires.0 in (
      record {
        good = holding.good;
        logged = c.requires.1;
        ascends = holding.holds.ascends;
        stored = holding.holds.entries;
        counts = counts_fit a.w.now a.state a.capacity holding;
        space = space a.w.now a.state a.capacity holding c.requires.2;
      },
      c.requires.3,
      c.requires.4,
    )

pub is_light-requires : goal.is_light-requires
is_light-requires c =
    let a = c.args in
    let rec = known_bytes a.rec.now (λ i. omega (arith, c.type_inv.rec i)) in
    let made = subst (Planned (logged_in c.args.rec.now) c.args.w.now c.args.state c.make.new.w) c.in-Moved.is c.make.ensures in (
      made.1.good,
      ascends-after a.w.now c.make.new.w a.state _ a.capacity c.requires.0 a.rec.now c.requires.1 rec made,
      capacity_fits a.w.now a.state a.capacity c.requires.0,
      omega (arith, c.requires.2, c.make.auto.w),
    )

pub returns-then-not-is_light : goal.returns-then-not-is_light
returns-then-not-is_light c =
    let a = c.args in
    let rec = known_bytes a.rec.now (λ i. omega (arith, c.type_inv.rec i)) in
    let made = subst (Planned (logged_in c.args.rec.now) c.args.w.now c.args.state c.make.new.w) c.in-Moved.is c.make.ensures in
    (too_heavy a.w.now c.make.new.w a.state _ a.capacity c.requires.0 a.rec.now c.requires.1 rec made c.is_light.ensures c.if-not-is_light.true-raw, tt)

pub returns-in-Refused : goal.returns-in-Refused
returns-in-Refused c =
    let a = c.args in
    let refused = subst (Planned (logged_in c.args.rec.now) c.args.w.now c.args.state c.make.new.w) c.in-Refused.is c.make.ensures in
    (overflowing a.w.now c.make.new.w a.state a.capacity a.rec.now refused, tt)

pub returns-else-not-is_light : goal.returns-else-not-is_light
returns-else-not-is_light c =
    let a = c.args in
    let rec = known_bytes a.rec.now (λ i. omega (arith, c.type_inv.rec i)) in
    let made = subst (Planned (logged_in c.args.rec.now) c.args.w.now c.args.state c.make.new.w) c.in-Moved.is c.make.ensures in
    let light = c.is_light.ensures in
    let after = known_bytes c.make.new.w (λ i. omega (arith, c.slice_known-4-1.given i)) in (
      becomes_after a.w.now c.make.new.w a.state _ a.capacity c.requires.0 a.rec.now c.requires.1 rec made light c.if-not-is_light.false-raw,
      holding-after a.w.now c.make.new.w a.state _ a.capacity c.requires.0 a.rec.now c.requires.1 rec made light c.if-not-is_light.false-raw after,
    )

-- `states::add_offset` meets its contract: 17 where the sum leaves i64, else the sum is stored.
use mathlib.Core.Path.{refl, sym, subst, ◌∙◌}
use native.Mathlib.Omega.{arith}
use lib.Seq.{length-take-le}
use Rattle.entries.specs.Entries.{record_in}
use Rattle.apply_plan.specs.Plans.{Added}
use Rattle.apply_plan.proofs.states.add_offset.Goals as goal

pub slice_bounds-overflows-end-2 : goal.slice_bounds-overflows-end-2
slice_bounds-overflows-end-2 c =
    sym (length-take-le _ _ (omega (arith, c.requires.0.order, c.requires.0.fits)))

pub returns-then-overflows : goal.returns-then-overflows
returns-then-overflows c = (refl, sym c.overflows.ensures ∙ c.if-overflows.true)

pub returns : goal.returns
returns c =
    subst (Added (record_in c.args.rec.now).run c.args.w.now c.args.state c.advance.new.w) (sym c.with_bounds.ensures)
    (sym c.overflows.ensures ∙ c.if-overflows.false, c.advance.ensures, refl)

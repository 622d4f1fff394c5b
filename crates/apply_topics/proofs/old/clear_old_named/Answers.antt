-- `old::clear_old_named` meets its contract.
use mathlib.Core.Path.{refl, sym}
use native.Mathlib.Omega.{arith}
use lib.Seq.{length-take-le}
use Rattle.keys.proofs.Fields.{lent-value, lent-short}
use Rattle.apply_topics.proofs.Olds.{kept-old, lost_old}
use Rattle.apply_topics.proofs.old.clear_old_named.Goals as goal

pub slice_bounds-old_topic-end-2 : goal.slice_bounds-old_topic-end-2
slice_bounds-old_topic-end-2 c =
    sym (length-take-le _ _ (omega (arith, c.requires.0.order, c.requires.0.fits)))

pub old_topic-old-requires : goal.old_topic-old-requires
old_topic-old-requires c =
    (c.requires.0.reals, lent-short _ _ _ _ c.value_at-p.ensures _ c.requires.2, refl)

pub returns-then-old : goal.returns-then-old
returns-then-old c =
    lost_old c.args.w.now c.args.bounds (lent-value _ _ _ _ c.value_at-p.ensures) _ _ c.old_topic-old.ensures c.if-old.true
    c.clear_named.ensures

pub returns-else-old : goal.returns-else-old
returns-else-old c =
    kept-old c.args.w.now c.args.bounds (lent-value _ _ _ _ c.value_at-p.ensures) _ _ c.old_topic-old.ensures c.if-old.false c.requires.0

-- `downgrade_brokers::put_projected` meets its contract.
use mathlib.Core.Path.{refl}
use Rattle.downgrade_brokers.proofs.Projected.{may_know, nothing, size_low, head_fits, run_fits, put-parts}
use Rattle.downgrade_brokers.proofs.put_projected.Goals as goal

pub returns-then-size-eq0 : goal.returns-then-size-eq0
returns-then-size-eq0 c =
    nothing _ c.requires.0 c.requires.1 c.args.level refl refl c.projected_size-size.ensures.0 c.if-size-eq0.true c.args.out.now c.args.at

pub overflow_sub-size : goal.overflow_sub-size
overflow_sub-size c =
    size_low _ c.requires.0 c.requires.1 c.args.level refl refl c.projected_size-size.ensures.0 c.if-size-eq0.false

pub put_head-requires : goal.put_head-requires
put_head-requires c =
    head_fits _ c.requires.0 c.requires.1 c.args.level refl refl c.projected_size-size.ensures.0 c.if-size-eq0.false c.args.out.now _ c.requires.2

pub put_run-requires : goal.put_run-requires
put_run-requires c = (
  (may_know _ c.requires.0 c.requires.1).0,
  (may_know _ c.requires.0 c.requires.1).1,
  run_fits _ c.requires.0 c.requires.1 c.args.level c.empty_tag.ensures c.gone_tag.ensures c.projected_size-size.ensures.0
      c.if-size-eq0.false c.args.out.now _ c.requires.2 c.put_head.ensures,
)

pub returns : goal.returns
returns c =
    put-parts _ c.requires.0 c.requires.1 c.args.level c.empty_tag.ensures c.gone_tag.ensures
    c.projected_size-size.ensures.0 c.if-size-eq0.false c.args.out.now _ c.requires.2 c.put_head.ensures c.put_run.ensures

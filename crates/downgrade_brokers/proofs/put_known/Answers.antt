-- `downgrade_brokers::put_known` meets its contract.
use native.Mathlib.Omega.{arith}
use Rattle.downgrade_brokers.proofs.Projected.{put-gone, put_empty, put_whole, empty_fits, whole_fits}
use Rattle.downgrade_brokers.proofs.put_known.Goals as goal

pub returns-then-tag-gone : goal.returns-then-tag-gone
returns-then-tag-gone c =
    put-gone _ _ _ c.args.v.now c.args.out.now _ c.if-tag-gone.true

pub put_head-requires : goal.put_head-requires
put_head-requires c =
    empty_fits _ _ _ c.args.v.now c.args.out.now _ c.if-tag-gone.false c.requires.1 c.if-tag-empty.true

pub returns-then-tag-empty : goal.returns-then-tag-empty
returns-then-tag-empty c =
    put_empty _ _ _ c.args.v.now c.args.out.now _ c.if-tag-gone.false c.if-tag-empty.true c.put_head.ensures

pub put_field-requires : goal.put_field-requires
put_field-requires c =
    whole_fits _ _ _ c.args.v.now c.args.out.now _ c.if-tag-gone.false c.requires.1 c.if-tag-empty.false

pub overflow_add-result-3 : goal.overflow_add-result-3
overflow_add-result-3 c =
    omega (arith, whole_fits _ _ _ c.args.v.now c.args.out.now _ c.if-tag-gone.false c.requires.1 c.if-tag-empty.false)

pub returns : goal.returns
returns c =
    put_whole _ _ _ c.args.v.now c.args.out.now _ c.if-tag-gone.false c.if-tag-empty.false c.put_field.ensures

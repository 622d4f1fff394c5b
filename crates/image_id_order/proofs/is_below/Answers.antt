-- `image_id_order::is_below` meets its contract: the lower numbers decide where the upper ones are the same.
use native.Mathlib.Omega.{arith}
use Rattle.image_id_order.proofs.Orders.{by_lower, by_upper}
use Rattle.image_id_order.proofs.is_below.Goals as goal

pub returns-then-high-a : goal.returns-then-high-a
returns-then-high-a c = by_lower _ _ _ _ c.if-high-a.true

pub returns : goal.returns
returns c =
    by_upper _ _ _ _ (omega (arith, c.shared_slice_known-1.given c.args.a))

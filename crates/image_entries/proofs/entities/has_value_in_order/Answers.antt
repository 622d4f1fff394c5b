-- `entities::has_value_in_order` meets its contract, by what the entities came to and whether a value is behind them.
use native.Mathlib.Omega.{arith}
use Rattle.image_entries.proofs.InOrder.{in_order, out_of_order_lem, valued, valueless, disordered}
use Rattle.image_entries.proofs.entities.has_value_in_order.Goals as goal

pub field-requires : goal.field-requires
field-requires c = let o = in_order _ c.look_at.ensures c.in-InOrder.is in (o.1, omega arith)

pub returns-in-Part : goal.returns-in-Part
returns-in-Part c =
    valued _ (in_order _ c.look_at.ensures c.in-InOrder.is) c.field.ensures.0 c.in-Part.is

pub returns-in-Missing : goal.returns-in-Missing
returns-in-Missing c =
    valueless _ (in_order _ c.look_at.ensures c.in-InOrder.is) c.field.ensures.0 c.in-Missing.is

pub returns-in-OutOfOrder : goal.returns-in-OutOfOrder
returns-in-OutOfOrder c = disordered _ (out_of_order_lem _ c.look_at.ensures c.in-OutOfOrder.is)

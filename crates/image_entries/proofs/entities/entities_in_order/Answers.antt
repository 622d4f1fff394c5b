-- `entities::entities_in_order` meets its contract, by what the entities came to.
use mathlib.Core.Path.{sym}
use Rattle.image_entries.proofs.InOrder.{in_order, out_of_order_lem}
use Rattle.image_entries.proofs.entities.entities_in_order.Goals as goal

pub returns-in-InOrder : goal.returns-in-InOrder
returns-in-InOrder c = sym (in_order _ c.look_at.ensures c.in-InOrder.is).0

pub returns-in-OutOfOrder : goal.returns-in-OutOfOrder
returns-in-OutOfOrder c = sym (out_of_order_lem _ c.look_at.ensures c.in-OutOfOrder.is)

-- `names::name_fault` meets its contract, exit by exit.
use Rattle.names.proofs.Walks.{fault_text, fault-below, fault_long, fault-none}
use Rattle.names.proofs.name_fault.Goals as goal

pub returns-then-not-is_text : goal.returns-then-not-is_text
returns-then-not-is_text c = fault_text _ _ _ c.is_text.ensures c.if-not-is_text.true-raw

pub returns-then-is_out_of_order : goal.returns-then-is_out_of_order
returns-then-is_out_of_order c =
    fault-below _ _ _ c.is_text.ensures c.if-not-is_text.false-raw c.is_out_of_order.ensures c.if-is_out_of_order.true

pub returns-then-v-gt-NAME_LIMIT : goal.returns-then-v-gt-NAME_LIMIT
returns-then-v-gt-NAME_LIMIT c =
    fault_long _ _ _ c.is_text.ensures c.if-not-is_text.false-raw c.is_out_of_order.ensures c.if-is_out_of_order.false c.if-v-gt-NAME_LIMIT.true

pub returns : goal.returns
returns c =
    fault-none _ _ _ c.is_text.ensures c.if-not-is_text.false-raw c.is_out_of_order.ensures c.if-is_out_of_order.false c.if-v-gt-NAME_LIMIT.false

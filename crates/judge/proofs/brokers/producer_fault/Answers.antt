-- `brokers::producer_fault` meets its contract: the next id first, then the broker.
use mathlib.Core.Path.{◌∙◌}
use Rattle.find.proofs.Epochs.{of_node}
use Rattle.judge.proofs.Epochs.{not_above, above}
use Rattle.judge.proofs.brokers.producer_fault.Goals as goal

pub returns-then-place_in-stored_next : goal.returns-then-place_in-stored_next
returns-then-place_in-stored_next c =
    let a = c.args in
    not_above a.s.now a.rec.now c.place_in.ensures c.stored_next.ensures c.if-place_in-stored_next.true

pub returns : goal.returns
returns c =
    let a = c.args in
    above a.s.now a.rec.now c.place_in.ensures c.stored_next.ensures c.if-place_in-stored_next.false c.unless.ensures
    (c.at_epoch.ensures ∙ of_node a.s.now a.rec.now c.node_at.ensures)

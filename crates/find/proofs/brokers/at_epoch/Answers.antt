-- `brokers::at_epoch` meets its contract: the broker is sought, and its epoch compared.
use native.Mathlib.Omega.{arith}
use Rattle.model.specs.Number.{AreBytes}
use Rattle.laws.specs.Numbers.{length-bytes}
use Rattle.keys.proofs.Keys.{known_bytes}
use Rattle.find.proofs.Queries.{broker_query}
use Rattle.find.proofs.Epochs.{no_broker, broker_headed, broker_epoch}
use Rattle.find.proofs.brokers.at_epoch.Goals as goal

pub find_node-p-requires : goal.find_node-p-requires
find_node-p-requires c = (c.requires.0, broker_query _ (length-bytes 8 c.args.node.0))

pub returns-then-end-at : goal.returns-then-end-at
returns-then-end-at c = no_broker _ c.args.rec.now _ c.find_node-p.ensures c.if-end-at.true

pub same_value-requires : goal.same_value-requires
same_value-requires c =
    let bytes_in : AreBytes c.args.s.now = known_bytes c.args.s.now (λ i. omega (arith, c.type_inv.s i)) in
    (broker_headed _ c.args.rec.now _ c.find_node-p.ensures bytes_in c.requires.0 c.if-end-at.false, c.requires.1)

pub returns : goal.returns
returns c =
    let bytes_in : AreBytes c.args.s.now = known_bytes c.args.s.now (λ i. omega (arith, c.type_inv.s i)) in
    broker_epoch _ c.args.rec.now _ c.find_node-p.ensures bytes_in c.requires.0 c.if-end-at.false c.same_value.ensures

-- `apply_brokers::copy_broker` meets its contract: the broker is sought, and copied where its epoch is the change's.
use native.Mathlib.Omega.{arith}
use borrow.Author.Tests.{not-true, not-false}
use Rattle.laws.specs.Numbers.{length-bytes}
use Rattle.keys.proofs.Keys.{known_bytes}
use Rattle.image_entries.proofs.Records.{headed}
use Rattle.find.proofs.Queries.{broker_query}
use Rattle.find.proofs.Epochs.{broker_headed}
use Rattle.apply_brokers.proofs.Plans.{not_stored, other_epoch, entry_fits, copied}
use Rattle.apply_brokers.proofs.copy_broker.Goals as goal

pub find_node-p-requires : goal.find_node-p-requires
find_node-p-requires c = (c.requires.0, broker_query _ (length-bytes 8 c.args.node.0))

pub returns-then-end-at : goal.returns-then-end-at
returns-then-end-at c = not_stored _ _ _ c.requires.1 c.find_node-p.ensures _ c.if-end-at.true

pub same_value-requires : goal.same_value-requires
same_value-requires c = (
  broker_headed _ c.args.rec.now _ c.find_node-p.ensures (known_bytes c.args.s.now (λ i. omega (arith, c.type_inv.s i)))
      c.requires.0 c.if-end-at.false,
  headed _ c.requires.1.is,
)

pub returns-then-not-same_value : goal.returns-then-not-same_value
returns-then-not-same_value c =
    other_epoch _ _ _ c.requires.1 c.find_node-p.ensures (known_bytes c.args.s.now (λ i. omega (arith, c.type_inv.s i)))
    c.requires.0 c.if-end-at.false c.same_value.ensures _ (not-true _ c.if-not-same_value.true-raw)

pub copy_in-requires : goal.copy_in-requires
copy_in-requires c =
    entry_fits _ _ _ c.requires.1 c.find_node-p.ensures (known_bytes c.args.s.now (λ i. omega (arith, c.type_inv.s i))) c.requires.0
    c.if-end-at.false c.same_value.ensures c.args.b.now c.requires.2

pub returns : goal.returns
returns c =
    copied _ _ _ c.requires.1 c.find_node-p.ensures (known_bytes c.args.s.now (λ i. omega (arith, c.type_inv.s i))) c.requires.0
    c.if-end-at.false c.same_value.ensures (not-false _ c.if-not-same_value.false-raw) c.args.b.now _ c.requires.2 c.copy_in.auto.b c.copy_in.ensures

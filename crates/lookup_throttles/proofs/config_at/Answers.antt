-- `lookup_throttles::config_at` meets its contract.
use native.Mathlib.Omega.{arith}
use Rattle.keys.proofs.Keys.{known_bytes}
use Rattle.lookup_throttles.proofs.Configs.{config_query, no_config, inside, config_found}
use Rattle.lookup_throttles.proofs.config_at.Goals as goal

pub find-p-requires : goal.find-p-requires
find-p-requires c =
    (c.requires.0, config_query c.args.node.0 c.args.name.now c.put.ensures c.requires.1)

pub returns-then-end-at : goal.returns-then-end-at
returns-then-end-at c =
    no_config c.args.s.now c.args.node.0 _ c.args.name.now c.put.ensures c.find-p.ensures c.if-end-at.true

pub field-requires : goal.field-requires
field-requires c =
    inside c.args.s.now c.args.node.0 _ c.args.name.now c.put.ensures c.find-p.ensures
    (known_bytes c.args.s.now (λ i. omega (arith, c.type_inv.s i))) c.requires.0 c.if-end-at.false

pub returns : goal.returns
returns c =
    config_found c.args.s.now c.args.node.0 _ c.args.name.now c.put.ensures c.find-p.ensures
    (known_bytes c.args.s.now (λ i. omega (arith, c.type_inv.s i))) c.requires.0 c.if-end-at.false c.field.result c.field.ensures

-- `brokers::unknown_controller` meets its contract: the node is sought among the controllers.
use mathlib.Core.Path.{ap, ◌∙◌}
use native.Mathlib.Omega.{arith}
use Rattle.model.specs.Choice.{unless, is_some}
use Rattle.model.specs.Number.{bytes}
use Rattle.model.specs.Map.{get}
use Rattle.model.specs.Contents.{key}
use Rattle.laws.specs.Numbers.{length-bytes}
use Rattle.keys.proofs.Keys.{known_bytes}
use Rattle.entries.specs.Held.{entries_in}
use Rattle.find.proofs.Queries.{controller_query, controller_key}
use Rattle.find.proofs.Held.{is_held}
use Rattle.judge.proofs.brokers.unknown_controller.Goals as goal

pub find_node-p-requires : goal.find_node-p-requires
find_node-p-requires c = (c.requires, controller_query _ (length-bytes 8 c.args.node.0))

pub returns : goal.returns
returns c =
    let s = c.args.s.now in
    let node = bytes 8 c.args.node.0 in
    let are = known_bytes s (λ i. omega (arith, c.type_inv.s i)) in
    c.unless.ensures
    ∙ ap (λ b. unless b 10) (is_held s c.find_node-p.ensures are c.requires)
    ∙ ap (λ k. unless (is_some (get key k (entries_in s))) 10) (controller_key node)

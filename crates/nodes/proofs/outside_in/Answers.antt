-- `nodes::outside_in` meets its contract: where there are others, both lists' numbers are loaded, and the first ones are counted.
use mathlib.Core.Path.{ap₂, ◌∙◌}
use Rattle.std.proofs.Common.{rules}
use Rattle.model.specs.Nodes.{outside}
use Rattle.nodes.proofs.Numbers.{nodes-told, all-outside}
use Rattle.nodes.proofs.outside_in.Goals as goal

pub returns-then-is_empty : goal.returns-then-is_empty
returns-then-is_empty c = all-outside c.args.v.now c.args.w.now (search rules)

pub returns : goal.returns
returns c =
    let w = c.load-more.ensures in
    let v = c.load-count.ensures in
    c.outside.ensures ∙ ap₂ outside (nodes-told _ w.0 _ w.1) (nodes-told _ v.0 _ v.1)

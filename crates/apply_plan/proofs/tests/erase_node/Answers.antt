-- `tests::erase_node` meets its contract: the entry of the node's eight bytes is taken out.
use mathlib.Core.Path.{sym, subst}
use mathlib.Core.List.{[]}
use Rattle.find.specs.Found.{Query}
use Rattle.apply_plan.proofs.Arms.{drop-lent}
use Rattle.apply_plan.proofs.tests.erase_node.Goals as goal

pub erase_named-requires : goal.erase_named-requires
erase_named-requires c =
    (c.requires.0, subst (λ v. Query c.args.kind v []) (sym c.put.ensures) c.requires.1)

pub returns : goal.returns
returns c =
    drop-lent c.args.kind c.put.ensures c.erase_named.ensures

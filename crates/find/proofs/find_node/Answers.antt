-- `find::find_node` meets its contract: the node's eight bytes are sought.
use mathlib.Core.List.{[]}
use mathlib.Core.Path.{subst, sym}
use Rattle.entries.specs.Entries.{Placed}
use Rattle.find.specs.Found.{Query, query_key}
use Rattle.find.proofs.find_node.Goals as goal

pub find-requires : goal.find-requires
find-requires c =
    (c.requires.0, subst (λ v. Query c.args.kind v []) (sym c.put.ensures) c.requires.1)

pub returns : goal.returns
returns c =
    subst (λ v. Placed c.args.s.now (query_key c.args.kind v []) c.find.result.at c.find.result.end)
    c.put.ensures c.find.ensures

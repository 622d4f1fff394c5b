-- `nodes::load` meets its contract. The invariant: the nodes before the i-th are there.
use mathlib.Core.Path.{◌≡◌}
use lib.ListN.{take}
use Rattle.model.specs.Nodes.{nodes_from}
use Rattle.nodes.proofs.load.Given as goal

abbrev pub invariant-loop-i : goal.invariant-loop-i
invariant-loop-i l = take l.i l.node-items ≡ nodes_from l.i l.v

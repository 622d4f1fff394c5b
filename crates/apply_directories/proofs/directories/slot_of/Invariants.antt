-- `directories::slot_of` meets its contract. The invariant: no node before the i-th is the one.
use Prim.Native.Nat.{◌-◌}
use Rattle.model.specs.Number.{bytes}
use Rattle.apply_directories.proofs.Slots.{Walked}
use Rattle.apply_directories.proofs.directories.slot_of.Given as goal

abbrev pub invariant-loop-i : goal.invariant-loop-i
invariant-loop-i l = Walked l.nodes (bytes 8 l.node.0) l.count l.i

abbrev pub decreases-loop-i : goal.decreases-loop-i
decreases-loop-i l = l.count - l.i

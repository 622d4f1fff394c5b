-- `apply_patches::clear_named` meets its contract. The invariant: the entries before the walk's place are changed, the others are as they were.
use Prim.Native.Nat.{◌-◌}
use Rattle.model.specs.Move.{clear_named}
use Rattle.apply_patches.proofs.Entries.{Sound}
use Rattle.apply_patches.proofs.Walks.{Walked}
use Rattle.apply_patches.proofs.clear_named.Given as goal

abbrev pub invariant-loop-start : goal.invariant-loop-start
invariant-loop-start l = Walked (clear_named l.id) Sound l.initial.w l.w l.mid l.c.at

abbrev pub decreases-loop-start : goal.decreases-loop-start
decreases-loop-start l = l.mid - l.c.at

-- `apply_patches::count_partition` meets its contract. The invariant: the entries before the walk's place are changed, the others are as they were.
use Prim.Native.Nat.{◌-◌}
use Rattle.model.specs.Image.{entry_of}
use Rattle.model.specs.Move.{count_partition}
use Rattle.apply_patches.specs.Patches.{CountFits}
use Rattle.apply_patches.proofs.Entries.{Sound}
use Rattle.apply_patches.proofs.Walks.{Walked}
use Rattle.apply_patches.proofs.count_partition.Given as goal

abbrev pub invariant-loop-start : goal.invariant-loop-start
invariant-loop-start l = Walked (count_partition l.name l.new l.replicas) (λ r. Sound r × CountFits (entry_of r)) l.initial.w l.w l.mid l.c.at

abbrev pub decreases-loop-start : goal.decreases-loop-start
decreases-loop-start l = l.mid - l.c.at

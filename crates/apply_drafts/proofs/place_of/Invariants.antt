-- `apply_drafts::place_of` meets its contract. The invariant: what was passed, and the rest with the field set, make all with the field set.
use Prim.Native.Nat.{◌-◌}
use Rattle.apply_drafts.proofs.Places.{Ahead}
use Rattle.apply_drafts.proofs.place_of.Given as goal

abbrev pub invariant-loop-t : goal.invariant-loop-t
invariant-loop-t l = Ahead l.s l.tag l.c

abbrev pub decreases-loop-t : goal.decreases-loop-t
decreases-loop-t l = l.c.to - l.c.at

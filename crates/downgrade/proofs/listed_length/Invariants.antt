-- `downgrade::listed_length` meets its contract. The invariant: what is counted, and the length of the records of the entries to come, are the
-- length of all.
use Prim.Native.Nat.{◌-◌}
use lib.ListN.{length}
use Rattle.find.proofs.Passes.{Counted}
use Rattle.downgrade.specs.Listed.{listed_bytes}
use Rattle.downgrade.proofs.listed_length.Given as goal

abbrev pub invariant-loop-start : goal.invariant-loop-start
invariant-loop-start l = Counted (listed_bytes l.level) l.s l.c.at l.n

abbrev pub decreases-loop-start : goal.decreases-loop-start
decreases-loop-start l = length l.s - l.c.at

-- `lookup_freeze_list::pass` meets its contract. The invariant: what the entries to come make of the output is what all make of the first.
use Prim.Native.Nat.{◌-◌}
use lib.ListN.{length, drop}
use Rattle.lookup_freeze_list.proofs.Walks.{Passing}
use Rattle.lookup_freeze_list.proofs.pass.Given as goal

abbrev pub invariant-loop-start : goal.invariant-loop-start
invariant-loop-start l = Passing l.literal l.s l.list (drop l.last l.list) l.initial.out l.out l.c.at l.index l.read l.w

abbrev pub decreases-loop-start : goal.decreases-loop-start
decreases-loop-start l = length l.s - l.c.at

-- `downgrade_brokers::put_run` meets its contract. The invariant: what is written, and the fields to come as they are known, are all as it is known.
use Prim.Native.Nat.{◌-◌}
use Rattle.downgrade_brokers.proofs.Walks.{Wrote}
use Rattle.downgrade_brokers.proofs.put_run.Given as goal

abbrev pub invariant-loop-tag : goal.invariant-loop-tag
invariant-loop-tag l = Wrote l.s l.empty l.gone l.initial.out l.out l.at l.c l.to

abbrev pub decreases-loop-tag : goal.decreases-loop-tag
decreases-loop-tag l = l.c.to - l.c.at

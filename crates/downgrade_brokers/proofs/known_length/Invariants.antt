-- `downgrade_brokers::known_length` meets its contract. The invariant: what is counted, and the length of the fields to come, are the length of all.
use Prim.Native.Nat.{◌-◌}
use Rattle.downgrade_brokers.proofs.Walks.{Counted}
use Rattle.downgrade_brokers.proofs.known_length.Given as goal

abbrev pub invariant-loop-tag : goal.invariant-loop-tag
invariant-loop-tag l = Counted l.s l.empty l.gone l.c l.n

abbrev pub decreases-loop-tag : goal.decreases-loop-tag
decreases-loop-tag l = l.c.to - l.c.at

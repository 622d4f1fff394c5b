-- `short_histories::find_history` meets its contract. The invariant: the number that is left names the history among those from the length on.
use Prim.Native.Nat.{◌-◌}
use Rattle.short_histories.proofs.Lengths.{Left}
use Rattle.short_histories.proofs.find_history.Given as goal

abbrev pub invariant-loop-len : goal.invariant-loop-len
invariant-loop-len l = Left l.n l.number l.len l.i

abbrev pub decreases-loop-len : goal.decreases-loop-len
decreases-loop-len l = 5 - l.len

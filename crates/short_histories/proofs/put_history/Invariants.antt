-- `short_histories::put_history` meets its contract. The invariant: what is written and the rest are the whole.
use Prim.Native.Nat.{◌^◌, ◌≤◌, ◌<◌}
use Rattle.records.proofs.Growing.{Growing}
use Rattle.short_histories.proofs.Written.{rest_of}
use Rattle.short_histories.proofs.put_history.Given as goal

abbrev pub invariant-loop-left : goal.invariant-loop-left
invariant-loop-left l =
    (l.left ≤ l.len) × (l.i < l.n ^ l.left) × Growing l.initial.out l.out 0 l.at (rest_of l.s l.n l.len l.index) (rest_of l.s l.n l.left l.i)

abbrev pub decreases-loop-left : goal.decreases-loop-left
decreases-loop-left l = l.left

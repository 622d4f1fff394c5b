-- `short_histories::history_size` meets its contract. The invariant: the size so far and that of the rest are the whole.
use mathlib.Core.Path.{◌≡◌}
use Prim.Native.Nat.{◌+◌, ◌-◌, ◌*◌, ◌^◌, ◌≤◌, ◌<◌}
use lib.ListN.{length}
use Rattle.short_histories.proofs.Written.{rest_of}
use Rattle.short_histories.proofs.history_size.Given as goal

abbrev pub invariant-loop-left : goal.invariant-loop-left
invariant-loop-left l =
    (l.left ≤ l.len) × (l.i < l.n ^ l.left) × (l.size + length (rest_of l.s l.n l.left l.i) ≡ length (rest_of l.s l.n l.len l.index)) × (l.size ≤ 65538 * (l.len - l.left))

abbrev pub decreases-loop-left : goal.decreases-loop-left
decreases-loop-left l = l.left

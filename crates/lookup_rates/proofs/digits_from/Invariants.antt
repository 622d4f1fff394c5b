-- `lookup_rates::digits_from` meets its contract: the digits that are passed spell a number, and the others go on from it.
use Prim.Native.Nat.{◌-◌}
use lib.ListN.{length}
use Rattle.lookup_rates.proofs.Digits.{Spelt}
use Rattle.lookup_rates.proofs.digits_from.Given as goal

abbrev pub invariant-loop-i : goal.invariant-loop-i
invariant-loop-i l = Spelt l.s l.from l.i l.n

abbrev pub decreases-loop-i : goal.decreases-loop-i
decreases-loop-i l = length l.s - l.i

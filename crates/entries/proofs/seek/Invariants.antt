-- `entries::seek` meets its contract. The invariant: what has been passed and what is found in the rest is what is found in all.
use Prim.Native.Nat.{◌-◌}
use lib.ListN.{length}
use Rattle.keys.specs.Keys.{key_in}
use Rattle.entries.proofs.Seeks.{Here}
use Rattle.entries.proofs.seek.Given as goal

abbrev pub invariant-loop-start : goal.invariant-loop-start
invariant-loop-start l = Here l.s (key_in l.probe) l.c.at

abbrev pub decreases-loop-start : goal.decreases-loop-start
decreases-loop-start l = length l.s - l.c.at

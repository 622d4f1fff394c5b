-- `records::put_fields` meets its contract. The invariant: the fields still to come, written where the last one ended, make what is to be
-- written whole.
use Prim.Native.Nat.{◌-◌, ◌≤◌}
use mathlib.Core.Path.{◌≡◌}
use lib.ListN.{length}
use Rattle.model.specs.Run.{bytes_of}
use Rattle.model.specs.Record.{gathered}
use Rattle.shape_faults.proofs.Gathered.{gathered_from}
use Rattle.records.specs.Answers.{put_at}
use Rattle.records.proofs.Bodies.{Left}
use Rattle.records.proofs.put_fields.Given as goal

abbrev pub invariant-loop-i : goal.invariant-loop-i
invariant-loop-i l =
    (length l.out ≡ length l.initial.out) × (l.i ≤ length l.tags) × Left l.tags l.lengths l.values l.i l.start l.out l.to
    × (put_at l.out l.to (bytes_of (gathered_from l.tags l.lengths l.values l.i l.start)) ≡ put_at l.initial.out l.at (bytes_of (gathered l.tags l.lengths l.values)))

abbrev pub decreases-loop-i : goal.decreases-loop-i
decreases-loop-i l = length l.tags - l.i

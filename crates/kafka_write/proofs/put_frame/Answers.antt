-- `kafka_write::put_frame` meets its contract: three bytes, one after the other.
use native.Mathlib.Omega.{arith}
use lib.ListN.{length-set}
use Rattle.kafka_write.proofs.Emitted.{frame_put}
use Rattle.kafka_write.proofs.put_frame.Goals as goal

pub bounds-out-1 : goal.bounds-out-1
bounds-out-1 c = simp length-set (omega (arith, c.requires))

pub returns : goal.returns
returns c = frame_put c.args.out.now c.args.key c.requires

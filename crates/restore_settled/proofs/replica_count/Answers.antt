-- `restore_settled::replica_count` meets its contract.
use Prim.Native.Nat.{◌/◌, ◌-◌}
use mathlib.Core.Path.{◌≡◌, ap}
use native.Mathlib.Omega.{arith}
use lib.ListN.{length}
use Rattle.model.specs.Run.{value}
use Rattle.keys.specs.Keys.{run_in}
use Rattle.keys.proofs.Found.{part_length}
use Rattle.restore_settled.proofs.replica_count.Goals as goal

pub returns : goal.returns
returns c =
    let v = c.value_at-p.ensures in let n = part_length _ _ _ _ v.1 v.2 v.0 in
    (let e : c.value_at-p.result.end - c.value_at-p.result.start ≡ length (value 4 (run_in c.args.e.now)) = omega arith in ap (λ x. x / 8) e)

-- `apply_work::put_real` meets its contract: the record is put before the empty groups.
use mathlib.Core.Path.{refl}
use native.Mathlib.Omega.{arith}
use Rattle.keys.proofs.Keys.{known_bytes}
use Rattle.apply_work.proofs.Moves.{put_reals}
use Rattle.apply_work.proofs.put_real.Goals as goal

pub returns : goal.returns
returns c =
    let are_bytes = known_bytes c.args.w.now (λ i. omega (arith, c.slice_known-1.given i)) in
    put_reals are_bytes c.requires.0 c.requires.1 c.requires.2 refl c.put-n.ensures

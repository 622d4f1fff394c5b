-- `apply_work::put_group` meets its contract: the record is put after the real entries.
use native.Mathlib.Omega.{arith}
use Rattle.keys.proofs.Keys.{known_bytes}
use Rattle.apply_work.proofs.Moves.{put_groups}
use Rattle.apply_work.proofs.put_group.Goals as goal

pub returns : goal.returns
returns c =
    let are_bytes = known_bytes c.args.w.now (λ i. omega (arith, c.slice_known-1.given i)) in
    put_groups are_bytes c.requires.0 c.requires.1 c.put-n.ensures

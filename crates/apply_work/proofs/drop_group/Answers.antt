-- `apply_work::drop_group` meets its contract: the entry is taken out after the real ones.
use native.Mathlib.Omega.{arith}
use Rattle.keys.proofs.Keys.{known_bytes}
use Rattle.apply_work.proofs.Moves.{drop_groups}
use Rattle.apply_work.proofs.drop_group.Goals as goal

pub returns : goal.returns
returns c =
    let are_bytes = known_bytes c.args.w.now (λ i. omega (arith, c.slice_known-1.given i)) in
    drop_groups are_bytes c.requires.0 _ c.remove-left.ensures

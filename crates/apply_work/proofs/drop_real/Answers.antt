-- `apply_work::drop_real` meets its contract: the entry is taken out before the empty groups.
use mathlib.Core.Path.{refl}
use native.Mathlib.Omega.{arith}
use Rattle.keys.proofs.Keys.{known_bytes}
use Rattle.apply_work.proofs.Moves.{drop_reals}
use Rattle.apply_work.proofs.drop_real.Goals as goal

pub returns : goal.returns
returns c =
    let are_bytes = known_bytes c.args.w.now (λ i. omega (arith, c.slice_known-1.given i)) in
    drop_reals are_bytes c.requires.0 _ refl c.remove-left.ensures

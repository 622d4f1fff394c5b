-- `apply_work::drop_topic` meets its contract: the entries are taken out before the empty groups.
use mathlib.Core.Path.{refl}
use native.Mathlib.Omega.{arith}
use Rattle.keys.proofs.Keys.{known_bytes}
use Rattle.apply_work.proofs.Moves.{keep_reals}
use Rattle.apply_work.proofs.drop_topic.Goals as goal

pub returns : goal.returns
returns c =
    let are_bytes = known_bytes c.args.w.now (λ i. omega (arith, c.slice_known-1.given i)) in
    keep_reals are_bytes c.requires _ refl c.remove_topic-left.ensures

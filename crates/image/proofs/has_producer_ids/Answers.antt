-- `image::has_producer_ids` meets its contract: the place of their key is not empty.
use native.Mathlib.Omega.{arith}
use Rattle.keys.proofs.Keys.{known_bytes}
use Rattle.image.proofs.Steps.{producer_keyed, producers-there}
use Rattle.image.proofs.has_producer_ids.Goals as goal

pub seek-p-requires : goal.seek-p-requires
seek-p-requires c = (c.requires, producer_keyed)

pub returns : goal.returns
returns c =
    producers-there c.args.s.now (known_bytes c.args.s.now (λ i. omega (arith, c.type_inv.s i))) c.requires _ _ c.seek-p.ensures

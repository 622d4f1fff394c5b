-- `lookups::is_stored` meets its contract: the entry is there where its place is not empty.
use native.Mathlib.Omega.{arith}
use Rattle.keys.proofs.Keys.{known_bytes}
use Rattle.find.proofs.Held.{is_held}
use Rattle.judge.proofs.lookups.is_stored.Goals as goal

pub returns : goal.returns
returns c =
    let s = c.args.s.now in
    let are_bytes = known_bytes s (λ i. omega (arith, c.type_inv.s i)) in
    is_held s c.find-p.ensures are_bytes c.requires.0

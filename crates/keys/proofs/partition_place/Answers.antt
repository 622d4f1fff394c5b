-- `keys::partition_place` meets its contract: the place of the number that the four bytes spell.
use mathlib.Core.Path.{ap}
use native.Mathlib.Omega.{arith}
use Rattle.model.specs.Number.{place}
use Rattle.keys.proofs.Found.{part_length, spelt-number}
use Rattle.keys.proofs.partition_place.Goals as goal

pub get-requires : goal.get-requires
get-requires c =
    let v = c.value_at-p.ensures in
    let n = part_length _ _ _ _ v.1 v.2 v.0 in
    (omega arith, omega (arith, c.requires.1))

pub returns : goal.returns
returns c =
    let p = c.value_at-p in
    ap (place 4) (spelt-number c.args.s.now p.result.start p.result.end _ p.ensures 4 c.requires.1 _ c.get.ensures.0)

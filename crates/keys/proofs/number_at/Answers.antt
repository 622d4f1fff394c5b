-- `keys::number_at` meets its contract: the part that `value_at` found has the field's width.
use native.Mathlib.Omega.{arith}
use Rattle.keys.proofs.Found.{part_length, spelt-number}
use Rattle.keys.proofs.number_at.Goals as goal

pub get-requires : goal.get-requires
get-requires c =
    let v = c.value_at-p.ensures in
    let n = part_length _ _ _ _ v.1 v.2 v.0 in
    (c.requires.1, omega (arith, c.requires.2))

pub returns : goal.returns
returns c =
    let p = c.value_at-p in
    spelt-number c.args.s.now p.result.start p.result.end _ p.ensures _ c.requires.2 _ c.get.ensures.0

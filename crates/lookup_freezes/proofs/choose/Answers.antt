-- `lookup_freezes::choose` meets its contract.
use native.Mathlib.Omega.{arith}
use Rattle.model.specs.Number.{AreBytes}
use Rattle.keys.proofs.Keys.{known_bytes}
use Rattle.lookup_freezes.proofs.Places.{freeze_query, literal-found, prefix_next}
use Rattle.lookup_freezes.proofs.choose.Goals as goal

pub find-p-requires : goal.find-p-requires
find-p-requires c =
    (c.requires.0, freeze_query _ _ c.requires.2 (omega arith))

pub returns-then-p : goal.returns-then-p
returns-then-p c =
    let bytes_in : AreBytes c.args.s.now = known_bytes c.args.s.now (λ i. omega (arith, c.type_inv.s i)) in
    literal-found c.args.s.now c.args.name.now c.find-p.ensures bytes_in c.requires.0 c.requires.1 c.if-p.true

pub returns : goal.returns
returns c =
    let bytes_in : AreBytes c.args.s.now = known_bytes c.args.s.now (λ i. omega (arith, c.type_inv.s i)) in
    prefix_next c.args.s.now c.args.name.now c.find-p.ensures bytes_in c.requires.0 c.requires.1 c.if-p.false c.longest.ensures

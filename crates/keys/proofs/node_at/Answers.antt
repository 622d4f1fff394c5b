-- `keys::node_at` meets its contract: the node's number spells the field's eight bytes.
use native.Mathlib.Omega.{arith}
use Rattle.keys.proofs.Keys.{known_bytes, spelt-value}
use Rattle.keys.proofs.node_at.Goals as goal

pub number_at-requires : goal.number_at-requires
number_at-requires c = (c.requires.0, omega arith, c.requires.1)

pub returns : goal.returns
returns c =
    let are = known_bytes c.args.s.now (λ i. omega (arith, c.type_inv.s i)) in
    spelt-value c.args.s.now are c.args.tag 8 c.requires.1 c.number_at.ensures

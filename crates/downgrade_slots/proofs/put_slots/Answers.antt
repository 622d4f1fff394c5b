use native.Mathlib.Omega.{arith}
use Rattle.keys.proofs.Keys.{known_bytes}
use Rattle.records.proofs.Growing.{grown_length}
use Rattle.downgrade_slots.proofs.Walks.{node_lent, write_start, slot-room, write_turn, wrote}
use Rattle.downgrade_slots.proofs.put_slots.Goals as goal

pub loop-i-init : goal.loop-i-init
loop-i-init c = write_start _ _ _ _ _ _ _ c.requires.2

pub get-requires : goal.get-requires
get-requires c = (omega arith, omega (arith, c.requires.0))

pub put_slot-to-requires : goal.put_slot-to-requires
put_slot-to-requires c =
    let nodes = c.args.nodes.now in
    let are = known_bytes nodes (λ i. omega (arith, c.type_inv.nodes i)) in
    let node = node_lent nodes are c.loop-i.i (omega (arith, c.requires.0, c.loop-i-test.true)) c.get.ensures.0 in
    slot-room c.loop-i.invariant c.loop-i-test.true node

pub loop-i-preserved : goal.loop-i-preserved
loop-i-preserved c =
    let nodes = c.args.nodes.now in
    let are = known_bytes nodes (λ i. omega (arith, c.type_inv.nodes i)) in
    let node = node_lent nodes are c.loop-i.i (omega (arith, c.requires.0, c.loop-i-test.true)) c.get.ensures.0 in
    write_turn c.loop-i.invariant c.loop-i-test.true node c.put_slot-to.ensures

pub shape_of-out : goal.shape_of-out
shape_of-out c = grown_length c.loop-i.invariant.grows

pub returns : goal.returns
returns c = wrote c.loop-i.invariant c.loop-i-test.false

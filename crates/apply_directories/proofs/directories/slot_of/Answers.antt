use mathlib.Core.Path.{refl}
use native.Mathlib.Omega.{arith}
use borrow.Author.Tests.{eq-eqb, ne_eqb}
use Rattle.keys.proofs.Keys.{known_bytes}
use Rattle.apply_directories.proofs.Slots.{node_same, walk_start, walk_bound, walk_here, walk_on, walk_end}
use Rattle.apply_directories.proofs.directories.slot_of.Goals as goal

pub loop-i-init : goal.loop-i-init
loop-i-init c = walk_start _ _ _ refl c.requires

pub overflow_mul-i : goal.overflow_mul-i
overflow_mul-i c = omega (arith, walk_bound _ _ _ _ c.loop-i.invariant c.loop-i-test.true)

pub get-requires : goal.get-requires
get-requires c = (omega arith, walk_bound _ _ _ _ c.loop-i.invariant c.loop-i-test.true)

pub returns-then-get-node : goal.returns-then-get-node
returns-then-get-node c =
    let nodes = c.args.nodes.now in
    let at = c.loop-i in
    let more = c.loop-i-test.true in
    let are = known_bytes nodes (λ i. omega (arith, c.type_inv.nodes i)) in
    let fits = walk_bound nodes _ _ _ at.invariant more in
    let same = node_same nodes are _ fits c.args.node.0 (omega (arith, c.struct_known-1.given)) c.get.ensures.0 in
    walk_here nodes _ _ _ at.invariant more same (eq-eqb _ _ c.if-get-node.true)

pub loop-i-preserved : goal.loop-i-preserved
loop-i-preserved c =
    let nodes = c.args.nodes.now in
    let at = c.loop-i in
    let more = c.loop-i-test.true in
    let are = known_bytes nodes (λ i. omega (arith, c.type_inv.nodes i)) in
    let fits = walk_bound nodes _ _ _ at.invariant more in
    let same = node_same nodes are _ fits c.args.node.0 (omega (arith, c.struct_known-1.given)) c.get.ensures.0 in
    walk_on nodes _ _ _ at.invariant more same (ne_eqb _ _ c.if-get-node.false)

pub returns : goal.returns
returns c = walk_end _ _ _ _ c.loop-i.invariant c.loop-i-test.false

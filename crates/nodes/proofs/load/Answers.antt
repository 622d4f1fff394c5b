use Prim.Native.Nat.{◌/◌}
use mathlib.Core.Path.{◌≡◌, refl, ◌∙◌}
use native.Mathlib.Omega.{arith}
use lib.ListN.{length, drop}
use Rattle.std.proofs.lemmas.List.{length-take-le, take-append-le, take_more_set}
use Rattle.model.specs.Nodes.{nodes_from}
use Rattle.nodes.proofs.Numbers.{nodes_more}
use Rattle.nodes.proofs.load.Goals as goal

pub loop-i-init : goal.loop-i-init
unfolding nodes_from
loop-i-init c = refl

pub loop-i-preserved : goal.loop-i-preserved
loop-i-preserved c =
    let l = c.loop-i in
    take_more_set l.node-items l.i c.get.result (omega arith) ∙ rw (l.invariant, c.get.ensures.0, nodes_more)

pub returns : goal.returns
returns c =
    let l = c.loop-i in
    let count = length c.args.v.now / 8 in
    let long = length-take-le count c.args.nodes.now c.requires in
    let done : l.i ≡ count = omega arith in
    let told = rw done at l.invariant in
    (refl, take-append-le count l.node-items (drop count c.args.nodes.now) (omega arith) ∙ told)

-- `nodes::comes_again` meets its contract: `any` tells of the places behind, and so of the numbers there.
use mathlib.Core.Path.{refl, ◌∙◌}
use Prim.Native.Nat.{ℕ, ◌+◌, ◌-◌, ◌*◌, ◌/◌}
use lib.Dec.{eqb}
use lib.ListN.{length}
use lib.Seq.{slice}
use Rattle.std.proofs.Common.{rules, tests}
use Rattle.std.proofs.lemmas.Iterator.{YieldsList-from_range}
use Rattle.std.proofs.lemmas.Iterator.Search.{any_from_yields_List}
use Rattle.model.specs.Number.{number}
use Rattle.nodes.proofs.Numbers.{again_places}
use Rattle.nodes.proofs.comes_again.Goals as goal

pub returns : goal.returns
returns c =
    let v = c.args.v.now in
    let node = c.get-node in
    let next = c.args.at + 1 in
    let count = length v / 8 in
    any_from_yields_List (λ (j : ℕ). eqb (number (slice (j * 8) (j * 8 + 8) v)) node.result) _ _ _ c.any.ensures.ran
    (YieldsList-from_range next count (count - next) refl refl) (λ x b q k. search (rules, tests))
    ∙ again_places v node.result c.args.at c.requires node.ensures.0

-- `nodes::apart_in` meets its contract: `all` tells of every place, and so of every number.
use mathlib.Core.Path.{refl, sym, ◌∙◌}
use Rattle.laws.specs.Nodes.{length-nodes}
use mathlib.Core.Bool.{not}
use Prim.Native.Nat.{ℕ, ◌+◌, ◌/◌}
use native.Mathlib.Omega.{arith}
use lib.ListN.{length, get_or, drop}
use Rattle.std.proofs.Common.{rules, tests}
use Rattle.std.proofs.lemmas.Iterator.{YieldsList-from_range}
use Rattle.std.proofs.lemmas.Iterator.Search.{all_from_yields_List}
use Rattle.model.specs.Nodes.{nodes_of, is_among}
use Rattle.nodes.proofs.Numbers.{apart_places}
use Rattle.nodes.proofs.apart_in.Goals as goal

pub returns : goal.returns
returns c =
    let v = c.args.v.now in
    let count = length v / 8 in
    let l = nodes_of v in
    all_from_yields_List (λ (j : ℕ). not (is_among (get_or l j 0) (drop (j + 1) l))) _ _ _ c.all.ensures.ran (YieldsList-from_range 0 count count refl (omega arith))
    (λ x b q k. search (rules, tests))
    ∙ apart_places l count (sym (length-nodes count v))

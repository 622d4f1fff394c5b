-- `nodes::outside` meets its contract: those that a filter keeps are counted.
use mathlib.Core.Path.{◌≡◌, ◌∙◌}
use mathlib.Core.Bool.{not}
use Prim.Native.Nat.{ℕ}
use Rattle.std.proofs.Common.{rules}
use Rattle.std.specs.List.{count_by}
use Rattle.model.specs.Nodes.{is_among}
use Rattle.nodes.proofs.Numbers.{outside_count}
use Rattle.nodes.proofs.outside.Goals as goal

pub returns : goal.returns
returns c =
    let e : c.count.result ≡ count_by (λ (x : ℕ). not (is_among x c.args.others.now)) c.args.nodes.now = search rules in
    e ∙ outside_count _ _

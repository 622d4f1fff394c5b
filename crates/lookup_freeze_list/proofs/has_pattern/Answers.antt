-- `lookup_freeze_list::has_pattern` meets its contract.
use mathlib.Core.Bool.{true, false}
use Rattle.lookup_freeze_list.proofs.Stored.{pattern-told}
use Rattle.lookup_freeze_list.proofs.has_pattern.Goals as goal

pub returns-then-literal : goal.returns-then-literal
returns-then-literal c = pattern-told _ c.value_at-p.ensures true c.if-literal.true c.same.ensures

pub returns : goal.returns
returns c = pattern-told _ c.value_at-p.ensures false c.if-literal.false c.same-2.ensures

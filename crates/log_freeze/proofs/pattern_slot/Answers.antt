-- `log_freeze::pattern_slot` meets its contract, exit by exit.
use Rattle.log_freeze.proofs.Picks.{is_prefixed, no_pattern, whole_name, part-of_name}
use Rattle.log_freeze.proofs.pattern_slot.Goals as goal

pub returns-then-same : goal.returns-then-same
returns-then-same c = is_prefixed _ _ _ c.same.ensures c.if-same.true

pub returns-then-not-same : goal.returns-then-not-same
returns-then-not-same c = no_pattern _ _ _ c.same.ensures c.if-same.false c.same-2.ensures c.if-not-same.true-raw

pub returns-then-scope-name : goal.returns-then-scope-name
returns-then-scope-name c =
    whole_name _ _ _ c.same.ensures c.if-same.false c.same-2.ensures c.if-not-same.false-raw c.if-scope-name.true

pub returns : goal.returns
returns c =
    part-of_name _ _ _ c.same.ensures c.if-same.false c.same-2.ensures c.if-not-same.false-raw c.if-scope-name.false

-- `steps::set_cordoned` meets its contract: a change without the field keeps the old ones.
use mathlib.Core.Path.{sym, ◌∙◌}
use borrow.Author.Tests.{not-true, not-false}
use Rattle.image_entries.proofs.Records.{headed}
use Rattle.apply_brokers.proofs.Fields.{cordoned_suit, no_cordoned, cordoned_set}
use Rattle.apply_brokers.proofs.steps.set_cordoned.Goals as goal

pub returns-then-not-has : goal.returns-then-not-has
returns-then-not-has c = no_cordoned _ (sym c.has.ensures ∙ not-true _ c.if-not-has.true-raw) c.requires.0

pub value_at-p-requires : goal.value_at-p-requires
value_at-p-requires c = headed _ c.requires.1.is

pub replace-requires : goal.replace-requires
replace-requires c =
    (c.requires.0, cordoned_suit _ c.requires.1 _ _ c.value_at-p.ensures (sym c.has.ensures ∙ not-false _ c.if-not-has.false-raw))

pub returns : goal.returns
returns c =
    cordoned_set _ c.requires.1 _ _ _ c.value_at-p.ensures (sym c.has.ensures ∙ not-false _ c.if-not-has.false-raw) c.replace.ensures

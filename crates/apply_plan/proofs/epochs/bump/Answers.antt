-- `bump` meets its contract: one lemma for each of its three ways.
use Rattle.apply_plan.proofs.Steps.{bump_negative, bump_more, bump_highest}
use Rattle.apply_plan.proofs.epochs.bump.Goals as goal

pub returns-then-epoch-ge-NEGATIVE : goal.returns-then-epoch-ge-NEGATIVE
returns-then-epoch-ge-NEGATIVE c = bump_negative _ c.if-epoch-ge-NEGATIVE.true

pub returns-then-epoch-lt-NEGATIVE : goal.returns-then-epoch-lt-NEGATIVE
returns-then-epoch-lt-NEGATIVE c = bump_more _ c.if-epoch-ge-NEGATIVE.false c.if-epoch-lt-NEGATIVE.true

pub returns : goal.returns
returns c = bump_highest _ c.if-epoch-ge-NEGATIVE.false c.if-epoch-lt-NEGATIVE.false

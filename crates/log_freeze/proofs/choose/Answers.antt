-- `log_freeze::choose` meets its contract.
use Rattle.log_freeze.proofs.Picks.{literal-first, prefix_next}
use Rattle.log_freeze.proofs.choose.Goals as goal

pub returns-then-v-ne0 : goal.returns-then-v-ne0
returns-then-v-ne0 c = let a = c.args in literal-first a.slots.now a.n c.if-v-ne0.true

pub returns : goal.returns
returns c = let a = c.args in prefix_next a.slots.now a.n c.if-v-ne0.false c.longest.ensures

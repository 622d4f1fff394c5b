-- `header::front_ok` meets its contract.
use Rattle.model.specs.Image.{mark}
use Rattle.header.proofs.Fronts.{no_mark, no_gap, front-end}
use Rattle.header.proofs.front_ok.Goals as goal

pub returns-then-not-same : goal.returns-then-not-same
unfolding mark
returns-then-not-same c = no_mark c.args.b.now c.same.ensures c.if-not-same.true-raw

pub returns-then-not-is_clear : goal.returns-then-not-is_clear
unfolding mark
returns-then-not-is_clear c =
    no_gap c.args.b.now c.same.ensures c.if-not-same.false-raw c.is_clear.ensures c.if-not-is_clear.true-raw

pub returns : goal.returns
unfolding mark
returns c =
    front-end c.args.b.now c.same.ensures c.if-not-same.false-raw c.is_clear.ensures c.if-not-is_clear.false-raw c.is_clear-2.ensures

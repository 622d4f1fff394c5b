-- `restore_settled::agrees` meets its contract.
use Rattle.model.specs.Number.{number}
use Rattle.model.specs.Run.{value}
use Rattle.keys.specs.Keys.{run_in}
use Rattle.restore_settled.proofs.Numbers.{first_differs, second_differs, third_decides}
use Rattle.restore_settled.proofs.agrees.Goals as goal

pub returns-then-number_at-ne1 : goal.returns-then-number_at-ne1
returns-then-number_at-ne1 c =
    first_differs c.number_at.ensures 1 c.if-number_at-ne1.true (number (value 3 (run_in c.args.topic.now))) c.args.count
    (number (value 4 (run_in c.args.topic.now))) c.args.factor

pub returns-then-number_at-count : goal.returns-then-number_at-count
returns-then-number_at-count c =
    second_differs c.number_at.ensures 1 c.if-number_at-ne1.false c.number_at-2.ensures c.args.count c.if-number_at-count.true
    (number (value 4 (run_in c.args.topic.now))) c.args.factor

pub returns : goal.returns
returns c =
    third_decides c.number_at.ensures 1 c.if-number_at-ne1.false c.number_at-2.ensures c.args.count c.if-number_at-count.false
    c.number_at-3.ensures c.args.factor

-- `names::is_lawful` meets its contract: its tests are the definition's, one after the other.
use native.Mathlib.Omega.{arith}
use Rattle.judge.proofs.Lawful.{empty_name_lem, long_name, other_bytes, one_dot, two_dots}
use Rattle.judge.proofs.names.is_lawful.Goals as goal

pub returns-then-name-lt1 : goal.returns-then-name-lt1
returns-then-name-lt1 c = empty_name_lem c.args.name.now c.if-name-lt1.true

pub returns-then-name-gt-MOST_NAME : goal.returns-then-name-gt-MOST_NAME
returns-then-name-gt-MOST_NAME c = long_name c.args.name.now c.if-name-lt1.false (omega (arith, c.if-name-gt-MOST_NAME.true))

pub returns-then-not-are_name_bytes : goal.returns-then-not-are_name_bytes
returns-then-not-are_name_bytes c =
    other_bytes c.args.name.now c.if-name-lt1.false c.if-name-gt-MOST_NAME.false c.are_name_bytes.ensures c.if-not-are_name_bytes.true-raw

pub returns-then-same : goal.returns-then-same
returns-then-same c =
    one_dot c.args.name.now c.if-name-lt1.false c.if-name-gt-MOST_NAME.false c.are_name_bytes.ensures c.if-not-are_name_bytes.false-raw
    c.same.ensures c.if-same.true

pub returns : goal.returns
returns c =
    two_dots c.args.name.now c.if-name-lt1.false c.if-name-gt-MOST_NAME.false c.are_name_bytes.ensures c.if-not-are_name_bytes.false-raw
    c.same.ensures c.if-same.false c.same-2.ensures

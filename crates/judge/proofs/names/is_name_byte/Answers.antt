-- `names::is_name_byte` meets its contract: its tests are the definition's, one after the other.
use Rattle.judge.proofs.Lawful.{small_letter, capital_letter, digit_byte, dot_byte, underscore_byte, hyphen_byte}
use Rattle.judge.proofs.names.is_name_byte.Goals as goal

pub returns-then-is_within : goal.returns-then-is_within
returns-then-is_within c = small_letter c.args.b c.is_within.ensures c.if-is_within.true

pub returns-then-is_within-2 : goal.returns-then-is_within-2
returns-then-is_within-2 c =
    capital_letter c.args.b c.is_within.ensures c.if-is_within.false c.is_within-2.ensures c.if-is_within-2.true

pub returns-then-is_within-3 : goal.returns-then-is_within-3
returns-then-is_within-3 c =
    digit_byte c.args.b c.is_within.ensures c.if-is_within.false c.is_within-2.ensures c.if-is_within-2.false
    c.is_within-3.ensures c.if-is_within-3.true

pub returns-then-b-eq46 : goal.returns-then-b-eq46
returns-then-b-eq46 c =
    dot_byte _ c.is_within.ensures c.if-is_within.false c.is_within-2.ensures c.if-is_within-2.false
    c.is_within-3.ensures c.if-is_within-3.false c.if-b-eq46.true

pub returns-then-b-eq95 : goal.returns-then-b-eq95
returns-then-b-eq95 c =
    underscore_byte _ c.is_within.ensures c.if-is_within.false c.is_within-2.ensures c.if-is_within-2.false
    c.is_within-3.ensures c.if-is_within-3.false c.if-b-eq46.false c.if-b-eq95.true

pub returns : goal.returns
returns c =
    hyphen_byte _ c.is_within.ensures c.if-is_within.false c.is_within-2.ensures c.if-is_within-2.false
    c.is_within-3.ensures c.if-is_within-3.false c.if-b-eq46.false c.if-b-eq95.false

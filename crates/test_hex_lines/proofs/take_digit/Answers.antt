-- `test_hex_lines::take_digit` meets its contract: a first digit, no room, a second one.
use native.Mathlib.Omega.{arith}
use lib.ListN.{length-set}
use Rattle.test_hex_lines.proofs.Steps.{digit_first, digit_lost, digit_second}
use Rattle.test_hex_lines.proofs.take_digit.Goals as goal

pub returns-then-line-eq-NO_DIGIT : goal.returns-then-line-eq-NO_DIGIT
returns-then-line-eq-NO_DIGIT c =
    let a = c.args in
    record { len_in_bounds = c.requires; result_after = digit_first _ _ _ c.if-line-eq-NO_DIGIT.true }

pub returns-then-len-bytes : goal.returns-then-len-bytes
returns-then-len-bytes c =
    let a = c.args in
    record { len_in_bounds = c.requires; result_after = digit_lost a.bytes.now a.d a.line c.if-line-eq-NO_DIGIT.false c.if-len-bytes.true }

pub returns : goal.returns
returns c =
    let a = c.args in
    record { len_in_bounds = simp length-set (omega arith); result_after = digit_second a.bytes.now a.d _ a.line c.if-line-eq-NO_DIGIT.false (omega arith) c.joined.ensures }

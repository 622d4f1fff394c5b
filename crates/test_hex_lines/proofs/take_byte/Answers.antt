-- `test_hex_lines::take_byte` meets its contract, exit by exit.
use mathlib.Core.Path.{◌∙◌}
use native.Mathlib.Omega.{arith}
use Rattle.test_hex_lines.specs.Line.{held_in}
use Rattle.test_hex_lines.proofs.Steps.{begun, passed-end, line_end, passed_over, in_passed, no_digit, a_digit}
use Rattle.test_hex_lines.proofs.take_byte.Goals as goal

pub returns-then-line : goal.returns-then-line
returns-then-line c =
    let h = held_in c.args.bytes.now c.args.line in
    record { len_in_bounds = omega (arith, c.begin.ensures.0); result_after = begun c.args.bytes.now _ c.begin.ensures ∙ passed-end _ c.args.b h c.if-b-eq10.true c.if-line.true }

pub returns-then-b-eq10 : goal.returns-then-b-eq10
returns-then-b-eq10 c =
    record { len_in_bounds = c.requires; result_after = line_end _ c.args.b (held_in c.args.bytes.now c.args.line) c.if-b-eq10.true c.if-line.false }

pub returns-then-b-eq35 : goal.returns-then-b-eq35
returns-then-b-eq35 c =
    record { len_in_bounds = c.requires; result_after = passed_over _ c.args.b (held_in c.args.bytes.now c.args.line) c.if-b-eq10.false c.if-b-eq35.true }

pub returns-then-line-2 : goal.returns-then-line-2
returns-then-line-2 c =
    record { len_in_bounds = c.requires; result_after = in_passed _ c.args.b (held_in c.args.bytes.now c.args.line) c.if-b-eq10.false c.if-b-eq35.false c.if-line-2.true }

pub returns-then-d-eq-NO_DIGIT : goal.returns-then-d-eq-NO_DIGIT
returns-then-d-eq-NO_DIGIT c =
    record { len_in_bounds = c.requires; result_after = no_digit _ c.args.b (held_in c.args.bytes.now c.args.line) c.if-b-eq10.false c.if-b-eq35.false c.if-line-2.false _ c.digit-d.ensures c.if-d-eq-NO_DIGIT.true }

pub returns : goal.returns
returns c =
    let h = held_in c.args.bytes.now c.args.line in
    record { len_in_bounds = c.take_digit.ensures.len_in_bounds; result_after = c.take_digit.ensures.result_after ∙ a_digit _ c.args.b h c.if-b-eq10.false c.if-b-eq35.false c.if-line-2.false _ c.digit-d.ensures c.if-d-eq-NO_DIGIT.false }

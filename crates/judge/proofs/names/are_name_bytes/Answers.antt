use mathlib.Core.Path.{refl, sym, ◌∙◌}
use native.Mathlib.Omega.{arith}
use borrow.Author.Tests.{not-true, not-false}
use Rattle.model.specs.Validate.{is_name_byte}
use Rattle.wire.proofs.Rest.{every_failed, every-passed, every_ended}
use Rattle.judge.proofs.names.are_name_bytes.Goals as goal

pub loop-i-init : goal.loop-i-init
loop-i-init c = (omega arith, refl)

pub returns-then-not-is_name_byte : goal.returns-then-not-is_name_byte
returns-then-not-is_name_byte c =
    let l = c.loop-i in
    sym (every_failed is_name_byte _ l.i (omega arith) (sym c.is_name_byte.ensures ∙ not-true _ c.if-not-is_name_byte.true-raw)) ∙ l.invariant.1

pub loop-i-preserved : goal.loop-i-preserved
loop-i-preserved c =
    let l = c.loop-i in
    (omega arith, sym (every-passed is_name_byte _ l.i (omega arith) (sym c.is_name_byte.ensures ∙ not-false _ c.if-not-is_name_byte.false-raw)) ∙ l.invariant.1)

pub returns : goal.returns
returns c =
    let l = c.loop-i in
    sym (every_ended is_name_byte _ l.i (omega arith)) ∙ l.invariant.1

-- `lookup_rates::magnitude_from` meets its contract.
use native.Mathlib.Omega.{arith}
use Rattle.lookup_rates.proofs.Digits.{no_digit, some_digit}
use Rattle.lookup_rates.proofs.magnitude_from.Goals as goal

pub returns-then-s-from : goal.returns-then-s-from
returns-then-s-from c =
    no_digit c.args.s.now c.args.from (omega (arith, c.if-s-from.true))

pub returns : goal.returns
returns c =
    some_digit c.args.s.now c.args.from (omega (arith, c.requires, c.if-s-from.false)) c.digits_from.result c.digits_from.ensures

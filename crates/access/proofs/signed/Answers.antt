-- `access::signed` meets its contract, by the upper bit.
use native.Mathlib.Omega.{arith}
use borrow.Author.Rules.{rules}
use Rattle.access.proofs.Sign.{less_fits, signed_low, signed_high}
use Rattle.access.proofs.signed.Goals as goal

pub returns-then-n-lt2147483648 : goal.returns-then-n-lt2147483648
returns-then-n-lt2147483648 c = signed_low _ c.if-n-lt2147483648.true

pub overflow_cast-result-2 : goal.overflow_cast-result-2
overflow_cast-result-2 c = search rules

pub overflow_sub-result-2 : goal.overflow_sub-result-2
overflow_sub-result-2 c = less_fits _ (overflow_cast-result-2 c).sfits

pub returns : goal.returns
returns c = signed_high _ c.if-n-lt2147483648.false (omega arith)

-- `lookup_rates::rate_of` meets its contract.
use mathlib.Core.Path.{ap, ◌∙◌}
use native.Mathlib.Omega.{arith}
use Rattle.lookup_rates.specs.Rates.{rated}
use Rattle.lookup_rates.proofs.Signs.{no_rate, plus_rate, minus_rate, plain_rate}
use Rattle.lookup_rates.proofs.rate_of.Goals as goal

pub returns-then-v-eq0 : goal.returns-then-v-eq0
returns-then-v-eq0 c = no_rate _ c.if-v-eq0.true

pub returns-then-v-eq43 : goal.returns-then-v-eq43
returns-then-v-eq43 c = plus_rate _ (omega (arith, c.if-v-eq0.false)) c.if-v-eq43.true c.magnitude_from.result c.magnitude_from.ensures

pub returns-then-v-eq45 : goal.returns-then-v-eq45
returns-then-v-eq45 c =
    ap rated c.unless_negative.ensures ∙ minus_rate _ (omega (arith, c.if-v-eq0.false)) c.if-v-eq45.true c.magnitude_from-then-v-eq45.result c.magnitude_from-then-v-eq45.ensures

pub returns : goal.returns
returns c =
    plain_rate _ (omega (arith, c.if-v-eq0.false)) c.if-v-eq43.false c.if-v-eq45.false c.magnitude_from-2.result c.magnitude_from-2.ensures

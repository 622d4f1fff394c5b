-- `lookup_rates::unless_negative` meets its contract.
use Rattle.lookup_rates.proofs.Signs.{less_more}
use Rattle.lookup_rates.proofs.unless_negative.Goals as goal

pub returns-else-n-eq0 : goal.returns-else-n-eq0
returns-else-n-eq0 c = less_more c.in-Is.is c.if-n-eq0.false

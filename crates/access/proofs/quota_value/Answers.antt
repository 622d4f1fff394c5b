-- `access::quota_value` meets its contract, by whether there is a number.
use Rattle.access.proofs.Named.{quota_is, quota_missing}
use Rattle.access.proofs.quota_value.Goals as goal

pub returns-in-Is : goal.returns-in-Is
returns-in-Is c = quota_is _ c.number_in.ensures.0 c.in-Is.is c.from_bits.ensures

pub returns-in-Missing : goal.returns-in-Missing
returns-in-Missing c = quota_missing _ c.number_in.ensures.0 c.in-Missing.is

-- `lookup_throttles::default_rate` meets its contract.
use mathlib.Core.Path.{ap}
use native.Mathlib.Omega.{arith}
use Rattle.lookup_throttles.specs.Throttles.{rate_by}
use Rattle.lookup_throttles.proofs.Configs.{part_in, value_rate, no_value}
use Rattle.lookup_throttles.proofs.default_rate.Goals as goal

pub overflow_add-end : goal.overflow_add-end
overflow_add-end c =
    omega (arith, part_in c.config_at.result c.config_at.ensures.1 c.in-Part.is)

pub slice_bounds-rate_of-end : goal.slice_bounds-rate_of-end
slice_bounds-rate_of-end c =
    omega (arith, part_in c.config_at.result c.config_at.ensures.1 c.in-Part.is)

pub returns-in-Part : goal.returns-in-Part
returns-in-Part c =
    value_rate c.args.s.now c.config_at.ensures.0 c.in-Part.is c.rate_of.ensures

pub returns-in-Missing : goal.returns-in-Missing
returns-in-Missing c = ap rate_by (no_value c.args.s.now c.config_at.ensures.0 c.in-Missing.is)

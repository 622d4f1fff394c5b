-- `lookup_throttles::rate_in` meets its contract.
use mathlib.Core.Path.{sym, ◌∙◌}
use native.Mathlib.Omega.{arith}
use Rattle.lookup_throttles.proofs.Configs.{part_in, own_value, no_value, default_rate}
use Rattle.lookup_throttles.proofs.rate_in.Goals as goal

pub overflow_add-end : goal.overflow_add-end
overflow_add-end c =
    omega (arith, part_in c.config_at.result c.config_at.ensures.1 c.in-Part.is)

pub slice_bounds-rate_of-end : goal.slice_bounds-rate_of-end
slice_bounds-rate_of-end c =
    omega (arith, part_in c.config_at.result c.config_at.ensures.1 c.in-Part.is)

pub returns-in-Part : goal.returns-in-Part
returns-in-Part c =
    own_value c.args.s.now c.args.node.0 c.args.name.now _ c.config_at.ensures.0 c.in-Part.is c.rate_of.ensures

pub returns-in-Missing : goal.returns-in-Missing
returns-in-Missing c =
    c.default_rate.ensures
    ∙ sym (default_rate c.args.node.0 c.args.name.now _ (sym (no_value c.args.s.now c.config_at.ensures.0 c.in-Missing.is)))

-- `lookup::rate` meets its contract.
use mathlib.Core.Path.{sym, ap, ◌∙◌}
use Rattle.lookup_rates.specs.Rates.{rated}
use Rattle.lookup.specs.Values.{rated_as}
use Rattle.find.proofs.Lent.{lent-entries}
use Rattle.lookup.proofs.Answers.{rate_as}
use Rattle.lookup.proofs.rate.Goals as goal

pub rate_in-requires : goal.rate_in-requires
rate_in-requires c = (lent-entries _ c.reals_end-end.ensures, c.requires.1)

pub returns-in-Is : goal.returns-in-Is
returns-in-Is c =
    ap (λ x. rated_as (rated x)) (sym c.in-Is.is) ∙ rate_as c.args.image.now c.reals_end-end.ensures c.args.node.0
    c.args.name.now c.rate_in.result c.rate_in.ensures

pub returns-in-None : goal.returns-in-None
returns-in-None c =
    ap (λ x. rated_as (rated x)) (sym c.in-None.is) ∙ rate_as c.args.image.now c.reals_end-end.ensures c.args.node.0
    c.args.name.now c.rate_in.result c.rate_in.ensures

-- `states::with_level` meets its contract.
use mathlib.Core.Path.{ap}
use Rattle.apply_work.specs.declared.Tried.TheVariants.{Moved}
use Rattle.apply_plan.proofs.states.with_level.Goals as goal

pub returns : goal.returns
returns c =
    let state = c.args.state in
    ap (λ n. Moved (record { bounds = c.args.bounds; epoch = n; kraft = state.kraft; offset = state.offset })) c.bump.ensures

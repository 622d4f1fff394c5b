-- `states::with_kraft` meets its contract.
use mathlib.Core.Path.{ap}
use Rattle.apply_work.specs.declared.Tried.TheVariants.{Moved}
use Rattle.apply_plan.proofs.states.with_kraft.Goals as goal

pub returns : goal.returns
returns c =
    let state = c.args.state in
    ap (λ n. Moved (record { bounds = state.bounds; epoch = state.epoch; kraft = n; offset = state.offset })) c.number_at.ensures

-- `values::value_number` meets its contract: the record's fields are those of its bytes.
use mathlib.Core.Path.{ap, ◌∙◌}
use lib.ListN.{length}
use Rattle.model.specs.Number.{number}
use Rattle.model.specs.Run.{value}
use Rattle.image_entries.proofs.Records.{headed, run_in_lem}
use Rattle.image_entries.proofs.values.value_number.Goals as goal

pub number_at-requires : goal.number_at-requires
number_at-requires c =
    let h = c.requires in
    (headed _ h.0, h.1, ap (λ r. length (value c.args.tag r)) (run_in_lem _ h.0) ∙ h.2)

pub returns : goal.returns
returns c =
    c.number_at.ensures ∙ ap (λ r. number (value c.args.tag r)) (run_in_lem _ c.requires.0)

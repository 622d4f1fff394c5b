-- `records::fields_fault` meets its contract: the base of the kind's number has the kind's rows.
use mathlib.Core.Path.{refl, ◌∙◌}
use Rattle.records.proofs.Bases.{kind_fault, record-base}
use Rattle.records.proofs.fields_fault.Goals as goal

pub given_faults-requires : goal.given_faults-requires
given_faults-requires c =
    (c.all_rows-rows.ensures, record { shape = _; at = record-base _ c.kind_number.ensures c.framed_base_of.ensures })

pub returns : goal.returns
returns c = c.given_faults.ensures ∙ kind_fault _ _ refl (record-base _ c.kind_number.ensures c.framed_base_of.ensures) _

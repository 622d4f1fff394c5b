-- `apply_offsets::draft` meets its contract: the advance is copied, and its field 3 set.
use mathlib.Core.Path.{ap, ◌∙◌}
use native.Mathlib.Omega.{arith}
use Rattle.model.specs.Number.{bytes}
use Rattle.apply_work.proofs.Made.{record-size}
use Rattle.apply_offsets.proofs.Stores.{copied_draft, offset_drafted}
use Rattle.apply_offsets.proofs.draft.Goals as goal

pub copy_in-n-requires : goal.copy_in-n-requires
copy_in-n-requires c =
    omega (arith, record-size _ c.requires.0, c.requires.2)

pub set_field-requires : goal.set_field-requires
set_field-requires c = (
  omega (arith, record-size _ c.requires.0, c.copy_in-n.ensures.0, c.put.auto.s, c.copy_in-n.auto.b, c.requires.2),
  omega (arith, c.put.auto.s),
  copied_draft _ c.requires.0 c.requires.1 c.copy_in-n.new.b c.copy_in-n.result c.copy_in-n.ensures.1,
)

pub returns : goal.returns
returns c = (
  offset_drafted _ c.requires.0 c.requires.1 c.copy_in-n.new.b c.copy_in-n.result c.copy_in-n.ensures.1 c.args.offset
      (c.put.ensures ∙ ap (bytes 8) c.place.ensures) c.set_field.ensures.0,
  omega (arith, c.set_field.ensures.1, record-size _ c.requires.0, c.copy_in-n.ensures.0, c.put.auto.s),
)

-- What a quota's entities come to.
use Rattle.std.specs.Prelude.{◌≡◌, true, false, ◌≤◌, length}
use Rattle.model.specs.Number.{Bytes}
use Rattle.model.specs.Run.{field, values}
use Rattle.model.specs.Contents.{entities_in_order}
use Rattle.fields.specs.Fields.{fields_from}
use Rattle.entries.specs.Entries.{record_in}
use Rattle.image_entries.specs.declared.entities.Entities.{Entities}
use Rattle.image_entries.specs.declared.entities.Entities.TheVariants.{InOrder, OutOfOrder}

-- in order, and the value is among the fields from a place on; or not
abbrev pub EntitiesAs : Bytes → Entities → Type 0
EntitiesAs s (InOrder at) =
    (entities_in_order (values 1 (record_in s).run) ≡ true) × (at ≤ length s) ×
    (field 3 (fields_from s (record { at = at; to = length s })) ≡ field 3 (record_in s).run)
EntitiesAs s OutOfOrder = entities_in_order (values 1 (record_in s).run) ≡ false

-- Fields with those of one tag emptied and those of another left out: what a metadata level knows of a broker.
use Rattle.std.specs.Prelude.{cond, [], ◌++◌, ℕ, ◌+◌, eqb, length}
use Rattle.model.specs.Choice.{joined}
use Rattle.model.specs.Number.{Bytes}
use Rattle.model.specs.Run.{Run, done, torn, item, drop_field}
use Rattle.model.specs.Record.{record_bytes}
use Rattle.model.specs.Downgrade.{is_under, directories_level, cordoned_level, projected}
use Rattle.records.specs.Answers.{head}

-- the tags, 0 for none: no field has it
abbrev pub empty_tag : ℕ → ℕ
empty_tag level = cond (is_under level directories_level) 8 0

abbrev pub gone_tag : ℕ → ℕ
gone_tag level = cond (is_under level cordoned_level) 11 0

unfoldable pub emptied : ℕ → Run → Run
emptied tag done = done
emptied tag torn = torn
emptied tag (item t v r) = item t (cond (eqb t tag) [] v) (emptied tag r)

abbrev pub known : ℕ → ℕ → Run → Run
known empty gone r = drop_field gone (emptied empty r)

-- a field's bytes then, and their length
abbrev pub field_bytes : ℕ → Bytes → Bytes
field_bytes t v = head t (length v) ++ v

abbrev pub known_field : ℕ → ℕ → ℕ → Bytes → Bytes
known_field empty gone t v = cond (eqb t gone) [] (field_bytes t (cond (eqb t empty) [] v))

abbrev pub known_size : ℕ → ℕ → ℕ → ℕ → ℕ
known_size empty gone t n = cond (eqb t gone) 0 (cond (eqb t empty) 3 (3 + n))

-- a broker's record as a level knows it, nothing where that is the broker's own
abbrev pub projected_bytes : ℕ → Run → Bytes
projected_bytes level b = joined record_bytes (projected level b)

-- A record of the log, by its bytes.
use Rattle.std.specs.Prelude.{◌≡◌, ◌≤◌, length}
use Rattle.model.specs.Number.{Bytes}
use Rattle.model.specs.Run.{done, value}
use Rattle.model.specs.Shape.{logged, fault}
use Rattle.model.specs.Record.{Rec, rec, record_bytes, read, on_got}
use Rattle.model.specs.declared.Kind.TheVariants.{Topic}
use Rattle.keys.specs.Keys.{run_in}

-- a record's bytes, as it is read in the log
pub record IsLogged (s : Bytes) : Type 0 where
  pub value : Rec
  pub bytes : s ≡ record_bytes value
  pub passes : fault logged value.kind value.run ≡ 0

-- the record that bytes begin with
abbrev pub logged_in : Bytes → Rec
logged_in s = on_got (read logged s) (λ n. rec Topic done) (λ r n. r)

-- a topic's fields, as they are read of a record or of an entry
pub record TopicFields (s : Bytes) : Type 0 where
  pub headed : 3 ≤ length s
  pub name_fits : length (value 1 (run_in s)) ≤ 255
  pub count_width : length (value 3 (run_in s)) ≡ 4
  pub factor_width : length (value 4 (run_in s)) ≡ 2

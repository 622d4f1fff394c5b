-- Records whose entries are the records themselves.
use Rattle.std.specs.Prelude.{◌≡◌, false, eqb}
use Rattle.model.specs.Kind.{kind_number}
use Rattle.model.specs.Record.{Rec}

-- neither a topic's record nor a partition's
pub record IsPlain (r : Rec) : Type 0 where
  pub no_topic : eqb (kind_number r.kind) 1 ≡ false
  pub no_partition : eqb (kind_number r.kind) 2 ≡ false

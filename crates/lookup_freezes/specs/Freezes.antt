-- A freeze by its pattern and scope, and the place of one.
use Rattle.std.specs.Prelude.{◌≡◌, ℕ}
use Rattle.std.proofs.Math.Option.{Option}
use Rattle.model.specs.Number.{Bytes}
use Rattle.model.specs.Record.{Rec}
use Rattle.model.specs.Key.{freeze_key}
use Rattle.model.specs.Lookup.{returned_at, as_list}
use Rattle.find.specs.Found.{record_at, PlaceHolds}
use Rattle.entries.specs.Held.{entries_in}

abbrev pub frozen_in : Bytes → Bytes → Bytes → Option Rec
frozen_in s pattern scope = returned_at (freeze_key pattern scope) (entries_in s)

-- the place where a record stands, empty where there is none
pub record Chosen (s : Bytes) (o : Option Rec) (at end : ℕ) : Type 0 where
  pub holds : PlaceHolds s at end
  pub says : record_at s at end ≡ as_list o

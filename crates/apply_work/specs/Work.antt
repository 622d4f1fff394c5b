-- A work array: the records of its two parts, what holds of one in order, and what moves make of it.
use Rattle.std.specs.Prelude.{◌≡◌, List, map, ℕ, ◌+◌, ◌*◌, ◌≤◌, length, take}
use Rattle.std.proofs.Math.Seq.{slice}
use Rattle.model.specs.Number.{Bytes}
use Rattle.model.specs.Record.{Rec}
use Rattle.model.specs.Contents.{Entry, Fixed, Contents}
use Rattle.model.specs.Image.{entry_of}
use Rattle.model.specs.Move.{Move, moves}
use Rattle.laws_records.specs.Lengths.{longest_body}
use Rattle.entries.specs.Entries.{records_in, Entries}
use Rattle.find.specs.Found.{AllKept}
use Rattle.apply_work.specs.declared.Bounds.{Bounds}
use Rattle.apply_work.specs.declared.State.{State}

abbrev pub reals_in : Bytes → Bounds → List Rec
reals_in w bounds = records_in (take bounds.mid w)

abbrev pub groups_in : Bytes → Bounds → List Rec
groups_in w bounds = records_in (slice bounds.mid bounds.used w)

-- a work array in order
pub record Good (w : Bytes) (bounds : Bounds) : Type 0 where
  pub order : bounds.mid ≤ bounds.used
  pub fits : bounds.used ≤ length w
  pub reals : Entries (take bounds.mid w)
  pub groups : Entries (slice bounds.mid bounds.used w)
  pub keeps : AllKept (reals_in w bounds)

-- what it holds, beside the fixed parts
abbrev pub held_in : Bytes → Bounds → List Entry
held_in w bounds = map entry_of (reals_in w bounds)

abbrev pub contents_in : Bytes → Bounds → Fixed → Contents
contents_in w bounds f = record { real = held_in w bounds; empties = groups_in w bounds; fixed = f }

-- the same with the fixed parts of a state
abbrev pub fixed_parts : State → Fixed
fixed_parts s = record { epoch = s.epoch; kraft = s.kraft; offset = s.offset }

abbrev pub state_in : Bytes → State → Contents
state_in w s = contents_in w s.bounds (fixed_parts s)

-- no record is longer: three bytes, and the longest body
abbrev pub most_record : ℕ
most_record = 3 + longest_body

-- a work array after moves: in order, with the entries that they make, each at most one record longer
pub record Made (ms : List Move) (w : Bytes) (bounds : Bounds) (v : Bytes) (r : Bounds) : Type 0 where
  pub good : Good v r
  pub real : (f : Fixed) → held_in v r ≡ (moves ms (contents_in w bounds f)).real
  pub empties : (f : Fixed) → groups_in v r ≡ (moves ms (contents_in w bounds f)).empties
  pub most : r.used ≤ bounds.used + most_record * length ms

-- Contents that an image of a capacity can hold.
use Rattle.std.specs.Prelude.{◌≡◌, true, ℕ, ◌≤◌, ◌<◌}
use Rattle.model.specs.Number.{span, is_offset}
use Rattle.model.specs.Shape.{stored, fault}
use Rattle.model.specs.Record.{Rec}
use Rattle.model.specs.Contents.{Entry, topic, part, plain, kept, Contents, dated, weight, sound}
use Rattle.model.specs.Image.{is_capacity}
use Rattle.laws.specs.Lists.{All}
use Rattle.laws_records.specs.Runs.{AreFields}

-- a record that reads back where it stands
pub record Readable (r : Rec) : Type 0 where
  pub passes : fault stored r.kind r.run ≡ 0
  pub fields : AreFields r.run

-- a topic's numbers fit their fields
abbrev pub NumbersFit : Entry → Type 0
NumbersFit (topic name id count factor named) = (count < span 4) × (factor < span 2)
NumbersFit (part r) = Unit {0}
NumbersFit (plain r) = Unit {0}

pub record Proper (e : Entry) : Type 0 where
  pub readable : Readable (kept e)
  pub numbers : NumbersFit e

pub record Fits (capacity : ℕ) (c : Contents) : Type 0 where
  pub within : is_capacity capacity ≡ true
  pub entries : All Proper c.real
  pub groups : All Readable c.empties
  pub orderly : sound c ≡ true
  pub epoch : c.fixed.epoch < span 8
  pub kraft : c.fixed.kraft < span 2
  pub offset : is_offset c.fixed.offset ≡ true
  pub room : weight c ≤ capacity

-- the log offset is no entry, and weighs nothing
pub dated_fits : (capacity n : ℕ) (c : Contents) → is_offset n ≡ true → Fits capacity c → Fits capacity (dated n c)
unfolding weight sound
dated_fits capacity n c h fits = record {
  within = fits.within;
  entries = fits.entries;
  groups = fits.groups;
  orderly = fits.orderly;
  epoch = fits.epoch;
  kraft = fits.kraft;
  offset = h;
  room = fits.room;
}

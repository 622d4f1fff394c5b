-- Lawful moves: what a move must carry so that contents which fit fit after it, whatever they are.
use Rattle.std.specs.Prelude.{◌≡◌, true, ◌||◌, ◌<◌}
use Rattle.model.specs.Number.{span}
use Rattle.model.specs.Run.{values}
use Rattle.model.specs.Record.{Rec, rec}
use Rattle.model.specs.Contents.{storable, entities_in_order, is_config}
use Rattle.model.specs.Move.{Move, put_m, drop_m, join_m, leave_m, topic_m, part_m, directories_m, delete_m, bump_m, epoch_m, kraft_m}
use Rattle.model.specs.declared.Kind.TheVariants.{Partition}
use Rattle.laws_image.specs.Fits.{Readable}
use Rattle.laws_image.specs.Groups.{Grouped}
use Rattle.laws_apply.specs.Entries.{AreNameAndId, AreDirectories}
use Rattle.laws_apply.specs.Topics.{Elsewhere}

-- a record that is stored as it is
pub record Puts (r : Rec) : Type 0 where
  pub readable : Readable r
  pub storable : storable r.kind r.run ≡ true

-- a group's record that is taken out
pub record Leaves (r : Rec) : Type 0 where
  pub readable : Readable r
  pub grouped : Grouped r.kind
  pub ordered : is_config r || entities_in_order (values 1 r.run) ≡ true

abbrev pub Lawful : Move → Type 0
Lawful (put_m r) = Puts r × (Grouped r.kind → ⊥)
Lawful (drop_m k) = Elsewhere k
Lawful (join_m r) = Puts r × Grouped r.kind
Lawful (leave_m r) = Leaves r
Lawful (topic_m name id factor) = AreNameAndId name id × (factor < span 2)
Lawful (part_m r) = Readable (rec Partition r)
Lawful (directories_m k v) = AreDirectories v
Lawful (delete_m name) = Unit {0}
Lawful bump_m = Unit {0}
Lawful (epoch_m e) = e < span 8
Lawful (kraft_m v) = v < span 2

-- A move of records is the same move of the entries that they stand for.
use mathlib.Core.Path.{◌≡◌}
use mathlib.Core.Bool.{Bool, true, false}
use mathlib.Core.List.{List, map}
use lib.Dec.{eqb}
use Rattle.model.specs.Number.{number}
use Rattle.model.specs.Order.{Key}
use Rattle.model.specs.Run.{value}
use Rattle.model.specs.Kind.{kind_number}
use Rattle.model.specs.Record.{Rec}
use Rattle.model.specs.Map.{put, remove, keep, get}
use Rattle.model.specs.Contents.{topic, part, plain, key, record_key}
use Rattle.model.specs.Image.{entry_of}
use Rattle.model.specs.declared.Kind.TheVariants.{Partition}
use Rattle.laws.specs.Choice.{over}
use Rattle.laws.specs.Map.{map-put, map-remove, map-keep, get-map}
use Rattle.laws_image.specs.Entries.{entry_key}

pub entries-put : (r : Rec) (l : List Rec) → map entry_of (put record_key r l) ≡ put key (entry_of r) (map entry_of l)
entries-put r l = map-put record_key key entry_of entry_key r l

pub entries-remove : (k : Key) (l : List Rec) → map entry_of (remove record_key k l) ≡ remove key k (map entry_of l)
entries-remove k l = map-remove record_key key entry_of entry_key k l

pub entries-keep : (test : Key → Bool) (l : List Rec) → map entry_of (keep record_key test l) ≡ keep key test (map entry_of l)
entries-keep test l = map-keep record_key key entry_of entry_key test l

pub entries-get : (k : Key) (l : List Rec) → get key k (map entry_of l) ≡ over entry_of (get record_key k l)
entries-get k l = get-map record_key key entry_of entry_key k l

-- a topic's record, a partition's, and one of neither, by their entries
pub topic_entry : (r : Rec) → eqb (kind_number r.kind) 1 ≡ true
    → entry_of r ≡ topic (value 1 r.run) (value 2 r.run) (number (value 3 r.run)) (number (value 4 r.run)) (eqb (number (value 5 r.run)) 1)
unfolding entry_of
topic_entry r h = rw h

pub part_entry : (r : Rec) → r.kind ≡ Partition → entry_of r ≡ part r.run
unfolding entry_of kind_number
part_entry r h = rw h

pub entry_plain : (r : Rec) → eqb (kind_number r.kind) 1 ≡ false → eqb (kind_number r.kind) 2 ≡ false → entry_of r ≡ plain r
unfolding entry_of
entry_plain r a b = rw (a, b)

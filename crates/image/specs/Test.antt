-- The exact test, clause by clause as the code tests it, on the records that stand for an image's entries.
use Rattle.std.specs.Prelude.{Bool, ◌&&◌, List, map, ℕ, ◌+◌, ◌*◌, leb, length}
use Rattle.model.specs.Choice.{every}
use Rattle.model.specs.Number.{Bytes}
use Rattle.model.specs.Record.{Rec}
use Rattle.model.specs.Key.{producer_key}
use Rattle.model.specs.Map.{get, ascending}
use Rattle.model.specs.Contents.{record_key, is_group, named_apart, Contents, Fixed, fresh, fixed_room, sound}
use Rattle.model.specs.Image.{entry_of, flag_reads, real_of, empties_of}
use Rattle.laws.specs.Choice.{present}
use Rattle.laws_image.specs.Weight.{producer_size}
use Rattle.entries.specs.Entries.{records_in}
use Rattle.image_entries.specs.Stored.{is_stored}
use Rattle.image_counts.specs.Counts.{count_fits}
use Rattle.image_groups.specs.Groups.{apart_in}

-- the real entries
abbrev pub reals_sound : List Rec → Bool
reals_sound l = every is_stored l && ascending record_key l && every (count_fits l) l && named_apart (map entry_of l)

-- the empty groups, beside the real entries
abbrev pub groups_sound : List Rec → List Rec → Bool
groups_sound l gs = every is_group gs && ascending record_key gs && every (apart_in l) gs

-- the contents of real entries and empty groups
abbrev pub holding : List Rec → List Rec → Fixed → Contents
holding l gs f = record { real = map entry_of l; empties = gs; fixed = f }

-- what the definition asks of the entries' bytes (it asks nothing of the fixed parts)
unfoldable pub entries_sound : Bytes → Bool
entries_sound s =
    let l = records_in s in
    every flag_reads l && sound (holding (real_of l) (empties_of l) fresh.fixed)

-- the weight, by the bytes that entries take: producer ids weigh nothing
abbrev pub producers_in : List Rec → ℕ
producers_in l = present (get record_key producer_key l)

unfoldable pub is_light : Bytes → ℕ → Bool
is_light s capacity = leb (fixed_room + length s) (capacity + producer_size * producers_in (real_of (records_in s)))

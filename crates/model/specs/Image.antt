-- The image's bytes, the exact test, and Open: 01, "Room" and *Open*.
use Rattle.std.specs.Prelude.{ℕ, ◌+◌, ◌-◌, Bool, cond, ◌&&◌, ◌||◌, not, List, [], ◌∷◌, ◌++◌, map, leb, eqb, length, take, drop, replicate}
use Rattle.std.proofs.Math.Seq.{slice}
use Rattle.model.specs.Choice.{every, joined}
use Rattle.model.specs.Number.{Bytes, number, bytes, is_offset}
use Rattle.model.specs.Order.{same_bytes}
use Rattle.model.specs.Run.{value}
use Rattle.model.specs.Kind.{kind_number}
use Rattle.model.specs.Shape.{stored}
use Rattle.model.specs.Record.{Rec, record_bytes}
use Rattle.model.specs.Items.{Items, items_of, records, is_whole}
use Rattle.model.specs.Contents.{Entry, topic, part, plain, kept, Fixed, Contents, fresh, fixed_room, weight, is_bare, sound}
use Rattle.model.specs.Reply.{Ended, accepted, unchanged}

-- "An image lives in a lent buffer of 128 to 65,536 bytes"; 02, 5: the least capacity is 144
abbrev pub least_capacity : ℕ
least_capacity = fixed_room

abbrev pub most_capacity : ℕ
most_capacity = 65536

unfoldable pub is_capacity : ℕ → Bool
is_capacity n = leb least_capacity n && leb n most_capacity

-- 1. From contents to bytes

-- the header's mark and format version, and its size. Version 2 has the log offset: "A buffer from before .. is no image"
unfoldable pub mark : Bytes
mark = 0x4b ∷ 0x52 ∷ 0x41 ∷ 0x42 ∷ 0x4b ∷ 0x41 ∷ 0 ∷ 2 ∷ []

abbrev pub head_size : ℕ
head_size = 64

abbrev pub zeros : ℕ → Bytes
zeros n = replicate n 0

-- the mark, the used length, the features epoch, the kraft version and the log offset
unfoldable pub header : ℕ → Fixed → Bytes
header used f = mark ++ bytes 4 used ++ zeros 4 ++ bytes 8 f.epoch ++ bytes 2 f.kraft ++ zeros 30 ++ bytes 8 f.offset

unfoldable pub entry_bytes : Contents → Bytes
entry_bytes c = joined (λ e. record_bytes (kept e)) c.real ++ joined record_bytes c.empties

abbrev pub used : Contents → ℕ
used c = head_size + length (entry_bytes c)

-- "Equal contents at equal capacity are equal bytes; unused ones are zero"
unfoldable pub image_of : ℕ → Contents → Bytes
image_of capacity c = header (used c) c.fixed ++ entry_bytes c ++ zeros (capacity - used c)

-- 2. From bytes to contents

abbrev pub used_in : Bytes → ℕ
used_in b = number (slice 8 12 b)

abbrev pub fixed_in : Bytes → Fixed
fixed_in b = record { epoch = number (slice 16 24 b); kraft = number (slice 24 26 b); offset = number (slice 56 64 b) }

abbrev pub items_in : Bytes → Items
items_in b = items_of stored (slice head_size (used_in b) b)

-- an entry of the record that stands for it
abbrev is_topic : Rec → Bool
is_topic r = eqb (kind_number r.kind) 1

abbrev is_partition : Rec → Bool
is_partition r = eqb (kind_number r.kind) 2

unfoldable pub entry_of : Rec → Entry
entry_of r =
    cond (is_topic r)
    (topic (value 1 r.run) (value 2 r.run) (number (value 3 r.run)) (number (value 4 r.run)) (eqb (number (value 5 r.run)) 1))
    (cond (is_partition r) (part r.run) (plain r))

-- a topic's fifth field: four zeros, then 0 or 1
unfoldable pub flag_reads : Rec → Bool
flag_reads r = not (is_topic r) || leb (number (value 5 r.run)) 1

-- the empty groups stand at the end
unfoldable pub real_of : List Rec → List Rec
real_of [] = []
real_of (r ∷ rs) = cond (is_bare r) [] (r ∷ real_of rs)

unfoldable pub empties_of : List Rec → List Rec
empties_of [] = []
empties_of (r ∷ rs) = cond (is_bare r) (r ∷ rs) (empties_of rs)

unfoldable pub contents_of : Bytes → Contents
contents_of b =
    record { real = map entry_of (real_of (records (items_in b))); empties = empties_of (records (items_in b)); fixed = fixed_in b }

-- 3. "A buffer is an image exactly if it holds the bytes of some contents that fit it, where entries are readable, ascend by key without
-- repeats and are such as Apply stores, each topic's count is from 0 to its stored partitions' number, and each id entry names a topic of that
-- id." 02, 5: "A buffer from before, or with an offset below -1, is no image."

unfoldable pub header_ok : Bytes → Bool
header_ok b =
    same_bytes (take head_size b) (header (used_in b) (fixed_in b)) && leb head_size (used_in b) && leb (used_in b) (length b) &&
    every (λ x. eqb x 0) (drop (used_in b) b) && is_offset (fixed_in b).offset

unfoldable pub entries_ok : Bytes → Bool
entries_ok b = is_whole (items_in b) && every flag_reads (records (items_in b)) && sound (contents_of b)

unfoldable pub is_image : Bytes → Bool
is_image b = is_capacity (length b) && header_ok b && entries_ok b && leb (weight (contents_of b)) (length b)

-- 4. *Open*: "1, capacity outside 128 to 65,536", from 144 by 02, 5. "Bytes are not checked; the fresh image replaces them."
unfoldable pub open_of : Bytes → Ended
open_of b = cond (is_capacity (length b)) (record { reply = accepted []; buffer = image_of (length b) fresh }) (unchanged 1 b)

-- *Apply*: "1; Read's; 17, the offset sum leaves i64; 18, exactly if the weight afterwards exceeds the capacity. It does not validate." 02, 5:
-- it is given the record's log offset; "21 in Apply, offset not above the stored one, directly after Read's".
use Rattle.std.specs.Prelude.{ℕ, Bool, cond, [], leb, ltb, length}
use Rattle.model.specs.Number.{Bytes, place}
use Rattle.model.specs.Shape.{logged}
use Rattle.model.specs.Record.{Rec, read, on_got}
use Rattle.model.specs.Contents.{Contents, dated, weight}
use Rattle.model.specs.Image.{is_image, contents_of, image_of}
use Rattle.model.specs.Move.{moved, overflows}
use Rattle.model.specs.Reply.{Ended, accepted, unchanged}

-- a record's effect on contents at a capacity: a refusal, which changes nothing, or the contents afterwards
pub data Applied : Type 0 where
  stays : ℕ → Applied
  becomes : Contents → Applied

unfoldable pub apply : ℕ → Rec → Contents → Applied
apply capacity r c =
    cond (overflows r c.real) (stays 17) (cond (leb (weight (moved r c)) capacity) (becomes (moved r c)) (stays 18))

-- "The image keeps the log offset (i64) of the last record applied, with effect or without (M4)"
abbrev pub dated_by : ℕ → Applied → Applied
dated_by n (stays m) = stays m
dated_by n (becomes c) = becomes (dated n c)

-- above the stored offset, both signed
abbrev pub is_later : ℕ → ℕ → Bool
is_later before n = ltb (place 8 before) (place 8 n)

unfoldable pub apply_at : ℕ → ℕ → Rec → Contents → Applied
apply_at capacity n r c = cond (is_later c.fixed.offset n) (dated_by n (apply capacity r c)) (stays 21)

abbrev pub laid : Bytes → Applied → Ended
laid image (stays n) = unchanged n image
laid image (becomes c) = record { reply = accepted []; buffer = image_of (length image) c }

unfoldable pub apply_of : Bytes → ℕ → Bytes → Ended
apply_of image offset input =
    cond (is_image image)
    (on_got (read logged input) (λ n. unchanged n image) (λ r used. laid image (apply_at (length image) offset r (contents_of image))))
    (unchanged 1 image)

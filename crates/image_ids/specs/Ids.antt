-- Topics that the id index names, by their records, and the place of an id's mark.
use Rattle.std.specs.Prelude.{Bool, ◌&&◌, ℕ, eqb, drop}
use Rattle.model.specs.Number.{Bytes, number}
use Rattle.model.specs.Run.{value}
use Rattle.model.specs.Kind.{kind_number}
use Rattle.model.specs.Record.{Rec}

-- a topic whose flag says that the index names it
unfoldable pub is_named : Rec → Bool
is_named r = eqb (kind_number r.kind) 1 && eqb (number (value 5 r.run)) 1

abbrev pub id_of : Rec → Bytes
id_of r = value 2 r.run

-- the number of an id's last two bytes
unfoldable pub place_of : Bytes → ℕ
place_of id = number (drop 14 id)

-- A run of tagged fields: 01, "fields: a tag byte, a two-byte length, the value". Bytes are parsed into a `Run` once; every other
-- definition is a function of it.
use Rattle.std.specs.Prelude.{ℕ, zero, suc, ◌+◌, ◌*◌, cond, List, [], ◌∷◌, ◌++◌, leb, ltb, eqb, length, take}
use Rattle.std.proofs.Math.Option.{Option, none, some}
use Rattle.model.specs.Number.{Bytes, bytes}

-- fields up to the end, or up to one that is not whole
pub data Run : Type 0 where
  done : Run
  torn : Run
  item : ℕ → Bytes → Run → Run

-- the fields that bytes spell; `skip` of the bytes are still of the value before them
unfoldable pub parse : ℕ → Bytes → Run
parse zero [] = done
parse zero (t ∷ []) = torn
parse zero (t ∷ h ∷ []) = torn
parse zero (t ∷ h ∷ l ∷ s) = cond (leb (h * 256 + l) (length s)) (item t (take (h * 256 + l) s) (parse (h * 256 + l) s)) torn
parse (suc skip) [] = torn
parse (suc skip) (x ∷ s) = parse skip s

abbrev pub run_of : Bytes → Run
run_of s = parse 0 s

-- the bytes of fields
unfoldable pub bytes_of : Run → Bytes
bytes_of done = []
bytes_of torn = []
bytes_of (item t v r) = t ∷ bytes 2 (length v) ++ v ++ bytes_of r

-- the value of the first field of a tag
unfoldable pub field : ℕ → Run → Option Bytes
field tag done = none
field tag torn = none
field tag (item t v r) = cond (eqb t tag) (some v) (field tag r)

abbrev pub or_empty : Option Bytes → Bytes
or_empty none = []
or_empty (some v) = v

-- the same, empty where there is none
abbrev pub value : ℕ → Run → Bytes
value tag r = or_empty (field tag r)

-- the values of all fields of a tag
unfoldable pub values : ℕ → Run → List Bytes
values tag done = []
values tag torn = []
values tag (item t v r) = cond (eqb t tag) (v ∷ values tag r) (values tag r)

-- without the fields of a tag
unfoldable pub drop_field : ℕ → Run → Run
drop_field tag done = done
drop_field tag torn = torn
drop_field tag (item t v r) = cond (eqb t tag) (drop_field tag r) (item t v (drop_field tag r))

-- with one field of a tag, in its place: replaced, or put before the first greater tag
unfoldable pub set_field : ℕ → Bytes → Run → Run
set_field tag w done = item tag w done
set_field tag w torn = item tag w torn
set_field tag w (item t v r) = cond (ltb t tag) (item t v (set_field tag w r)) (item tag w (cond (eqb t tag) r (item t v r)))

-- what the field cursor gives: the tags, the lengths, and the values back to back
unfoldable pub tags_of : Run → Bytes
tags_of done = []
tags_of torn = []
tags_of (item t v r) = t ∷ tags_of r

unfoldable pub lengths_of : Run → List ℕ
lengths_of done = []
lengths_of torn = []
lengths_of (item t v r) = length v ∷ lengths_of r

unfoldable pub values_of : Run → Bytes
values_of done = []
values_of torn = []
values_of (item t v r) = v ++ values_of r

-- fields of one tag, then others
unfoldable pub items : ℕ → List Bytes → Run → Run
items tag [] r = r
items tag (v ∷ vs) r = item tag v (items tag vs r)

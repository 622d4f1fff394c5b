-- Where the first field of some bytes has its parts: the value after a tag and a length of two bytes, and the other fields after the value.
-- So what a cursor's step says of a place is what `field_at` says.
use mathlib.Core.Path.{◌≡◌, refl, sym, ap, ◌∙◌}
use mathlib.Core.List.{[], ◌∷◌}
use mathlib.Core.Bool.{Bool, true, false, cond}
use Prim.Native.Nat.{ℕ, ◌+◌, ◌*◌, ◌≤◌, ◌<◌}
use native.Mathlib.Omega.{arith}
use borrow.Author.Tests.{leb-true}
use lib.Dec.{leb}
use lib.ListN.{length, take, drop, length-drop, drop_of_length-le}
use lib.Seq.{slice, length-slice, length-take-le, drop-drop, take-length}
use Rattle.model.specs.Number.{Bytes}
use Rattle.model.specs.Run.{Run, torn, item, parse, run_of}
use Rattle.laws.specs.Choice.{impossible}
use Rattle.laws_records.specs.Runs.{parse_skip}
use Rattle.fields.specs.Fields as fields
use Rattle.fields.specs.Fields.{fields_from, Onward, place_of}
use Rattle.fields.specs.declared.Cursor.{Cursor}
use Rattle.fields.specs.declared.Found.TheVariants.{Missing}
use Rattle.fields.specs.declared.Step.{Step}
use Rattle.fields.specs.declared.Step.TheVariants as cursor
use Rattle.fields.proofs.Parse.{take-drop}
use Rattle.fields.proofs.Took.{took, tore, ended, moved}
use Rattle.reader.specs.Says.{told, Placed, Says}
use Rattle.reader.specs.declared.Next.TheVariants.{Field, Torn, End}

-- the first field of some bytes: its value, and the fields after it
record Parts (xs v : Bytes) (r : Run) : Type 0 where
  within : 3 + length v ≤ length xs
  value : v ≡ take (length v) (drop 3 xs)
  rest : r ≡ run_of (drop (length v) (drop 3 xs))

parts_cond : {t h l u : ℕ} {s v : Bytes} {r : Run} (n : ℕ) (b : Bool) → leb n (length s) ≡ b → cond b (item t (take n s) (parse n s)) torn ≡ item u v r
    → Parts (t ∷ h ∷ l ∷ s) v r
parts_cond {s = s} {v} n true k e =
    let w = leb-true n (length s) k in
    let a : v ≡ take n s = cc in
    let m : length v ≡ n = ap length a ∙ length-take-le n s w in
    record { within = omega arith; value = rw m a; rest = rw m ((cc) ∙ parse_skip n s w) }
parts_cond n false k e = impossible cc

parts : (xs : Bytes) {t : ℕ} {v : Bytes} {r : Run} → run_of xs ≡ item t v r → Parts xs v r
unfolding parse
parts [] e = impossible cc
parts (t ∷ []) e = impossible cc
parts (t ∷ h ∷ []) e = impossible cc
parts (t ∷ h ∷ l ∷ s) e = parts_cond (h * 256 + l) (leb (h * 256 + l) (length s)) refl e

-- the same from a place on
module _ (s : Bytes) (at : ℕ) {t n : ℕ} {v : Bytes} {r : Run} (e : run_of (drop at s) ≡ item t v r) (l : length v ≡ n) where
  run-parts : item t (slice (at + 3) (at + 3 + n) s) (run_of (drop (at + 3 + n) s)) ≡ run_of (drop at s)
  run-parts =
      let p = parts (drop at s) e in
      let a : v ≡ slice (at + 3) (at + 3 + n) s = (rw (l, drop-drop) at p.value) ∙ take-drop (at + 3) n s in
      let b : r ≡ run_of (drop (at + 3 + n) s) = rw (l, drop-drop 3 at s, drop-drop) at p.rest in
      cc

  parts_within : at + 3 + n ≤ length s
  parts_within = omega (arith, (parts (drop at s) e).within, length-drop at s)

-- past the end there is no field
pub says_past : (s : Bytes) (at : ℕ) → length s < at → Says s at End
unfolding parse told Placed
says_past s at h = (rw (drop_of_length-le s {i = at} (omega arith)), tt)

pub place_past : (s : Bytes) (at tag : ℕ) → length s < at → Missing ≡ place_of tag at (run_of (drop at s))
unfolding parse place_of
place_past s at tag h = rw (drop_of_length-le s {i = at} (omega arith))

-- the fields from a cursor on, where its end is the bytes' end
pub to_the_end : (s : Bytes) (c : Cursor) → c.to ≡ length s → fields_from s c ≡ run_of (drop c.at s)
to_the_end s c whole = rw (whole, take-length)

-- what such a cursor's step says, by the variant
module _ (s : Bytes) (c : Cursor) (whole : c.to ≡ length s) {r : Step} (e : fields.told s r ≡ fields_from s c) where
  pub says_torn : r ≡ cursor.Torn → Says s c.at Torn
  unfolding told Placed
  says_torn h = (sym (tore s e h) ∙ to_the_end s c whole, tt)

  pub says_end : r ≡ cursor.End → Says s c.at End
  unfolding told Placed
  says_end h = (sym (ended s e h) ∙ to_the_end s c whole, tt)

  pub says_field : {tag start len : ℕ} {next : Cursor} → r ≡ cursor.Field tag start len next → Onward c r
      → Says s c.at (Field tag (c.at + 3) len (c.at + 3 + len))
  unfolding told Placed
  says_field {tag} {start} {len} {next} h o =
      let m = moved h o in
      let f = sym (to_the_end s c whole) ∙ took s e h in
      let l : length (slice start (start + len) s) ≡ len = length-slice start (start + len) s (omega arith) ∙ omega arith in
      (run-parts s c.at f l, record { after = refl; ends = refl; within = parts_within s c.at f l; short = m.short; byte = m.byte })

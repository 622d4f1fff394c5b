-- What a caller of `next` learns, by the variant; and where the part lies that `field` found.
use mathlib.Core.Path.{◌≡◌, refl, sym, ◌∙◌}
use Prim.Native.Nat.{ℕ, ◌+◌, ◌≤◌, ◌<◌}
use native.Mathlib.Omega.{arith}
use borrow.Author.Tests.{eq-eqb, ne_eqb}
use lib.ListN.{length}
use lib.Seq.{slice, length-slice}
use Rattle.model.specs.Number.{Bytes}
use Rattle.model.specs.Run.{Run, done, torn, item}
use Rattle.fields.specs.Fields.{fields_from, told, Onward, place_of, Within}
use Rattle.fields.specs.declared.Cursor.{Cursor}
use Rattle.fields.specs.declared.Found.{Found}
use Rattle.fields.specs.declared.Found.TheVariants.{Part}
use Rattle.fields.specs.declared.Step.{Step}
use Rattle.fields.specs.declared.Step.TheVariants.{Field, Torn, End}

module _ (s : Bytes) {r : Step} {p : Run} (e : told s r ≡ p) where
  pub took : {tag start len : ℕ} {next : Cursor} → r ≡ Field tag start len next → p ≡ item tag (slice start (start + len) s) (fields_from s next)
  unfolding told
  took {tag} {start} {len} {next} h = sym e ∙ rw h

  pub tore : r ≡ Torn → p ≡ torn
  unfolding told
  tore h = sym e ∙ rw h

  pub ended : r ≡ End → p ≡ done
  unfolding told
  ended h = sym e ∙ rw h

-- where the step's parts lie
pub record Moved (c : Cursor) (tag start len : ℕ) (next : Cursor) : Type 0 where
  pub onward : c.at < next.at
  pub most : next.at ≤ c.to
  pub ends : next.to ≡ c.to
  pub part : start + len ≡ next.at
  pub from : start ≡ c.at + 3
  pub short : len < 65536
  pub byte : tag < 256

pub moved : {c : Cursor} {r : Step} {tag start len : ℕ} {next : Cursor} → r ≡ Field tag start len next → Onward c r → Moved c tag start len next
unfolding Onward
moved {c} {r} {tag} {start} {len} {next} h o =
    let q : Onward c (Field tag start len next) = rw h at o in
    record { onward = q.0; most = q.1; ends = q.2; part = q.3; from = q.4; short = q.5; byte = q.6 }

-- a field of the tag at a cursor, and one of another
module _ (s : Bytes) {c : Cursor} {tag start len : ℕ} {next : Cursor} (m : Moved c tag start len next) (fits : c.to ≤ length s)
    (e : fields_from s c ≡ item tag (slice start (start + len) s) (fields_from s next)) where
  value_long : length (slice start (start + len) s) ≡ len
  value_long = length-slice start (start + len) s (omega arith) ∙ omega arith

  pub place_found : {sought : ℕ} → tag ≡ sought → Part start len ≡ place_of sought c.at (fields_from s c)
  unfolding place_of
  place_found h = rw (e, eq-eqb _ _ h, value_long, m.from) refl

  pub place-passed : {sought : ℕ} → (tag ≡ sought → ⊥) → place_of sought next.at (fields_from s next) ≡ place_of sought c.at (fields_from s c)
  unfolding place_of
  place-passed h =
      let q : c.at + 3 + len ≡ next.at = omega arith in
      rw (e, ne_eqb _ _ h, value_long, q) refl

-- a part lies within the bytes
pub within-part : {to : ℕ} {r : Found} {start len : ℕ} → r ≡ Part start len → Within to r → start + len ≤ to
unfolding Within
within-part {to} {r} {start} {len} h w = let q : Within to (Part start len) = rw h at w in q

-- The fields of the record at the start of some bytes: none of a cut one, those of the body of a whole one; and what stands at a field's place.
use mathlib.Core.Path.{◌≡◌, refl, ap, ap₂}
use mathlib.Core.Bool.{Bool, true, false, cond}
use mathlib.Core.List.{[]}
use mathlib.Core.Option.{none}
use Prim.Native.Nat.{ℕ, ◌+◌, ◌≤◌, ◌<◌}
use native.Mathlib.Omega.{arith}
use borrow.Author.Tests.{le-leb, lt-leb, leb-true}
use lib.Dec.{leb}
use lib.ListN.{length}
use lib.Seq.{slice}
use Rattle.model.specs.Number.{Bytes, number}
use Rattle.model.specs.Run.{parse, run_of, field}
use Rattle.fields.specs.Fields.{place_of, held, Within}
use Rattle.fields.specs.declared.Found.{Found}
use Rattle.fields.specs.declared.Found.TheVariants.{Part, Missing}
use Rattle.fields.proofs.Places.{place-held}
use Rattle.access.specs.Access.{record_end, body_in, record_field}

within_more : {to more : ℕ} (r : Found) → to ≤ more → Within to r → Within more r
unfolding Within
within_more (Part start len) h w = omega (arith, w)
within_more Missing h w = tt

module _ (s : Bytes) (tag : ℕ) where
  pub field_cut : length s < record_end s → record_field s tag ≡ none
  unfolding record_field body_in field parse
  field_cut h = rw (lt-leb _ _ h)

  pub body_cut : length s < record_end s → Missing ≡ place_of tag 3 (run_of (body_in s))
  unfolding body_in parse place_of
  body_cut h = rw (lt-leb _ _ h)

  body-whole : (len : ℕ) → len ≡ number (slice 1 3 s) → 3 + len ≤ length s → slice 3 (3 + len) s ≡ body_in s
  unfolding body_in
  body-whole len e h = rw (← e, le-leb _ _ h)

  pub field-whole : (len : ℕ) → len ≡ number (slice 1 3 s) → 3 + len ≤ length s → field tag (run_of (slice 3 (3 + len) s)) ≡ record_field s tag
  unfolding record_field
  field-whole len e h = ap (λ y. field tag (run_of y)) (body-whole len e h)

  pub place-whole : (t len : ℕ) → t ≡ tag → len ≡ number (slice 1 3 s) → 3 + len ≤ length s
      → place_of t 3 (run_of (slice 3 (3 + len) s)) ≡ place_of tag 3 (run_of (body_in s))
  place-whole t len q e h = ap₂ (λ x y. place_of x 3 (run_of y)) q (body-whole len e h)

  -- the value at the place
  stands : (b : Bool) → leb (record_end s) (length s) ≡ b
      → (held s (place_of tag 3 (run_of (cond b (slice 3 (record_end s) s) []))) ≡ field tag (run_of (cond b (slice 3 (record_end s) s) []))) ×
      Within (length s) (place_of tag 3 (run_of (cond b (slice 3 (record_end s) s) [])))
  unfolding parse place_of held field Within
  stands false e = (refl, tt)
  stands true e =
      let whole = leb-true (record_end s) (length s) e in
      let there = place-held s tag (record_end s) whole 3 in
      (there.0, within_more (place_of tag 3 (run_of (slice 3 (record_end s) s))) whole there.1)

  pub field-held : {r : Found} → r ≡ place_of tag 3 (run_of (body_in s)) → (held s r ≡ record_field s tag) × Within (length s) r
  unfolding record_field body_in
  field-held e = rw e (stands (leb (record_end s) (length s)) refl)

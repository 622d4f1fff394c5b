-- Behind the type: where a field of the tag is found at the first place, it is the first field, and the others follow it.
use mathlib.Core.Path.{◌≡◌, refl, sym, ap, ◌∙◌}
use mathlib.Core.Bool.{Bool, true, false, cond}
use Prim.Native.Nat.{ℕ, ◌+◌, ◌-◌, ◌≤◌, ◌<◌}
use native.Mathlib.Omega.{arith}
use borrow.Author.Tests.{leb-true, leb-false, eqb-true}
use lib.Dec.{leb, eqb}
use lib.ListN.{length, get_or}
use lib.Seq.{slice, length-slice}
use Rattle.model.specs.Number.{Bytes, number}
use Rattle.model.specs.Run.{Run, done, torn, item, run_of, field}
use Rattle.fields.specs.Fields.{place_of, held, Within, fields_from, Inside}
use Rattle.fields.specs.declared.Cursor.{Cursor}
use Rattle.fields.specs.declared.Found.{Found}
use Rattle.fields.specs.declared.Found.TheVariants.{Part, Missing}
use Rattle.fields.proofs.Places.{place-held}
use Rattle.fields.proofs.Parse.{parse-end, parse_cut, parse_past, parse_item}
use Rattle.laws.specs.Choice.{impossible}

-- a field's value is behind the place that it is looked for from
place_beyond : (tag at : ℕ) (r : Run) {start n : ℕ} → place_of tag at r ≡ Part start n → at + 3 ≤ start
unfolding place_of
place_beyond tag at done e = impossible cc
place_beyond tag at torn e = impossible cc
place_beyond tag at (item t v r) {start} {n} e = go (eqb t tag) e (place_beyond tag (at + 3 + length v) r)
  where
    go : (b : Bool) → cond b (Part (at + 3) (length v)) (place_of tag (at + 3 + length v) r) ≡ Part start n
        → (place_of tag (at + 3 + length v) r ≡ Part start n → at + 3 + length v + 3 ≤ start) → at + 3 ≤ start
    go true e i = let q : at + 3 ≡ start = cc in omega arith
    go false e i = let k = i e in omega arith

module _ (s : Bytes) (tag at to : ℕ) (before : at ≤ to) (within : to ≤ length s) where
  -- a first field, by its tag
  first_item : (n m t : ℕ) → n ≡ length (slice (at + 3) (at + 3 + n) s)
      → place_of tag at (item t (slice (at + 3) (at + 3 + n) s) (run_of (slice (at + 3 + n) to s))) ≡ Part (at + 3) m
      → item t (slice (at + 3) (at + 3 + n) s) (run_of (slice (at + 3 + n) to s)) ≡ item tag (slice (at + 3) (at + 3 + m) s) (run_of (slice (at + 3 + m) to s))
  unfolding place_of
  first_item n m t long e = go (eqb t tag) refl e
    where
      v : Bytes
      v = slice (at + 3) (at + 3 + n) s

      go : (b : Bool) → eqb t tag ≡ b → cond b (Part (at + 3) (length v)) (place_of tag (at + 3 + length v) (run_of (slice (at + 3 + n) to s))) ≡ Part (at + 3) m
          → item t v (run_of (slice (at + 3 + n) to s)) ≡ item tag (slice (at + 3) (at + 3 + m) s) (run_of (slice (at + 3 + m) to s))
      go true q e =
          let k : length v ≡ m = cc in
          let h : n ≡ m = long ∙ k in
          rw (eqb-true t tag q, h) refl
      go false q e = let k = place_beyond tag (at + 3 + length v) (run_of (slice (at + 3 + n) to s)) e in absurd (omega arith)

  pub place-first : (m : ℕ) → place_of tag at (run_of (slice at to s)) ≡ Part (at + 3) m
      → run_of (slice at to s) ≡ item tag (slice (at + 3) (at + 3 + m) s) (run_of (slice (at + 3 + m) to s))
  unfolding place_of
  place-first m e = whole (leb 3 (to - at)) refl
    where
      n : ℕ
      n = number (slice (at + 1) (at + 1 + 2) s)

      none : {p : Run} → run_of (slice at to s) ≡ p → place_of tag at p ≡ Missing
          → run_of (slice at to s) ≡ item tag (slice (at + 3) (at + 3 + m) s) (run_of (slice (at + 3 + m) to s))
      none q missing = let k : Missing ≡ Part (at + 3) m = sym missing ∙ ap (place_of tag at) (sym q) ∙ e in impossible cc

      fits : 3 ≤ to - at → (b : Bool) → leb n (to - at - 3) ≡ b
          → run_of (slice at to s) ≡ item tag (slice (at + 3) (at + 3 + m) s) (run_of (slice (at + 3 + m) to s))
      fits h true q =
          let k = leb-true n (to - at - 3) q in
          let p = parse_item s to within at n (omega arith) refl k in
          let long : n ≡ length (slice (at + 3) (at + 3 + n) s) = omega (arith, length-slice (at + 3) (at + 3 + n) s (omega arith)) in
          p ∙ first_item n m (get_or s at 0) long (ap (place_of tag at) (sym p) ∙ e)
      fits h false q = none (parse_past s to within at n (omega arith) refl (leb-false n (to - at - 3) q)) refl

      whole : (b : Bool) → leb 3 (to - at) ≡ b → run_of (slice at to s) ≡ item tag (slice (at + 3) (at + 3 + m) s) (run_of (slice (at + 3 + m) to s))
      whole true q = fits (leb-true 3 (to - at) q) (leb n (to - at - 3)) refl
      whole false q = cut (leb-false 3 (to - at) q) (leb to at) refl
        where
          cut : to - at < 3 → (b : Bool) → leb to at ≡ b → run_of (slice at to s) ≡ item tag (slice (at + 3) (at + 3 + m) s) (run_of (slice (at + 3 + m) to s))
          cut h true q = let k = leb-true to at q in none (parse-end s to within at (omega arith)) refl
          cut h false q = let k = leb-false to at q in none (parse_cut s to within at (omega arith) h) refl

-- an element's type, as it was found from a cursor on
module _ (s : Bytes) (c : Cursor) (inside : Inside s c) {r : Found} (e : r ≡ place_of 1 c.at (fields_from s c)) where
  pub type_held : (held s r ≡ field 1 (fields_from s c)) × Within c.to r
  type_held = rw e (place-held s 1 c.to inside.1 c.at)

  pub type_first : {start len : ℕ} → r ≡ Part start len → start ≡ c.at + 3
      → fields_from s c ≡ item 1 (slice start (start + len) s) (fields_from s (record { at = start + len; to = c.to }))
  type_first {start} {len} g h =
      let p : place_of 1 c.at (fields_from s c) ≡ Part (c.at + 3) len = sym e ∙ g ∙ ap (λ x. Part x len) h in
      rw h (place-first s 1 c.at c.to inside.0 inside.1 len p)

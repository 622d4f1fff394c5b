-- What stands at the place of a tag's first field: its value, within the bytes.
use mathlib.Core.Path.{◌≡◌, refl, sym, ap, ◌∙◌}
use mathlib.Core.Bool.{Bool, true, false, cond}
use mathlib.Core.List.{[], ◌∷◌}
use mathlib.Core.Option.{some}
use Prim.Native.Nat.{ℕ, zero, suc, ◌+◌, ◌*◌, ◌≤◌}
use native.Mathlib.Nat.{not-suc-le-zero, le_of_suc-le-suc}
use native.Mathlib.Omega.{arith}
use borrow.Author.Tests.{leb-true}
use lib.Dec.{leb, eqb}
use lib.ListN.{length, take, drop}
use lib.Seq.{slice, length-slice, length-take-le, drop-drop}
use Rattle.model.specs.Number.{Bytes}
use Rattle.model.specs.Run.{Run, torn, item, parse, run_of, field}
use Rattle.fields.specs.Fields.{place_of, held, Within}
use Rattle.fields.specs.declared.Found.TheVariants.{Part}
use Rattle.fields.proofs.Parse.{take-slice}

module _ (s : Bytes) (tag to : ℕ) (whole : to ≤ length s) where
  -- a place is that of the fields' value, within the bytes
  abbrev Stands : ℕ → Run → Type 0
  Stands at p = (held s (place_of tag at p) ≡ field tag p) × Within to (place_of tag at p)

  stands_item : (at t : ℕ) (v : Bytes) (r : Run) → slice (at + 3) (at + 3 + length v) s ≡ v → at + 3 + length v ≤ to → Stands (at + 3 + length v) r
      → Stands at (item t v r)
  unfolding place_of held field Within
  stands_item at t v r e w h = go (eqb t tag)
    where
      go : (b : Bool) → (held s (cond b (Part (at + 3) (length v)) (place_of tag (at + 3 + length v) r)) ≡ cond b (some v) (field tag r)) ×
          Within to (cond b (Part (at + 3) (length v)) (place_of tag (at + 3 + length v) r))
      go true = (ap some e, w)
      go false = h

  -- the bytes behind the first ones of a part
  rest : (n at : ℕ) (xs : Bytes) → xs ≡ slice at to s → drop n xs ≡ slice (at + n) to s
  rest n at xs e = ap (drop n) e ∙ drop-drop n at (take to s)

  -- the first field, where it is whole, by what stands behind it
  stands-first : (at t n : ℕ) (xs : Bytes) → at + 3 ≤ to → xs ≡ slice (at + 3) to s → (b : Bool) → leb n (length xs) ≡ b
      → (n ≤ length xs → Stands (at + 3 + n) (parse n xs)) → Stands at (cond b (item t (take n xs) (parse n xs)) torn)
  unfolding place_of held field Within
  stands-first at t n xs head behind false q next = (refl, tt)
  stands-first at t n xs head behind true q next =
      let k = leb-true n (length xs) q in
      let len = length-take-le n xs k in
      let within : at + 3 + n ≤ to = omega (arith, ap length behind, length-slice (at + 3) to s whole) in
      let value : slice (at + 3) (at + 3 + n) s ≡ take n xs = sym (ap (take n) behind ∙ take-slice s (at + 3) n to within) in
      stands_item at t (take n xs) (parse n xs) (rw len value) (rw len within) (rw len (next k))

  stands : (k at m : ℕ) → m ≡ at + k → (xs : Bytes) → xs ≡ slice at to s → k ≤ length xs → Stands m (parse k xs)
  unfolding parse place_of held field Within
  stands zero at m em [] e h = (refl, tt)
  stands zero at m em (t ∷ []) e h = (refl, tt)
  stands zero at m em (t ∷ a ∷ []) e h = (refl, tt)
  stands zero at m em (t ∷ a ∷ b ∷ xs) e h =
      let n : ℕ = a * 256 + b in
      let behind : xs ≡ slice (at + 3) to s = rest 3 at (t ∷ a ∷ b ∷ xs) e in
      let here : m ≡ at = omega arith in
      let head : at + 3 ≤ to = omega (arith, ap length e, length-slice at to s whole) in
      rw here (stands-first at t n xs head behind (leb n (length xs)) refl (λ k. stands n (at + 3) (at + 3 + n) refl xs behind k))
  stands (suc k) at m em [] e h = absurd (not-suc-le-zero h)
  stands (suc k) at m em (x ∷ xs) e h = stands k (at + 1) m (omega arith) xs (rest 1 at (x ∷ xs) e) (le_of_suc-le-suc h)

  -- the first field of a tag from a place on
  pub place-held : (at : ℕ) → (held s (place_of tag at (run_of (slice at to s))) ≡ field tag (run_of (slice at to s))) ×
      Within to (place_of tag at (run_of (slice at to s)))
  place-held at = stands 0 at at (omega arith) (slice at to s) refl (omega arith)

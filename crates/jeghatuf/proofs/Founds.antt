-- A field that was found, or not, as `jeghatuf_field` says it: sought by the number `t`, which is the tag.
use mathlib.Core.Path.{◌≡◌, sym, ap, ◌∙◌}
use mathlib.Core.List.{List, [], ◌∷◌}
use Prim.Native.Nat.{ℕ}
use Rattle.model.specs.Run.{Run}
use Rattle.fields.specs.Fields.{place_of}
use Rattle.fields.specs.declared.Found.{Found}
use Rattle.fields.specs.declared.Found.TheVariants.{Part, Missing}
use Rattle.packing.specs.Packed.{filled}
use Rattle.jeghatuf.specs.Field.{is_found, places_of}

module _ (at : ℕ) (r : Run) {f : Found} {t tag : ℕ} (e : f ≡ place_of t at r) (is-tag : t ≡ tag) where
  is_place : f ≡ place_of tag at r
  is_place = e ∙ ap (λ n. place_of n at r) is-tag

  pub found : {start len : ℕ} → f ≡ Part start len → (l : List ℕ) {v : List ℕ} → v ≡ filled (start ∷ len ∷ []) l
      → (1 ≡ is_found (place_of tag at r)) × (v ≡ filled (places_of (place_of tag at r)) l)
  found q l ev = (sym (ap is_found (sym is_place ∙ q)), ev ∙ ap (λ y. filled (places_of y) l) (sym q ∙ is_place))

  pub missing : f ≡ Missing → (l : List ℕ) → (0 ≡ is_found (place_of tag at r)) × (l ≡ filled (places_of (place_of tag at r)) l)
  missing q l = (sym (ap is_found (sym is_place ∙ q)), ap (λ y. filled (places_of y) l) (sym q ∙ is_place))

-- Of a visible name the viewer's freeze is everyone's: a stored prefix of the name and the viewer's prefix of it are one the beginning of the other.
use Rattle.std.specs.Prelude.{◌≡◌, refl, Bool, true, false, cond, ◌&&◌, ◌||◌, List, [], ◌∷◌, eqb}
use Rattle.std.proofs.Common.{ap, ap₂, eqb-true, eq-eqb}
use Rattle.std.proofs.Math.Bool.{or-true}
use Rattle.std.proofs.Math.Option.{none}
use Rattle.model.specs.Choice.{or_else}
use Rattle.model.specs.Number.{Bytes}
use Rattle.model.specs.Order.{compare_bytes, same_bytes}
use Rattle.model.specs.Key.{freeze_key}
use Rattle.model.specs.Contents.{Entry}
use Rattle.model.specs.Image.{contents_of}
use Rattle.model.specs.Lookup.{named, begins_with, literal, prefixed, internal, longest_by, freeze_by, returned_at, as_list, freeze, freeze_of}
use Rattle.model.specs.View.{visible, touches, scope_counts, view_freeze, prefixes_in, view_freeze_of, FreezeOfVisible}
use Rattle.laws.specs.Choice.{true_false}
use Rattle.laws.specs.Freeze.{longest_on}
use Rattle.laws_view.specs.Passed.{viewer_image, query_viewer, query_text, query_visible}

-- two beginnings of one name
nested : (p q name : Bytes) → begins_with p name ≡ true → begins_with q name ≡ true → begins_with p q || begins_with q p ≡ true
unfolding begins_with
nested [] q name h k = refl
nested (a ∷ p) [] name h k = refl
nested (a ∷ p) (b ∷ q) [] h k = absurd (true_false h refl)
nested (a ∷ p) (b ∷ q) (c ∷ name) h k = go (eqb a c) refl (eqb b c) refl h k (nested p q name)
  where
    go : (x : Bool) → eqb a c ≡ x → (y : Bool) → eqb b c ≡ y → x && begins_with p name ≡ true → y && begins_with q name ≡ true
        → (begins_with p name ≡ true → begins_with q name ≡ true → begins_with p q || begins_with q p ≡ true)
        → (eqb a b && begins_with p q) || (eqb b a && begins_with q p) ≡ true
    go true e true f u v i =
        let ac = eqb-true a c e in
        let bc = eqb-true b c f in
        let one : eqb a b ≡ true = rw (ac, bc) (eq-eqb c c refl) in
        let two : eqb b a ≡ true = rw (ac, bc) (eq-eqb c c refl) in
        rw (one, two) (i u v)
    go true e false f u v i = absurd (true_false v refl)
    go false e y f u v i = absurd (true_false u refl)

touched : (ps : List Bytes) (scope name : Bytes) → visible ps name ≡ true → begins_with scope name ≡ true → touches ps scope ≡ true
unfolding visible touches
touched [] scope name v h = absurd (true_false v refl)
touched (p ∷ ps) scope name v h = go (begins_with p name) refl v (λ u. touched ps scope name u h)
  where
    go : (c : Bool) → begins_with p name ≡ c → c || visible ps name ≡ true → (visible ps name ≡ true → touches ps scope ≡ true)
        → begins_with p scope || begins_with scope p || touches ps scope ≡ true
    go true e u i = rw (nested p scope name e h) refl
    go false e u i = rw (i u, or-true)

pub visible-freeze : (ps : List Bytes) (name : Bytes) → visible ps name ≡ true → (l : List Entry) → view_freeze ps name l ≡ freeze name l
unfolding view_freeze freeze freeze_by scope_counts same_bytes compare_bytes
visible-freeze ps name v l = ap₂ (λ x y. cond (begins_with internal name) none (or_else x y)) exact longest
  where
    exact : cond (scope_counts ps literal name) (returned_at (freeze_key literal name) l) none ≡ returned_at (freeze_key literal name) l
    exact = rw v

    one : (s : Bytes) → begins_with s name ≡ true
        → cond (scope_counts ps prefixed s) (returned_at (freeze_key prefixed s) l) none ≡ returned_at (freeze_key prefixed s) l
    one s h = rw (touched ps s name v h)

    longest : longest_by (λ s. cond (scope_counts ps prefixed s) (returned_at (freeze_key prefixed s) l) none) [] name
        ≡ longest_by (λ s. returned_at (freeze_key prefixed s) l) [] name
    longest = longest_on _ _ name one [] name refl

pub freeze_of-visible : FreezeOfVisible
unfolding view_freeze_of freeze_of
freeze_of-visible image list name out h =
    rw (h, viewer_image image list (query_viewer image list name h), query_text image list name h)
    (ap (λ r. named 0 (as_list r) out) (visible-freeze (prefixes_in list) name (query_visible image list name h) (contents_of image).real))

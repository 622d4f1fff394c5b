-- Entries of which no two are named for one id: one more at the end, and two that share one.
use mathlib.Core.Path.{◌≡◌, refl, sym, ap, ◌∙◌}
use mathlib.Core.List.{List, [], ◌∷◌, ◌++◌}
use mathlib.Core.Bool.{Bool, true, false, ◌&&◌, not, and-false}
use Rattle.model.specs.Choice.{every}
use Rattle.model.specs.Number.{Bytes}
use Rattle.model.specs.Order.{same_bytes}
use Rattle.model.specs.Contents.{Entry, topic, part, plain, names_id, named_apart}
use Rattle.laws.specs.Choice.{impossible, and_left, and_right, and_both, not_true_false}
use Rattle.laws.specs.Order.{same_bytes_self, same_bytes_true}
use Rattle.laws.specs.Lists.{All, every_append}

-- no entry is named for the id
abbrev pub none_names : Bytes → List Entry → Bool
none_names id l = every (λ e. not (names_id id e)) l

-- no id has both
abbrev pub Apart : Entry → Entry → Type 0
Apart e f = (id : Bytes) → names_id id e ≡ true → names_id id f ≡ true → ⊥

alone : (e : Entry) → named_apart (e ∷ []) ≡ true
unfolding named_apart
alone (topic name id count factor true) = refl
alone (topic name id count factor false) = refl
alone (part r) = refl
alone (plain r) = refl

pub one_more : (l : List Entry) (e : Entry) → named_apart l ≡ true → All (λ f. Apart f e) l → named_apart (l ++ e ∷ []) ≡ true
unfolding named_apart names_id
one_more [] e h u = alone e
one_more (part r ∷ l) e h u = one_more l e h u.1
one_more (plain r ∷ l) e h u = one_more l e h u.1
one_more (topic name id count factor false ∷ l) e h u = one_more l e h u.1
one_more (topic name id count factor true ∷ l) e h u =
    let other : names_id id e ≡ false = not_true_false (names_id id e) (λ p. u.0 id (same_bytes_self id) p) in
    let last : none_names id (e ∷ []) ≡ true = rw other in
    and_both (none_names id (l ++ e ∷ [])) (named_apart (l ++ e ∷ []))
    (every_append (λ f. not (names_id id f)) l (e ∷ [])
    ∙ and_both (none_names id l) (none_names id (e ∷ [])) (and_left (none_names id l) (named_apart l) h) last)
    (one_more l e (and_right (none_names id l) (named_apart l) h) u.1)

named-within : (id : Bytes) (l m : List Entry) (e : Entry) → names_id id e ≡ true → none_names id (l ++ e ∷ m) ≡ false
named-within id l m e h =
    every_append (λ f. not (names_id id f)) l (e ∷ m)
    ∙ ap (λ b. none_names id l && (not b && none_names id m)) h
    ∙ and-false (none_names id l)

pub shared : (l m : List Entry) (e : Entry) (id : Bytes) → names_id id e ≡ true → none_names id l ≡ false → named_apart (l ++ e ∷ m) ≡ false
unfolding named_apart names_id
shared [] m e id p h = impossible cc
shared (part r ∷ l) m e id p h = shared l m e id p h
shared (plain r ∷ l) m e id p h = shared l m e id p h
shared (topic name own count factor false ∷ l) m e id p h = shared l m e id p h
shared (topic name own count factor true ∷ l) m e id p h = go (same_bytes own id) refl (λ k. shared l m e id p k)
  where
    go : (b : Bool) → same_bytes own id ≡ b → (none_names id l ≡ false → named_apart (l ++ e ∷ m) ≡ false)
        → none_names own (l ++ e ∷ m) && named_apart (l ++ e ∷ m) ≡ false
    go true q next =
        let owns : names_id own e ≡ true = rw (same_bytes_true own id q) p in
        ap (λ b. b && named_apart (l ++ e ∷ m)) (named-within own l m e owns)
    go false q next =
        ap (λ b. none_names own (l ++ e ∷ m) && b) (next (sym (ap (λ b. not b && none_names id l) q) ∙ h))
        ∙ and-false (none_names own (l ++ e ∷ m))

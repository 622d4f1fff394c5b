-- The id index: what is unnamed for an id is named for no topic, and other ids keep their topics.
use Rattle.std.specs.Prelude.{◌≡◌, refl, Bool, true, false, cond, ◌&&◌}
use Rattle.model.specs.Number.{Bytes}
use Rattle.model.specs.Order.{same_bytes}
use Rattle.model.specs.Contents.{Entry, topic, part, plain, names_id}
use Rattle.model.specs.Move.{clear_named}
use Rattle.laws.specs.Order.{same_bytes_true}

-- a topic that loses a shared id is no longer named for it
pub unnamed : (i : Bytes) (e : Entry) → names_id i (clear_named i e) ≡ false
unfolding clear_named names_id
unnamed i (topic name id count factor named) = go (same_bytes id i) named
  where
    go : (same named : Bool) → cond same false named && same ≡ false
    go true named = refl
    go false true = refl
    go false false = refl
unnamed i (part r) = refl
unnamed i (plain r) = refl

-- another id's topic stays
pub unnamed_other : (i j : Bytes) → same_bytes j i ≡ false → (e : Entry) → names_id j (clear_named i e) ≡ names_id j e
unfolding clear_named names_id
unnamed_other i j h (topic name id count factor named) = go (same_bytes id i) (same_bytes id j) refl refl
  where
    clash : same_bytes id i ≡ true → same_bytes id j ≡ true → same_bytes j i ≡ true
    clash p q = rw (← same_bytes_true id j q, p)

    go : (a b : Bool) → same_bytes id i ≡ a → same_bytes id j ≡ b → cond a false named && b ≡ named && b
    go true true p q = let z : false ≡ true = rw h at (clash p q) in cc
    go true false p q = and_no named
      where
        and_no : (n : Bool) → false ≡ n && false
        and_no true = refl
        and_no false = refl
    go false b p q = refl
unnamed_other i j h (part r) = refl
unnamed_other i j h (plain r) = refl

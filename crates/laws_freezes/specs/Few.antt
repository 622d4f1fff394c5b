-- A pass reads no stored freeze twice: what it reads is never above their number.
use Rattle.std.specs.Prelude.{◌≡◌, refl, Bool, true, false, cond, ◌&&◌, ◌||◌, not, List, [], ◌∷◌, ℕ, suc, ◌+◌, ◌≤◌}
use Rattle.std.proofs.Common.{sym, ap, ◌∙◌, arith}
use Rattle.std.proofs.Math.Option.{Option, none, some}
use Rattle.model.specs.Choice.{given}
use Rattle.model.specs.Number.{Bytes}
use Rattle.model.specs.Order.{Key, compare_bytes, same_bytes, is_below}
use Rattle.model.specs.Key.{key_name, key_scope}
use Rattle.model.specs.Map.{any, count}
use Rattle.model.specs.Contents.{Entry, key}
use Rattle.model.specs.Lookup.{literal, prefixed}
use Rattle.model.specs.FreezeList.{is_freeze, scope_above, scope_up_to, pattern_read, last_name, freezes_read, ReadAtMostOnce}
use Rattle.laws.specs.Choice.{true_false}
use Rattle.laws.specs.Order.{same_bytes_true}

any-count : (test : Key → Bool) (l : List Entry) → cond (any key test l) 1 0 ≤ count key test l
unfolding any count
any-count test [] = omega arith
any-count test (e ∷ l) = go (test (key e)) (any-count test l)
  where
    go : (b : Bool) → cond (any key test l) 1 0 ≤ count key test l
        → cond (b || any key test l) 1 0 ≤ cond b (suc (count key test l)) (count key test l)
    go true h = omega arith
    go false h = h

apart : (k : Key) → same_bytes (key_name k) literal ≡ true → same_bytes (key_name k) prefixed ≡ true → ⊥
unfolding same_bytes compare_bytes
apart k p q = true_false (ap (λ x. same_bytes x prefixed) (sym (same_bytes_true (key_name k) literal p)) ∙ q) refl

-- each is of at most one pattern, and up to the last name or above it
parts : (last : Bytes) (l : List Entry)
    → (count key (scope_up_to literal last) l + count key (scope_above literal last) l)
    + (count key (scope_up_to prefixed last) l + count key (scope_above prefixed last) l)
    ≤ count key is_freeze l
unfolding count scope_up_to scope_above
parts last [] = omega arith
parts last (e ∷ l) =
    go (is_freeze (key e)) (same_bytes (key_name (key e)) literal) refl (same_bytes (key_name (key e)) prefixed) refl
    (is_below (compare_bytes last (key_scope (key e)))) (count key (scope_up_to literal last) l) (count key (scope_above literal last) l)
    (count key (scope_up_to prefixed last) l) (count key (scope_above prefixed last) l) (count key is_freeze l) (parts last l)
  where
    go : (f x : Bool) → same_bytes (key_name (key e)) literal ≡ x → (y : Bool) → same_bytes (key_name (key e)) prefixed ≡ y → (b : Bool)
        → (n m p q all : ℕ) → (n + m) + (p + q) ≤ all
        → (cond (f && x && not b) (suc n) n + cond (f && x && b) (suc m) m) + (cond (f && y && not b) (suc p) p + cond (f && y && b) (suc q) q)
        ≤ cond f (suc all) all
    go false x i y j b n m p q all h = h
    go true true i true j b n m p q all h = absurd (apart (key e) i j)
    go true true i false j true n m p q all h = omega arith
    go true true i false j false n m p q all h = omega arith
    go true false i true j true n m p q all h = omega arith
    go true false i true j false n m p q all h = omega arith
    go true false i false j b n m p q all h = omega arith

-- "at most once each, so never above their number"
pub read-at-most : ReadAtMostOnce
unfolding freezes_read pattern_read
read-at-most names l = go (last_name names)
  where
    go : (o : Option Bytes) → given o 0 (λ last. pattern_read literal last l + pattern_read prefixed last l) ≤ count key is_freeze l
    go none = omega arith
    go (some last) =
        omega (arith, any-count (scope_above literal last) l, any-count (scope_above prefixed last) l, parts last l)

-- A byte string begins with another where its first bytes are the other.
use mathlib.Core.Path.{◌≡◌, refl, sym, ◌∙◌}
use mathlib.Core.Bool.{◌&&◌}
use mathlib.Core.List.{[], ◌∷◌}
use Prim.Native.Nat.{Ordering, compare}
use lib.Dec.{eqb}
use lib.ListN.{length, take}
use borrow.Author.Tests.{eq-eqb, ne_eqb}
use Rattle.model.specs.Number.{Bytes}
use Rattle.model.specs.Order.{compare_bytes, same_bytes, is_same, then_by}
use Rattle.model.specs.Lookup.{begins_with}
use Rattle.laws.specs.Order.{numbers_total, eq_compare, lt≢eq, eq≢gt}

pub begins_same : (prefix s : Bytes) → same_bytes prefix (take (length prefix) s) ≡ begins_with prefix s
unfolding same_bytes compare_bytes begins_with
begins_same [] s = refl
begins_same (a ∷ prefix) [] = refl
begins_same (a ∷ prefix) (b ∷ s) = go (compare a b) refl (begins_same prefix s)
  where
    go : (o : Ordering) → compare a b ≡ o → same_bytes prefix (take (length prefix) s) ≡ begins_with prefix s
        → is_same (then_by o (compare_bytes prefix (take (length prefix) s))) ≡ eqb a b && begins_with prefix s
    go Ordering.lt q h = rw (ne_eqb a b (λ e. lt≢eq (sym q ∙ eq_compare a b e))) refl
    go Ordering.eq q h = rw (eq-eqb a b (numbers_total.eqv a b q)) h
    go Ordering.gt q h = rw (ne_eqb a b (λ e. eq≢gt (sym (eq_compare a b e) ∙ q))) refl

-- The names that a scope fits stand together in a list in order: none is below it, and none is behind one that is not below it and that it does not fit.
use mathlib.Core.Path.{◌≡◌, refl, sym, ap, ◌∙◌}
use mathlib.Core.Bool.{Bool, true, false, not}
use mathlib.Core.List.{List, [], ◌∷◌}
use mathlib.Core.Option.{some}
use Prim.Native.Nat.{Ordering}
use borrow.Author.Tests.{not-true}
use Rattle.model.specs.Choice.{every}
use Rattle.model.specs.Number.{Bytes}
use Rattle.model.specs.Order.{compare_bytes, same_bytes, is_below}
use Rattle.model.specs.Names.{in_order}
use Rattle.model.specs.Lookup.{begins_with}
use Rattle.laws.specs.Choice.{true_false, not_true_false, and_left, and_right, and_both}
use Rattle.laws.specs.Order.{bytes-total, gt_lt, lt≢eq, is_below_true, same_bytes_true, same_bytes_self}
use Rattle.laws_freezes.specs.Unread.{rising}
use Rattle.laws_freezes.specs.Freezes.{begins_notabove}
use Rattle.laws_freezes.specs.Runs.{run_ends}
use Rattle.name_marks.specs.Marks.{fits_name, below}

-- 1. Below and not below

not_below : (o : Ordering) → not (is_below o) ≡ true → o ≡ Ordering.lt → ⊥
not_below o h e = true_false (ap is_below e) (not-true (is_below o) h)

is_not_below : (o : Ordering) → (o ≡ Ordering.lt → ⊥) → not (is_below o) ≡ true
is_not_below Ordering.lt h = absurd (h refl)
is_not_below Ordering.eq h = refl
is_not_below Ordering.gt h = refl

is_not : (b : Bool) → (b ≡ true → ⊥) → not b ≡ true
is_not b h = ap not (not_true_false b h)

-- what is not below v, which is not below the scope, is not below the scope
step_on : (scope v name : Bytes) → not (below scope v) ≡ true → not (below v name) ≡ true → not (below scope name) ≡ true
step_on scope v name h g = is_not_below (compare_bytes name scope) (λ e. go e (compare_bytes v name) refl)
  where
    go : compare_bytes name scope ≡ Ordering.lt → (o : Ordering) → compare_bytes v name ≡ o → ⊥
    go e Ordering.lt q = not_below (compare_bytes v scope) h (bytes-total.step v name scope q e)
    go e Ordering.eq q = not_below (compare_bytes v scope) h (ap (λ n. compare_bytes n scope) (bytes-total.eqv v name q) ∙ e)
    go e Ordering.gt q = not_below (compare_bytes name v) g (gt_lt bytes-total v name q)

pub rising_on : (scope v : Bytes) (ns : List Bytes) → not (below scope v) ≡ true → rising (some v) ns ≡ true
    → every (λ name. not (below scope name)) ns ≡ true
rising_on scope v [] h r = refl
rising_on scope v (n ∷ ns) h r =
    let on = step_on scope v n h (and_left (in_order (some v) n) (rising (some n) ns) r) in
    and_both (not (below scope n)) (every (λ name. not (below scope name)) ns) on
    (rising_on scope n ns on (and_right (in_order (some v) n) (rising (some n) ns) r))

-- 2. Which names fit

module _ (literal : Bool) (scope : Bytes) where
  -- a name that fits is not below the scope
  fits_on : (name : Bytes) → fits_name literal scope name ≡ true → compare_bytes name scope ≡ Ordering.lt → ⊥
  fits_on name = go literal
    where
      go : (b : Bool) → fits_name b scope name ≡ true → compare_bytes name scope ≡ Ordering.lt → ⊥
      go true h e = lt≢eq (sym e ∙ ap (compare_bytes name) (same_bytes_true scope name h) ∙ bytes-total.same name)
      go false h e = begins_notabove scope name h e

  pub below_unfit : (ns : List Bytes) → every (below scope) ns ≡ true → every (λ name. not (fits_name literal scope name)) ns ≡ true
  below_unfit [] h = refl
  below_unfit (n ∷ ns) h =
      and_both (not (fits_name literal scope n)) (every (λ name. not (fits_name literal scope name)) ns)
      (is_not (fits_name literal scope n) (λ f. fits_on n f (is_below_true (compare_bytes n scope) (and_left (below scope n) (every (below scope) ns) h))))
      (below_unfit ns (and_right (below scope n) (every (below scope) ns) h))

  module _ (v : Bytes) (on : not (below scope v) ≡ true) (unfit : not (fits_name literal scope v) ≡ true) where
    -- a name that is not below v does not fit either
    later_unfit : (name : Bytes) → not (below v name) ≡ true → fits_name literal scope name ≡ true → ⊥
    later_unfit name h = go literal unfit
      where
        same : scope ≡ name → scope ≡ v
        same e = fold (compare_bytes v scope) refl
          where
            fold : (o : Ordering) → compare_bytes v scope ≡ o → scope ≡ v
            fold Ordering.lt q = absurd (not_below (compare_bytes v scope) on q)
            fold Ordering.eq q = sym (bytes-total.eqv v scope q)
            fold Ordering.gt q = absurd (not_below (compare_bytes name v) h (ap (λ n. compare_bytes n v) (sym e) ∙ gt_lt bytes-total v scope q))

        go : (b : Bool) → not (fits_name b scope v) ≡ true → fits_name b scope name ≡ true → ⊥
        go true u f =
            true_false (ap (same_bytes scope) (sym (same (same_bytes_true scope name f))) ∙ same_bytes_self scope) (not-true (same_bytes scope v) u)
        go false u f =
            true_false (run_ends scope v name (not_below (compare_bytes v scope) on) (not_below (compare_bytes name v) h) f) (not-true (begins_with scope v) u)

    all_unfit : (ns : List Bytes) → every (λ name. not (below v name)) ns ≡ true → every (λ name. not (fits_name literal scope name)) ns ≡ true
    all_unfit [] h = refl
    all_unfit (n ∷ ns) h =
        and_both (not (fits_name literal scope n)) (every (λ name. not (fits_name literal scope name)) ns)
        (is_not (fits_name literal scope n) (later_unfit n (and_left (not (below v n)) (every (λ name. not (below v name)) ns) h)))
        (all_unfit ns (and_right (not (below v n)) (every (λ name. not (below v name)) ns) h))

    -- nor any behind it
    pub none-behind : (ns : List Bytes) → rising (some v) ns ≡ true → every (λ name. not (fits_name literal scope name)) (v ∷ ns) ≡ true
    none-behind ns r =
        and_both (not (fits_name literal scope v)) (every (λ name. not (fits_name literal scope name)) ns) unfit
        (all_unfit ns (rising_on v v ns self r))
      where
        self : not (below v v) ≡ true
        self = ap (λ o. not (is_below o)) (bytes-total.same v)

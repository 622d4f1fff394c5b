-- Maps as lists that ascend by key, over any elements with a key.
use Rattle.std.specs.Prelude.{ℕ, suc, Bool, true, false, cond, ◌&&◌, ◌||◌, List, [], ◌∷◌}
use Rattle.std.proofs.Math.Option.{Option, none, some}
use Rattle.model.specs.Choice.{choose}
use Rattle.model.specs.Order.{Key, compare_keys, is_below}

module _ {E : Type 0} (key : E → Key) where
  -- replaces the element of the same key, or goes where the order has it
  unfoldable pub put : E → List E → List E
  put e [] = e ∷ []
  put e (x ∷ l) = choose (compare_keys (key e) (key x)) (e ∷ x ∷ l) (e ∷ l) (x ∷ put e l)

  unfoldable pub get : Key → List E → Option E
  get k [] = none
  get k (x ∷ l) = choose (compare_keys k (key x)) none (some x) (get k l)

  unfoldable pub remove : Key → List E → List E
  remove k [] = []
  remove k (x ∷ l) = choose (compare_keys k (key x)) (x ∷ l) l (x ∷ remove k l)

  -- those whose key passes a test: kept, any, how many
  unfoldable pub keep : (Key → Bool) → List E → List E
  keep test [] = []
  keep test (x ∷ l) = cond (test (key x)) (x ∷ keep test l) (keep test l)

  unfoldable pub any : (Key → Bool) → List E → Bool
  any test [] = false
  any test (x ∷ l) = test (key x) || any test l

  unfoldable pub count : (Key → Bool) → List E → ℕ
  count test [] = 0
  count test (x ∷ l) = cond (test (key x)) (suc (count test l)) (count test l)

  -- keys strictly ascend
  unfoldable pub ascending : List E → Bool
  ascending [] = true
  ascending (x ∷ []) = true
  ascending (x ∷ y ∷ l) = is_below (compare_keys (key x) (key y)) && ascending (y ∷ l)

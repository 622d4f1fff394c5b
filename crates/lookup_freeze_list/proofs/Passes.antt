-- A pass over a list of entries: what one entry makes, what the scopes above the last name leave, and the index that each name gets.
use mathlib.Core.Path.{◌≡◌, refl, sym, ap, ◌∙◌}
use mathlib.Core.Bool.{Bool, true, false, cond, ◌&&◌, not}
use mathlib.Core.List.{List, [], ◌∷◌, ◌++◌}
use Prim.Native.Nat.{Ordering}
use Prim.Native.Nat.{ℕ, suc, ◌+◌}
use native.Mathlib.Omega.{arith}
use Rattle.model.specs.Choice.{joined}
use Rattle.model.specs.Number.{Bytes, bytes}
use Rattle.model.specs.Order.{Key, compare_bytes, same_bytes, is_below}
use Rattle.model.specs.Key.{key_name, key_scope}
use Rattle.model.specs.Contents.{Entry, key}
use Rattle.model.specs.Lookup.{begins_with}
use Rattle.model.specs.FreezeList.{is_freeze}
use Rattle.laws.specs.Choice.{not_true_false, and_both}
use Rattle.laws.specs.Lists.{All, all_imp, all-every}
use Rattle.laws.specs.Map.{Over}
use Rattle.laws.specs.Order.{Lt, bytes-total, apart_same_bytes}
use Rattle.laws_freezes.specs.Freezes.{last_at, prefix_test, literal_test, read_walk, of_pattern, scopes_rise, reached}
use Rattle.name_marks.specs.Marks.{fits_name, marked}
use Rattle.name_marks.specs.Laws.{marked-joined, marked_nothing}
use Rattle.lookup_freeze_list.specs.Passes.{pattern_of, passed}

next : (i : ℕ) → suc i ≡ i + 1
next i = omega arith

module _ (isLiteral : Bool) (names : List Bytes) (x : Entry) (l : List Entry) where
  abbrev pattern : Bytes
  pattern = pattern_of isLiteral

  -- 1. One entry: no freeze, a freeze of the other pattern, and one that is read

  module _ (no : is_freeze (key x) ≡ false) where
    pub passed_other : (i : ℕ) (out : Bytes) → passed isLiteral names i (x ∷ l) out ≡ passed isLiteral names i l out
    unfolding passed
    passed_other i out = rw no refl

    pub read_other : (last : Bytes) → read_walk pattern last (x ∷ l) ≡ read_walk pattern last l
    unfolding read_walk
    read_other last = rw no refl

  module _ (is : is_freeze (key x) ≡ true) where
    pub passed_skip : same_bytes (key_name (key x)) pattern ≡ false → (i : ℕ) (out : Bytes)
        → passed isLiteral names i (x ∷ l) out ≡ passed isLiteral names (i + 1) l out
    unfolding passed
    passed_skip h i out = rw (is, h) (ap (λ j. passed isLiteral names j l out) (next i))

    pub read_skip : same_bytes (key_name (key x)) pattern ≡ false → (last : Bytes) → read_walk pattern last (x ∷ l) ≡ read_walk pattern last l
    unfolding read_walk
    read_skip h last = rw (is, h) refl

    pub passed-mark : same_bytes (key_name (key x)) pattern ≡ true → (i : ℕ) (out : Bytes)
        → passed isLiteral names i (x ∷ l) out ≡ passed isLiteral names (i + 1) l (marked (fits_name isLiteral (key_scope (key x))) i names out)
    unfolding passed
    passed-mark h i out = rw (is, h) (ap (λ j. passed isLiteral names j l (marked (fits_name isLiteral (key_scope (key x))) i names out)) (next i))

    pub read_on : same_bytes (key_name (key x)) pattern ≡ true → (last : Bytes) {b : Bool} → is_below (compare_bytes last (key_scope (key x))) ≡ b
        → read_walk pattern last (x ∷ l) ≡ cond b 1 (suc (read_walk pattern last l))
    unfolding read_walk
    read_on h last e = rw (is, h, e) refl

-- 2. Scopes above the last name fit none

module _ (isLiteral : Bool) (names : List Bytes) (last : Bytes) (low : All (λ n. (compare_bytes last n ≡ Ordering.lt → ⊥)) names) where
  no_fit : (b : Bool) (scope n : Bytes) → compare_bytes last scope ≡ Ordering.lt → (compare_bytes last n ≡ Ordering.lt → ⊥) → not (fits_name b scope n) ≡ true
  no_fit true scope n above h = rw (apart_same_bytes scope n λ e. h (ap (compare_bytes last) (sym e) ∙ above)) refl
  no_fit false scope n above h = rw (not_true_false (begins_with scope n) λ e. reached last n scope h e above) refl

  nothing : (scope : Bytes) → compare_bytes last scope ≡ Ordering.lt → (i : ℕ) (out : Bytes) → marked (fits_name isLiteral scope) i names out ≡ out
  nothing scope above i out =
      marked_nothing (fits_name isLiteral scope) i names out
      (all-every (λ n. not (fits_name isLiteral scope n)) names
      (all_imp (λ n. (compare_bytes last n ≡ Ordering.lt → ⊥)) (λ n. not (fits_name isLiteral scope n) ≡ true) (λ n h. no_fit isLiteral scope n above h) names low))

  -- each freeze of the pattern is above the last name
  abbrev Beyond : List Entry → Type 0
  Beyond l = All (λ y. of_pattern (pattern_of isLiteral) (key y) ≡ true → compare_bytes last (key_scope (key y)) ≡ Ordering.lt) l

  passed-rest : (i : ℕ) (l : List Entry) (out : Bytes) → Beyond l → passed isLiteral names i l out ≡ out
  unfolding passed
  passed-rest i [] out h = refl
  passed-rest i (y ∷ l) out h =
      go (is_freeze (key y)) refl (same_bytes (key_name (key y)) (pattern_of isLiteral)) refl (λ j. passed-rest j l out h.1)
    where
      go : (f : Bool) → is_freeze (key y) ≡ f → (p : Bool) → same_bytes (key_name (key y)) (pattern_of isLiteral) ≡ p
          → ((j : ℕ) → passed isLiteral names j l out ≡ out)
          → cond f (passed isLiteral names (suc i) l (cond p (marked (fits_name isLiteral (key_scope (key y))) i names out) out)) (passed isLiteral names i l out) ≡ out
      go false q p r rest = rest i
      go true q false r rest = rest (suc i)
      go true q true r rest =
          let of = and_both (is_freeze (key y)) (same_bytes (key_name (key y)) (pattern_of isLiteral)) q r in
          ap (passed isLiteral names (suc i) l) (nothing (key_scope (key y)) (h.0 of) i out) ∙ rest (suc i)

  pub passed_stop : (x : Entry) (l : List Entry) → of_pattern (pattern_of isLiteral) (key x) ≡ true → compare_bytes last (key_scope (key x)) ≡ Ordering.lt
      → Over key (key x) l → (i : ℕ) (out : Bytes) → passed isLiteral names i (x ∷ l) out ≡ out
  passed_stop x l of above over i out =
      passed-rest i (x ∷ l) out
      (λ q. above, all_imp (λ y. Lt (key x) (key y)) (λ y. of_pattern (pattern_of isLiteral) (key y) ≡ true → compare_bytes last (key_scope (key y)) ≡ Ordering.lt) later l over)
    where
      later : (y : Entry) → Lt (key x) (key y) → of_pattern (pattern_of isLiteral) (key y) ≡ true → compare_bytes last (key_scope (key y)) ≡ Ordering.lt
      later y less q = bytes-total.step last (key_scope (key x)) (key_scope (key y)) above (scopes_rise (pattern_of isLiteral) x y of q less)

-- 3. Name by name

-- a test of keys for each name
abbrev pub fit_test : Bool → Bytes → Key → Bool
fit_test isLiteral name = cond isLiteral (literal_test name) (prefix_test name)

fit_test_lem : (isLiteral : Bool) (name : Bytes) (k : Key) → fit_test isLiteral name k ≡ same_bytes (key_name k) (pattern_of isLiteral) && fits_name isLiteral (key_scope k) name
unfolding literal_test prefix_test
fit_test_lem true name k = refl
fit_test_lem false name k = refl

pub joined_same : (f g : Bytes → ℕ) → ((n : Bytes) → f n ≡ g n) → (ns : List Bytes) → joined (λ n. bytes 2 (f n)) ns ≡ joined (λ n. bytes 2 (g n)) ns
joined_same f g h [] = refl
joined_same f g h (n ∷ ns) = cc (h n, joined_same f g h ns)

module _ (isLiteral : Bool) (names : List Bytes) (t : Bytes) where
  abbrev pub indexed : (Bytes → ℕ) → Bytes
  indexed f = joined (λ n. bytes 2 (f n)) names ++ t

  pub indexed-same : (f g : Bytes → ℕ) → ((n : Bytes) → f n ≡ g n) → indexed f ≡ indexed g
  indexed-same f g h = ap (λ s. s ++ t) (joined_same f g h names)

  pub passed-joined : (i : ℕ) (l : List Entry) (f : Bytes → ℕ) → passed isLiteral names i l (indexed f) ≡ indexed (λ n. last_at (fit_test isLiteral n) i (f n) l)
  unfolding passed last_at
  passed-joined i [] f = refl
  passed-joined i (x ∷ l) f = go (is_freeze (key x)) (same_bytes (key_name (key x)) (pattern_of isLiteral)) refl (λ j. passed-joined j l)
    where
      go : (b p : Bool) → same_bytes (key_name (key x)) (pattern_of isLiteral) ≡ p
          → ((j : ℕ) (g : Bytes → ℕ) → passed isLiteral names j l (indexed g) ≡ indexed (λ n. last_at (fit_test isLiteral n) j (g n) l))
          → cond b (passed isLiteral names (suc i) l (cond p (marked (fits_name isLiteral (key_scope (key x))) i names (indexed f)) (indexed f))) (passed isLiteral names i l (indexed f))
          ≡ indexed (λ n. cond b (last_at (fit_test isLiteral n) (suc i) (cond (fit_test isLiteral n (key x)) i (f n)) l) (last_at (fit_test isLiteral n) i (f n) l))
      go false p q rest = rest i f
      go true true q rest =
          ap (passed isLiteral names (suc i) l) (marked-joined (fits_name isLiteral (key_scope (key x))) i f names t)
          ∙ rest (suc i) (λ n. cond (fits_name isLiteral (key_scope (key x)) n) i (f n))
          ∙ indexed-same (λ n. last_at (fit_test isLiteral n) (suc i) (cond (fits_name isLiteral (key_scope (key x)) n) i (f n)) l)
          (λ n. last_at (fit_test isLiteral n) (suc i) (cond (fit_test isLiteral n (key x)) i (f n)) l)
          (λ n. ap (λ b. last_at (fit_test isLiteral n) (suc i) (cond b i (f n)) l) (sym (rw q at (fit_test_lem isLiteral n (key x)))))
      go true false q rest =
          rest (suc i) f
          ∙ indexed-same (λ n. last_at (fit_test isLiteral n) (suc i) (f n) l) (λ n. last_at (fit_test isLiteral n) (suc i) (cond (fit_test isLiteral n (key x)) i (f n)) l)
          (λ n. ap (λ b. last_at (fit_test isLiteral n) (suc i) (cond b i (f n)) l) (sym (rw q at (fit_test_lem isLiteral n (key x)))))

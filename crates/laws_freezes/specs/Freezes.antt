-- The freezes of a list in one pass: the index of the last freeze that fits is the single lookup's.
use Rattle.std.specs.Prelude.{◌≡◌, Bool, ◌&&◌, ◌||◌, eqb, leb}
use Rattle.std.proofs.Math.Path.{refl, sym, ap}
use Rattle.std.proofs.Common.{ap₂, ◌∙◌, subst, arith, length-append, eqb-true, le-leb}
use Rattle.std.proofs.Math.Bool.{true, false, cond, not}
use mathlib.Core.List.{List, [], ◌∷◌, ◌++◌, append_assoc, append-nil}
use Rattle.std.proofs.Math.Option.{Option, none, some}
use Prim.Native.Nat.{ℕ, suc, ◌+◌, ◌≤◌, ◌<◌, Ordering}
use Rattle.std.proofs.Math.Decide.{dec_lt}
use Rattle.std.proofs.Math.ListN.{length}
use Rattle.std.proofs.lemmas.Bool.{lt-leb}
use Rattle.model.specs.Choice.{given, or_else, choose}
use Rattle.model.specs.Number.{Bytes}
use Rattle.model.specs.Order.{Key, compare_bytes, compare_keys, same_bytes, is_below, then_by}
use Rattle.model.specs.Record.{Rec}
use Rattle.model.specs.Key.{rank, rank_part, key_rank, key_name, key_scope, key_of, subject, freeze_key}
use Rattle.model.specs.Map.{get, any, count, keep}
use Rattle.model.specs.Contents.{Entry, topic, part, plain, returned, key, record_key}
use Rattle.model.specs.Lookup.{begins_with, internal, prefixed, literal, longest_by, freeze_by, freeze, returned_at}
use Rattle.model.specs.FreezeList.{is_freeze, freeze_before, no_freeze, freeze_index, scope_above, scope_up_to, pattern_read, within_reach}
use Rattle.model.specs.declared.Kind.{Kind}
use Rattle.model.specs.declared.Kind.TheVariants.{TopicFreeze}
use Rattle.laws.specs.Choice.{over, true_false, and_left, and_right, and_both, impossible}
use Rattle.laws.specs.Order.{bytes-total, keys_total, lexicographic-append, Lt, lt_flip, same_bytes_self, same_bytes_true, eq_compare, is_below_true, lt≢gt, lt≢eq, lt_gt, gt_lt}
use Rattle.laws.specs.Map.{Over, Asc, over_trans, get_first, get-keep}
use Rattle.laws_image.specs.Ranks.{rank_injective}
use Rattle.laws_image.specs.Groups.{key-returned}
use Rattle.laws.specs.Freeze.{begins_append, longest_on}

-- 1. The index of the last freeze whose key passes a test

unfoldable pub last_at : (Key → Bool) → ℕ → ℕ → List Entry → ℕ
last_at test i best [] = best
last_at test i best (e ∷ l) = cond (is_freeze (key e)) (last_at test (suc i) (cond (test (key e)) i best) l) (last_at test i best l)

unfoldable pub last_passing : (Key → Bool) → List Entry → Option Entry
last_passing test [] = none
last_passing test (x ∷ l) = or_else (last_passing test l) (cond (is_freeze (key x) && test (key x)) (some x) none)

pub before_self : (k : Key) → freeze_before k k ≡ false
unfolding freeze_before
before_self k = rw (keys_total.same k) (go (is_freeze k))
  where
    go : (b : Bool) → b && false ≡ false
    go true = refl
    go false = refl

pub before-lt : (j k : Key) → Lt j k → freeze_before k j ≡ is_freeze j
unfolding freeze_before
before-lt j k h = rw h.is (go (is_freeze j))
  where
    go : (b : Bool) → b && true ≡ b
    go true = refl
    go false = refl

pub none_before : (k : Key) (l : List Entry) → Over key k l → count key (freeze_before k) l ≡ 0
unfolding count freeze_before
none_before k [] o = refl
none_before k (x ∷ l) o = rw (lt_flip o.0) (go (is_freeze (key x)) (none_before k l o.1))
  where
    go : (b : Bool) → count key (freeze_before k) l ≡ 0 → cond (b && false) (suc (count key (freeze_before k) l)) (count key (freeze_before k) l) ≡ 0
    go true e = e
    go false e = e

module _ (test : Key → Bool) where
  -- what is last is in the list
  last-over : (k : Key) (l : List Entry) (e : Entry) → Over key k l → last_passing test l ≡ some e → Lt k (key e)
  unfolding last_passing
  last-over k [] e o q = impossible cc
  last-over k (x ∷ l) e o q = go (last_passing test l) refl (is_freeze (key x) && test (key x)) q (λ h. last-over k l e o.1 h)
    where
      go : (p : Option Entry) → last_passing test l ≡ p → (b : Bool) → or_else p (cond b (some x) none) ≡ some e
          → (last_passing test l ≡ some e → Lt k (key e)) → Lt k (key e)
      go none h true r i = let s : x ≡ e = cc in rw (← s) o.0
      go none h false r i = impossible cc
      go (some y) h b r i = let s : y ≡ e = cc in i (h ∙ ap some s)

  pub last_index : (i best : ℕ) (l : List Entry) → Asc key l
      → last_at test i best l ≡ given (last_passing test l) best (λ e. i + count key (freeze_before (key e)) l)
  unfolding last_at last_passing count
  last_index i best [] a = refl
  last_index i best (x ∷ l) a = go (is_freeze (key x)) refl (test (key x)) (last_passing test l) refl (λ j b. last_index j b l a.1)
    where
      -- how many freezes stand before an entry after x
      behind : (e : Entry) → last_passing test l ≡ some e → (f : Bool) → is_freeze (key x) ≡ f
          → cond (freeze_before (key e) (key x)) (suc (count key (freeze_before (key e)) l)) (count key (freeze_before (key e)) l)
          ≡ cond f (suc (count key (freeze_before (key e)) l)) (count key (freeze_before (key e)) l)
      behind e h f q =
          ap (λ b. cond b (suc (count key (freeze_before (key e)) l)) (count key (freeze_before (key e)) l))
          (before-lt (key x) (key e) (last-over (key x) l e a.0 h) ∙ q)

      first : cond (freeze_before (key x) (key x)) (suc (count key (freeze_before (key x)) l)) (count key (freeze_before (key x)) l) ≡ 0
      first = rw (before_self (key x)) (none_before (key x) l a.0)

      go : (f : Bool) → is_freeze (key x) ≡ f → (t : Bool) (o : Option Entry) → last_passing test l ≡ o
          → ((j b : ℕ) → last_at test j b l ≡ given (last_passing test l) b (λ e. j + count key (freeze_before (key e)) l))
          → cond f (last_at test (suc i) (cond t i best) l) (last_at test i best l)
          ≡ given (or_else o (cond (f && t) (some x) none)) best (λ e. i + cond (freeze_before (key e) (key x)) (suc (count key (freeze_before (key e)) l)) (count key (freeze_before (key e)) l))
      go true q t (some e) h ih = ih (suc i) (cond t i best) ∙ rw (h, behind e h true q) (omega arith)
      go true q true none h ih = ih (suc i) i ∙ rw (h, first) (omega arith)
      go true q false none h ih = ih (suc i) best ∙ rw h refl
      go false q t (some e) h ih = ih i best ∙ rw (h, behind e h false q) refl
      go false q t none h ih = ih i best ∙ rw h refl

-- 2. The last of the stored prefixes of a name is the longest

-- a freeze's key has a pattern and a scope
freeze_shape : (e : Entry) → is_freeze (key e) ≡ true → key e ≡ freeze_key (key_name (key e)) (key_scope (key e))
unfolding key key_of key_rank key_name key_scope rank subject
freeze_shape (topic name id c f n) h = impossible cc
freeze_shape (part r) h = impossible cc
freeze_shape (plain r) h = go r.kind (rank_injective r.kind TopicFreeze (eqb-true (rank r.kind) (rank TopicFreeze) h) (omega arith))
  where
    go : (k : Kind) → k ≡ TopicFreeze → key_of k r.run ≡ freeze_key (key_name (key_of k r.run)) (key_scope (key_of k r.run))
    go k e = rw e refl

get_skip : (k : Key) (x : Entry) (l : List Entry) → Asc key (x ∷ l) → (key x ≡ k → ⊥) → get key k (x ∷ l) ≡ get key k l
unfolding get
get_skip k x l a apart = go (compare_keys k (key x)) refl
  where
    go : (o : Ordering) → compare_keys k (key x) ≡ o → choose o none (some x) (get key k l) ≡ get key k l
    go Ordering.lt q = sym (get_first key k l (over_trans key k (key x) (record { is = q }) l a.0))
    go Ordering.eq q = absurd (apart (sym (keys_total.eqv k (key x) q)))
    go Ordering.gt q = refl

get-here : (x : Entry) (l : List Entry) → get key (key x) (x ∷ l) ≡ some x
unfolding get
get-here x l = rw (keys_total.same (key x))

-- two beginnings of one name: the shorter is below, and of one length they are the same
shorter-below : (s t p u : Bytes) → s ++ t ≡ p ++ u → length s < length p → compare_bytes s p ≡ Ordering.lt
unfolding compare_bytes
shorter-below s t [] u e h = absurd (omega arith)
shorter-below [] t (c ∷ p) u e h = refl
shorter-below (b ∷ s) t (c ∷ p) u e h =
    let q : b ≡ c = cc in
    let r : s ++ t ≡ p ++ u = cc in
    rw (eq_compare b c q) (shorter-below s t p u r (omega arith))

same_length : (s t p u : Bytes) → s ++ t ≡ p ++ u → length s ≡ length p → s ≡ p
same_length [] t [] u e h = refl
same_length [] t (c ∷ p) u e h = absurd (omega arith)
same_length (b ∷ s) t [] u e h = absurd (omega arith)
same_length (b ∷ s) t (c ∷ p) u e h =
    let q : b ≡ c = cc in
    let r : s ++ t ≡ p ++ u = cc in
    cc (q, same_length s t p u r (omega arith))

else_none : {A : Type 0} (a : Option A) → or_else a none ≡ a
else_none none = refl
else_none (some r) = refl

-- a finder that also finds x at p, a beginning of the name, where nothing is found at p and below it
module _ (find more : Bytes → Option Rec) (x : Rec) (name p u : Bytes) (begins : p ++ u ≡ name)
    (there : more p ≡ some x) (else : (s : Bytes) → (s ≡ p → ⊥) → more s ≡ find s)
    (low : (s t : Bytes) → s ++ t ≡ name → length s ≤ length p → find s ≡ none) where
  abbrev still : Bytes → Option Rec
  still s = cond (leb (length s) (length p)) (some x) none

  one_more : (before rest : Bytes) → before ++ rest ≡ name → longest_by more before rest ≡ or_else (longest_by find before rest) (still before)
  unfolding longest_by
  one_more before [] e = elim (dec_lt (length p) (length before)) [ yes q ↦ longer q | no q ↦ here (omega arith) ]
    where
      longer : length p < length before → more before ≡ or_else (find before) (still before)
      longer q = rw (lt-leb (length before) (length p) q) (else before (λ s. absurd (omega (arith, ap length s))) ∙ sym (else_none (find before)))

      here : length before ≤ length p → more before ≡ or_else (find before) (still before)
      here q =
          let whole = ap length e ∙ sym (ap length begins) in
          let same = same_length before [] p u (e ∙ sym begins) (omega (arith, whole, length-append before [], length-append p u)) in
          rw (le-leb (length before) (length p) q, low before [] e q) (ap more same ∙ there)
  one_more before (b ∷ rest) e =
      ap (λ o. or_else o (more before)) (one_more (before ++ (b ∷ [])) rest (append_assoc before (b ∷ []) rest ∙ e))
      ∙ go (longest_by find (before ++ (b ∷ [])) rest)
    where
      size : length (before ++ (b ∷ [])) ≡ length before + 1
      size = length-append before (b ∷ [])

      longer : length p < length before → (o : Option Rec) → or_else (or_else o (still (before ++ (b ∷ [])))) (more before) ≡ or_else (or_else o (find before)) (still before)
      longer q o =
          rw (lt-leb (length before) (length p) q, lt-leb (length (before ++ (b ∷ []))) (length p) (omega (arith, size)), else before (λ s. absurd (omega (arith, ap length s))))
          (ap (λ a. or_else a (find before)) (else_none o) ∙ sym (else_none (or_else o (find before))))

      at : length before ≡ length p → (o : Option Rec) → or_else (or_else o (still (before ++ (b ∷ [])))) (more before) ≡ or_else (or_else o (find before)) (still before)
      at q o =
          let same = same_length before (b ∷ rest) p u (e ∙ sym begins) q in
          rw (
            le-leb (length before) (length p) (omega arith),
            lt-leb (length (before ++ (b ∷ []))) (length p) (omega (arith, size)),
            low before (b ∷ rest) e (omega arith),
            ap more same ∙ there,
          ) refl

      shorter : length before < length p → (o : Option Rec) → or_else (or_else o (still (before ++ (b ∷ [])))) (more before) ≡ or_else (or_else o (find before)) (still before)
      shorter q o =
          rw (le-leb (length before) (length p) (omega arith), le-leb (length (before ++ (b ∷ []))) (length p) (omega (arith, size)), low before (b ∷ rest) e (omega arith))
          (by o)
        where
          by : (o : Option Rec) → or_else (or_else o (some x)) (more before) ≡ or_else (or_else o none) (some x)
          by none = refl
          by (some r) = refl

      go : (o : Option Rec) → or_else (or_else o (still (before ++ (b ∷ [])))) (more before) ≡ or_else (or_else o (find before)) (still before)
      go o = elim (dec_lt (length p) (length before)) [ yes q ↦ longer q o | no q ↦ elim (dec_lt (length before) (length p)) [ yes r ↦ shorter r o | no r ↦ at (omega arith) o ] ]

begins_rest : (p name : Bytes) → begins_with p name ≡ true → (u : Bytes) × (p ++ u ≡ name)
unfolding begins_with
begins_rest [] name h = (name, refl)
begins_rest (a ∷ p) [] h = absurd (true_false h refl)
begins_rest (a ∷ p) (b ∷ name) h =
    let q = eqb-true a b (and_left (eqb a b) (begins_with p name) h) in
    let r = begins_rest p name (and_right (eqb a b) (begins_with p name) h) in
    (r.0, cc (q, r.1))

unfoldable pub prefix_test : Bytes → Key → Bool
prefix_test name k = same_bytes (key_name k) prefixed && begins_with (key_scope k) name

none-longest : (rest before : Bytes) (find : Bytes → Option Rec) → ((s : Bytes) → find s ≡ none) → longest_by find before rest ≡ none
unfolding longest_by
none-longest [] before find h = h before
none-longest (b ∷ rest) before find h = rw (none-longest rest (before ++ (b ∷ [])) find h, h before)

over_else : (o : Option Entry) (x : Entry) (b : Bool) → over returned (or_else o (cond b (some x) none)) ≡ or_else (over returned o) (cond b (some (returned x)) none)
over_else none x true = refl
over_else none x false = refl
over_else (some e) x b = refl

-- a scope's key is above a shorter one's
scope-below : (s p : Bytes) → compare_bytes s p ≡ Ordering.lt → Lt (freeze_key prefixed s) (freeze_key prefixed p)
unfolding compare_keys
scope-below s p h = record { is = lexicographic-append bytes-total (rank_part TopicFreeze ∷ prefixed ∷ []) (s ∷ []) (p ∷ []) ∙ ap (λ o. then_by o (compare_keys [] [])) h }

module _ (name : Bytes) (x : Entry) (l : List Entry) (a : Asc key (x ∷ l)) where
  abbrev find : Bytes → Option Rec
  find s = returned_at (freeze_key prefixed s) l

  abbrev more : Bytes → Option Rec
  more s = returned_at (freeze_key prefixed s) (x ∷ l)

  apart : (s : Bytes) → (key x ≡ freeze_key prefixed s → ⊥) → more s ≡ find s
  apart s h = ap (λ o. given o none (λ e. some (returned e))) (get_skip (freeze_key prefixed s) x l a h)

  passes : (s : Bytes) → begins_with s name ≡ true → key x ≡ freeze_key prefixed s → is_freeze (key x) && prefix_test name (key x) ≡ true
  unfolding prefix_test key_rank key_name key_scope rank
  passes s h e = rw e (and_both (same_bytes prefixed prefixed) (begins_with s name) (same_bytes_self prefixed) h)

  other : is_freeze (key x) && prefix_test name (key x) ≡ false → longest_by find [] name ≡ longest_by more [] name
  other h = longest_on find more name (λ s b. sym (apart s λ e. true_false (passes s b e) h)) [] name refl

  module _ (h : is_freeze (key x) && prefix_test name (key x) ≡ true) where
    abbrev p : Bytes
    p = key_scope (key x)

    fits : prefix_test name (key x) ≡ true
    fits = and_right (is_freeze (key x)) (prefix_test name (key x)) h

    scoped : key x ≡ freeze_key prefixed p
    unfolding prefix_test
    scoped =
        freeze_shape x (and_left (is_freeze (key x)) (prefix_test name (key x)) h)
        ∙ ap (λ q. freeze_key q p) (same_bytes_true (key_name (key x)) prefixed (and_left (same_bytes (key_name (key x)) prefixed) (begins_with p name) fits))

    begins : begins_with p name ≡ true
    unfolding prefix_test
    begins = and_right (same_bytes (key_name (key x)) prefixed) (begins_with p name) fits

    there : more p ≡ some (returned x)
    there = ap (λ o. given o none (λ e. some (returned e))) (ap (λ k. get key k (x ∷ l)) (sym scoped) ∙ get-here x l)

    other_scope : (s : Bytes) → (s ≡ p → ⊥) → more s ≡ find s
    unfolding key_scope
    other_scope s n = apart s λ e. n (ap key_scope (sym e ∙ scoped))

    low : (s t : Bytes) → s ++ t ≡ name → length s ≤ length p → find s ≡ none
    low s t e q = ap (λ o. given o none (λ e. some (returned e))) (get_first key (freeze_key prefixed s) l (elim (dec_lt (length s) (length p)) [ yes r ↦ under r | no r ↦ equal (omega arith) ]))
      where
        u : (w : Bytes) × (p ++ w ≡ name)
        u = begins_rest p name begins

        under : length s < length p → Over key (freeze_key prefixed s) l
        under r =
            over_trans key (freeze_key prefixed s) (key x)
            (subst (λ k. Lt (freeze_key prefixed s) k) (sym scoped) (scope-below s p (shorter-below s t p u.0 (e ∙ sym u.1) r))) l a.0

        equal : length s ≡ length p → Over key (freeze_key prefixed s) l
        equal r = subst (λ k. Over key k l) (scoped ∙ ap (freeze_key prefixed) (sym (same_length s t p u.0 (e ∙ sym u.1) r))) a.0

    another : longest_by more [] name ≡ or_else (longest_by find [] name) (some (returned x))
    another =
        let u = begins_rest p name begins in
        one_more find more (returned x) name p u.0 u.1 there other_scope low [] name refl
        ∙ ap (λ b. or_else (longest_by find [] name) (cond b (some (returned x)) none)) (le-leb 0 (length p) (omega arith))

pub longest-last : (name : Bytes) (l : List Entry) → Asc key l
    → over returned (last_passing (prefix_test name) l) ≡ longest_by (λ s. returned_at (freeze_key prefixed s) l) [] name
unfolding last_passing get
longest-last name [] a = sym (none-longest name [] (λ s. returned_at (freeze_key prefixed s) []) (λ s. refl))
longest-last name (x ∷ l) a = go (is_freeze (key x) && prefix_test name (key x)) refl (longest-last name l a.1)
  where
    go : (b : Bool) → is_freeze (key x) && prefix_test name (key x) ≡ b
        → over returned (last_passing (prefix_test name) l) ≡ longest_by (λ s. returned_at (freeze_key prefixed s) l) [] name
        → over returned (or_else (last_passing (prefix_test name) l) (cond b (some x) none)) ≡ longest_by (λ s. returned_at (freeze_key prefixed s) (x ∷ l)) [] name
    go true h i = over_else (last_passing (prefix_test name) l) x true ∙ ap (λ o. or_else o (some (returned x))) i ∙ sym (another name x l a h)
    go false h i = over_else (last_passing (prefix_test name) l) x false ∙ else_none (over returned (last_passing (prefix_test name) l)) ∙ i ∙ other name x l a h

-- 3. The literal scope

unfoldable pub literal_test : Bytes → Key → Bool
literal_test name k = same_bytes (key_name k) literal && same_bytes (key_scope k) name

literal-key : (name : Bytes) (x : Entry) → is_freeze (key x) && literal_test name (key x) ≡ true → key x ≡ freeze_key literal name
unfolding literal_test
literal-key name x h =
    let f = and_left (is_freeze (key x)) (same_bytes (key_name (key x)) literal && same_bytes (key_scope (key x)) name) h in
    let t = and_right (is_freeze (key x)) (same_bytes (key_name (key x)) literal && same_bytes (key_scope (key x)) name) h in
    freeze_shape x f
    ∙ ap₂ freeze_key
    (same_bytes_true (key_name (key x)) literal (and_left (same_bytes (key_name (key x)) literal) (same_bytes (key_scope (key x)) name) t))
    (same_bytes_true (key_scope (key x)) name (and_right (same_bytes (key_name (key x)) literal) (same_bytes (key_scope (key x)) name) t))

literal_passes : (name : Bytes) (x : Entry) → key x ≡ freeze_key literal name → is_freeze (key x) && literal_test name (key x) ≡ true
unfolding literal_test key_rank key_name key_scope rank
literal_passes name x e = rw e (and_both (same_bytes literal literal) (same_bytes name name) (same_bytes_self literal) (same_bytes_self name))

pub literal-last : (name : Bytes) (l : List Entry) → Asc key l → last_passing (literal_test name) l ≡ get key (freeze_key literal name) l
unfolding last_passing get
literal-last name [] a = refl
literal-last name (x ∷ l) a = go (is_freeze (key x) && literal_test name (key x)) refl (literal-last name l a.1)
  where
    go : (b : Bool) → is_freeze (key x) && literal_test name (key x) ≡ b → last_passing (literal_test name) l ≡ get key (freeze_key literal name) l
        → or_else (last_passing (literal_test name) l) (cond b (some x) none) ≡ get key (freeze_key literal name) (x ∷ l)
    go true h i =
        let e = literal-key name x h in
        let gone : last_passing (literal_test name) l ≡ none = i ∙ get_first key (freeze_key literal name) l (subst (λ k. Over key k l) e a.0) in
        ap (λ o. or_else o (some x)) gone ∙ sym (ap (λ k. get key k (x ∷ l)) (sym e) ∙ get-here x l)
    go false h i = else_none (last_passing (literal_test name) l) ∙ i ∙ sym (get_skip (freeze_key literal name) x l a λ e. true_false (literal_passes name x e) h)

-- 4. One name: prefixed freezes in order, each over the one before it, then the literal ones

pub index_of_pass : (name : Bytes) (l : List Entry) → Asc key l → begins_with internal name ≡ false
    → last_at (literal_test name) 0 (last_at (prefix_test name) 0 no_freeze l) l ≡ freeze_index l name
unfolding freeze_index freeze freeze_by
index_of_pass name l a outside =
    rw outside
    (last_index (literal_test name) 0 (last_at (prefix_test name) 0 no_freeze l) l a
    ∙ rw (literal-last name l a, last_index (prefix_test name) 0 no_freeze l a)
    (go (get key (freeze_key literal name) l) (last_passing (prefix_test name) l) (longest_by (λ s. returned_at (freeze_key prefixed s) l) [] name) (longest-last name l a)))
  where
    before : Entry → ℕ
    before e = count key (freeze_before (key e)) l

    returned-before : (e : Entry) → 0 + before e ≡ count key (freeze_before (record_key (returned e))) l
    returned-before e = omega (arith, ap (λ k. count key (freeze_before k) l) (key-returned e))

    go : (o p : Option Entry) (q : Option Rec) → over returned p ≡ q
        → given o (given p no_freeze (λ e. 0 + count key (freeze_before (key e)) l)) (λ e. 0 + count key (freeze_before (key e)) l)
        ≡ given (or_else (given o none (λ e. some (returned e))) q) no_freeze (λ r. count key (freeze_before (record_key r)) l)
    go (some e) p q h = returned-before e
    go none (some e) q h = rw (← h) (returned-before e)
    go none none q h = rw (← h) refl

-- 5. The freezes that are read: in order, up to the first above the last name

unfoldable pub read_walk : Bytes → Bytes → List Entry → ℕ
read_walk pattern last [] = 0
read_walk pattern last (e ∷ l) =
    cond (is_freeze (key e) && same_bytes (key_name (key e)) pattern)
    (cond (is_below (compare_bytes last (key_scope (key e)))) 1 (suc (read_walk pattern last l))) (read_walk pattern last l)

-- a later freeze of the pattern has a greater scope
scope-step : (pattern : Bytes) (x y : Entry) → Lt (key x) (key y) → key x ≡ freeze_key pattern (key_scope (key x)) → key y ≡ freeze_key pattern (key_scope (key y))
    → compare_bytes (key_scope (key x)) (key_scope (key y)) ≡ Ordering.lt
unfolding compare_keys
scope-step pattern x y h p q =
    let s : Lt (freeze_key pattern (key_scope (key x))) (freeze_key pattern (key_scope (key y))) = rw (← p, ← q) h in
    first (sym (lexicographic-append bytes-total (rank_part TopicFreeze ∷ pattern ∷ []) (key_scope (key x) ∷ []) (key_scope (key y) ∷ [])) ∙ s.is)
  where
    first : then_by (compare_bytes (key_scope (key x)) (key_scope (key y))) (compare_keys [] []) ≡ Ordering.lt → compare_bytes (key_scope (key x)) (key_scope (key y)) ≡ Ordering.lt
    first e = by (compare_bytes (key_scope (key x)) (key_scope (key y))) e
      where
        by : (o : Ordering) → then_by o (compare_keys [] []) ≡ Ordering.lt → o ≡ Ordering.lt
        by Ordering.lt e = refl
        by Ordering.eq e = impossible cc
        by Ordering.gt e = impossible cc

module _ (pattern : Bytes) where
  abbrev pub of_pattern : Key → Bool
  of_pattern k = is_freeze k && same_bytes (key_name k) pattern

  pattern-key : (x : Entry) → of_pattern (key x) ≡ true → key x ≡ freeze_key pattern (key_scope (key x))
  pattern-key x h =
      freeze_shape x (and_left (is_freeze (key x)) (same_bytes (key_name (key x)) pattern) h)
      ∙ ap (λ q. freeze_key q (key_scope (key x))) (same_bytes_true (key_name (key x)) pattern (and_right (is_freeze (key x)) (same_bytes (key_name (key x)) pattern) h))

  pub scopes_rise : (x y : Entry) → of_pattern (key x) ≡ true → of_pattern (key y) ≡ true → Lt (key x) (key y)
      → compare_bytes (key_scope (key x)) (key_scope (key y)) ≡ Ordering.lt
  scopes_rise x y h k less = scope-step pattern x y less (pattern-key x h) (pattern-key y k)

module _ (pattern last : Bytes) where
  -- after a scope above the last name there is none up to it
  none_left : (x : Entry) → of_pattern pattern (key x) ≡ true → compare_bytes last (key_scope (key x)) ≡ Ordering.lt → (l : List Entry) → Over key (key x) l
      → count key (scope_up_to pattern last) l ≡ 0
  unfolding count scope_up_to
  none_left x h above [] o = refl
  none_left x h above (y ∷ l) o = go (of_pattern pattern (key y)) refl (none_left x h above l o.1)
    where
      go : (b : Bool) → of_pattern pattern (key y) ≡ b → count key (scope_up_to pattern last) l ≡ 0
          → cond (b && not (is_below (compare_bytes last (key_scope (key y))))) (suc (count key (scope_up_to pattern last) l)) (count key (scope_up_to pattern last) l) ≡ 0
      go true q i = rw (bytes-total.step last (key_scope (key x)) (key_scope (key y)) above (scopes_rise pattern x y h q o.0)) i
      go false q i = i

  pub read-in_order : (l : List Entry) → Asc key l → read_walk pattern last l ≡ pattern_read pattern last l
  unfolding read_walk pattern_read count any scope_up_to scope_above
  read-in_order [] a = refl
  read-in_order (x ∷ l) a = go (of_pattern pattern (key x)) refl (is_below (compare_bytes last (key_scope (key x)))) refl (read-in_order l a.1)
    where
      go : (p : Bool) → of_pattern pattern (key x) ≡ p → (b : Bool) → is_below (compare_bytes last (key_scope (key x))) ≡ b
          → read_walk pattern last l ≡ count key (scope_up_to pattern last) l + cond (any key (scope_above pattern last) l) 1 0
          → cond p (cond b 1 (suc (read_walk pattern last l))) (read_walk pattern last l)
          ≡ cond (p && not b) (suc (count key (scope_up_to pattern last) l)) (count key (scope_up_to pattern last) l)
          + cond ((p && b) || any key (scope_above pattern last) l) 1 0
      go true q true r i = rw (none_left x q (is_below_true (compare_bytes last (key_scope (key x))) r) l a.0) refl
      go true q false r i = omega (arith, i)
      go false q b r i = i

-- 6. What is not read changes nothing, and none is read twice

pub begins_notabove : (s name : Bytes) → begins_with s name ≡ true → (compare_bytes name s ≡ Ordering.lt → ⊥)
begins_notabove s name h e =
    let u = begins_rest s name h in
    elim (dec_lt (length s) (length name)) [ yes q ↦ shorter u q | no q ↦ equal u (omega arith) ]
  where
    shorter : ((u : Bytes) × (s ++ u ≡ name)) → length s < length name → ⊥
    shorter u q =
        let below = shorter-below s u.0 name [] (u.1 ∙ sym (append-nil name)) q in
        lt≢gt (sym e ∙ lt_gt bytes-total s name below)

    equal : ((u : Bytes) × (s ++ u ≡ name)) → length name ≤ length s → ⊥
    equal u q =
        let size = ap length u.1 in
        let same = same_length s u.0 name [] (u.1 ∙ sym (append-nil name)) (omega (arith, size, length-append s u.0)) in
        lt≢eq (sym e ∙ ap (compare_bytes name) same ∙ bytes-total.same name)

-- a beginning of a name that is not above the last is not above it either
pub reached : (last name s : Bytes) → (compare_bytes last name ≡ Ordering.lt → ⊥) → begins_with s name ≡ true → compare_bytes last s ≡ Ordering.lt → ⊥
reached last name s below h e = go (compare_bytes s name) refl
  where
    go : (o : Ordering) → compare_bytes s name ≡ o → ⊥
    go Ordering.lt q = below (bytes-total.step last s name e q)
    go Ordering.eq q = below (ap (compare_bytes last) (sym (bytes-total.eqv s name q)) ∙ e)
    go Ordering.gt q = begins_notabove s name h (gt_lt bytes-total s name q)

inside_reach : (last pattern s : Bytes) → (compare_bytes last s ≡ Ordering.lt → ⊥) → within_reach last (freeze_key pattern s) ≡ true
unfolding within_reach key_rank key_scope rank
inside_reach last pattern s h = go (compare_bytes last s) h
  where
    go : (o : Ordering) → (o ≡ Ordering.lt → ⊥) → not (is_below o) ≡ true
    go Ordering.lt h = absurd (h refl)
    go Ordering.eq h = refl
    go Ordering.gt h = refl

pub unread_unseen : (last name : Bytes) → (compare_bytes last name ≡ Ordering.lt → ⊥) → (l : List Entry) → Asc key l
    → freeze name (keep key (within_reach last) l) ≡ freeze name l
unfolding freeze freeze_by
unread_unseen last name below l a =
    ap₂ (λ x y. cond (begins_with internal name) none (or_else x y)) (at literal name (begins_self name))
    (longest_on (λ s. returned_at (freeze_key prefixed s) (keep key (within_reach last) l)) (λ s. returned_at (freeze_key prefixed s) l) name (λ s h. at prefixed s h) [] name refl)
  where
    begins_self : (s : Bytes) → begins_with s s ≡ true
    begins_self s = ap (begins_with s) (sym (append-nil s)) ∙ begins_append s []

    at : (pattern s : Bytes) → begins_with s name ≡ true → returned_at (freeze_key pattern s) (keep key (within_reach last) l) ≡ returned_at (freeze_key pattern s) l
    at pattern s h =
        ap (λ o. given o none (λ e. some (returned e)))
        (get-keep key (within_reach last) (freeze_key pattern s) l a
        ∙ ap (λ c. cond c (get key (freeze_key pattern s) l) none) (inside_reach last pattern s (reached last name s below h)))

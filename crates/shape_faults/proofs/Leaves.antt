-- What is wrong with a value that is no run, test by test.
use mathlib.Core.Path.{◌≡◌, refl, sym, ap, ◌∙◌}
use mathlib.Core.Bool.{Bool, true, false, not}
use mathlib.Core.List.{[], ◌∷◌}
use mathlib.Core.Option.{Option, none}
use Prim.Native.Nat.{ℕ, zero, suc, ◌-◌, ◌/◌, ◌%◌, ◌≤◌, ◌<◌}
use lib.Dec.{leb, eqb}
use native.Mathlib.Omega.{arith}
use borrow.Author.Tests.{not-true, not-false, eq-eqb, ne_eqb, lt-ltb, le-ltb, le-leb, lt-leb}
use lib.ListN.{length, get_or, take, drop}
use lib.Seq.{slice, take_all}
use Rattle.model.specs.Choice.{or_then, unless}
use Rattle.model.specs.Number.{Bytes, number, is_offset}
use Rattle.model.specs.Text.{is_text}
use Rattle.model.specs.Order.{compare_bytes, is_below, ordering}
use Rattle.model.specs.Shape.{below, offset, map_key, node_set, text_fault, ascends, is_below_byte, leaf_fault}
use Rattle.model.specs.Nodes.{nodes_of, no_repeats}
use Rattle.std.specs.declared.cmp.Ordering.{Ordering as Order}
use Rattle.laws.specs.Choice.{or_then-left, or_then_right}
use Rattle.shape_faults.specs.Walk.{prior_key, PriorIn, limit_fault, list_fault}
use Rattle.shape_faults.specs.declared.Prior.{Prior}
use Rattle.shape_faults.proofs.Parts.{part_slice}

-- 1. Strings

module _ (limit : ℕ) (v : Bytes) (t : Bool) (et : t ≡ is_text v) where
  pub no_text : not t ≡ true → 4 ≡ text_fault limit v
  no_text h = rw (← et, not-true t h)

  pub text_long : not t ≡ false → {f : ℕ} → f ≡ limit_fault (length v) limit → f ≡ text_fault limit v
  text_long h e = rw (← et, not-false t h) e

-- 2. Keys

-- no key before, and one
pub above-none : (s : Bytes) (p : Prior) (v : Bytes) → p.end < p.start → true ≡ ascends (prior_key s p) v
above-none s p v h = rw (lt-leb p.start p.end h)

pub above-some : (s : Bytes) (p : Prior) (v : Bytes) {o w : Order} → PriorIn s p → p.start ≤ p.end
    → ordering o ≡ compare_bytes (take (p.end - p.start) (drop p.start s)) v → o ≡ w → is_below (ordering w) ≡ ascends (prior_key s p) v
above-some s p v {o} {w} within h e q =
    let k = part_slice s p.start p.end h within in
    rw (le-leb p.start p.end h, ← k, ← e, q)

module _ (prior : Option Bytes) (limit : ℕ) (v : Bytes) (a : Bool) (ea : a ≡ ascends prior v) where
  pub key_not_above : not a ≡ true → 4 ≡ leaf_fault prior (map_key limit) v
  unfolding leaf_fault
  key_not_above h = rw (← ea, not-true a h) (go (is_text v))
    where
      go : (t : Bool) → 4 ≡ or_then (unless t 4) 4
      go true = refl
      go false = refl

  pub key_text : not a ≡ false → {f : ℕ} → f ≡ text_fault limit v → f ≡ leaf_fault prior (map_key limit) v
  unfolding leaf_fault
  key_text h e = rw (← ea, not-false a h) e

-- 3. Bytes below a bound

module _ (bound : ℕ) where
  pub below_length : (v : Bytes) → (length v ≡ 1 → ⊥) → 4 ≡ leaf_fault none (below bound) v
  unfolding leaf_fault is_below_byte
  below_length [] h = refl
  below_length (b ∷ []) h = absurd (h refl)
  below_length (b ∷ c ∷ v) h = refl

  pub below_right : (v : Bytes) (x : ℕ) → length v ≡ 1 → x ≡ get_or v 0 0 → x < bound → 0 ≡ leaf_fault none (below bound) v
  unfolding leaf_fault is_below_byte
  below_right [] x h e k = absurd (omega arith)
  below_right (b ∷ []) x h e k = rw (← e, lt-ltb _ _ k)
  below_right (b ∷ c ∷ v) x h e k = absurd (omega arith)

  pub below_wrong : (v : Bytes) (x : ℕ) → length v ≡ 1 → x ≡ get_or v 0 0 → bound ≤ x → 4 ≡ leaf_fault none (below bound) v
  unfolding leaf_fault is_below_byte
  below_wrong [] x h e k = absurd (omega arith)
  below_wrong (b ∷ []) x h e k = rw (← e, le-ltb _ _ k)
  below_wrong (b ∷ c ∷ v) x h e k = absurd (omega arith)

-- 4. Log offsets

module _ (v : Bytes) where
  pub offset-length : (length v ≡ 8 → ⊥) → 4 ≡ leaf_fault none offset v
  unfolding leaf_fault
  offset-length h = rw (ne_eqb (length v) 8 h)

  module _ (h : length v ≡ 8) {n : ℕ} (en : n ≡ number (slice 0 8 v)) {b : Bool} (eb : b ≡ is_offset n) where
    offset-left : unless b 4 ≡ leaf_fault none offset v
    unfolding leaf_fault
    offset-left = let e : slice 0 8 v ≡ v = take_all 8 v (omega arith) in rw (eb, en, e, eq-eqb (length v) 8 h)

    pub offset_right : b ≡ true → 0 ≡ leaf_fault none offset v
    offset_right t = ap (λ x. unless x 4) (sym t) ∙ offset-left

    pub offset_wrong : b ≡ false → 4 ≡ leaf_fault none offset v
    offset_wrong t = ap (λ x. unless x 4) (sym t) ∙ offset-left

-- 5. Lists of nodes without a repeat

module _ (v : Bytes) (limit : ℕ) {f : ℕ} (ef : f ≡ list_fault (length v) 8 limit) where
  abbrev ragged : ℕ
  ragged = unless (eqb (length v % 8) 0) 4

  abbrev over : ℕ
  over = unless (leb (length v / 8) limit) 5

  pub set_long : (f ≡ 0 → ⊥) → f ≡ leaf_fault none (node_set limit) v
  unfolding leaf_fault
  set_long h = ef ∙ go ragged over (unless (no_repeats (nodes_of v)) 20) (λ e. h (ef ∙ e))
    where
      go : (a b c : ℕ) → (or_then a b ≡ 0 → ⊥) → or_then a b ≡ or_then a (or_then b c)
      go zero zero c k = absurd (k refl)
      go zero (suc b) c k = refl
      go (suc a) b c k = refl

  module _ (h : f ≡ 0) {b : Bool} (eb : b ≡ no_repeats (nodes_of v)) where
    set-left : unless b 20 ≡ leaf_fault none (node_set limit) v
    unfolding leaf_fault
    set-left = rw (or_then-left ragged over (sym ef ∙ h), or_then_right ragged over (sym ef ∙ h), ← eb)

    pub set_apart : b ≡ true → 0 ≡ leaf_fault none (node_set limit) v
    set_apart t = ap (λ x. unless x 20) (sym t) ∙ set-left

    pub set_repeated : b ≡ false → 20 ≡ leaf_fault none (node_set limit) v
    set_repeated t = ap (λ x. unless x 20) (sym t) ∙ set-left

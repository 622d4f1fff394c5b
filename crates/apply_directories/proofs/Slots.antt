-- A node among nodes of eight bytes each: the walk over them to its first slot.
use mathlib.Core.Path.{◌≡◌, refl, sym, ap, ap₂, ◌∙◌}
use mathlib.Core.Bool.{Bool, true, false, cond}
use mathlib.Core.List.{[], ◌∷◌}
use mathlib.Core.Option.{Option, none, some}
use Prim.Native.Nat.{ℕ, suc, ◌+◌, ◌-◌, ◌*◌, ◌%◌, ◌≤◌, ◌<◌}
use native.Mathlib.Omega.{arith}
use lib.Dec.{eqb}
use lib.ListN.{length, take, drop, length-drop}
use lib.Seq.{slice, length-slice, drop-drop}
use Rattle.model.specs.Choice.{given}
use Rattle.model.specs.Number.{Bytes, AreBytes, number, bytes, span}
use Rattle.model.specs.Order.{same_bytes}
use Rattle.model.specs.Move.{node_count, slot_of}
use Rattle.laws.specs.Choice.{over, over-same}
use Rattle.laws.specs.Numbers.{slice_are_bytes, bytes_are_bytes, number_bytes_lem, same_bytes-number}
use Rattle.keys.proofs.Found.{lent_slice}
use Rattle.apply_directories.specs.Assign.{SlotIs}

-- 1. One slot

-- the first node is the one, or the slot is one after its slot among the others
slot_step : (most : ℕ) (node nodes : Bytes) → 0 < length nodes → {b : Bool} → b ≡ same_bytes (take 8 nodes) node
    → slot_of (suc most) node nodes ≡ cond b (some 0) (over suc (slot_of most node (drop 8 nodes)))
unfolding slot_of
slot_step most node [] h e = absurd (omega arith)
slot_step most node (x ∷ l) h {b} e = rw (← e) (ap (cond b (some 0)) (go (slot_of most node (drop 8 (x ∷ l)))))
  where
    go : (o : Option ℕ) → given o none (λ n. some (suc n)) ≡ over suc o
    go none = refl
    go (some n) = refl

no_slot : (node nodes : Bytes) → slot_of 0 node nodes ≡ none
unfolding slot_of
no_slot node nodes = refl

-- the node at a slot is the one of a number
pub node_same : (nodes : Bytes) → AreBytes nodes → (i : ℕ) → i * 8 + 8 ≤ length nodes → (n : ℕ) → n < span 8 → {m : ℕ}
    → m ≡ number (slice (i * 8) (i * 8 + 8) nodes) → eqb m n ≡ same_bytes (take (i * 8 + 8 - i * 8) (drop (i * 8) nodes)) (bytes 8 n)
node_same nodes are i fits n low {m} e =
    let at = i * 8 in
    let here = slice at (at + 8) nodes in
    let eight : at + 8 - at ≡ 8 = omega arith in
    let long : length here ≡ length (bytes 8 n) = length-slice at (at + 8) nodes fits ∙ eight in
    sym (
    ap (λ v. same_bytes v (bytes 8 n)) (lent_slice nodes at (at + 8) (omega arith))
    ∙ same_bytes-number here (bytes 8 n) long (slice_are_bytes at (at + 8) nodes are) (bytes_are_bytes 8 n)
    ∙ ap₂ eqb (sym e) (number_bytes_lem 8 n low)
    )

-- 2. The walk

-- no node before the i-th is the one
pub record Walked (nodes node : Bytes) (count i : ℕ) : Type 0 where
  pub is : count ≡ node_count nodes
  pub whole : length nodes ≡ count * 8
  pub low : i ≤ count
  pub rest : slot_of count node nodes ≡ over (λ n. i + n) (slot_of (count - i) node (drop (i * 8) nodes))

pub walk_start : (nodes node : Bytes) (count : ℕ) → count ≡ node_count nodes → length nodes % 8 ≡ 0 → Walked nodes node count 0
walk_start nodes node count e whole = record {
  is = e;
  whole = omega arith;
  low = omega arith;
  rest =
      let same : count - 0 ≡ count = omega arith in
      sym (over-same (λ n. 0 + n) (λ n. omega arith) (slot_of count node nodes))
      ∙ ap (λ m. over (λ n. 0 + n) (slot_of m node nodes)) (sym same);
}

module _ (nodes node : Bytes) (count i : ℕ) (w : Walked nodes node count i) where
  pub walk_bound : i < count → i * 8 + 8 ≤ length nodes
  walk_bound h = omega (arith, w.whole)

  module _ (h : i < count) {b : Bool} (e : b ≡ same_bytes (take (i * 8 + 8 - i * 8) (drop (i * 8) nodes)) node) where
    -- the rest, by its first node
    rest-step : slot_of (count - i) node (drop (i * 8) nodes) ≡ cond b (some 0) (over suc (slot_of (count - (i + 1)) node (drop ((i + 1) * 8) nodes)))
    rest-step =
        let more : count - i ≡ suc (count - (i + 1)) = omega arith in
        let eight : i * 8 + 8 - i * 8 ≡ 8 = omega arith in
        let next : i * 8 + 8 ≡ (i + 1) * 8 = omega arith in
        let long : 0 < length (drop (i * 8) nodes) = omega (arith, length-drop (i * 8) nodes, walk_bound h) in
        ap (λ m. slot_of m node (drop (i * 8) nodes)) more
        ∙ slot_step (count - (i + 1)) node (drop (i * 8) nodes) long (e ∙ ap (λ m. same_bytes (take m (drop (i * 8) nodes)) node) eight)
        ∙ ap (λ l. cond b (some 0) (over suc (slot_of (count - (i + 1)) node l))) (drop-drop 8 (i * 8) nodes ∙ ap (λ m. drop m nodes) next)

    pub walk_here : b ≡ true → SlotIs (slot_of (node_count nodes) node nodes) (node_count nodes) i
    walk_here t = record {
      none = λ q. absurd (omega (arith, w.is));
      there = λ q.
          let first : slot_of (count - i) node (drop (i * 8) nodes) ≡ some 0 =
          rest-step ∙ ap (λ x. cond x (some 0) (over suc (slot_of (count - (i + 1)) node (drop ((i + 1) * 8) nodes)))) t in
          let at : i + 0 ≡ i = omega arith in
          ap (λ m. slot_of m node nodes) (sym w.is) ∙ w.rest ∙ ap (over (λ n. i + n)) first ∙ ap some at;
    }

    pub walk_on : b ≡ false → Walked nodes node count (i + 1)
    walk_on f = record {
      is = w.is;
      whole = w.whole;
      low = omega arith;
      rest =
          let later = slot_of (count - (i + 1)) node (drop ((i + 1) * 8) nodes) in
          let past : slot_of (count - i) node (drop (i * 8) nodes) ≡ over suc later = rest-step ∙ ap (λ x. cond x (some 0) (over suc later)) f in
          w.rest ∙ ap (over (λ n. i + n)) past ∙ shifted later;
    }
      where
        shifted : (o : Option ℕ) → over (λ n. i + n) (over suc o) ≡ over (λ n. i + 1 + n) o
        shifted none = refl
        shifted (some n) = let e : i + suc n ≡ i + 1 + n = omega arith in ap some e

  pub walk_end : count ≤ i → SlotIs (slot_of (node_count nodes) node nodes) (node_count nodes) i
  walk_end h = record {
    none = λ q.
        let last : count - i ≡ 0 = omega arith in
        ap (λ m. slot_of m node nodes) (sym w.is)
        ∙ w.rest
        ∙ ap (λ m. over (λ n. i + n) (slot_of m node (drop (i * 8) nodes))) last
        ∙ ap (over (λ n. i + n)) (no_slot node (drop (i * 8) nodes));
    there = λ q. absurd (omega (arith, w.is));
  }

-- A walk over slots: how long the records of those to come are, and what is written of those that are passed.
use mathlib.Core.Path.{◌≡◌, refl, sym, ap, ap₂, ◌∙◌}
use mathlib.Core.Bool.{Bool, true, false, cond}
use mathlib.Core.List.{[], ◌++◌}
use Prim.Native.Nat.{ℕ, suc, ◌+◌, ◌-◌, ◌*◌, ◌≤◌, ◌<◌}
use native.Mathlib.Omega.{arith}
use lib.ListN.{length, take, drop}
use lib.Seq.{slice, length-slice, drop-drop}
use Rattle.model.specs.Number.{Bytes, AreBytes, number, bytes}
use Rattle.model.specs.Order.{same_bytes}
use Rattle.model.specs.Downgrade.{migrating}
use Rattle.laws.specs.Numbers.{slice_are_bytes, bytes-number}
use Rattle.keys.proofs.Found.{lent_slice}
use Rattle.records.specs.Answers.{put_at}
use Rattle.records.proofs.Growing.{Growing, grow_start, part_fits, grow, grown}
use Rattle.downgrade_slots.specs.Slots.{slot_bytes, slots_bytes, slot_size, slots_size}

-- 1. A slot of a list, as it is lent, and the list after it

abbrev lent : ℕ → ℕ → Bytes → Bytes
lent width at l = take (at + width - at) (drop at l)

lent-part : (width at : ℕ) (l : Bytes) → take width (drop at l) ≡ lent width at l
lent-part width at l = let e : width ≡ at + width - at = omega arith in ap (λ n. take n (drop at l)) e

-- a node's number spells its bytes
pub node_lent : (nodes : Bytes) → AreBytes nodes → (i : ℕ) → i * 8 + 8 ≤ length nodes → {m : ℕ} → m ≡ number (slice (i * 8) (i * 8 + 8) nodes)
    → bytes 8 m ≡ lent 8 (i * 8) nodes
node_lent nodes are i fits e =
    let at = i * 8 in
    let here = slice at (at + 8) nodes in
    let eight : length here ≡ 8 = length-slice at (at + 8) nodes fits ∙ omega arith in
    ap₂ bytes (sym eight) e ∙ bytes-number here (slice_are_bytes at (at + 8) nodes are) ∙ sym (lent_slice nodes at (at + 8) (omega arith))

next_node : (i : ℕ) (l : Bytes) → drop 8 (drop (i * 8) l) ≡ drop ((i + 1) * 8) l
next_node i l = let e : i * 8 + 8 ≡ (i + 1) * 8 = omega arith in drop-drop 8 (i * 8) l ∙ ap (λ n. drop n l) e

next_dir : (i : ℕ) (l : Bytes) → drop 16 (drop (i * 16) l) ≡ drop ((i + 1) * 16) l
next_dir i l = let e : i * 16 + 16 ≡ (i + 1) * 16 = omega arith in drop-drop 16 (i * 16) l ∙ ap (λ n. drop n l) e

one_less : (count i : ℕ) → i < count → count - i ≡ suc (count - (i + 1))
one_less count i h = omega arith

-- 2. The length

module _ (dirs : Bytes) (size : ℕ) where
  sizes_step : (count i : ℕ) → i < count
      → slots_size (count - i) size (drop (i * 16) dirs) ≡ slot_size (lent 16 (i * 16) dirs) size + slots_size (count - (i + 1)) size (drop ((i + 1) * 16) dirs)
  unfolding slots_size
  sizes_step count i h =
      ap (λ n. slots_size n size (drop (i * 16) dirs)) (one_less count i h)
      ∙ ap₂ (λ x y. slot_size x size + slots_size (count - (i + 1)) size y) (lent-part 16 (i * 16) dirs) (next_dir i dirs)

  sizes_none : slots_size 0 size dirs ≡ 0
  unfolding slots_size
  sizes_none = refl

  slot_low : (dir : Bytes) → slot_size dir size ≤ size
  slot_low dir = go (same_bytes dir migrating)
    where
      go : (b : Bool) → cond b 0 size ≤ size
      go true = omega arith
      go false = omega arith

pub record Counted (dirs : Bytes) (count size i n : ℕ) : Type 0 where
  pub low : i ≤ count
  pub sum : n + slots_size (count - i) size (drop (i * 16) dirs) ≡ slots_size count size dirs
  pub few : n ≤ 304 * i

pub count-start : (dirs : Bytes) (count size : ℕ) → Counted dirs count size 0 0
count-start dirs count size = record {
  low = omega arith;
  sum = let same : count - 0 ≡ count = omega arith in let e = ap (λ n. slots_size n size dirs) same in omega arith;
  few = omega arith;
}

module _ {dirs : Bytes} {count size i n : ℕ} (h : Counted dirs count size i n) where
  pub counted : count ≤ i → (n ≡ slots_size count size dirs) × (n ≤ 304 * count)
  counted past =
      let last : count - i ≡ 0 = omega arith in
      let e = ap (λ m. slots_size m size (drop (i * 16) dirs)) last in
      (omega (arith, h.sum, sizes_none (drop (i * 16) dirs) size), omega (arith, h.few, h.low))

  module _ (few : size ≤ 304) (inside : i < count) {m : ℕ} (em : m ≡ slot_size (lent 16 (i * 16) dirs) size) where
    pub count_low : n + m ≤ 304 * (i + 1)
    count_low = omega (arith, h.few, slot_low dirs size (lent 16 (i * 16) dirs))

    pub count_turn : Counted dirs count size (i + 1) (n + m)
    count_turn = record { low = omega arith; sum = omega (arith, h.sum, sizes_step dirs size count i inside); few = count_low }

-- 3. What is written

module _ (name number nodes dirs : Bytes) where
  bytes-step : (count i : ℕ) → i < count
      → slots_bytes name number (count - i) (drop (i * 8) nodes) (drop (i * 16) dirs)
      ≡ slot_bytes name number (lent 8 (i * 8) nodes) (lent 16 (i * 16) dirs)
      ++ slots_bytes name number (count - (i + 1)) (drop ((i + 1) * 8) nodes) (drop ((i + 1) * 16) dirs)
  unfolding slots_bytes
  bytes-step count i h =
      ap (λ n. slots_bytes name number n (drop (i * 8) nodes) (drop (i * 16) dirs)) (one_less count i h)
      ∙ ap₂ (λ x y. slot_bytes name number x y ++ slots_bytes name number (count - (i + 1)) (drop 8 (drop (i * 8) nodes)) (drop 16 (drop (i * 16) dirs)))
      (lent-part 8 (i * 8) nodes) (lent-part 16 (i * 16) dirs)
      ∙ ap₂ (λ x y. slot_bytes name number (lent 8 (i * 8) nodes) (lent 16 (i * 16) dirs) ++ slots_bytes name number (count - (i + 1)) x y)
      (next_node i nodes) (next_dir i dirs)

  bytes-none : slots_bytes name number 0 nodes dirs ≡ []
  unfolding slots_bytes
  bytes-none = refl

pub record Wrote (name number nodes dirs out w : Bytes) (at count i to : ℕ) : Type 0 where
  pub low : i ≤ count
  pub grows : Growing out w at to (slots_bytes name number count nodes dirs) (slots_bytes name number (count - i) (drop (i * 8) nodes) (drop (i * 16) dirs))

pub write_start : (name number nodes dirs out : Bytes) (at count : ℕ) → at + length (slots_bytes name number count nodes dirs) ≤ length out
    → Wrote name number nodes dirs out out at count 0 at
write_start name number nodes dirs out at count fits = record {
  low = omega arith;
  grows =
      let same : count - 0 ≡ count = omega arith in
      rw same (grow_start out at (slots_bytes name number count nodes dirs) fits);
}

module _ {name number nodes dirs out w : Bytes} {at count i to : ℕ} (h : Wrote name number nodes dirs out w at count i to) where
  pub wrote : count ≤ i → (to ≡ at + length (slots_bytes name number count nodes dirs)) × (w ≡ put_at out at (slots_bytes name number count nodes dirs))
  wrote past =
      let last : count - i ≡ 0 = omega arith in
      grown h.grows
      (ap (λ n. slots_bytes name number n (drop (i * 8) nodes) (drop (i * 16) dirs)) last ∙ bytes-none name number (drop (i * 8) nodes) (drop (i * 16) dirs))

  module _ (inside : i < count) {node : Bytes} (is : node ≡ lent 8 (i * 8) nodes) where
    abbrev here : Bytes
    here = slot_bytes name number node (lent 16 (i * 16) dirs)

    abbrev later : Bytes
    later = slots_bytes name number (count - (i + 1)) (drop ((i + 1) * 8) nodes) (drop ((i + 1) * 16) dirs)

    step : slots_bytes name number (count - i) (drop (i * 8) nodes) (drop (i * 16) dirs) ≡ here ++ later
    step = bytes-step name number nodes dirs count i inside ∙ ap (λ v. slot_bytes name number v (lent 16 (i * 16) dirs) ++ later) (sym is)

    pub slot-room : to + length here ≤ length w
    slot-room = part_fits h.grows here later step

    pub write_turn : {v : Bytes} {n : ℕ} → (n ≡ to + length here) × (v ≡ put_at w to here) → Wrote name number nodes dirs out v at count (i + 1) n
    write_turn q = record { low = omega arith; grows = grow h.grows here later step q }

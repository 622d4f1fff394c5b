-- The loop over both runs: its start, a turn, and the ends.
use mathlib.Core.Path.{◌≡◌, refl, sym, ap, ◌∙◌, subst}
use mathlib.Core.Bool.{Bool, true, false, not}
use Prim.Native.Nat.{ℕ, suc, ◌+◌, ◌-◌, ◌≤◌, ◌<◌}
use native.Mathlib.Omega.{arith}
use borrow.Author.Tests.{not-true, not-false, eq-eqb, ne_eqb}
use lib.ListN.{length, take, drop, length-drop}
use lib.Seq.{drop-drop}
use Rattle.model.specs.Number.{Bytes}
use Rattle.model.specs.Shape.{logged}
use Rattle.model.specs.Items.{item, items_from}
use Rattle.model.specs.Contents.{fresh}
use Rattle.model.specs.Image.{is_capacity, image_of, contents_of, open_of}
use Rattle.model.specs.Apply.{becomes, apply_at}
use Rattle.laws_records.specs.Records.{reads}
use Rattle.laws_records.specs.Items.{items_got}
use Rattle.laws_image.specs.Tests.{capacity-most}
use Rattle.laws_image.specs.Exact.{image_back}
use Rattle.laws_image.specs.Open.{open_buffer, open_image, open_length}
use Rattle.model.specs.Recordings.{closing, parting_from, parting_of, compared_as, compare_of}
use Rattle.laws_recordings.specs.Turns.{parting_on}
use Rattle.keys.proofs.Found.{lent_slice, slice-rest}
use Rattle.model.specs.Answers.{compared_reply}
use Rattle.recordings.specs.Turns.{Sound, Fresh, Moved, Closes, Onward, TurnAs, Running}
use Rattle.model.specs.declared.answers.Compared.{Compared}
use Rattle.model.specs.declared.answers.Compared.TheVariants as compared
use Rattle.recordings.specs.declared.Turn.{Turn}
use Rattle.recordings.specs.declared.Turn.TheVariants as turn

-- 1. A turn

-- the bytes from a place on, as they are lent
lent-rest : (s : Bytes) (at : ℕ) → at ≤ length s → take (length s - at) (drop at s) ≡ drop at s
lent-rest s at h = lent_slice s at (length s) h ∙ slice-rest at s

module _ (capacity : ℕ) (one other : Bytes) where
  at-capacity : {image run v : Bytes} {k n : ℕ} (m : Moved image k run n v) → length image ≡ capacity
      → apply_at capacity k m.value (contents_of image) ≡ becomes (contents_of v)
  at-capacity {image} {run} {v} {k} {n} m l = subst (λ x. apply_at x k m.value (contents_of image) ≡ becomes (contents_of v)) l m.applies

  pub run-start : (first second : Bytes) → Fresh first → second ≡ first → length first ≡ capacity → Running capacity one other 0 0 0 first second true
  unfolding parting_of
  run-start first second f same long = record {
    within = omega arith;
    inside = omega arith;
    counted = omega arith;
    sound-first = f.sound;
    sound_second = subst Sound (sym same) f.sound;
    long_first = long;
    long_second = ap length same ∙ long;
    known = λ h. same;
    comes = rw (same, f.held) refl;
  }

  module _ (k at to : ℕ) (first second : Bytes) (equal : Bool) (r : Running capacity one other k at to first second equal) where
    abbrev lent_one : Bytes
    lent_one = take (length one - at) (drop at one)

    abbrev lent_other : Bytes
    lent_other = take (length other - to) (drop to other)

    one_is : lent_one ≡ drop at one
    one_is = lent-rest one at r.within

    other_is : lent_other ≡ drop to other
    other_is = lent-rest other to r.inside

    -- what both images are at an end
    back : (b : Bytes) → Sound b → length b ≡ capacity → b ≡ image_of capacity (contents_of b)
    back b s l = subst (λ n. b ≡ image_of n (contents_of b)) l (sym (image_back b s.are_bytes s.is))

    ends : (c : Bool) → Closes first second k (drop at one) (drop to other) c → parting_of capacity one other ≡ closing c k (contents_of first) (contents_of second)
    ends c h = r.comes ∙ subst (λ n. parting_from n k (items_from logged 0 at (drop at one)) (contents_of first) (items_from logged 0 to (drop to other)) (contents_of second) ≡ closing c k (contents_of first) (contents_of second)) r.long_first (h at to)

    module _ (v w : Bytes) (t : Turn) (d : TurnAs first second k lent_one lent_other v w t) where
      turn_is : (o : Turn) → t ≡ o → TurnAs first second k (drop at one) (drop to other) v w o
      turn_is o q =
          subst (TurnAs first second k (drop at one) (drop to other) v w) q
          (subst (λ x. TurnAs first second k x (drop to other) v w t) one_is (subst (λ x. TurnAs first second k lent_one x v w t) other_is d))

      module _ {n m : ℕ} {s : Bool} (q : t ≡ turn.On n m s) where
        on : Onward first second k (drop at one) (drop to other) v w n m s
        on = turn_is (turn.On n m s) q

        pub turn_places : (0 < n) × (at + n ≤ length one) × (to + m ≤ length other)
        turn_places =
            let l = reads logged (drop at one) on.one-moved.value n on.one-moved.reads in
            let g = reads logged (drop to other) on.other_moved.value m on.other_moved.reads in (
              omega (arith, l.head),
              omega (arith, l.fits, length-drop at one, r.within),
              omega (arith, g.fits, length-drop to other, r.inside),
            )

        turn_comes : parting_of capacity one other ≡
            parting_from capacity (suc k) (items_from logged 0 (at + n) (drop (at + n) one)) (contents_of v) (items_from logged 0 (to + m) (drop (to + m) other)) (contents_of w)
        turn_comes =
            let a = on.one-moved in
            let b = on.other_moved in
            let ia : items_from logged 0 at (drop at one) ≡ item at a.value (items_from logged 0 (at + n) (drop (at + n) one)) =
            items_got logged at (drop at one) a.value n a.reads ∙ ap (λ (x : Bytes). item at a.value (items_from logged 0 (at + n) x)) (drop-drop n at one) in
            let ib : items_from logged 0 to (drop to other) ≡ item to b.value (items_from logged 0 (to + m) (drop (to + m) other)) =
            items_got logged to (drop to other) b.value m b.reads ∙ ap (λ (x : Bytes). item to b.value (items_from logged 0 (to + m) x)) (drop-drop m to other) in
            r.comes
            ∙ ap (λ i. parting_from capacity k i (contents_of first) (items_from logged 0 to (drop to other)) (contents_of second)) ia
            ∙ ap (λ i. parting_from capacity k (item at a.value (items_from logged 0 (at + n) (drop (at + n) one))) (contents_of first) i (contents_of second)) ib
            ∙ parting_on capacity k at to a.value b.value (items_from logged 0 (at + n) (drop (at + n) one)) (items_from logged 0 (to + m) (drop (to + m) other))
            (contents_of first) (contents_of second) (contents_of v) (contents_of w)
            (at-capacity a r.long_first) (at-capacity b r.long_second) on.shots

        pub turned : Running capacity one other (k + 1) (at + n) (to + m) v w s
        turned = record {
          within = turn_places.1;
          inside = turn_places.2;
          counted = omega (arith, turn_places, r.counted);
          sound-first = on.one-moved.sound;
          sound_second = on.other_moved.sound;
          long_first = on.one-moved.long ∙ r.long_first;
          long_second = on.other_moved.long ∙ r.long_second;
          known = on.known;
          comes = let e : suc k ≡ k + 1 = omega arith in subst (λ j. parting_of capacity one other ≡ parting_from capacity j (items_from logged 0 (at + n) (drop (at + n) one)) (contents_of v) (items_from logged 0 (to + m) (drop (to + m) other)) (contents_of w)) e turn_comes;
        }

      -- 2. The ends

      pub run_parted : t ≡ turn.Parted
          → (compared_reply (compared.Parted k) ≡ (compared_as capacity (parting_of capacity one other)).reply) ×
          (v ≡ (compared_as capacity (parting_of capacity one other)).first) × (w ≡ (compared_as capacity (parting_of capacity one other)).second)
      run_parted q =
          let p = turn_is turn.Parted q in
          rw (ends false p.0) (refl, p.1 ∙ back first r.sound-first r.long_first, p.2 ∙ back second r.sound_second r.long_second)

      pub run_agree : t ≡ turn.Agree
          → (compared_reply (compared.Agree k) ≡ (compared_as capacity (parting_of capacity one other)).reply) ×
          (v ≡ (compared_as capacity (parting_of capacity one other)).first) × (w ≡ (compared_as capacity (parting_of capacity one other)).second)
      run_agree q =
          let p = turn_is turn.Agree q in
          rw (ends true p.0) (refl, p.1 ∙ back first r.sound-first r.long_first, p.2 ∙ back second r.sound_second r.long_second)

-- 3. Exits

-- what the whole comparison says
abbrev pub Says : Bytes → Bytes → Bytes → Bytes → Compared → Bytes → Bytes → Type 0
Says first second one other r v w =
    (compared_reply r ≡ (compare_of first second one other).reply) ×
    (v ≡ (compare_of first second one other).first) × (w ≡ (compare_of first second one other).second)

module _ (first second one other : Bytes) {b : Bool} (e : b ≡ is_capacity (length first)) where
  pub no_capacity : not b ≡ true → Says first second one other (compared.Refused 1) first second
  unfolding compare_of
  no_capacity h = rw (sym e ∙ not-true b h) (refl, refl, refl)

  module _ (h : not b ≡ false) where
    capacity_is : is_capacity (length first) ≡ true
    capacity_is = sym e ∙ not-false b h

    pub most : length first ≤ 65536
    most = capacity-most (length first) capacity_is

    pub unequal : (length first ≡ length second → ⊥) → Says first second one other (compared.Refused 1) first second
    unfolding compare_of
    unequal n = rw (capacity_is, ne_eqb (length first) (length second) n) (refl, refl, refl)

    module _ (same : length first ≡ length second) {v w : Bytes} (ev : v ≡ (open_of first).buffer) (ew : w ≡ (open_of second).buffer) where
      pub both_fresh : Fresh v × (w ≡ v) × (length v ≡ length first)
      both_fresh =
          let o = open_image first capacity_is in
          let other_is = subst (λ n. is_capacity n ≡ true) same capacity_is in (
            rw ev (record { sound = record { is = o.0; are_bytes = o.2 }; held = o.1 }),
            ew ∙ open_buffer second other_is ∙ ap (λ n. image_of n fresh) (sym same) ∙ sym (open_buffer first capacity_is) ∙ sym ev,
            ap length ev ∙ open_length first capacity_is,
          )

      pub whole : (r : Compared) {x y : Bytes}
          → (compared_reply r ≡ (compared_as (length v) (parting_of (length v) one other)).reply) ×
          (x ≡ (compared_as (length v) (parting_of (length v) one other)).first) × (y ≡ (compared_as (length v) (parting_of (length v) one other)).second)
          → Says first second one other r x y
      unfolding compare_of
      whole r {x} {y} p =
          rw (capacity_is, eq-eqb (length first) (length second) same)
          (subst (λ n. (compared_reply r ≡ (compared_as n (parting_of n one other)).reply) ×
          (x ≡ (compared_as n (parting_of n one other)).first) × (y ≡ (compared_as n (parting_of n one other)).second)) both_fresh.2 p)

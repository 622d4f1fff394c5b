-- One slot: the record that is written for it, a field after the other, and how long it is.
use mathlib.Core.Path.{◌≡◌, refl, sym, ap, ◌∙◌}
use mathlib.Core.Bool.{Bool, true, false, cond}
use mathlib.Core.List.{[], ◌++◌}
use Prim.Native.Nat.{ℕ, ◌+◌, ◌-◌, ◌≤◌}
use native.Mathlib.Omega.{arith}
use lib.ListN.{length}
use Rattle.model.specs.Number.{Bytes}
use Rattle.model.specs.Order.{same_bytes}
use Rattle.model.specs.Run.{field as field_of, bytes_of, item, done}
use Rattle.model.specs.Kind.{kind_number}
use Rattle.model.specs.Record.{record_bytes}
use Rattle.model.specs.Downgrade.{migrating}
use Rattle.laws_records.specs.Runs.{length_item}
use Rattle.laws_records.specs.Records.{length_record}
use Rattle.records.specs.Answers.{put_at, head}
use Rattle.records.proofs.Written.{put_at_nothing}
use Rattle.records.proofs.Growing.{Growing, grow_start, part_fits, rest_fits, grow, grown}
use Rattle.downgrade_slots.specs.Slots.{assigning, slot_bytes, slot_size}

abbrev field : ℕ → Bytes → Bytes
field tag v = head tag (length v) ++ v

-- 1. The record

module _ (name number node : Bytes) where
  pub size : length (record_bytes (assigning name number node)) ≡ 31 + length name + length number + length node
  unfolding bytes_of field_of
  size =
      let fourth = item 4 migrating done in
      let third = item 3 node fourth in
      let second = item 2 number third in
      omega (arith, length_record (assigning name number node), length_item 1 name second, length_item 2 number third, length_item 3 node fourth)

  module _ (out : Bytes) (at : ℕ) (fits : at + length (record_bytes (assigning name number node)) ≤ length out) where
    pub assignment_fits : at + 31 + length name + length number + length node ≤ length out
    assignment_fits = omega (arith, size)

    module _ {a : Bytes} (ea : a ≡ put_at out at (head 14 (at + 3 + 3 + length name + 3 + length number + 3 + length node + 19 - (at + 3)))) where
      first : Growing out a at (at + 3) (record_bytes (assigning name number node)) (field 1 name ++ (field 2 number ++ (field 3 node ++ field 4 migrating)))
      unfolding record_bytes bytes_of kind_number field_of
      first =
          let body = field 1 name ++ (field 2 number ++ (field 3 node ++ field 4 migrating)) in
          let long : at + 3 + 3 + length name + 3 + length number + 3 + length node + 19 - (at + 3) ≡ length body = omega (arith, size) in
          grow (grow_start out at (record_bytes (assigning name number node)) fits) (head 14 (length body)) body refl (omega arith, ea ∙ ap (λ n. put_at out at (head 14 n)) long)

      pub first_fits : at + 3 + 3 + length name ≤ length a
      first_fits = omega (arith, part_fits first (field 1 name) (field 2 number ++ (field 3 node ++ field 4 migrating)) refl)

      module _ {b : Bytes} (eb : b ≡ put_at a (at + 3) (field 1 name)) where
        second : Growing out b at (at + 3 + 3 + length name) (record_bytes (assigning name number node)) (field 2 number ++ (field 3 node ++ field 4 migrating))
        second = grow first (field 1 name) (field 2 number ++ (field 3 node ++ field 4 migrating)) refl (omega arith, eb)

        pub second_fits : at + 3 + 3 + length name + 3 + length number ≤ length b
        second_fits = omega (arith, part_fits second (field 2 number) (field 3 node ++ field 4 migrating) refl)

        module _ {c : Bytes} (ec : c ≡ put_at b (at + 3 + 3 + length name) (field 2 number)) where
          third : Growing out c at (at + 3 + 3 + length name + 3 + length number) (record_bytes (assigning name number node)) (field 3 node ++ field 4 migrating)
          third = grow second (field 2 number) (field 3 node ++ field 4 migrating) refl (omega arith, ec)

          pub third_fits : at + 3 + 3 + length name + 3 + length number + 3 + length node ≤ length c
          third_fits = omega (arith, part_fits third (field 3 node) (field 4 migrating) refl)

          module _ {d : Bytes} (ed : d ≡ put_at c (at + 3 + 3 + length name + 3 + length number) (field 3 node)) where
            fourth : Growing out d at (at + 3 + 3 + length name + 3 + length number + 3 + length node) (record_bytes (assigning name number node)) (field 4 migrating)
            fourth = grow third (field 3 node) (field 4 migrating) refl (omega arith, ed)

            pub fourth_fits : at + 3 + 3 + length name + 3 + length number + 3 + length node + 3 + 16 ≤ length d
            fourth_fits = omega (arith, rest_fits fourth)

            pub assignment-put : {e : Bytes} → e ≡ put_at d (at + 3 + 3 + length name + 3 + length number + 3 + length node) (field 4 migrating)
                → (at + 3 + 3 + length name + 3 + length number + 3 + length node + 19 ≡ at + length (record_bytes (assigning name number node)))
                × (e ≡ put_at out at (record_bytes (assigning name number node)))
            assignment-put ee = grown (grow fourth (field 4 migrating) [] refl (omega arith, ee)) refl

-- 2. The slot

module _ (name number node dir : Bytes) {b : Bool} (eb : b ≡ same_bytes dir migrating) where
  none-there : b ≡ true → slot_bytes name number node dir ≡ []
  none-there t = rw (sym eb ∙ t)

  one-there : b ≡ false → slot_bytes name number node dir ≡ record_bytes (assigning name number node)
  one-there f = rw (sym eb ∙ f)

  module _ (out : Bytes) (at : ℕ) where
    pub slot-none : b ≡ true → (at ≡ at + length (slot_bytes name number node dir)) × (out ≡ put_at out at (slot_bytes name number node dir))
    slot-none t = rw (none-there t) (omega arith, sym (put_at_nothing out at))

    pub slot_fits : b ≡ false → at + length (slot_bytes name number node dir) ≤ length out → at + length (record_bytes (assigning name number node)) ≤ length out
    slot_fits f h = rw (one-there f) at h

    pub slot-put : b ≡ false → {n : ℕ} {w : Bytes}
        → (n ≡ at + length (record_bytes (assigning name number node))) × (w ≡ put_at out at (record_bytes (assigning name number node)))
        → (n ≡ at + length (slot_bytes name number node dir)) × (w ≡ put_at out at (slot_bytes name number node dir))
    slot-put f h = rw (one-there f) h

pub length-slot : (name number node dir : Bytes) → length node ≡ 8 → length (slot_bytes name number node dir) ≡ slot_size dir (39 + length name + length number)
length-slot name number node dir eight = go (same_bytes dir migrating)
  where
    go : (b : Bool) → length (cond b [] (record_bytes (assigning name number node))) ≡ cond b 0 (39 + length name + length number)
    go true = refl
    go false = omega (arith, size name number node)

-- a slot's size, by whether it is `MIGRATING`
module _ (dir : Bytes) (n : ℕ) {b : Bool} (eb : b ≡ same_bytes dir migrating) where
  pub size_none : b ≡ true → 0 ≡ slot_size dir n
  size_none t = rw (sym eb ∙ t)

  pub size-one : b ≡ false → n ≡ slot_size dir n
  size-one f = rw (sym eb ∙ f)

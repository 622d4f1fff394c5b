-- `downgrade_slots::assignments_size` meets its contract.
use native.Mathlib.Omega.{arith}
use Rattle.image_entries.proofs.Records.{headed}
use Rattle.downgrade_slots.proofs.Partitions.{size_fits, may-count, all-size}
use Rattle.downgrade_slots.proofs.assignments_size.Goals as goal

pub value_at-name-requires : goal.value_at-name-requires
value_at-name-requires c = headed _ c.requires.0

pub value_at-number-requires : goal.value_at-number-requires
value_at-number-requires c = headed _ c.requires.0

pub value_at-dirs-requires : goal.value_at-dirs-requires
value_at-dirs-requires c = headed _ c.requires.0

pub overflow_add-size-2 : goal.overflow_add-size-2
overflow_add-size-2 c =
    omega (arith, size_fits _ c.requires.0 c.requires.1 _ _ _ _ c.value_at-name.ensures c.value_at-number.ensures)

pub slot_count-requires : goal.slot_count-requires
slot_count-requires c = headed _ c.requires.0

pub slots_size-requires : goal.slots_size-requires
slots_size-requires c = (
  (may-count _ c.requires.0 c.requires.1 _ _ _ _ _ _ c.value_at-name.ensures c.value_at-number.ensures c.value_at-dirs.ensures c.slot_count.ensures).0,
  (may-count _ c.requires.0 c.requires.1 _ _ _ _ _ _ c.value_at-name.ensures c.value_at-number.ensures c.value_at-dirs.ensures c.slot_count.ensures).1,
  omega (arith, size_fits _ c.requires.0 c.requires.1 _ _ _ _ c.value_at-name.ensures c.value_at-number.ensures),
)

pub returns : goal.returns
returns c =
    all-size _ c.requires.0 c.requires.1 _ _ _ _ _ _ c.value_at-name.ensures c.value_at-number.ensures c.value_at-dirs.ensures
    c.slot_count.ensures c.slots_size.ensures

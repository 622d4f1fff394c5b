-- `apply_directories::copy_partition` meets its contract: the partition is sought by the assignment's first two fields, and copied.
use native.Mathlib.Omega.{arith}
use Rattle.keys.proofs.Keys.{known_bytes}
use Rattle.image_entries.proofs.Records.{headed}
use Rattle.apply_directories.proofs.Copies.{asks, not_stored, entry_fits, copied}
use Rattle.apply_directories.proofs.copy_partition.Goals as goal

pub value_at-p-requires : goal.value_at-p-requires
value_at-p-requires c = headed _ c.requires.1.is

pub value_at-q-requires : goal.value_at-q-requires
value_at-q-requires c = headed _ c.requires.1.is

pub find-place-requires : goal.find-place-requires
find-place-requires c =
    (c.requires.0, asks c.args.s.now _ c.requires.1 _ _ _ _ c.value_at-p.ensures c.value_at-q.ensures)

pub returns-then-end-at : goal.returns-then-end-at
returns-then-end-at c =
    not_stored _ _ c.requires.1 _ _ _ _ c.value_at-p.ensures c.value_at-q.ensures c.find-place.ensures c.if-end-at.true _

pub copy_in-requires : goal.copy_in-requires
copy_in-requires c =
    entry_fits _ _ c.requires.1 _ _ _ _ c.value_at-p.ensures c.value_at-q.ensures c.find-place.ensures
    (known_bytes c.args.s.now (λ i. omega (arith, c.type_inv.s i))) c.requires.0 c.if-end-at.false c.args.b.now c.requires.2

pub returns : goal.returns
returns c =
    copied _ _ c.requires.1 _ _ _ _ c.value_at-p.ensures c.value_at-q.ensures c.find-place.ensures
    (known_bytes c.args.s.now (λ i. omega (arith, c.type_inv.s i))) c.requires.0 c.if-end-at.false c.args.b.now _ c.requires.2
    c.copy_in.auto.b c.copy_in.ensures

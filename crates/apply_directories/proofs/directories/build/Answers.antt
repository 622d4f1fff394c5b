-- `directories::build` meets its contract.
use native.Mathlib.Omega.{arith}
use Rattle.image_entries.proofs.Records.{headed}
use Rattle.apply_directories.proofs.Partitions.{no_replica, may-fill, dirs_built}
use Rattle.apply_directories.proofs.directories.build.Goals as goal

pub returns-then-count-slot : goal.returns-then-count-slot
returns-then-count-slot c =
    no_replica _ _ c.requires.0 c.requires.1 c.slot_in-s.ensures (omega (arith, c.if-count-slot.true)) _

pub value_at-p-requires : goal.value_at-p-requires
value_at-p-requires c = headed _ c.requires.0.is

pub value_at-q-requires : goal.value_at-q-requires
value_at-q-requires c = headed _ c.requires.1.is

pub fill-requires : goal.fill-requires
fill-requires c =
    may-fill _ _ c.requires.0 c.requires.1 c.slot_in-s.ensures c.if-count-slot.false _ _ _ _ c.value_at-p.ensures c.value_at-q.ensures
    c.args.dirs.now c.requires.2

pub returns : goal.returns
returns c =
    dirs_built _ _ c.requires.0 c.requires.1 c.slot_in-s.ensures c.if-count-slot.false _ _ _ _ c.value_at-p.ensures c.value_at-q.ensures
    c.fill.new.dirs (omega (arith, c.requires.2, c.fill.auto.dirs)) c.fill.ensures

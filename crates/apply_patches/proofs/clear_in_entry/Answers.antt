-- `apply_patches::clear_in_entry` meets its contract: the flag is the last byte, and another entry stays.
use Prim.Native.Nat.{◌≤◌}
use native.Mathlib.Omega.{arith}
use lib.ListN.{length}
use Rattle.apply_patches.proofs.Entries.{numbers_there, clear_named_stays, clear_named-put}
use Rattle.apply_patches.proofs.clear_in_entry.Goals as goal

pub is_topic_with-requires : goal.is_topic_with-requires
is_topic_with-requires c = c.requires.is

pub overflow_sub-at : goal.overflow_sub-at
overflow_sub-at c =
    let long : 20 ≤ length c.args.e.now = numbers_there c.requires _ _ c.is_topic_with.ensures c.if-is_topic_with.true in
    omega (arith, long)

pub put-requires : goal.put-requires
put-requires c =
    let long : 20 ≤ length c.args.e.now = numbers_there c.requires _ _ c.is_topic_with.ensures c.if-is_topic_with.true in
    omega (arith, long)

pub returns-then-is_topic_with : goal.returns-then-is_topic_with
returns-then-is_topic_with c =
    clear_named-put c.requires _ c.is_topic_with.ensures c.if-is_topic_with.true c.put.ensures

pub returns-else-is_topic_with : goal.returns-else-is_topic_with
returns-else-is_topic_with c = clear_named_stays c.requires _ c.is_topic_with.ensures c.if-is_topic_with.false

-- `apply_patches::count_in_entry` meets its contract: the count and the factor stand at fixed places from the end, and another entry stays.
use Prim.Native.Nat.{◌≤◌}
use native.Mathlib.Omega.{arith}
use lib.ListN.{length}
use Rattle.apply_patches.proofs.Entries.{numbers_there, count_partition_stays, count_partition-put}
use Rattle.apply_patches.proofs.count_in_entry.Goals as goal

pub is_topic_with-requires : goal.is_topic_with-requires
is_topic_with-requires c = c.requires.0.is

pub overflow_sub-n : goal.overflow_sub-n
overflow_sub-n c =
    let long : 20 ≤ length c.args.e.now = numbers_there c.requires.0 _ _ c.is_topic_with.ensures c.if-is_topic_with.true in
    omega (arith, long)

pub get-count-requires : goal.get-count-requires
get-count-requires c =
    let long : 20 ≤ length c.args.e.now = numbers_there c.requires.0 _ _ c.is_topic_with.ensures c.if-is_topic_with.true in
    (omega arith, omega (arith, long))

pub overflow_sub-n-then-is_topic_with : goal.overflow_sub-n-then-is_topic_with
overflow_sub-n-then-is_topic_with c =
    let long : 20 ≤ length c.args.e.now = numbers_there c.requires.0 _ _ c.is_topic_with.ensures c.if-is_topic_with.true in
    omega (arith, long)

pub overflow_add-count : goal.overflow_add-count
overflow_add-count c = omega (arith, c.requires.1, c.get-count.ensures.1)

pub put-requires : goal.put-requires
put-requires c =
    let long : 20 ≤ length c.args.e.now = numbers_there c.requires.0 _ _ c.is_topic_with.ensures c.if-is_topic_with.true in
    omega (arith, long)

pub overflow_sub-n-then-is_topic_with-2 : goal.overflow_sub-n-then-is_topic_with-2
overflow_sub-n-then-is_topic_with-2 c =
    let long : 20 ≤ length c.args.e.now = numbers_there c.requires.0 _ _ c.is_topic_with.ensures c.if-is_topic_with.true in
    omega (arith, long)

pub put-requires-then-is_topic_with : goal.put-requires-then-is_topic_with
put-requires-then-is_topic_with c =
    let long : 20 ≤ length c.args.e.now = numbers_there c.requires.0 _ _ c.is_topic_with.ensures c.if-is_topic_with.true in
    omega (arith, long, c.put.auto.s)

pub returns-then-is_topic_with : goal.returns-then-is_topic_with
returns-then-is_topic_with c =
    count_partition-put c.requires.0 _ _ _ c.is_topic_with.ensures c.if-is_topic_with.true c.get-count.ensures.0 c.put.ensures
    c.put-then-is_topic_with.ensures

pub returns-else-is_topic_with : goal.returns-else-is_topic_with
returns-else-is_topic_with c = count_partition_stays c.requires.0 _ _ _ c.is_topic_with.ensures c.if-is_topic_with.false

-- `shape_faults::walk_past` meets its contract: the key is kept exactly where the row repeats.
use native.Mathlib.Omega.{arith}
use Rattle.shape_faults.specs.Walk.{before_in}
use Rattle.shape_faults.proofs.Walks.{count_most, past_many, past_once}
use Rattle.shape_faults.proofs.walk_past.Goals as goal

pub overflow_add-count : goal.overflow_add-count
overflow_add-count c = let a = c.args in omega (arith, c.count_of-count.ensures, count_most (before_in a.s.now a.w) a.tag)

pub returns-then-many_in-gt1 : goal.returns-then-many_in-gt1
returns-then-many_in-gt1 c =
    let a = c.args in (
      past_many a.s.now a.base a.w a.tag _ _ _ _ c.count_of-count.ensures
          c.row_at.ensures c.many_in.ensures c.key_of.result c.if-many_in-gt1.true c.key_of.ensures.0,
      c.key_of.ensures.1,
    )

pub returns : goal.returns
returns c =
    let a = c.args in (
      past_once a.s.now a.base a.w a.tag _ _ _ _ c.count_of-count.ensures
          c.row_at.ensures c.many_in.ensures c.no_key.result c.if-many_in-gt1.false c.no_key.ensures,
      rw c.no_key.ensures (omega arith),
    )

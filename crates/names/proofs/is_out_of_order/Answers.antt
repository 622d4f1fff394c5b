-- `names::is_out_of_order` meets its contract, by what comparing says.
use mathlib.Core.Path.{refl}
use Rattle.model.specs.Order.{compare_bytes, is_below}
use Rattle.names.proofs.Walks.{any_order, by_order}
use Rattle.names.proofs.is_out_of_order.Goals as goal

pub returns-then-not-ordered : goal.returns-then-not-ordered
returns-then-not-ordered c =
    let a = c.args in
    any_order a.ordered (is_below (compare_bytes a.v.now a.prior.now)) c.if-not-ordered.true-raw

pub returns-in-Less : goal.returns-in-Less
returns-in-Less c =
    let a = c.args in
    rw (by_order a.ordered (is_below (compare_bytes a.v.now a.prior.now)) c.if-not-ordered.false-raw, ← c.compare.ensures, c.in-Less.is) refl

pub returns-in-Equal : goal.returns-in-Equal
returns-in-Equal c =
    let a = c.args in
    rw (by_order a.ordered (is_below (compare_bytes a.v.now a.prior.now)) c.if-not-ordered.false-raw, ← c.compare.ensures, c.in-Equal.is) refl

pub returns-in-Greater : goal.returns-in-Greater
returns-in-Greater c =
    let a = c.args in
    rw (by_order a.ordered (is_below (compare_bytes a.v.now a.prior.now)) c.if-not-ordered.false-raw, ← c.compare.ensures, c.in-Greater.is) refl

-- `restore_copy::is_snapshot_of` meets its contract.
use mathlib.Core.Path.{sym, ap, ◌∙◌}
use native.Mathlib.Omega.{arith}
use lib.Seq.{length-take-le}
use Rattle.model.specs.Answers.{replied}
use Rattle.keys.proofs.Keys.{known_bytes}
use Rattle.restore_copy.proofs.Rebuilds.{image_is, rebuilt}
use Rattle.restore_copy.proofs.is_snapshot_of.Goals as goal

pub slice_bounds-same-end-in-Used : goal.slice_bounds-same-end-in-Used
slice_bounds-same-end-in-Used c = sym (length-take-le _ _ c.if-w-n.false)

pub is_steady-requires : goal.is_steady-requires
is_steady-requires c =
    image_is c.args.image.now c.args.w.now (sym (ap replied c.in-Used.is) ∙ c.snapshot.ensures.result_value)

pub returns-else-not-same : goal.returns-else-not-same
returns-else-not-same c =
    rebuilt c.args.image.now c.args.w.now (sym (ap replied c.in-Used.is) ∙ c.snapshot.ensures.result_value) _ c.args.input.now
    (known_bytes c.args.image.now (λ i. omega (arith, c.type_inv.image i))) c.snapshot.ensures.out_after
    (rw c.same.ensures at c.if-not-same.false-raw) c.is_steady.result c.is_steady.ensures

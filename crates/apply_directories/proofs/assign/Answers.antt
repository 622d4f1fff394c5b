-- `apply_directories::assign` meets its contract: the partition is copied, changed, and put in its place.
use mathlib.Core.Path.{sym}
use native.Mathlib.Omega.{arith}
use lib.Seq.{length-take-le}
use Rattle.apply_work.proofs.Made.{record-size}
use Rattle.apply_directories.proofs.Plans.{part-kept, none_stored, partition-there, none-assigned, new-there, assigned-there}
use Rattle.apply_directories.proofs.assign.Goals as goal

pub slice_bounds-copy_partition-end-2 : goal.slice_bounds-copy_partition-end-2
slice_bounds-copy_partition-end-2 c =
    sym (length-take-le _ _ (omega (arith, c.requires.0.order, c.requires.0.fits)))

pub copy_partition-n-requires : goal.copy_partition-n-requires
copy_partition-n-requires c =
    (c.requires.0.reals, record { is = c.requires.1; kind = c.requires.2 }, c.requires.5)

pub returns-then-n-eq0 : goal.returns-then-n-eq0
returns-then-n-eq0 c =
    none_stored _ c.args.w.now c.args.bounds c.copy_partition-n.ensures c.if-n-eq0.true c.requires.0

pub change-size-requires : goal.change-size-requires
change-size-requires c = (
  partition-there _ c.args.w.now c.args.bounds c.copy_partition-n.ensures c.if-n-eq0.false,
  record { is = c.requires.1; kind = c.requires.2 },
  c.copy_partition-n.ensures.fits,
  omega (arith, c.requires.5, c.copy_partition-n.auto.b),
)

pub returns-then-size-eq0 : goal.returns-then-size-eq0
returns-then-size-eq0 c =
    none-assigned _ c.args.w.now c.args.bounds c.copy_partition-n.ensures c.if-n-eq0.false c.change-size.ensures c.if-size-eq0.true c.requires.0

pub slice_bounds-put_real-end-2 : goal.slice_bounds-put_real-end-2
slice_bounds-put_real-end-2 c = sym (length-take-le _ _ c.change-size.ensures.fits)

pub put_real-requires : goal.put_real-requires
put_real-requires c = (
  c.requires.0,
  (new-there _ c.args.w.now c.args.bounds c.copy_partition-n.ensures c.if-n-eq0.false c.change-size.ensures c.if-size-eq0.false).is,
  part-kept _ (new-there _ c.args.w.now c.args.bounds c.copy_partition-n.ensures c.if-n-eq0.false c.change-size.ensures c.if-size-eq0.false),
  omega (arith, c.requires.4, record-size _ (new-there _ c.args.w.now c.args.bounds c.copy_partition-n.ensures c.if-n-eq0.false c.change-size.ensures c.if-size-eq0.false).is),
)

pub returns : goal.returns
returns c =
    assigned-there _ c.args.w.now c.args.bounds c.copy_partition-n.ensures c.if-n-eq0.false c.change-size.ensures c.if-size-eq0.false
    c.requires.3 c.put_real.ensures

-- `apply_offsets::advance` meets its contract: the sum's record is built, and set in its place.
use mathlib.Core.Path.{sym}
use native.Mathlib.Omega.{arith}
use lib.Seq.{length-take-le}
use Rattle.apply_offsets.proofs.Stores.{offset_record, offset_plain, offset_made}
use Rattle.apply_offsets.proofs.advance.Goals as goal

pub slice_bounds-sum_of-end-2 : goal.slice_bounds-sum_of-end-2
slice_bounds-sum_of-end-2 c =
    sym (length-take-le _ c.args.w.now (omega (arith, c.requires.0.order, c.requires.0.fits)))

pub sum_of-sum-requires : goal.sum_of-sum-requires
sum_of-sum-requires c =
    (c.requires.0.reals, c.requires.1, c.requires.2)

pub slice_bounds-set-end-2 : goal.slice_bounds-set-end-2
slice_bounds-set-end-2 c =
    sym (length-take-le _ c.draft-n.new.b (omega (arith, c.draft-n.ensures.1, c.draft-n.auto.b, c.requires.4)))

pub set-requires : goal.set-requires
set-requires c =
    (c.requires.0, offset_record _ c.requires.1 c.requires.2 _ _ c.draft-n.ensures.0, offset_plain _ c.requires.1 c.requires.2 _ _ c.draft-n.ensures.0, c.requires.3)

pub returns : goal.returns
returns c =
    offset_made _ c.requires.1 c.requires.2 _ _ c.draft-n.ensures.0 _ c.sum_of-sum.ensures.0 c.set.ensures

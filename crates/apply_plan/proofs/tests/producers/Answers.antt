-- `tests::producers` meets its contract.
use mathlib.Core.Path.{sym}
use native.Mathlib.Omega.{arith}
use lib.Seq.{length-take-le}
use Rattle.keys.proofs.Keys.{known_bytes}
use Rattle.apply_plan.proofs.Arms.{producers_asked, producers_plain, producers-put, producers-none}
use Rattle.apply_plan.proofs.tests.producers.Goals as goal

pub slice_bounds-stored_next-end-2 : goal.slice_bounds-stored_next-end-2
slice_bounds-stored_next-end-2 c =
    sym (length-take-le _ _ (omega (arith, c.requires.0.order, c.requires.0.fits)))

pub place_in-requires : goal.place_in-requires
place_in-requires c =
    producers_asked _ c.requires.1 c.requires.2

pub set-requires : goal.set-requires
set-requires c =
    (c.requires.0, c.requires.1, producers_plain _ c.requires.1 c.requires.2, c.requires.4)

pub returns-then-stored_next-place_in : goal.returns-then-stored_next-place_in
returns-then-stored_next-place_in c =
    producers-put _ c.requires.1 c.requires.2 _ c.stored_next.ensures c.place_in.ensures
    (known_bytes c.args.rec.now (λ i. omega (arith, c.type_inv.rec i))) c.requires.3 c.if-stored_next-place_in.true c.set.ensures

pub returns : goal.returns
returns c =
    producers-none _ c.requires.1 c.requires.2 _ c.stored_next.ensures c.place_in.ensures c.if-stored_next-place_in.false c.requires.0

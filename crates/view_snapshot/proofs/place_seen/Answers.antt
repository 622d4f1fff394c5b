-- `view_snapshot::place_seen` meets its contract: the record stands behind the earlier ones, and the total is greater by its length.
use native.Mathlib.Omega.{arith}
use Rattle.entries.proofs.Changes.{is_keyed}
use Rattle.find.proofs.Finds.{entire}
use Rattle.view_snapshot.proofs.Places.{place_hidden, fits_shown, place_shown}
use Rattle.view_snapshot.proofs.place_seen.Goals as goal

pub is_seen-requires : goal.is_seen-requires
is_seen-requires c =
    (is_keyed _ c.requires.0, c.requires.1)

pub returns-then-not-is_seen : goal.returns-then-not-is_seen
returns-then-not-is_seen c =
    place_hidden _ _ c.requires.0 c.is_seen.ensures c.if-not-is_seen.true-raw c.args.out.now _

pub put_returned-requires : goal.put_returned-requires
put_returned-requires c =
    (entire _ c.requires.0, fits_shown _ _ c.requires.0 c.is_seen.ensures c.if-not-is_seen.false-raw _ _ c.requires.2)

pub returned_size-requires : goal.returned_size-requires
returned_size-requires c =
    entire _ c.requires.0

pub overflow_add-result : goal.overflow_add-result
overflow_add-result c =
    omega (arith, fits_shown _ _ c.requires.0 c.is_seen.ensures c.if-not-is_seen.false-raw _ _ c.requires.2, c.returned_size.ensures)

pub returns : goal.returns
returns c =
    place_shown _ _ c.requires.0 c.is_seen.ensures c.if-not-is_seen.false-raw c.args.out.now _ c.returned_size.ensures c.put_returned.ensures

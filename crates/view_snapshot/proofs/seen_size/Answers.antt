-- `view_snapshot::seen_size` meets its contract.
use Rattle.entries.proofs.Changes.{is_keyed}
use Rattle.find.proofs.Finds.{entire}
use Rattle.view_snapshot.proofs.Places.{size_hidden, size_shown}
use Rattle.view_snapshot.proofs.seen_size.Goals as goal

pub is_seen-requires : goal.is_seen-requires
is_seen-requires c =
    (is_keyed _ c.requires.0, c.requires.1)

pub returns-then-not-is_seen : goal.returns-then-not-is_seen
returns-then-not-is_seen c =
    size_hidden _ _ c.requires.0 c.is_seen.ensures c.if-not-is_seen.true-raw

pub returned_size-requires : goal.returned_size-requires
returned_size-requires c = entire _ c.requires.0

pub returns : goal.returns
returns c =
    size_shown _ _ c.requires.0 c.is_seen.ensures c.if-not-is_seen.false-raw c.returned_size.ensures

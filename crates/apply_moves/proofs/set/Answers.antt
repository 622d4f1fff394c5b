-- `apply_moves::set` meets its contract.
use native.Mathlib.Omega.{arith}
use Rattle.entries.proofs.Changes.{is_keyed}
use Rattle.apply_work.proofs.Made.{record-size}
use Rattle.apply_moves.proofs.Singles.{plain_kept, set-put, set-drop}
use Rattle.apply_moves.proofs.set.Goals as goal

pub put_real-requires : goal.put_real-requires
put_real-requires c =
    (c.requires.0, c.requires.1, plain_kept _ c.requires.2, omega (arith, record-size _ c.requires.1, c.requires.3))

pub returns-then-is_storable : goal.returns-then-is_storable
returns-then-is_storable c =
    set-put _ c.requires.1 c.requires.2 c.is_storable.ensures c.if-is_storable.true c.put_real.ensures

pub drop_real-requires : goal.drop_real-requires
drop_real-requires c =
    (c.requires.0, is_keyed _ c.requires.1)

pub returns : goal.returns
returns c =
    set-drop _ c.requires.1 c.requires.2 c.is_storable.ensures c.if-is_storable.false c.drop_real.ensures

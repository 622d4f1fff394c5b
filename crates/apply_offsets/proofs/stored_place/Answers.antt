-- `apply_offsets::stored_place` meets its contract: the entry of the advance's key is sought, and nothing stored counts as 0.
use native.Mathlib.Omega.{arith}
use Rattle.keys.proofs.Keys.{known_bytes}
use Rattle.entries.proofs.Changes.{is_keyed}
use Rattle.apply_offsets.proofs.Offsets.{no_offset, offset_asked, offset_place_lem}
use Rattle.apply_offsets.proofs.stored_place.Goals as goal

pub seek-p-requires : goal.seek-p-requires
seek-p-requires c =
    (c.requires.0, is_keyed _ c.requires.1)

pub returns-then-end-at : goal.returns-then-end-at
returns-then-end-at c =
    no_offset _ c.requires.1 c.requires.2 _ c.seek-p.ensures c.if-end-at.true

pub place_in-requires : goal.place_in-requires
place_in-requires c =
    offset_asked _ c.requires.1 c.requires.2 _ c.seek-p.ensures (known_bytes c.args.s.now (λ i. omega (arith, c.type_inv.s i)))
    c.requires.0 c.if-end-at.false

pub returns : goal.returns
returns c =
    offset_place_lem _ c.requires.1 c.requires.2 _ c.seek-p.ensures (known_bytes c.args.s.now (λ i. omega (arith, c.type_inv.s i)))
    c.requires.0 c.if-end-at.false c.place_in.ensures

-- `snapshot::is_too_short` meets its contract: with room for the entries and the longest fixed parts there is room; else the length decides.
use native.Mathlib.Omega.{arith}
use Rattle.keys.proofs.Keys.{known_bytes}
use Rattle.find.proofs.Lent.{lent-entries, lent-kept}
use Rattle.snapshot.proofs.Emits.{room_enough, room-told}
use Rattle.snapshot.proofs.is_too_short.Goals as goal

pub returns-then-end-room : goal.returns-then-end-room
returns-then-end-room c =
    let image = c.args.image.now in
    room_enough image c.requires (known_bytes image (λ i. omega (arith, c.type_inv.image i))) c.if-end-room.true

pub returned_length-entries-requires : goal.returned_length-entries-requires
returned_length-entries-requires c =
    (lent-entries c.args.image.now c.requires, lent-kept c.args.image.now c.requires)

pub returns : goal.returns
returns c =
    room-told c.args.image.now c.requires c.args.room c.returned_length-entries.ensures.0
    c.epoch_in.ensures c.epoch_length.ensures.0 c.kraft_in.ensures c.kraft_length.ensures.0

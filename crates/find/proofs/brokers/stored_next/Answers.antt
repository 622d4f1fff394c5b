-- `brokers::stored_next` meets its contract: the producer ids are sought, and nothing stored counts as 0.
use native.Mathlib.Omega.{arith}
use Rattle.model.specs.Number.{AreBytes}
use Rattle.keys.proofs.Keys.{known_bytes}
use Rattle.find.proofs.Queries.{producer_query}
use Rattle.find.proofs.Epochs.{no_next, next_headed, next_width, next_place}
use Rattle.find.proofs.brokers.stored_next.Goals as goal

pub find-p-requires : goal.find-p-requires
find-p-requires c = (c.requires, producer_query)

pub returns-then-end-at : goal.returns-then-end-at
returns-then-end-at c = no_next _ c.find-p.ensures c.if-end-at.true

pub place_in-requires : goal.place_in-requires
place_in-requires c =
    let bytes_in : AreBytes c.args.s.now = known_bytes c.args.s.now (λ i. omega (arith, c.type_inv.s i)) in
    let p = c.find-p.ensures in
    let w = c.requires in
    (next_headed _ p bytes_in w c.if-end-at.false, omega arith, omega arith, next_width _ p bytes_in w c.if-end-at.false)

pub returns : goal.returns
returns c =
    let bytes_in : AreBytes c.args.s.now = known_bytes c.args.s.now (λ i. omega (arith, c.type_inv.s i)) in
    next_place _ c.find-p.ensures bytes_in c.requires c.if-end-at.false c.place_in.ensures

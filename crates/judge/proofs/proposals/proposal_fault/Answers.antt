-- `proposals::proposal_fault` meets its contract: the proposal of the id is sought, and the record held against it.
use native.Mathlib.Omega.{arith}
use Rattle.model.specs.Number.{AreBytes}
use Rattle.keys.proofs.Keys.{known_bytes}
use Rattle.find.proofs.Queries.{proposal_query}
use Rattle.judge.proofs.Settled.{no_proposal, proposal_headed, time_width, flag_width, proposal_told}
use Rattle.judge.proofs.proposals.proposal_fault.Goals as goal

pub find_named-p-requires : goal.find_named-p-requires
find_named-p-requires c = (c.requires.0, c.requires.1, proposal_query _ c.requires.2)

pub returns-then-end-at : goal.returns-then-end-at
returns-then-end-at c = no_proposal _ c.args.rec.now c.find_named-p.ensures c.if-end-at.true

pub stored_fault-requires : goal.stored_fault-requires
stored_fault-requires c =
    let bytes_in : AreBytes c.args.s.now = known_bytes c.args.s.now (λ i. omega (arith, c.type_inv.s i)) in
    let r = c.args.rec.now in
    let p = c.find_named-p.ensures in
    let w = c.requires.0 in
    let l = c.if-end-at.false in
    (proposal_headed _ r p bytes_in w l, c.requires.1, time_width _ r p bytes_in w l, flag_width _ r p bytes_in w l)

pub returns : goal.returns
returns c =
    let bytes_in : AreBytes c.args.s.now = known_bytes c.args.s.now (λ i. omega (arith, c.type_inv.s i)) in
    proposal_told _ c.args.rec.now c.find_named-p.ensures bytes_in c.requires.0 c.if-end-at.false c.stored_fault.ensures

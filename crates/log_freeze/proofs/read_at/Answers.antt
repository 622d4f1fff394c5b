-- `log_freeze::read_at` meets its contract, exit by exit.
use native.Mathlib.Omega.{arith}
use mathlib.Core.Path.{◌≡◌, sym, ap, ◌∙◌}
use mathlib.Core.List.{[], ◌∷◌}
use lib.ListN.{drop}
use Rattle.model.specs.Number.{AreBytes}
use Rattle.model.specs.Shape.{framed}
use Rattle.model.specs.Record.{read}
use Rattle.model.specs.Reply.{accepted}
use Rattle.model.specs.Answers.{replied}
use Rattle.records.specs.Answers.{got_reply}
use Rattle.keys.proofs.Keys.{known_bytes}
use Rattle.keys.proofs.Found.{rest-lent}
use Rattle.log_freeze.proofs.Turns.{read-refused, read_other, read_first, read_misplaced}
use Rattle.log_freeze.proofs.read_at.Goals as goal

pub returns-then-run-at-ne-LOG_OFFSET : goal.returns-then-run-at-ne-LOG_OFFSET
returns-then-run-at-ne-LOG_OFFSET c =
    let bytes_in : AreBytes c.args.run.now = known_bytes c.args.run.now (λ i. omega (arith, c.shared_slice_known-2-1.given i)) in
    let used : (let a = c.args in accepted (c.in-Used.n ∷ []) ≡ got_reply (read framed (drop a.at a.run.now))) = let a = c.args in ap replied (sym c.in-Used.is) ∙ c.read_from.ensures ∙ ap (λ s. got_reply (read framed s)) (rest-lent a.at a.run.now) in
    read_other c.args.run.now bytes_in c.args.at c.requires.1 used c.if-run-at-ne-LOG_OFFSET.true

pub returns-then-at-ne0 : goal.returns-then-at-ne0
returns-then-at-ne0 c =
    let bytes_in : AreBytes c.args.run.now = known_bytes c.args.run.now (λ i. omega (arith, c.shared_slice_known-2-1.given i)) in
    let used : (let a = c.args in accepted (c.in-Used.n ∷ []) ≡ got_reply (read framed (drop a.at a.run.now))) = let a = c.args in ap replied (sym c.in-Used.is) ∙ c.read_from.ensures ∙ ap (λ s. got_reply (read framed s)) (rest-lent a.at a.run.now) in
    read_misplaced c.args.run.now bytes_in c.args.at c.requires.1 used c.if-run-at-ne-LOG_OFFSET.false c.if-at-ne0.true

pub returns-in-Refused : goal.returns-in-Refused
returns-in-Refused c =
    let bytes_in : AreBytes c.args.run.now = known_bytes c.args.run.now (λ i. omega (arith, c.type_inv.run i)) in
    read-refused c.args.run.now bytes_in c.args.at c.requires.1
    (ap replied (sym c.in-Refused.is) ∙ c.read_from.ensures ∙ ap (λ c. got_reply (read framed c)) (rest-lent c.args.at c.args.run.now))

pub returns-else-at-ne0 : goal.returns-else-at-ne0
returns-else-at-ne0 c =
    let bytes_in : AreBytes c.args.run.now = known_bytes c.args.run.now (λ i. omega (arith, c.shared_slice_known-2-1.given i)) in
    let used : (let a = c.args in accepted (c.in-Used.n ∷ []) ≡ got_reply (read framed (drop a.at a.run.now))) = let a = c.args in ap replied (sym c.in-Used.is) ∙ c.read_from.ensures ∙ ap (λ s. got_reply (read framed s)) (rest-lent a.at a.run.now) in
    read_first c.args.run.now bytes_in c.args.at c.requires.1 used c.if-at-ne0.false

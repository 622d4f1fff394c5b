-- `set_elr` meets its contract: no move where a list is missing, else the move of the ELR's record.
use mathlib.Core.Path.{◌≡◌, sym}
use native.Mathlib.Omega.{arith}
use lib.ListN.{take}
use lib.Seq.{length-take-le}
use Rattle.keys.proofs.Keys.{known_bytes}
use Rattle.entries.specs.Entries.{IsRecord, record_in}
use Rattle.apply_updates.specs.Updates.{updated_elr}
use Rattle.apply_updates.proofs.Moved.{no_eligible, no_known, elr_is, elr_plain, elr_made}
use Rattle.apply_updates.proofs.set_elr.Goals as goal

pub returns-then-not-has : goal.returns-then-not-has
returns-then-not-has c =
    no_eligible c.requires.0 (record_in c.args.rec.now).run c.has.ensures c.if-not-has.true-raw

pub returns-then-not-has-2 : goal.returns-then-not-has-2
returns-then-not-has-2 c =
    no_known c.requires.0 (record_in c.args.rec.now).run c.has.ensures c.if-not-has.false-raw c.has-2.ensures c.if-not-has-2.true-raw

pub slice_bounds-set-end-2 : goal.slice_bounds-set-end-2
slice_bounds-set-end-2 c =
    let e = c.elr_record-n in
    sym (length-take-le _ e.new.b (omega (arith, e.ensures.1, e.auto.b, c.requires.3)))

pub set-requires : goal.set-requires
set-requires c =
    let elr : IsRecord (take c.elr_record-n.result c.elr_record-n.new.b) × (record_in (take c.elr_record-n.result c.elr_record-n.new.b) ≡ updated_elr (record_in c.args.rec.now).run) = let s = c.args.rec.now in let are = known_bytes s (λ i. omega (arith, c.type_inv.rec i)) in elr_is s c.requires.1 are c.has.ensures c.if-not-has.false-raw c.has-2.ensures c.if-not-has-2.false-raw _ c.elr_record-n.ensures.0 in
    let e = elr in
    (c.requires.0, e.0, elr_plain (record_in c.args.rec.now).run e.1, c.requires.2)

pub returns : goal.returns
returns c =
    let elr : IsRecord (take c.elr_record-n.result c.elr_record-n.new.b) × (record_in (take c.elr_record-n.result c.elr_record-n.new.b) ≡ updated_elr (record_in c.args.rec.now).run) = let s = c.args.rec.now in let are = known_bytes s (λ i. omega (arith, c.type_inv.rec i)) in elr_is s c.requires.1 are c.has.ensures c.if-not-has.false-raw c.has-2.ensures c.if-not-has-2.false-raw _ c.elr_record-n.ensures.0 in
    let run = (record_in c.args.rec.now).run in
    elr_made run c.set.ensures elr.1 c.has.ensures c.if-not-has.false-raw
    c.has-2.ensures c.if-not-has-2.false-raw

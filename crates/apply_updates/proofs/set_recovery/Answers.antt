-- `set_recovery` meets its contract: no move where there is none, else the move of the recovery's record.
use mathlib.Core.Path.{◌≡◌, sym}
use native.Mathlib.Omega.{arith}
use lib.ListN.{take}
use lib.Seq.{length-take-le}
use Rattle.keys.proofs.Keys.{known_bytes}
use Rattle.entries.specs.Entries.{IsRecord, record_in}
use Rattle.apply_updates.specs.Updates.{updated_recovery}
use Rattle.apply_updates.proofs.Moved.{no_recovery, recovery_is, recovery_plain, recovery_made}
use Rattle.apply_updates.proofs.set_recovery.Goals as goal

pub returns-then-not-has : goal.returns-then-not-has
returns-then-not-has c =
    no_recovery c.requires.0 (record_in c.args.rec.now).run c.has.ensures c.if-not-has.true-raw

pub slice_bounds-set-end-2 : goal.slice_bounds-set-end-2
slice_bounds-set-end-2 c =
    let e = c.recovery_record-n in
    sym (length-take-le _ e.new.b (omega (arith, e.ensures.1, e.auto.b, c.requires.3)))

pub set-requires : goal.set-requires
set-requires c =
    let recovery : IsRecord (take c.recovery_record-n.result c.recovery_record-n.new.b) × (record_in (take c.recovery_record-n.result c.recovery_record-n.new.b) ≡ updated_recovery (record_in c.args.rec.now).run) = let s = c.args.rec.now in let are = known_bytes s (λ i. omega (arith, c.type_inv.rec i)) in recovery_is s c.requires.1 are c.has.ensures c.if-not-has.false-raw _ c.recovery_record-n.ensures.0 in
    let e = recovery in
    (c.requires.0, e.0, recovery_plain (record_in c.args.rec.now).run e.1, c.requires.2)

pub returns : goal.returns
returns c =
    let recovery : IsRecord (take c.recovery_record-n.result c.recovery_record-n.new.b) × (record_in (take c.recovery_record-n.result c.recovery_record-n.new.b) ≡ updated_recovery (record_in c.args.rec.now).run) = let s = c.args.rec.now in let are = known_bytes s (λ i. omega (arith, c.type_inv.rec i)) in recovery_is s c.requires.1 are c.has.ensures c.if-not-has.false-raw _ c.recovery_record-n.ensures.0 in
    let run = (record_in c.args.rec.now).run in
    recovery_made run c.set.ensures recovery.1 c.has.ensures c.if-not-has.false-raw

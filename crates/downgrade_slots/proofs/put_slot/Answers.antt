-- `downgrade_slots::put_slot` meets its contract: the node's eight bytes are written with the slot's record.
use mathlib.Core.Path.{◌≡◌, sym, subst}
use Prim.Native.Nat.{◌+◌, ◌≤◌}
use lib.ListN.{length}
use Rattle.model.specs.Number.{bytes}
use Rattle.model.specs.Record.{record_bytes}
use Rattle.records.specs.Answers.{put_at}
use Rattle.downgrade_slots.specs.Slots.{assigning}
use Rattle.downgrade_slots.proofs.Records.{slot-none, slot_fits, slot-put}
use Rattle.downgrade_slots.proofs.put_slot.Goals as goal

pub returns-then-same : goal.returns-then-same
returns-then-same c = slot-none _ _ _ _ c.same.ensures c.args.out.now _ c.if-same.true

pub put_assignment-requires : goal.put_assignment-requires
put_assignment-requires c =
    let a = c.args in
    let fits = slot_fits a.name.now a.number.now (bytes 8 a.node.0) a.dir.now c.same.ensures a.out.now _ c.if-same.false c.requires in
    subst (λ v. a.at + length (record_bytes (assigning a.name.now a.number.now v)) ≤ length a.out.now) (sym c.put.ensures) fits

pub returns : goal.returns
returns c =
    let a = c.args in
    let put = c.put_assignment in
    let said = subst
    (λ v. (put.result ≡ a.at + length (record_bytes (assigning a.name.now a.number.now v))) ×
    (put.new.out ≡ put_at a.out.now a.at (record_bytes (assigning a.name.now a.number.now v))))
    c.put.ensures put.ensures in
    slot-put a.name.now a.number.now (bytes 8 a.node.0) a.dir.now c.same.ensures a.out.now _ c.if-same.false said

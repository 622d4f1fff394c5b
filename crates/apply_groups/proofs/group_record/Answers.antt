-- `apply_groups::group_record` meets its contract: the kind, the body's length, the fields of tag 1 and an empty name, one after another.
use Prim.Native.Nat.{◌≤◌}
use mathlib.Core.Path.{sym}
use native.Mathlib.Omega.{arith}
use lib.ListN.{length}
use lib.Seq.{length-take-le}
use Rattle.model.specs.Number.{AreBytes}
use Rattle.keys.proofs.Keys.{known_bytes}
use Rattle.entries.proofs.Changes.{is_keyed}
use Rattle.apply_groups.proofs.Records.{group_written}
use Rattle.apply_groups.proofs.group_record.Goals as goal

pub slice_bounds-copy-end : goal.slice_bounds-copy-end
slice_bounds-copy-end c =
    let headed : 3 ≤ length c.args.rec.now = (is_keyed _ c.requires.0).headed in
    sym (length-take-le 1 c.args.rec.now (omega (arith, headed)))

pub copy-requires : goal.copy-requires
copy-requires c =
    let headed : 3 ≤ length c.args.rec.now = (is_keyed _ c.requires.0).headed in
    omega (arith, length-take-le 1 c.args.rec.now (omega (arith, headed)), headed, c.requires.2)

pub returns : goal.returns
returns c =
    let bytes_in : AreBytes c.args.rec.now = known_bytes c.args.rec.now (λ i. omega (arith, c.type_inv.rec i)) in
    group_written c.args.rec.now bytes_in c.requires.0 c.requires.1 _ c.leading_end-n.ensures c.args.b.now c.copy.new.dst
    c.put.new.s c.copy-2.new.dst c.put-2.new.s c.requires.2 c.copy.ensures c.copy.auto.dst c.put.ensures c.put.auto.s
    c.copy-2.ensures c.copy-2.auto.dst c.put-2.ensures

-- `apply_groups::join` meets its contract: the group is taken out of the empty ones, and the member is put among the real entries.
use mathlib.Core.Path.{sym}
use native.Mathlib.Omega.{arith}
use lib.ListN.{take}
use lib.Seq.{length-take-le}
use Rattle.model.specs.Number.{AreBytes}
use Rattle.keys.proofs.Keys.{known_bytes}
use Rattle.entries.specs.Entries.{IsRecord}
use Rattle.entries.proofs.Changes.{is_keyed}
use Rattle.apply_work.proofs.Made.{record-size}
use Rattle.apply_groups.proofs.Records.{group_is}
use Rattle.apply_groups.proofs.Members.{member_kept, joined}
use Rattle.apply_groups.proofs.join.Goals as goal

pub slice_bounds-drop_group-end-2 : goal.slice_bounds-drop_group-end-2
slice_bounds-drop_group-end-2 c =
    sym (length-take-le _ c.group_record-n.new.b (omega (arith, c.group_record-n.ensures.1, c.group_record-n.auto.b, c.requires.4)))

pub drop_group-left-requires : goal.drop_group-left-requires
drop_group-left-requires c =
    let bytes_in : AreBytes c.args.rec.now = known_bytes c.args.rec.now (λ i. omega (arith, c.type_inv.rec i)) in
    let group-record : IsRecord (take c.group_record-n.result c.group_record-n.new.b) = group_is c.args.rec.now _ bytes_in c.requires.1 c.requires.2 c.group_record-n.ensures.0 in
    (c.requires.0, is_keyed _ group-record)

pub put_real-requires : goal.put_real-requires
put_real-requires c = (
  c.drop_group-left.ensures.0,
  c.requires.1,
  member_kept _ c.requires.2,
  omega (arith, record-size _ c.requires.1, c.drop_group-left.ensures.3, c.drop_group-left.auto.w, c.requires.3),
)

pub returns : goal.returns
returns c =
    let bytes_in : AreBytes c.args.rec.now = known_bytes c.args.rec.now (λ i. omega (arith, c.type_inv.rec i)) in
    joined c.args.rec.now _ bytes_in c.requires.1 c.requires.2 c.group_record-n.ensures.0 c.args.w.now c.args.bounds
    c.drop_group-left.ensures c.put_real.ensures

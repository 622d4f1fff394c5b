-- `apply_groups::leave` meets its contract: the member is taken out of the real entries, and where no other of its group is there the group is put.
use Prim.Native.Nat.{◌≤◌}
use mathlib.Core.Path.{◌≡◌, sym}
use native.Mathlib.Omega.{arith}
use lib.ListN.{length, take}
use lib.Seq.{length-take-le}
use Rattle.model.specs.Number.{AreBytes}
use Rattle.keys.proofs.Keys.{known_bytes}
use Rattle.entries.specs.Entries.{IsRecord}
use Rattle.entries.proofs.Changes.{is_keyed}
use Rattle.apply_work.proofs.Made.{record-size}
use Rattle.apply_groups.proofs.Records.{group_is}
use Rattle.apply_groups.proofs.Members.{group_told, left-others, left-last}
use Rattle.apply_groups.proofs.leave.Goals as goal

pub drop_real-left-requires : goal.drop_real-left-requires
drop_real-left-requires c =
    (c.requires.0, is_keyed _ c.requires.1)

pub slice_bounds-is_apart-end-2 : goal.slice_bounds-is_apart-end-2
slice_bounds-is_apart-end-2 c =
    let good = c.drop_real-left.ensures.0 in
    sym (length-take-le _ c.drop_real-left.new.w (omega (arith, good.order, good.fits)))

pub slice_bounds-is_apart-end-4 : goal.slice_bounds-is_apart-end-4
slice_bounds-is_apart-end-4 c =
    let within : c.group_record-n.result ≤ length c.group_record-n.new.b = omega (arith, c.group_record-n.ensures.1, c.group_record-n.auto.b, c.requires.5) in
    let group-long : c.group_record-n.result ≡ length (take c.group_record-n.result c.group_record-n.new.b) = sym (length-take-le _ c.group_record-n.new.b within) in
    group-long

pub is_apart-requires : goal.is_apart-requires
is_apart-requires c =
    let bytes_in : AreBytes c.args.rec.now = known_bytes c.args.rec.now (λ i. omega (arith, c.type_inv.rec i)) in
    let group-record : IsRecord (take c.group_record-n.result c.group_record-n.new.b) = group_is c.args.rec.now _ bytes_in c.requires.1 c.requires.2 c.group_record-n.ensures.0 in (
      c.drop_real-left.ensures.0.reals,
      group-record,
      group_told c.args.rec.now _ bytes_in c.requires.1 c.requires.2 c.group_record-n.ensures.0 c.requires.3,
    )

pub slice_bounds-put_group-end-then-is_apart : goal.slice_bounds-put_group-end-then-is_apart
slice_bounds-put_group-end-then-is_apart c =
    let within : c.group_record-n.result ≤ length c.group_record-n.new.b = omega (arith, c.group_record-n.ensures.1, c.group_record-n.auto.b, c.requires.5) in
    let group-long : c.group_record-n.result ≡ length (take c.group_record-n.result c.group_record-n.new.b) = sym (length-take-le _ c.group_record-n.new.b within) in
    group-long

pub put_group-requires : goal.put_group-requires
put_group-requires c =
    let bytes_in : AreBytes c.args.rec.now = known_bytes c.args.rec.now (λ i. omega (arith, c.type_inv.rec i)) in
    let within : c.group_record-n.result ≤ length c.group_record-n.new.b = omega (arith, c.group_record-n.ensures.1, c.group_record-n.auto.b, c.requires.5) in
    let group-long : c.group_record-n.result ≡ length (take c.group_record-n.result c.group_record-n.new.b) = sym (length-take-le _ c.group_record-n.new.b within) in
    let group-record : IsRecord (take c.group_record-n.result c.group_record-n.new.b) = group_is c.args.rec.now _ bytes_in c.requires.1 c.requires.2 c.group_record-n.ensures.0 in (
      c.drop_real-left.ensures.0,
      group-record,
      omega (arith, group-long, c.group_record-n.ensures.1, record-size _ c.requires.1, c.drop_real-left.ensures.3, c.drop_real-left.auto.w, c.requires.4),
    )

pub returns-then-is_apart : goal.returns-then-is_apart
returns-then-is_apart c =
    let bytes_in : AreBytes c.args.rec.now = known_bytes c.args.rec.now (λ i. omega (arith, c.type_inv.rec i)) in
    let within : c.group_record-n.result ≤ length c.group_record-n.new.b = omega (arith, c.group_record-n.ensures.1, c.group_record-n.auto.b, c.requires.5) in
    let group-long : c.group_record-n.result ≡ length (take c.group_record-n.result c.group_record-n.new.b) = sym (length-take-le _ c.group_record-n.new.b within) in
    left-last c.args.rec.now _ bytes_in c.requires.1 c.requires.2 c.group_record-n.ensures.0 c.args.w.now c.args.bounds
    c.drop_real-left.ensures c.is_apart.ensures c.if-is_apart.true c.put_group.ensures (omega (arith, group-long, c.group_record-n.ensures.1))

pub returns : goal.returns
returns c =
    let bytes_in : AreBytes c.args.rec.now = known_bytes c.args.rec.now (λ i. omega (arith, c.type_inv.rec i)) in
    left-others c.args.rec.now _ bytes_in c.requires.1 c.requires.2 c.group_record-n.ensures.0 c.args.w.now c.args.bounds
    c.drop_real-left.ensures c.is_apart.ensures c.if-is_apart.false

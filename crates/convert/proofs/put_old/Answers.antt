-- `convert::put_old` meets its contract.
use native.Mathlib.Omega.{arith}
use Prim.Native.Nat.{◌≤◌}
use lib.ListN.{length}
use Rattle.model.specs.Number.{AreBytes}
use Rattle.keys.proofs.Keys.{known_bytes}
use Rattle.convert.proofs.Forms.{old_long, old-short, old-written}
use Rattle.convert.proofs.put_old.Goals as goal

pub overflow_sub-len : goal.overflow_sub-len
overflow_sub-len c =
    let bytes_in : AreBytes c.args.run.now = known_bytes c.args.run.now (λ i. omega (arith, c.type_inv.run i)) in
    let long : 14 ≤ length c.args.run.now = old_long c.args.run.now bytes_in c.requires in
    long

pub returns-then-out-len : goal.returns-then-out-len
returns-then-out-len c =
    let bytes_in : AreBytes c.args.run.now = known_bytes c.args.run.now (λ i. omega (arith, c.type_inv.run i)) in
    let a = c.args in
    let the_whole = old-short a.run.now bytes_in c.requires a.out.now c.if-out-len.true in record { result_value = the_whole.0; out_after = the_whole.1 }

pub slice_bounds-copy-count : goal.slice_bounds-copy-count
slice_bounds-copy-count c =
    let bytes_in : AreBytes c.args.run.now = known_bytes c.args.run.now (λ i. omega (arith, c.type_inv.run i)) in
    let long : 14 ≤ length c.args.run.now = old_long c.args.run.now bytes_in c.requires in
    long

pub slice_bounds-copy-start : goal.slice_bounds-copy-start
slice_bounds-copy-start c =
    let bytes_in : AreBytes c.args.run.now = known_bytes c.args.run.now (λ i. omega (arith, c.type_inv.run i)) in
    let long : 14 ≤ length c.args.run.now = old_long c.args.run.now bytes_in c.requires in
    long

pub get-requires : goal.get-requires
get-requires c =
    let bytes_in : AreBytes c.args.run.now = known_bytes c.args.run.now (λ i. omega (arith, c.type_inv.run i)) in
    let long : 14 ≤ length c.args.run.now = old_long c.args.run.now bytes_in c.requires in
    (omega arith, omega (arith, long))

pub returns : goal.returns
returns c =
    let bytes_in : AreBytes c.args.run.now = known_bytes c.args.run.now (λ i. omega (arith, c.type_inv.run i)) in
    let a = c.args in
    let the_whole = old-written a.run.now bytes_in c.requires a.out.now c.if-out-len.false c.copy.ensures c.get.ensures.0 in record { result_value = the_whole.0; out_after = the_whole.1 }

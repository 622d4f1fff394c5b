use mathlib.Core.Path.{sym, ap, subst, ◌∙◌}
use Prim.Native.Nat.{ℕ, ◌+◌, ◌≤◌}
use native.Mathlib.Omega.{arith}
use lib.ListN.{length, length-replicate}
use Rattle.model.specs.Number.{AreBytes}
use Rattle.model.specs.declared.answers.Answer.TheVariants.{Used}
use Rattle.keys.proofs.Keys.{known_bytes}
use Rattle.log_freeze.specs.Slots.{slot_count, ReadAs, Reached}
use Rattle.log_freeze.proofs.Turns.{part-head, part_fits, part-flag, part-noted, turned, begun, finished}
use Rattle.log_freeze.proofs.note_all.Goals as goal

pub loop-at-init : goal.loop-at-init
loop-at-init c =
    (begun _ _ _ c.requires.0 c.requires.1, ap length c.requires.0 ∙ length-replicate {A = ℕ} slot_count 0)

pub read_at-requires : goal.read_at-requires
read_at-requires c = (c.all_rows-rows.ensures, c.loop-at-test.true)

pub shape_of-slots-in-Refused : goal.shape_of-slots-in-Refused
shape_of-slots-in-Refused c =
    omega (arith, c.loop-at.invariant.1, ap length c.requires.0, length-replicate {A = ℕ} slot_count 0)

pub returns-in-Refused : goal.returns-in-Refused
returns-in-Refused c =
    c.loop-at.invariant.0.checks ∙ subst (ReadAs _ c.loop-at.at) c.in-Refused.is c.read_at.ensures

pub overflow_add-end : goal.overflow_add-end
overflow_add-end c =
    let bytes_in : AreBytes c.args.run.now = known_bytes c.args.run.now (λ i. omega (arith, c.type_inv.run i)) in
    let it : (let a = c.args in ReadAs a.run.now c.loop-at.at (Used c.in-Used.n)) = subst (ReadAs _ c.loop-at.at) c.in-Used.is c.read_at.ensures in
    let places : (let a = c.args in (3 ≤ c.in-Used.n) × (c.loop-at.at + c.in-Used.n ≤ length a.run.now)) = part_fits c.args.run.now bytes_in c.loop-at.at it.0 _ it.1 in
    omega (arith, places)

pub slice_bounds-note-end : goal.slice_bounds-note-end
slice_bounds-note-end c =
    let bytes_in : AreBytes c.args.run.now = known_bytes c.args.run.now (λ i. omega (arith, c.type_inv.run i)) in
    let it : (let a = c.args in ReadAs a.run.now c.loop-at.at (Used c.in-Used.n)) = subst (ReadAs _ c.loop-at.at) c.in-Used.is c.read_at.ensures in
    let places : (let a = c.args in (3 ≤ c.in-Used.n) × (c.loop-at.at + c.in-Used.n ≤ length a.run.now)) = part_fits c.args.run.now bytes_in c.loop-at.at it.0 _ it.1 in
    places.1

pub note-requires : goal.note-requires
note-requires c =
    let bytes_in : AreBytes c.args.run.now = known_bytes c.args.run.now (λ i. omega (arith, c.type_inv.run i)) in
    let it : (let a = c.args in ReadAs a.run.now c.loop-at.at (Used c.in-Used.n)) = subst (ReadAs _ c.loop-at.at) c.in-Used.is c.read_at.ensures in
    let places : (let a = c.args in (3 ≤ c.in-Used.n) × (c.loop-at.at + c.in-Used.n ≤ length a.run.now)) = part_fits c.args.run.now bytes_in c.loop-at.at it.0 _ it.1 in
    let head = part-head c.args.run.now bytes_in c.loop-at.at it.0 _ it.1 in
    let flag = part-flag c.args.run.now bytes_in c.loop-at.at it.0 _ it.1 in
    (head, flag, omega (arith, places))

pub loop-at-smaller : goal.loop-at-smaller
loop-at-smaller c =
    let bytes_in : AreBytes c.args.run.now = known_bytes c.args.run.now (λ i. omega (arith, c.type_inv.run i)) in
    let it : (let a = c.args in ReadAs a.run.now c.loop-at.at (Used c.in-Used.n)) = subst (ReadAs _ c.loop-at.at) c.in-Used.is c.read_at.ensures in
    let places : (let a = c.args in (3 ≤ c.in-Used.n) × (c.loop-at.at + c.in-Used.n ≤ length a.run.now)) = part_fits c.args.run.now bytes_in c.loop-at.at it.0 _ it.1 in
    omega (arith, places)

pub loop-at-preserved : goal.loop-at-preserved
loop-at-preserved c =
    let bytes_in : AreBytes c.args.run.now = known_bytes c.args.run.now (λ i. omega (arith, c.type_inv.run i)) in
    let it : (let a = c.args in ReadAs a.run.now c.loop-at.at (Used c.in-Used.n)) = subst (ReadAs _ c.loop-at.at) c.in-Used.is c.read_at.ensures in
    let a = c.args in
    let turn = turned a.run.now a.name.now c.requires.1 c.loop-at.at it.0 _ it.1 c.loop-at.slots c.loop-at.invariant.1 c.loop-at.invariant.0 it.2 in
    let same = part-noted a.run.now bytes_in c.loop-at.at it.0 _ it.1 a.name.now c.loop-at.slots in (
      subst (Reached a.run.now a.name.now _) (sym c.note.ensures) (subst (Reached a.run.now a.name.now _) (sym same) turn),
      omega (arith, c.note.auto.slots, c.loop-at.invariant.1),
    )

pub shape_of-slots : goal.shape_of-slots
shape_of-slots c = omega (arith, c.loop-at.invariant.1, ap length c.requires.0, length-replicate {A = ℕ} slot_count 0)

pub returns : goal.returns
returns c = finished c.loop-at.invariant.0 c.loop-at-test.false

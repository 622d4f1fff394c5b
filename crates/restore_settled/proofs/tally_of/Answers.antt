use native.Mathlib.Omega.{arith}
use Rattle.model.specs.Number.{AreBytes}
use Rattle.keys.proofs.Keys.{known_bytes}
use Rattle.entries.proofs.Turns.{Stands, stands, ended, not_torn, lent-keyed, turn_falls}
use Rattle.image_counts.proofs.Tallies.{bounds, passed_start, passed-end, passed_less, passed_equal, passed_greater}
use Rattle.image_counts.proofs.Topics.{headed_here}
use Rattle.restore_settled.proofs.Tallies.{folded_start, folded-end, folded_less, folded_equal, folded_greater}
use Rattle.restore_settled.proofs.tally_of.Goals as goal

pub loop-start-init : goal.loop-start-init
loop-start-init c =
    (passed_start _ _ c.requires.0 c.requires.1, folded_start _ _ _)

pub slice_bounds-beside-count : goal.slice_bounds-beside-count
slice_bounds-beside-count c =
    let bytes_in : AreBytes c.args.s.now = known_bytes c.args.s.now (λ i. omega (arith, c.type_inv.s i)) in
    let entry : Stands c.args.s.now c.loop-start.c.at c.in-Entry.start c.in-Entry.end c.in-Entry.next = stands _ bytes_in _ c.loop-start.invariant.0.entries c.next.ensures c.in-Entry.is in
    omega (arith, bounds entry)

pub slice_bounds-beside-start : goal.slice_bounds-beside-start
slice_bounds-beside-start c =
    let bytes_in : AreBytes c.args.s.now = known_bytes c.args.s.now (λ i. omega (arith, c.type_inv.s i)) in
    let entry : Stands c.args.s.now c.loop-start.c.at c.in-Entry.start c.in-Entry.end c.in-Entry.next = stands _ bytes_in _ c.loop-start.invariant.0.entries c.next.ensures c.in-Entry.is in
    omega (arith, bounds entry)

pub slice_bounds-beside-end : goal.slice_bounds-beside-end
slice_bounds-beside-end c =
    let bytes_in : AreBytes c.args.s.now = known_bytes c.args.s.now (λ i. omega (arith, c.type_inv.s i)) in
    let entry : Stands c.args.s.now c.loop-start.c.at c.in-Entry.start c.in-Entry.end c.in-Entry.next = stands _ bytes_in _ c.loop-start.invariant.0.entries c.next.ensures c.in-Entry.is in
    omega (arith, bounds entry)

pub beside-requires : goal.beside-requires
beside-requires c =
    let bytes_in : AreBytes c.args.s.now = known_bytes c.args.s.now (λ i. omega (arith, c.type_inv.s i)) in
    let entry : Stands c.args.s.now c.loop-start.c.at c.in-Entry.start c.in-Entry.end c.in-Entry.next = stands _ bytes_in _ c.loop-start.invariant.0.entries c.next.ensures c.in-Entry.is in
    lent-keyed _ _ _ _ _ entry

pub loop-start-smaller-in-Less : goal.loop-start-smaller-in-Less
loop-start-smaller-in-Less c =
    let bytes_in : AreBytes c.args.s.now = known_bytes c.args.s.now (λ i. omega (arith, c.type_inv.s i)) in
    let entry : Stands c.args.s.now c.loop-start.c.at c.in-Entry.start c.in-Entry.end c.in-Entry.next = stands _ bytes_in _ c.loop-start.invariant.0.entries c.next.ensures c.in-Entry.is in
    turn_falls _ _ _ _ _ entry

pub loop-start-preserved-in-Less : goal.loop-start-preserved-in-Less
loop-start-preserved-in-Less c =
    let bytes_in : AreBytes c.args.s.now = known_bytes c.args.s.now (λ i. omega (arith, c.type_inv.s i)) in
    let entry : Stands c.args.s.now c.loop-start.c.at c.in-Entry.start c.in-Entry.end c.in-Entry.next = stands _ bytes_in _ c.loop-start.invariant.0.entries c.next.ensures c.in-Entry.is in (
      passed_less c.loop-start.invariant.0 entry c.beside.result c.beside.ensures c.in-Less.is,
      folded_less c.loop-start.invariant.1 entry c.beside.result c.beside.ensures c.in-Less.is,
    )

pub overflow_add-count : goal.overflow_add-count
overflow_add-count c =
    omega (arith, c.loop-start.invariant.0.low, c.loop-start.invariant.0.most)

pub slice_bounds-replica_count-count : goal.slice_bounds-replica_count-count
slice_bounds-replica_count-count c =
    let bytes_in : AreBytes c.args.s.now = known_bytes c.args.s.now (λ i. omega (arith, c.type_inv.s i)) in
    let entry : Stands c.args.s.now c.loop-start.c.at c.in-Entry.start c.in-Entry.end c.in-Entry.next = stands _ bytes_in _ c.loop-start.invariant.0.entries c.next.ensures c.in-Entry.is in
    omega (arith, bounds entry)

pub slice_bounds-replica_count-start : goal.slice_bounds-replica_count-start
slice_bounds-replica_count-start c =
    let bytes_in : AreBytes c.args.s.now = known_bytes c.args.s.now (λ i. omega (arith, c.type_inv.s i)) in
    let entry : Stands c.args.s.now c.loop-start.c.at c.in-Entry.start c.in-Entry.end c.in-Entry.next = stands _ bytes_in _ c.loop-start.invariant.0.entries c.next.ensures c.in-Entry.is in
    omega (arith, bounds entry)

pub slice_bounds-replica_count-end : goal.slice_bounds-replica_count-end
slice_bounds-replica_count-end c =
    let bytes_in : AreBytes c.args.s.now = known_bytes c.args.s.now (λ i. omega (arith, c.type_inv.s i)) in
    let entry : Stands c.args.s.now c.loop-start.c.at c.in-Entry.start c.in-Entry.end c.in-Entry.next = stands _ bytes_in _ c.loop-start.invariant.0.entries c.next.ensures c.in-Entry.is in
    omega (arith, bounds entry)

pub replica_count-factor-requires : goal.replica_count-factor-requires
replica_count-factor-requires c =
    let bytes_in : AreBytes c.args.s.now = known_bytes c.args.s.now (λ i. omega (arith, c.type_inv.s i)) in
    let entry : Stands c.args.s.now c.loop-start.c.at c.in-Entry.start c.in-Entry.end c.in-Entry.next = stands _ bytes_in _ c.loop-start.invariant.0.entries c.next.ensures c.in-Entry.is in
    headed_here entry

pub loop-start-smaller : goal.loop-start-smaller
loop-start-smaller c =
    let bytes_in : AreBytes c.args.s.now = known_bytes c.args.s.now (λ i. omega (arith, c.type_inv.s i)) in
    let entry : Stands c.args.s.now c.loop-start.c.at c.in-Entry.start c.in-Entry.end c.in-Entry.next = stands _ bytes_in _ c.loop-start.invariant.0.entries c.next.ensures c.in-Entry.is in
    turn_falls _ _ _ _ _ entry

pub loop-start-preserved : goal.loop-start-preserved
loop-start-preserved c =
    let bytes_in : AreBytes c.args.s.now = known_bytes c.args.s.now (λ i. omega (arith, c.type_inv.s i)) in
    let entry : Stands c.args.s.now c.loop-start.c.at c.in-Entry.start c.in-Entry.end c.in-Entry.next = stands _ bytes_in _ c.loop-start.invariant.0.entries c.next.ensures c.in-Entry.is in (
      passed_equal c.loop-start.invariant.0 entry c.beside.result c.beside.ensures c.in-Equal.is,
      folded_equal c.loop-start.invariant.1 entry c.beside.result c.beside.ensures c.in-Equal.is _ c.replica_count-factor.ensures,
    )

pub returns-in-Greater : goal.returns-in-Greater
returns-in-Greater c =
    let bytes_in : AreBytes c.args.s.now = known_bytes c.args.s.now (λ i. omega (arith, c.type_inv.s i)) in
    let entry : Stands c.args.s.now c.loop-start.c.at c.in-Entry.start c.in-Entry.end c.in-Entry.next = stands _ bytes_in _ c.loop-start.invariant.0.entries c.next.ensures c.in-Entry.is in (
      passed_greater c.loop-start.invariant.0 entry c.beside.result c.beside.ensures c.in-Greater.is,
      folded_greater c.loop-start.invariant.1 entry c.beside.result c.beside.ensures c.in-Greater.is c.loop-start.invariant.0.ascends,
    )

pub returns-in-Torn : goal.returns-in-Torn
returns-in-Torn c =
    let bytes_in : AreBytes c.args.s.now = known_bytes c.args.s.now (λ i. omega (arith, c.type_inv.s i)) in
    not_torn _ bytes_in _ c.loop-start.invariant.0.entries c.next.ensures c.in-Torn.is

pub returns-in-End : goal.returns-in-End
returns-in-End c =
    let bytes_in : AreBytes c.args.s.now = known_bytes c.args.s.now (λ i. omega (arith, c.type_inv.s i)) in
    let h = c.loop-start.invariant in let past = ended _ bytes_in _ h.0.entries c.next.ensures c.in-End.is in
    (passed-end h.0 past, folded-end h.1 h.0.most past)

use native.Mathlib.Omega.{arith}
use Rattle.model.specs.Number.{AreBytes}
use Rattle.keys.proofs.Keys.{known_bytes}
use Rattle.entries.proofs.Turns.{Stands, stands, ended, not_torn, turn_falls}
use Rattle.records.proofs.Growing.{grown_length}
use Rattle.snapshot.proofs.Passes.{write_start, wrote, behind, sum-before, entry_fits, write_turn}
use Rattle.snapshot.proofs.put_entries.Goals as goal

pub loop-start-init : goal.loop-start-init
loop-start-init c =
    write_start _ _ c.requires.0 c.requires.1 c.requires.2 c.requires.3

pub place_entry-total-requires : goal.place_entry-total-requires
place_entry-total-requires c =
    let bytes_in : AreBytes c.args.s.now = known_bytes c.args.s.now (λ i. omega (arith, c.type_inv.s i)) in
    let entry : (Stands c.args.s.now c.loop-start.c.at c.in-Entry.start c.in-Entry.end c.in-Entry.next) = stands _ bytes_in _ c.loop-start.invariant.ahead.entries c.next.ensures c.in-Entry.is in
    let inv = c.loop-start.invariant in
    record { behind = (behind inv entry bytes_in, sum-before inv entry bytes_in); end_in_bounds = entry_fits inv entry bytes_in }

pub loop-start-smaller : goal.loop-start-smaller
loop-start-smaller c =
    let bytes_in : AreBytes c.args.s.now = known_bytes c.args.s.now (λ i. omega (arith, c.type_inv.s i)) in
    let entry : (Stands c.args.s.now c.loop-start.c.at c.in-Entry.start c.in-Entry.end c.in-Entry.next) = stands _ bytes_in _ c.loop-start.invariant.ahead.entries c.next.ensures c.in-Entry.is in
    turn_falls _ _ _ _ _ entry

pub loop-start-preserved : goal.loop-start-preserved
loop-start-preserved c =
    let bytes_in : AreBytes c.args.s.now = known_bytes c.args.s.now (λ i. omega (arith, c.type_inv.s i)) in
    let entry : (Stands c.args.s.now c.loop-start.c.at c.in-Entry.start c.in-Entry.end c.in-Entry.next) = stands _ bytes_in _ c.loop-start.invariant.ahead.entries c.next.ensures c.in-Entry.is in
    let inv = c.loop-start.invariant in
    let placed = c.place_entry-total.ensures in
    write_turn inv entry bytes_in placed.value placed.out_after

pub shape_of-out-in-Torn : goal.shape_of-out-in-Torn
shape_of-out-in-Torn c = grown_length c.loop-start.invariant.grows

pub returns-in-Torn : goal.returns-in-Torn
returns-in-Torn c =
    let bytes_in : AreBytes c.args.s.now = known_bytes c.args.s.now (λ i. omega (arith, c.type_inv.s i)) in
    not_torn _ bytes_in _ c.loop-start.invariant.ahead.entries c.next.ensures c.in-Torn.is

pub shape_of-out-in-End : goal.shape_of-out-in-End
shape_of-out-in-End c = grown_length c.loop-start.invariant.grows

pub returns-in-End : goal.returns-in-End
returns-in-End c =
    let bytes_in : AreBytes c.args.s.now = known_bytes c.args.s.now (λ i. omega (arith, c.type_inv.s i)) in
    rw c.requires.2 (wrote c.loop-start.invariant (ended _ bytes_in _ c.loop-start.invariant.ahead.entries c.next.ensures c.in-End.is))

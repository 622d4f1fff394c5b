use native.Mathlib.Omega.{arith}
use Rattle.model.specs.Number.{AreBytes}
use Rattle.keys.proofs.Keys.{known_bytes}
use Rattle.entries.proofs.Seeks.{here-start, found-end}
use Rattle.entries.proofs.Turns.{Stands, stands, ended, not_torn, lent-keyed, turn_falls, turn_less, turn_equal, turn_greater}
use Rattle.entries.proofs.seek.Goals as goal

pub loop-start-init : goal.loop-start-init
loop-start-init c = here-start _ _ c.requires.0

pub slice_bounds-compare_keys-count : goal.slice_bounds-compare_keys-count
slice_bounds-compare_keys-count c =
    let bytes_in : AreBytes c.args.s.now = known_bytes c.args.s.now (λ i. omega (arith, c.type_inv.s i)) in
    let entry : Stands c.args.s.now c.loop-start.c.at c.in-Entry.start c.in-Entry.end c.in-Entry.next = stands _ bytes_in _ c.loop-start.invariant.entries c.next.ensures c.in-Entry.is in
    let t = entry in omega (arith, t.first, t.last)

pub slice_bounds-compare_keys-start : goal.slice_bounds-compare_keys-start
slice_bounds-compare_keys-start c =
    let bytes_in : AreBytes c.args.s.now = known_bytes c.args.s.now (λ i. omega (arith, c.type_inv.s i)) in
    let entry : Stands c.args.s.now c.loop-start.c.at c.in-Entry.start c.in-Entry.end c.in-Entry.next = stands _ bytes_in _ c.loop-start.invariant.entries c.next.ensures c.in-Entry.is in
    let t = entry in omega (arith, t.first, t.last)

pub slice_bounds-compare_keys-end : goal.slice_bounds-compare_keys-end
slice_bounds-compare_keys-end c =
    let bytes_in : AreBytes c.args.s.now = known_bytes c.args.s.now (λ i. omega (arith, c.type_inv.s i)) in
    let entry : Stands c.args.s.now c.loop-start.c.at c.in-Entry.start c.in-Entry.end c.in-Entry.next = stands _ bytes_in _ c.loop-start.invariant.entries c.next.ensures c.in-Entry.is in
    let t = entry in omega (arith, t.first, t.last, t.entry.fits)

pub compare_keys-requires : goal.compare_keys-requires
compare_keys-requires c =
    let bytes_in : AreBytes c.args.s.now = known_bytes c.args.s.now (λ i. omega (arith, c.type_inv.s i)) in
    let entry : Stands c.args.s.now c.loop-start.c.at c.in-Entry.start c.in-Entry.end c.in-Entry.next = stands _ bytes_in _ c.loop-start.invariant.entries c.next.ensures c.in-Entry.is in
    (lent-keyed _ _ _ _ _ entry, c.requires.1)

pub loop-start-smaller : goal.loop-start-smaller
loop-start-smaller c =
    let bytes_in : AreBytes c.args.s.now = known_bytes c.args.s.now (λ i. omega (arith, c.type_inv.s i)) in
    let entry : Stands c.args.s.now c.loop-start.c.at c.in-Entry.start c.in-Entry.end c.in-Entry.next = stands _ bytes_in _ c.loop-start.invariant.entries c.next.ensures c.in-Entry.is in
    turn_falls _ _ _ _ _ entry

pub loop-start-preserved : goal.loop-start-preserved
loop-start-preserved c =
    let bytes_in : AreBytes c.args.s.now = known_bytes c.args.s.now (λ i. omega (arith, c.type_inv.s i)) in
    let entry : Stands c.args.s.now c.loop-start.c.at c.in-Entry.start c.in-Entry.end c.in-Entry.next = stands _ bytes_in _ c.loop-start.invariant.entries c.next.ensures c.in-Entry.is in
    turn_less _ _ _ _ _ entry bytes_in _ c.loop-start.invariant _ c.compare_keys.ensures
    c.in-Less.is

pub returns-in-Equal : goal.returns-in-Equal
returns-in-Equal c =
    let bytes_in : AreBytes c.args.s.now = known_bytes c.args.s.now (λ i. omega (arith, c.type_inv.s i)) in
    let entry : Stands c.args.s.now c.loop-start.c.at c.in-Entry.start c.in-Entry.end c.in-Entry.next = stands _ bytes_in _ c.loop-start.invariant.entries c.next.ensures c.in-Entry.is in
    turn_equal _ _ _ _ _ entry bytes_in _ c.loop-start.invariant _ c.compare_keys.ensures
    c.in-Equal.is

pub returns-in-Greater : goal.returns-in-Greater
returns-in-Greater c =
    let bytes_in : AreBytes c.args.s.now = known_bytes c.args.s.now (λ i. omega (arith, c.type_inv.s i)) in
    let entry : Stands c.args.s.now c.loop-start.c.at c.in-Entry.start c.in-Entry.end c.in-Entry.next = stands _ bytes_in _ c.loop-start.invariant.entries c.next.ensures c.in-Entry.is in
    turn_greater _ _ _ _ _ entry bytes_in _ c.loop-start.invariant _ c.compare_keys.ensures
    c.in-Greater.is

pub returns-in-Torn : goal.returns-in-Torn
returns-in-Torn c =
    let bytes_in : AreBytes c.args.s.now = known_bytes c.args.s.now (λ i. omega (arith, c.type_inv.s i)) in
    not_torn _ bytes_in _ c.loop-start.invariant.entries c.next.ensures c.in-Torn.is

pub returns-in-End : goal.returns-in-End
returns-in-End c =
    let bytes_in : AreBytes c.args.s.now = known_bytes c.args.s.now (λ i. omega (arith, c.type_inv.s i)) in
    let h = c.loop-start.invariant in
    let bytes = bytes_in in
    found-end _ bytes _ _ h (ended _ bytes _ h.entries c.next.ensures c.in-End.is)

-- `image_groups::begins_in` meets its contract: the first step finds the first entry, or there is none.
use native.Mathlib.Omega.{arith}
use Rattle.model.specs.Number.{AreBytes}
use Rattle.keys.proofs.Keys.{known_bytes}
use Rattle.entries.proofs.Turns.{Stands, stands, ended, not_torn}
use Rattle.image_groups.proofs.Places.{bounds, lent_record, first-here, first-none}
use Rattle.image_groups.proofs.begins_in.Goals as goal

pub slice_bounds-same_group-count : goal.slice_bounds-same_group-count
slice_bounds-same_group-count c =
    let bytes_in : AreBytes c.args.s.now = known_bytes c.args.s.now (λ i. omega (arith, c.type_inv.s i)) in
    let entry : (Stands c.args.s.now 0 c.in-Entry.start c.in-Entry.end c.in-Entry.next) = stands _ bytes_in 0 c.requires.0 c.next.ensures c.in-Entry.is in
    (bounds entry).0

pub slice_bounds-same_group-start : goal.slice_bounds-same_group-start
slice_bounds-same_group-start c =
    let bytes_in : AreBytes c.args.s.now = known_bytes c.args.s.now (λ i. omega (arith, c.type_inv.s i)) in
    let entry : (Stands c.args.s.now 0 c.in-Entry.start c.in-Entry.end c.in-Entry.next) = stands _ bytes_in 0 c.requires.0 c.next.ensures c.in-Entry.is in
    omega (arith, bounds entry)

pub slice_bounds-same_group-end : goal.slice_bounds-same_group-end
slice_bounds-same_group-end c =
    let bytes_in : AreBytes c.args.s.now = known_bytes c.args.s.now (λ i. omega (arith, c.type_inv.s i)) in
    let entry : (Stands c.args.s.now 0 c.in-Entry.start c.in-Entry.end c.in-Entry.next) = stands _ bytes_in 0 c.requires.0 c.next.ensures c.in-Entry.is in
    omega (arith, bounds entry)

pub same_group-requires : goal.same_group-requires
same_group-requires c =
    let bytes_in : AreBytes c.args.s.now = known_bytes c.args.s.now (λ i. omega (arith, c.type_inv.s i)) in
    let entry : (Stands c.args.s.now 0 c.in-Entry.start c.in-Entry.end c.in-Entry.next) = stands _ bytes_in 0 c.requires.0 c.next.ensures c.in-Entry.is in
    let p = c.requires in
    (lent_record entry, p.1, p.2)

pub returns-in-Entry : goal.returns-in-Entry
returns-in-Entry c =
    let bytes_in : AreBytes c.args.s.now = known_bytes c.args.s.now (λ i. omega (arith, c.type_inv.s i)) in
    let entry : (Stands c.args.s.now 0 c.in-Entry.start c.in-Entry.end c.in-Entry.next) = stands _ bytes_in 0 c.requires.0 c.next.ensures c.in-Entry.is in
    first-here _ _ entry _ c.same_group.ensures

pub returns-in-Torn : goal.returns-in-Torn
returns-in-Torn c =
    let bytes_in : AreBytes c.args.s.now = known_bytes c.args.s.now (λ i. omega (arith, c.type_inv.s i)) in
    not_torn _ bytes_in 0 c.requires.0 c.next.ensures c.in-Torn.is

pub returns-in-End : goal.returns-in-End
returns-in-End c =
    let bytes_in : AreBytes c.args.s.now = known_bytes c.args.s.now (λ i. omega (arith, c.type_inv.s i)) in
    first-none _ _ (ended _ bytes_in 0 c.requires.0 c.next.ensures c.in-End.is)

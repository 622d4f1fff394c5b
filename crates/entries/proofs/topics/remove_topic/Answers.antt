use Prim.Native.Nat.{◌≤◌}
use mathlib.Core.Path.{refl, sym}
use native.Mathlib.Omega.{arith}
use lib.ListN.{length, take}
use lib.Seq.{length-take-le}
use Rattle.model.specs.Number.{AreBytes}
use Rattle.model.specs.Move.{apart_from}
use Rattle.laws.specs.Numbers.{take_are_bytes}
use Rattle.keys.proofs.Keys.{known_bytes}
use Rattle.entries.proofs.Turns.{stands, ended, not_torn}
use Rattle.entries.proofs.Keeps.{kept-start, Turn, bounds, falls, here-keyed, passed_over, moved_down, closed}
use Rattle.entries.proofs.topics.remove_topic.Goals as goal

pub loop-start-init : goal.loop-start-init
loop-start-init c =
    kept-start _ c.args.w.now _ _ (known_bytes c.args.w.now (λ i. omega (arith, c.type_inv.w i))) c.requires.0 c.requires.3

pub slice_bounds-next-end : goal.slice_bounds-next-end
slice_bounds-next-end c =
    let within : c.args.to ≤ length c.args.w.now = omega (arith, c.requires.1, c.requires.2) in
    omega (arith, within, c.loop-start.invariant.same)

pub slice_bounds-next-end-in-loop-start : goal.slice_bounds-next-end-in-loop-start
slice_bounds-next-end-in-loop-start c =
    let within : c.args.to ≤ length c.args.w.now = omega (arith, c.requires.1, c.requires.2) in
    sym (length-take-le _ c.loop-start.w (omega (arith, within, c.loop-start.invariant.same)))

pub slice_bounds-is_apart-count : goal.slice_bounds-is_apart-count
slice_bounds-is_apart-count c =
    let within : c.args.to ≤ length c.args.w.now = omega (arith, c.requires.1, c.requires.2) in
    let bytes_in : AreBytes (take c.args.to c.loop-start.w) = take_are_bytes c.args.to c.loop-start.w c.loop-start.invariant.are in
    let turn : (let s = c.args in Turn (apart_from s.name.now) s.w.now c.loop-start.w s.from s.to c.loop-start.c.at c.loop-start.top c.in-Entry.start c.in-Entry.end c.in-Entry.next) = record { within = within; walk = c.loop-start.invariant; found = stands _ bytes_in _ c.loop-start.invariant.entries c.next.ensures c.in-Entry.is } in
    (bounds turn).1

pub slice_bounds-is_apart-start : goal.slice_bounds-is_apart-start
slice_bounds-is_apart-start c =
    let within : c.args.to ≤ length c.args.w.now = omega (arith, c.requires.1, c.requires.2) in
    let bytes_in : AreBytes (take c.args.to c.loop-start.w) = take_are_bytes c.args.to c.loop-start.w c.loop-start.invariant.are in
    let turn : (let s = c.args in Turn (apart_from s.name.now) s.w.now c.loop-start.w s.from s.to c.loop-start.c.at c.loop-start.top c.in-Entry.start c.in-Entry.end c.in-Entry.next) = record { within = within; walk = c.loop-start.invariant; found = stands _ bytes_in _ c.loop-start.invariant.entries c.next.ensures c.in-Entry.is } in
    omega (arith, bounds turn)

pub slice_bounds-is_apart-end : goal.slice_bounds-is_apart-end
slice_bounds-is_apart-end c =
    let within : c.args.to ≤ length c.args.w.now = omega (arith, c.requires.1, c.requires.2) in
    let bytes_in : AreBytes (take c.args.to c.loop-start.w) = take_are_bytes c.args.to c.loop-start.w c.loop-start.invariant.are in
    let turn : (let s = c.args in Turn (apart_from s.name.now) s.w.now c.loop-start.w s.from s.to c.loop-start.c.at c.loop-start.top c.in-Entry.start c.in-Entry.end c.in-Entry.next) = record { within = within; walk = c.loop-start.invariant; found = stands _ bytes_in _ c.loop-start.invariant.entries c.next.ensures c.in-Entry.is } in
    omega (arith, bounds turn)

pub is_apart-requires : goal.is_apart-requires
is_apart-requires c =
    let within : c.args.to ≤ length c.args.w.now = omega (arith, c.requires.1, c.requires.2) in
    let bytes_in : AreBytes (take c.args.to c.loop-start.w) = take_are_bytes c.args.to c.loop-start.w c.loop-start.invariant.are in
    let turn : (let s = c.args in Turn (apart_from s.name.now) s.w.now c.loop-start.w s.from s.to c.loop-start.c.at c.loop-start.top c.in-Entry.start c.in-Entry.end c.in-Entry.next) = record { within = within; walk = c.loop-start.invariant; found = stands _ bytes_in _ c.loop-start.invariant.entries c.next.ensures c.in-Entry.is } in
    here-keyed turn

pub overflow_sub-n : goal.overflow_sub-n
overflow_sub-n c =
    let within : c.args.to ≤ length c.args.w.now = omega (arith, c.requires.1, c.requires.2) in
    let bytes_in : AreBytes (take c.args.to c.loop-start.w) = take_are_bytes c.args.to c.loop-start.w c.loop-start.invariant.are in
    let turn : (let s = c.args in Turn (apart_from s.name.now) s.w.now c.loop-start.w s.from s.to c.loop-start.c.at c.loop-start.top c.in-Entry.start c.in-Entry.end c.in-Entry.next) = record { within = within; walk = c.loop-start.invariant; found = stands _ bytes_in _ c.loop-start.invariant.entries c.next.ensures c.in-Entry.is } in
    (bounds turn).1

pub shift-requires : goal.shift-requires
shift-requires c =
    let within : c.args.to ≤ length c.args.w.now = omega (arith, c.requires.1, c.requires.2) in
    let bytes_in : AreBytes (take c.args.to c.loop-start.w) = take_are_bytes c.args.to c.loop-start.w c.loop-start.invariant.are in
    let turn : (let s = c.args in Turn (apart_from s.name.now) s.w.now c.loop-start.w s.from s.to c.loop-start.c.at c.loop-start.top c.in-Entry.start c.in-Entry.end c.in-Entry.next) = record { within = within; walk = c.loop-start.invariant; found = stands _ bytes_in _ c.loop-start.invariant.entries c.next.ensures c.in-Entry.is } in
    let e = bounds turn in
    (omega arith, omega (arith, c.loop-start.invariant.order))

pub overflow_add-top : goal.overflow_add-top
overflow_add-top c =
    let within : c.args.to ≤ length c.args.w.now = omega (arith, c.requires.1, c.requires.2) in
    let bytes_in : AreBytes (take c.args.to c.loop-start.w) = take_are_bytes c.args.to c.loop-start.w c.loop-start.invariant.are in
    let turn : (let s = c.args in Turn (apart_from s.name.now) s.w.now c.loop-start.w s.from s.to c.loop-start.c.at c.loop-start.top c.in-Entry.start c.in-Entry.end c.in-Entry.next) = record { within = within; walk = c.loop-start.invariant; found = stands _ bytes_in _ c.loop-start.invariant.entries c.next.ensures c.in-Entry.is } in
    omega (arith, bounds turn, c.loop-start.invariant.order)

pub loop-start-smaller-then-is_apart : goal.loop-start-smaller-then-is_apart
loop-start-smaller-then-is_apart c =
    let within : c.args.to ≤ length c.args.w.now = omega (arith, c.requires.1, c.requires.2) in
    let bytes_in : AreBytes (take c.args.to c.loop-start.w) = take_are_bytes c.args.to c.loop-start.w c.loop-start.invariant.are in
    let turn : (let s = c.args in Turn (apart_from s.name.now) s.w.now c.loop-start.w s.from s.to c.loop-start.c.at c.loop-start.top c.in-Entry.start c.in-Entry.end c.in-Entry.next) = record { within = within; walk = c.loop-start.invariant; found = stands _ bytes_in _ c.loop-start.invariant.entries c.next.ensures c.in-Entry.is } in
    falls turn

pub loop-start-preserved-then-is_apart : goal.loop-start-preserved-then-is_apart
loop-start-preserved-then-is_apart c =
    let within : c.args.to ≤ length c.args.w.now = omega (arith, c.requires.1, c.requires.2) in
    let bytes_in : AreBytes (take c.args.to c.loop-start.w) = take_are_bytes c.args.to c.loop-start.w c.loop-start.invariant.are in
    let turn : (let s = c.args in Turn (apart_from s.name.now) s.w.now c.loop-start.w s.from s.to c.loop-start.c.at c.loop-start.top c.in-Entry.start c.in-Entry.end c.in-Entry.next) = record { within = within; walk = c.loop-start.invariant; found = stands _ bytes_in _ c.loop-start.invariant.entries c.next.ensures c.in-Entry.is } in
    moved_down turn c.shift.ensures c.is_apart.ensures c.if-is_apart.true

pub loop-start-smaller : goal.loop-start-smaller
loop-start-smaller c =
    let within : c.args.to ≤ length c.args.w.now = omega (arith, c.requires.1, c.requires.2) in
    let bytes_in : AreBytes (take c.args.to c.loop-start.w) = take_are_bytes c.args.to c.loop-start.w c.loop-start.invariant.are in
    let turn : (let s = c.args in Turn (apart_from s.name.now) s.w.now c.loop-start.w s.from s.to c.loop-start.c.at c.loop-start.top c.in-Entry.start c.in-Entry.end c.in-Entry.next) = record { within = within; walk = c.loop-start.invariant; found = stands _ bytes_in _ c.loop-start.invariant.entries c.next.ensures c.in-Entry.is } in
    falls turn

pub loop-start-preserved : goal.loop-start-preserved
loop-start-preserved c =
    let within : c.args.to ≤ length c.args.w.now = omega (arith, c.requires.1, c.requires.2) in
    let bytes_in : AreBytes (take c.args.to c.loop-start.w) = take_are_bytes c.args.to c.loop-start.w c.loop-start.invariant.are in
    let turn : (let s = c.args in Turn (apart_from s.name.now) s.w.now c.loop-start.w s.from s.to c.loop-start.c.at c.loop-start.top c.in-Entry.start c.in-Entry.end c.in-Entry.next) = record { within = within; walk = c.loop-start.invariant; found = stands _ bytes_in _ c.loop-start.invariant.entries c.next.ensures c.in-Entry.is } in
    passed_over turn c.is_apart.ensures c.if-is_apart.false

pub splice-requires : goal.splice-requires
splice-requires c =
    let h = c.loop-start.invariant in
    let p = c.requires in
    (omega (arith, h.order, h.most), p.1, omega (arith, p.2, h.same), omega (arith, p.1, p.2, h.same, h.order, h.most))

pub returns-in-Torn : goal.returns-in-Torn
returns-in-Torn c =
    let bytes_in : AreBytes (take c.args.to c.loop-start.w) = take_are_bytes c.args.to c.loop-start.w c.loop-start.invariant.are in
    not_torn _ bytes_in _ c.loop-start.invariant.entries c.next.ensures c.in-Torn.is

pub splice-requires-in-End : goal.splice-requires-in-End
splice-requires-in-End c =
    let h = c.loop-start.invariant in
    let p = c.requires in
    (omega (arith, h.order, h.most), p.1, omega (arith, p.2, h.same), omega (arith, p.1, p.2, h.same, h.order, h.most))

pub returns-in-End : goal.returns-in-End
returns-in-End c =
    let within : c.args.to ≤ length c.args.w.now = omega (arith, c.requires.1, c.requires.2) in
    let bytes_in : AreBytes (take c.args.to c.loop-start.w) = take_are_bytes c.args.to c.loop-start.w c.loop-start.invariant.are in
    let p = c.requires in
    let last = c.splice-in-End in
    closed within c.loop-start.invariant (ended _ bytes_in _ c.loop-start.invariant.entries c.next.ensures c.in-End.is)
    p.1 p.2 last.auto.w refl last.ensures

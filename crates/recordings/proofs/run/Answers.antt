use mathlib.Core.Path.{refl, sym, ap, ◌∙◌}
use native.Mathlib.Omega.{arith}
use lib.ListN.{length}
use Rattle.recordings.proofs.Runs.{run-start, turn_places, turned, run_parted, run_agree}
use Rattle.recordings.proofs.run.Goals as goal

pub loop-n-init : goal.loop-n-init
loop-n-init c = let a = c.args in (run-start _ a.one.now a.other.now a.first.now a.second.now c.requires.0 c.requires.1 refl, refl)

pub slice_bounds-turn_both-count : goal.slice_bounds-turn_both-count
slice_bounds-turn_both-count c = omega (arith, c.loop-n.invariant.0.within)

pub slice_bounds-turn_both-start : goal.slice_bounds-turn_both-start
slice_bounds-turn_both-start c = omega (arith, c.loop-n.invariant.0.within)

pub slice_bounds-turn_both-end : goal.slice_bounds-turn_both-end
slice_bounds-turn_both-end c = omega (arith, c.loop-n.invariant.0.within)

pub slice_bounds-turn_both-count-in-loop-n : goal.slice_bounds-turn_both-count-in-loop-n
slice_bounds-turn_both-count-in-loop-n c = omega (arith, c.loop-n.invariant.0.inside)

pub slice_bounds-turn_both-start-in-loop-n : goal.slice_bounds-turn_both-start-in-loop-n
slice_bounds-turn_both-start-in-loop-n c = omega (arith, c.loop-n.invariant.0.inside)

pub slice_bounds-turn_both-end-in-loop-n : goal.slice_bounds-turn_both-end-in-loop-n
slice_bounds-turn_both-end-in-loop-n c = omega (arith, c.loop-n.invariant.0.inside)

pub turn_both-requires : goal.turn_both-requires
turn_both-requires c =
    let i = c.loop-n.invariant in
    (i.0.sound-first, i.0.sound_second, i.0.long_second ∙ sym i.0.long_first, i.1 ∙ c.requires.2 ∙ sym i.0.long_first, i.0.known)

pub overflow_add-k : goal.overflow_add-k
overflow_add-k c =
    let a = c.args in
    let i = c.loop-n.invariant in
    let turn = c.turn_both in
    let p = turn_places _ a.one.now a.other.now _ _ _ _ _ _ i.0 turn.new.first turn.new.second _ turn.ensures c.in-On.is in
    omega (arith, p.0, p.1, i.0.counted, c.well_formed)

pub overflow_add-at : goal.overflow_add-at
overflow_add-at c =
    let a = c.args in
    let i = c.loop-n.invariant in
    let turn = c.turn_both in
    let p = turn_places _ a.one.now a.other.now _ _ _ _ _ _ i.0 turn.new.first turn.new.second _ turn.ensures c.in-On.is in
    omega (arith, p.1, c.well_formed)

pub overflow_add-to : goal.overflow_add-to
overflow_add-to c =
    let a = c.args in
    let i = c.loop-n.invariant in
    let turn = c.turn_both in
    let p = turn_places _ a.one.now a.other.now _ _ _ _ _ _ i.0 turn.new.first turn.new.second _ turn.ensures c.in-On.is in
    omega (arith, p.2, c.well_formed)

pub loop-n-smaller : goal.loop-n-smaller
loop-n-smaller c =
    let a = c.args in
    let i = c.loop-n.invariant in
    let turn = c.turn_both in
    let p = turn_places _ a.one.now a.other.now _ _ _ _ _ _ i.0 turn.new.first turn.new.second _ turn.ensures c.in-On.is in
    omega (arith, p.0, p.1)

pub loop-n-preserved : goal.loop-n-preserved
loop-n-preserved c =
    let a = c.args in
    let i = c.loop-n.invariant in
    let turn = c.turn_both in (
      turned _ a.one.now a.other.now _ _ _ _ _ _ i.0 turn.new.first turn.new.second _ turn.ensures c.in-On.is,
      omega (arith, i.1, turn.auto.spare),
    )

pub shape_of-first-in-Parted : goal.shape_of-first-in-Parted
shape_of-first-in-Parted c =
    omega (arith, c.turn_both.auto, c.loop-n.invariant.0.long_first, c.loop-n.invariant.0.long_second, c.loop-n.invariant.1, ap length c.requires.1)

pub shape_of-second-in-Parted : goal.shape_of-second-in-Parted
shape_of-second-in-Parted c =
    omega (arith, c.turn_both.auto, c.loop-n.invariant.0.long_first, c.loop-n.invariant.0.long_second, c.loop-n.invariant.1, ap length c.requires.1)

pub shape_of-spare-in-Parted : goal.shape_of-spare-in-Parted
shape_of-spare-in-Parted c =
    omega (arith, c.turn_both.auto, c.loop-n.invariant.0.long_first, c.loop-n.invariant.0.long_second, c.loop-n.invariant.1, ap length c.requires.1)

pub returns-in-Parted : goal.returns-in-Parted
returns-in-Parted c =
    let a = c.args in
    let turn = c.turn_both in
    let p = run_parted _ a.one.now a.other.now _ _ _ _ _ _ c.loop-n.invariant.0 turn.new.first turn.new.second _ turn.ensures c.in-Parted.is in
    record { result_value = p.0; first_after = p.1; second_after = p.2 }

pub shape_of-first-in-Agree : goal.shape_of-first-in-Agree
shape_of-first-in-Agree c =
    omega (arith, c.turn_both.auto, c.loop-n.invariant.0.long_first, c.loop-n.invariant.0.long_second, c.loop-n.invariant.1, ap length c.requires.1)

pub shape_of-second-in-Agree : goal.shape_of-second-in-Agree
shape_of-second-in-Agree c =
    omega (arith, c.turn_both.auto, c.loop-n.invariant.0.long_first, c.loop-n.invariant.0.long_second, c.loop-n.invariant.1, ap length c.requires.1)

pub shape_of-spare-in-Agree : goal.shape_of-spare-in-Agree
shape_of-spare-in-Agree c =
    omega (arith, c.turn_both.auto, c.loop-n.invariant.0.long_first, c.loop-n.invariant.0.long_second, c.loop-n.invariant.1, ap length c.requires.1)

pub returns-in-Agree : goal.returns-in-Agree
returns-in-Agree c =
    let a = c.args in
    let turn = c.turn_both in
    let p = run_agree _ a.one.now a.other.now _ _ _ _ _ _ c.loop-n.invariant.0 turn.new.first turn.new.second _ turn.ensures c.in-Agree.is in
    record { result_value = p.0; first_after = p.1; second_after = p.2 }

-- `recordings::compare` meets its contract: fresh images in both buffers, and then both runs.
use mathlib.Core.Path.{sym, ◌∙◌}
use lib.Seq.{length-take-le}
use Rattle.recordings.proofs.Runs.{no_capacity, most, unequal, both_fresh, whole}
use Rattle.recordings.proofs.compare.Goals as goal

pub returns-then-not-is_capacity : goal.returns-then-not-is_capacity
returns-then-not-is_capacity c =
    let a = c.args in
    let p = no_capacity a.first.now a.second.now a.one.now a.other.now c.is_capacity.ensures c.if-not-is_capacity.true-raw in
    record { result_value = p.0; first_after = p.1; second_after = p.2 }

pub returns-then-n-second : goal.returns-then-n-second
returns-then-n-second c =
    let a = c.args in
    let p = unequal a.first.now a.second.now a.one.now a.other.now c.is_capacity.ensures c.if-not-is_capacity.false-raw c.if-n-second.true in
    record { result_value = p.0; first_after = p.1; second_after = p.2 }

pub slice_bounds-spare-end : goal.slice_bounds-spare-end
slice_bounds-spare-end c =
    let a = c.args in
    most a.first.now a.second.now a.one.now a.other.now c.is_capacity.ensures c.if-not-is_capacity.false-raw

pub slice_bounds-run-end : goal.slice_bounds-run-end
slice_bounds-run-end c =
    let a = c.args in
    sym (length-take-le _ _ (most a.first.now a.second.now a.one.now a.other.now c.is_capacity.ensures c.if-not-is_capacity.false-raw))

pub run-requires : goal.run-requires
run-requires c =
    let a = c.args in
    let f = both_fresh a.first.now a.second.now a.one.now a.other.now c.is_capacity.ensures c.if-not-is_capacity.false-raw c.if-n-second.false c.open.ensures.b_after c.open-2.ensures.b_after in
    (f.0, f.1, length-take-le _ _ (most a.first.now a.second.now a.one.now a.other.now c.is_capacity.ensures c.if-not-is_capacity.false-raw) ∙ sym f.2)

pub returns : goal.returns
returns c =
    let a = c.args in
    let e = c.run in
    let p = whole a.first.now a.second.now a.one.now a.other.now c.is_capacity.ensures c.if-not-is_capacity.false-raw c.if-n-second.false c.open.ensures.b_after c.open-2.ensures.b_after e.result (e.ensures.result_value, e.ensures.first_after, e.ensures.second_after) in
    record { result_value = p.0; first_after = p.1; second_after = p.2 }

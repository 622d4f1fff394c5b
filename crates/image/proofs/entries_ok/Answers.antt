-- `image::entries_ok` meets its contract, exit by exit.
use native.Mathlib.Omega.{arith}
use Rattle.image.proofs.Steps.{front_length, back_entries, reals_unsound, reals_ascend, groups_unsound, weight_decides}
use Rattle.image.proofs.entries_ok.Goals as goal

pub slice_bounds-reals_ok-end : goal.slice_bounds-reals_ok-end
slice_bounds-reals_ok-end c =
    front_length c.args.s.now _ c.args.capacity c.tail_start-mid.ensures

pub returns-then-not-reals_ok : goal.returns-then-not-reals_ok
returns-then-not-reals_ok c =
    let parted = c.tail_start-mid.ensures in
    reals_unsound c.args.s.now _ c.args.capacity parted c.reals_ok.ensures c.if-not-reals_ok.true-raw

pub slice_bounds-groups_ok-end : goal.slice_bounds-groups_ok-end
slice_bounds-groups_ok-end c =
    front_length c.args.s.now _ c.args.capacity c.tail_start-mid.ensures

pub groups_ok-requires : goal.groups_ok-requires
groups_ok-requires c =
    let s = c.args.s.now in
    let capacity = c.args.capacity in
    let parted = c.tail_start-mid.ensures in
    let sound = c.reals_ok.ensures in
    (parted.real_entries, back_entries s _ capacity parted, reals_ascend s _ capacity parted sound c.if-not-reals_ok.false-raw)

pub returns-then-not-groups_ok : goal.returns-then-not-groups_ok
returns-then-not-groups_ok c =
    let parted = c.tail_start-mid.ensures in
    groups_unsound c.args.s.now _ c.args.capacity parted c.reals_ok.ensures c.if-not-reals_ok.false-raw
    c.groups_ok.ensures c.if-not-groups_ok.true-raw

pub slice_bounds-weight_of-end : goal.slice_bounds-weight_of-end
slice_bounds-weight_of-end c =
    front_length c.args.s.now _ c.args.capacity c.tail_start-mid.ensures

pub weight_of-requires : goal.weight_of-requires
weight_of-requires c =
    let short = c.requires.1 in
    (c.tail_start-mid.ensures.real_entries, omega arith)

pub returns : goal.returns
returns c =
    let parted = c.tail_start-mid.ensures in
    weight_decides c.args.s.now _ c.args.capacity parted c.reals_ok.ensures c.if-not-reals_ok.false-raw
    c.groups_ok.ensures c.if-not-groups_ok.false-raw _ c.weight_of.ensures

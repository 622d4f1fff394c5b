-- `restore_copy::is_steady` meets its contract.
use mathlib.Core.Path.{sym, ◌∙◌}
use borrow.Author.Rules.{rules}
use native.Mathlib.Omega.{arith}
use borrow.Author.Tests.{not-false}
use Rattle.model.specs.Number.{AreBytes}
use Rattle.keys.proofs.Keys.{known_bytes}
use Rattle.find.proofs.Ends.{head_fits, used_low, used_high, entries-there}
use Rattle.restore_copy.proofs.Whole.{entries, ascends, raised, unraised_as}
use Rattle.restore_copy.proofs.is_steady.Goals as goal

pub used_in-used-requires : goal.used_in-used-requires
used_in-used-requires c =
    let bytes_in : AreBytes c.args.image.now = known_bytes c.args.image.now (λ i. omega (arith, c.type_inv.image i)) in
    head_fits c.args.image.now bytes_in c.requires

pub slice_bounds-tail_start-count : goal.slice_bounds-tail_start-count
slice_bounds-tail_start-count c =
    let bytes_in : AreBytes c.args.image.now = known_bytes c.args.image.now (λ i. omega (arith, c.type_inv.image i)) in
    used_low c.args.image.now bytes_in c.requires c.used_in-used.ensures.0

pub slice_bounds-tail_start-start : goal.slice_bounds-tail_start-start
slice_bounds-tail_start-start c =
    let bytes_in : AreBytes c.args.image.now = known_bytes c.args.image.now (λ i. omega (arith, c.type_inv.image i)) in
    omega (arith, used_low c.args.image.now bytes_in c.requires c.used_in-used.ensures.0, used_high c.args.image.now bytes_in c.requires c.used_in-used.ensures.0)

pub slice_bounds-tail_start-end : goal.slice_bounds-tail_start-end
slice_bounds-tail_start-end c =
    let bytes_in : AreBytes c.args.image.now = known_bytes c.args.image.now (λ i. omega (arith, c.type_inv.image i)) in
    omega (arith, used_low c.args.image.now bytes_in c.requires c.used_in-used.ensures.0, used_high c.args.image.now bytes_in c.requires c.used_in-used.ensures.0)

pub tail_start-requires : goal.tail_start-requires
tail_start-requires c =
    let bytes_in : AreBytes c.args.image.now = known_bytes c.args.image.now (λ i. omega (arith, c.type_inv.image i)) in
    entries-there c.args.image.now bytes_in c.requires c.used_in-used.ensures.0

pub overflow_sub-used : goal.overflow_sub-used
overflow_sub-used c =
    let bytes_in : AreBytes c.args.image.now = known_bytes c.args.image.now (λ i. omega (arith, c.type_inv.image i)) in
    used_low c.args.image.now bytes_in c.requires c.used_in-used.ensures.0

pub slice_bounds-is_settled-count : goal.slice_bounds-is_settled-count
slice_bounds-is_settled-count c =
    let bytes_in : AreBytes c.args.image.now = known_bytes c.args.image.now (λ i. omega (arith, c.type_inv.image i)) in
    used_low c.args.image.now bytes_in c.requires c.used_in-used.ensures.0

pub slice_bounds-is_settled-start : goal.slice_bounds-is_settled-start
slice_bounds-is_settled-start c =
    let bytes_in : AreBytes c.args.image.now = known_bytes c.args.image.now (λ i. omega (arith, c.type_inv.image i)) in
    omega (arith, used_low c.args.image.now bytes_in c.requires c.used_in-used.ensures.0, used_high c.args.image.now bytes_in c.requires c.used_in-used.ensures.0)

pub slice_bounds-is_settled-end : goal.slice_bounds-is_settled-end
slice_bounds-is_settled-end c =
    let bytes_in : AreBytes c.args.image.now = known_bytes c.args.image.now (λ i. omega (arith, c.type_inv.image i)) in
    omega (arith, used_low c.args.image.now bytes_in c.requires c.used_in-used.ensures.0, used_high c.args.image.now bytes_in c.requires c.used_in-used.ensures.0)

pub is_settled-requires : goal.is_settled-requires
is_settled-requires c =
    let bytes_in : AreBytes c.args.image.now = known_bytes c.args.image.now (λ i. omega (arith, c.type_inv.image i)) in (
      entries c.args.image.now bytes_in c.requires c.used_in-used.ensures.0 c.tail_start.ensures c.if-tail_start-used.false,
      ascends c.args.image.now bytes_in c.requires c.used_in-used.ensures.0 c.tail_start.ensures c.if-tail_start-used.false,
    )

pub epoch_in-epoch-requires : goal.epoch_in-epoch-requires
epoch_in-epoch-requires c =
    let bytes_in : AreBytes c.args.image.now = known_bytes c.args.image.now (λ i. omega (arith, c.type_inv.image i)) in
    head_fits c.args.image.now bytes_in c.requires

pub returns-then-epoch-lt-NEGATIVE : goal.returns-then-epoch-lt-NEGATIVE
returns-then-epoch-lt-NEGATIVE c =
    let bytes_in : AreBytes c.args.image.now = known_bytes c.args.image.now (λ i. omega (arith, c.type_inv.image i)) in
    raised c.args.image.now bytes_in c.requires c.used_in-used.ensures.0 c.tail_start.ensures c.if-tail_start-used.false
    (sym c.is_settled.ensures ∙ not-false c.is_settled.result (search rules)) c.epoch_in-epoch.ensures c.if-epoch-lt-NEGATIVE.true

pub slice_bounds-has_no_level-count : goal.slice_bounds-has_no_level-count
slice_bounds-has_no_level-count c =
    let bytes_in : AreBytes c.args.image.now = known_bytes c.args.image.now (λ i. omega (arith, c.type_inv.image i)) in
    used_low c.args.image.now bytes_in c.requires c.used_in-used.ensures.0

pub slice_bounds-has_no_level-start : goal.slice_bounds-has_no_level-start
slice_bounds-has_no_level-start c =
    let bytes_in : AreBytes c.args.image.now = known_bytes c.args.image.now (λ i. omega (arith, c.type_inv.image i)) in
    omega (arith, used_low c.args.image.now bytes_in c.requires c.used_in-used.ensures.0, used_high c.args.image.now bytes_in c.requires c.used_in-used.ensures.0)

pub slice_bounds-has_no_level-end : goal.slice_bounds-has_no_level-end
slice_bounds-has_no_level-end c =
    let bytes_in : AreBytes c.args.image.now = known_bytes c.args.image.now (λ i. omega (arith, c.type_inv.image i)) in
    omega (arith, used_low c.args.image.now bytes_in c.requires c.used_in-used.ensures.0, used_high c.args.image.now bytes_in c.requires c.used_in-used.ensures.0)

pub has_no_level-requires : goal.has_no_level-requires
has_no_level-requires c =
    let bytes_in : AreBytes c.args.image.now = known_bytes c.args.image.now (λ i. omega (arith, c.type_inv.image i)) in
    entries c.args.image.now bytes_in c.requires c.used_in-used.ensures.0 c.tail_start.ensures c.if-tail_start-used.false

pub returns : goal.returns
returns c =
    let bytes_in : AreBytes c.args.image.now = known_bytes c.args.image.now (λ i. omega (arith, c.type_inv.image i)) in
    unraised_as c.args.image.now bytes_in c.requires c.used_in-used.ensures.0 c.tail_start.ensures c.if-tail_start-used.false
    (sym c.is_settled.ensures ∙ not-false c.is_settled.result (search rules)) c.epoch_in-epoch.ensures c.if-epoch.false _ c.has_no_level.ensures

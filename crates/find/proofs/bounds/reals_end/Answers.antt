-- `find::reals_end` meets its contract.
use native.Mathlib.Omega.{arith}
use Rattle.keys.proofs.Keys.{known_bytes}
use Rattle.find.proofs.Ends.{head_fits, used_low, used_high, entries-there, reals_end}
use Rattle.find.proofs.bounds.reals_end.Goals as goal

pub used_in-used-requires : goal.used_in-used-requires
used_in-used-requires c =
    let are_bytes = known_bytes c.args.image.now (λ i. omega (arith, c.type_inv.image i)) in
    head_fits c.args.image.now are_bytes c.requires

pub slice_bounds-tail_start-count : goal.slice_bounds-tail_start-count
slice_bounds-tail_start-count c =
    let are_bytes = known_bytes c.args.image.now (λ i. omega (arith, c.type_inv.image i)) in
    used_low c.args.image.now are_bytes c.requires c.used_in-used.ensures.0

pub slice_bounds-tail_start-start : goal.slice_bounds-tail_start-start
slice_bounds-tail_start-start c =
    let are_bytes = known_bytes c.args.image.now (λ i. omega (arith, c.type_inv.image i)) in
    used_low c.args.image.now are_bytes c.requires c.used_in-used.ensures.0

pub slice_bounds-tail_start-end : goal.slice_bounds-tail_start-end
slice_bounds-tail_start-end c =
    let are_bytes = known_bytes c.args.image.now (λ i. omega (arith, c.type_inv.image i)) in
    used_high c.args.image.now are_bytes c.requires c.used_in-used.ensures.0

pub tail_start-requires : goal.tail_start-requires
tail_start-requires c =
    let are_bytes = known_bytes c.args.image.now (λ i. omega (arith, c.type_inv.image i)) in
    entries-there c.args.image.now are_bytes c.requires c.used_in-used.ensures.0

pub returns : goal.returns
returns c =
    let are_bytes = known_bytes c.args.image.now (λ i. omega (arith, c.type_inv.image i)) in
    reals_end c.args.image.now are_bytes c.requires c.used_in-used.ensures.0 _ c.tail_start.ensures

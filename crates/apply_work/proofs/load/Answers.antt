-- `apply_work::load` meets its contract: the bytes between the header and the used length are copied.
use Prim.Native.Nat.{◌≤◌}
use native.Mathlib.Omega.{arith}
use lib.ListN.{length}
use Rattle.model.specs.Number.{AreBytes}
use Rattle.keys.proofs.Keys.{known_bytes}
use Rattle.find.proofs.Ends.{head_fits, used_low, used_high, entries-there}
use Rattle.apply_work.proofs.Loads.{bounds_fits, loaded}
use Rattle.apply_work.proofs.load.Goals as goal

pub used_in-used-requires : goal.used_in-used-requires
used_in-used-requires c =
    let bytes_in : AreBytes c.args.image.now = known_bytes c.args.image.now (λ i. omega (arith, c.type_inv.image i)) in
    head_fits _ bytes_in c.requires.0

pub slice_bounds-tail_start-count : goal.slice_bounds-tail_start-count
slice_bounds-tail_start-count c =
    let bytes_in : AreBytes c.args.image.now = known_bytes c.args.image.now (λ i. omega (arith, c.type_inv.image i)) in
    let low : 64 ≤ c.used_in-used.result = used_low _ bytes_in c.requires.0 c.used_in-used.ensures.0 in
    low

pub slice_bounds-tail_start-start : goal.slice_bounds-tail_start-start
slice_bounds-tail_start-start c =
    let bytes_in : AreBytes c.args.image.now = known_bytes c.args.image.now (λ i. omega (arith, c.type_inv.image i)) in
    let low : 64 ≤ c.used_in-used.result = used_low _ bytes_in c.requires.0 c.used_in-used.ensures.0 in
    low

pub slice_bounds-tail_start-end : goal.slice_bounds-tail_start-end
slice_bounds-tail_start-end c =
    let bytes_in : AreBytes c.args.image.now = known_bytes c.args.image.now (λ i. omega (arith, c.type_inv.image i)) in
    let high : c.used_in-used.result ≤ length c.args.image.now = used_high _ bytes_in c.requires.0 c.used_in-used.ensures.0 in
    high

pub tail_start-reals-requires : goal.tail_start-reals-requires
tail_start-reals-requires c =
    let bytes_in : AreBytes c.args.image.now = known_bytes c.args.image.now (λ i. omega (arith, c.type_inv.image i)) in
    entries-there _ bytes_in c.requires.0 c.used_in-used.ensures.0

pub slice_bounds-copy-count : goal.slice_bounds-copy-count
slice_bounds-copy-count c =
    let bytes_in : AreBytes c.args.image.now = known_bytes c.args.image.now (λ i. omega (arith, c.type_inv.image i)) in
    let low : 64 ≤ c.used_in-used.result = used_low _ bytes_in c.requires.0 c.used_in-used.ensures.0 in
    low

pub slice_bounds-copy-start : goal.slice_bounds-copy-start
slice_bounds-copy-start c =
    let bytes_in : AreBytes c.args.image.now = known_bytes c.args.image.now (λ i. omega (arith, c.type_inv.image i)) in
    let low : 64 ≤ c.used_in-used.result = used_low _ bytes_in c.requires.0 c.used_in-used.ensures.0 in
    low

pub slice_bounds-copy-end : goal.slice_bounds-copy-end
slice_bounds-copy-end c =
    let bytes_in : AreBytes c.args.image.now = known_bytes c.args.image.now (λ i. omega (arith, c.type_inv.image i)) in
    let high : c.used_in-used.result ≤ length c.args.image.now = used_high _ bytes_in c.requires.0 c.used_in-used.ensures.0 in
    high

pub copy-requires : goal.copy-requires
copy-requires c =
    let bytes_in : AreBytes c.args.image.now = known_bytes c.args.image.now (λ i. omega (arith, c.type_inv.image i)) in
    bounds_fits _ bytes_in c.requires.0 c.used_in-used.ensures.0 c.args.w.now c.requires.1

pub overflow_sub-result : goal.overflow_sub-result
overflow_sub-result c =
    let bytes_in : AreBytes c.args.image.now = known_bytes c.args.image.now (λ i. omega (arith, c.type_inv.image i)) in
    let low : 64 ≤ c.used_in-used.result = used_low _ bytes_in c.requires.0 c.used_in-used.ensures.0 in
    low

pub returns : goal.returns
returns c =
    let bytes_in : AreBytes c.args.image.now = known_bytes c.args.image.now (λ i. omega (arith, c.type_inv.image i)) in
    let copied = c.copy in
    loaded _ bytes_in c.requires.0 c.used_in-used.ensures.0 c.args.w.now copied.new.dst _
    c.tail_start-reals.ensures copied.ensures

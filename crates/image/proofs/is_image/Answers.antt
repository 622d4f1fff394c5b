-- `image::is_image` meets its contract, exit by exit.
use mathlib.Core.Path.{ap, ◌∙◌}
use mathlib.Core.Bool.{◌&&◌}
use native.Mathlib.Omega.{arith}
use lib.ListN.{length}
use Rattle.model.specs.Shape.{stored}
use Rattle.model.specs.Items.{items_of, is_whole}
use Rattle.keys.proofs.Keys.{known_bytes}
use Rattle.image.specs.Test.{entries_sound, is_light}
use Rattle.image.proofs.Steps.{holds}
use Rattle.image.proofs.Images.{head-there, at_most, used_low, used_high, lent-part, part-short, no_capacity, no_header, no_entries, entries_decide}
use Rattle.image.proofs.is_image.Goals as goal

pub returns-then-not-is_capacity : goal.returns-then-not-is_capacity
returns-then-not-is_capacity c = no_capacity c.args.b.now c.is_capacity.ensures c.if-not-is_capacity.true-raw

pub header_ok-requires : goal.header_ok-requires
header_ok-requires c = head-there c.args.b.now (holds c.is_capacity.ensures c.if-not-is_capacity.false-raw)

pub returns-then-not-header_ok : goal.returns-then-not-header_ok
returns-then-not-header_ok c =
    no_header c.args.b.now (holds c.is_capacity.ensures c.if-not-is_capacity.false-raw) c.header_ok.ensures c.if-not-header_ok.true-raw

pub used_in-used-requires : goal.used_in-used-requires
used_in-used-requires c = head-there c.args.b.now (holds c.is_capacity.ensures c.if-not-is_capacity.false-raw)

pub slice_bounds-all_read-count : goal.slice_bounds-all_read-count
slice_bounds-all_read-count c =
    used_low c.args.b.now (holds c.header_ok.ensures c.if-not-header_ok.false-raw) c.used_in-used.ensures.0

pub slice_bounds-all_read-start : goal.slice_bounds-all_read-start
slice_bounds-all_read-start c =
    used_low c.args.b.now (holds c.header_ok.ensures c.if-not-header_ok.false-raw) c.used_in-used.ensures.0

pub slice_bounds-all_read-end-2 : goal.slice_bounds-all_read-end-2
slice_bounds-all_read-end-2 c =
    used_high c.args.b.now (holds c.header_ok.ensures c.if-not-header_ok.false-raw) c.used_in-used.ensures.0

pub returns-then-not-all_read : goal.returns-then-not-all_read
returns-then-not-all_read c =
    let holds-here = holds c.header_ok.ensures c.if-not-header_ok.false-raw in
    let whole = c.all_read.ensures ∙ ap (λ s. is_whole (items_of stored s)) (lent-part c.args.b.now holds-here c.used_in-used.ensures.0) in
    no_entries c.args.b.now (holds c.is_capacity.ensures c.if-not-is_capacity.false-raw)
    (known_bytes c.args.b.now (λ i. omega (arith, c.type_inv.b i))) holds-here whole c.if-not-all_read.true-raw

pub slice_bounds-entries_ok-count : goal.slice_bounds-entries_ok-count
slice_bounds-entries_ok-count c =
    used_low c.args.b.now (holds c.header_ok.ensures c.if-not-header_ok.false-raw) c.used_in-used.ensures.0

pub slice_bounds-entries_ok-start : goal.slice_bounds-entries_ok-start
slice_bounds-entries_ok-start c =
    used_low c.args.b.now (holds c.header_ok.ensures c.if-not-header_ok.false-raw) c.used_in-used.ensures.0

pub slice_bounds-entries_ok-end : goal.slice_bounds-entries_ok-end
slice_bounds-entries_ok-end c =
    used_high c.args.b.now (holds c.header_ok.ensures c.if-not-header_ok.false-raw) c.used_in-used.ensures.0

pub entries_ok-requires : goal.entries_ok-requires
entries_ok-requires c =
    let most = at_most c.args.b.now (holds c.is_capacity.ensures c.if-not-is_capacity.false-raw) in
    let short = part-short c.args.b.now (holds c.header_ok.ensures c.if-not-header_ok.false-raw) c.used_in-used.ensures.0 in
    (holds c.all_read.ensures c.if-not-all_read.false-raw, omega arith, most)

pub returns : goal.returns
returns c =
    let holds-here = holds c.header_ok.ensures c.if-not-header_ok.false-raw in
    let b = c.args.b.now in
    let part = lent-part c.args.b.now holds-here c.used_in-used.ensures.0 in
    let whole = holds (c.all_read.ensures ∙ ap (λ s. is_whole (items_of stored s)) part) c.if-not-all_read.false-raw in
    entries_decide b (holds c.is_capacity.ensures c.if-not-is_capacity.false-raw)
    (known_bytes c.args.b.now (λ i. omega (arith, c.type_inv.b i))) holds-here whole (c.entries_ok.ensures ∙ ap (λ s. entries_sound s && is_light s (length b)) part)

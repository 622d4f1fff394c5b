-- `quota::exactly` meets its contract, by its three tests.
use Rattle.std.proofs.Common.{◌∙◌, w64}
use lib.Ieee.{of_bits, neg}
use mir.ValLaws.{to_z-of_z}
use Rattle.quota.proofs.Wholes.{too_low, too_high, is_signed, other, same}
use Rattle.quota.proofs.exactly.Goals as goal

pub returns-then-not-value : goal.returns-then-not-value
unfolding of_bits neg
returns-then-not-value c = too_low _ c.if-not-value.true-raw

pub returns-then-not-value-2 : goal.returns-then-not-value-2
unfolding of_bits neg
returns-then-not-value-2 c = too_high _ c.if-not-value.false-raw c.if-not-value-2.true-raw

pub truncating_f64_to_i64-n-requires : goal.truncating_f64_to_i64-n-requires
unfolding of_bits neg
truncating_f64_to_i64-n-requires c =
    let the_whole = is_signed _ c.if-not-value.false-raw c.if-not-value-2.false-raw in record { lower_bound = the_whole.0; upper_bound = the_whole.1 }

pub returns-then-not-nearest_i64_to_f64-value : goal.returns-then-not-nearest_i64_to_f64-value
unfolding of_bits neg
returns-then-not-nearest_i64_to_f64-value c =
    let n = c.truncating_f64_to_i64-n in
    let z = to_z-of_z w64 n.result (record { sfits = n.type_inv }) ∙ n.ensures in
    other _ c.if-not-value.false-raw c.if-not-value-2.false-raw _ z _ c.nearest_i64_to_f64.ensures c.if-not-nearest_i64_to_f64-value.true-raw

pub returns : goal.returns
unfolding of_bits neg
returns c =
    let n = c.truncating_f64_to_i64-n in
    let z = to_z-of_z w64 n.result (record { sfits = n.type_inv }) ∙ n.ensures in
    same _ c.if-not-value.false-raw c.if-not-value-2.false-raw _ z _ c.nearest_i64_to_f64.ensures c.if-not-nearest_i64_to_f64-value.false-raw

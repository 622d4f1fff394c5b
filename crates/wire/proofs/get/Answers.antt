use Prim.Native.Nat.{◌+◌, ◌*◌, ◌^◌, ◌<◌}
use mathlib.Core.Path.{◌≡◌, ap, ◌∙◌}
use native.Mathlib.Omega.{arith}
use lib.Dec.{lit<}
use Rattle.std.specs.List.{between}
use Rattle.std.proofs.lemmas.List.{drop_all}
use Rattle.std.proofs.lemmas.List.Edits.{length-between}
use Rattle.std.proofs.lemmas.Slice.{between_is}
use Rattle.model.specs.Number.{number}
use Rattle.wire.proofs.Numbers.{span_fits}
use Rattle.wire.proofs.get.Goals as goal

pub overflow_mul-v : goal.overflow_mul-v
overflow_mul-v c =
    let long = length-between c.args.s.now c.args.at (c.args.at + c.args.width) c.requires.1 in
    let l = c.loop-x in
    let b : l.v * 256 + 0 < 2 ^ 64 = span_fits _ 0 l.x-index c.args.width l.invariant.0 (lit< tt) (omega arith) (omega arith) in omega arith

pub overflow_add-v : goal.overflow_add-v
overflow_add-v c =
    let long = length-between c.args.s.now c.args.at (c.args.at + c.args.width) c.requires.1 in
    let l = c.loop-x in
    record { fits = span_fits _ _ l.x-index c.args.width l.invariant.0 (omega arith) (omega arith) (omega arith) }

pub returns : goal.returns
returns c =
    let s = c.args.s.now in
    let end = c.args.at + c.args.width in
    let long = length-between s c.args.at end c.requires.1 in
    let l = c.loop-x in
    let done : l.x-index ≡ c.args.width = omega arith in
    let none = drop_all l.x-index (between c.args.at end s) (omega arith) in
    let told = rw none at l.invariant.1 in
    (told ∙ ap number (between_is s c.args.at end), rw done at l.invariant.0)

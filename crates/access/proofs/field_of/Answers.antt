-- `access::field_of` meets its contract: a record that is cut has no fields, and of a whole one the body is looked through.
use mathlib.Core.Path.{sym, ◌∙◌}
use Prim.Native.Nat.{◌+◌, ◌≤◌}
use native.Mathlib.Omega.{arith}
use lib.ListN.{length}
use lib.Seq.{length-take-le}
use Rattle.access.proofs.Body.{body_cut, place-whole}
use Rattle.access.proofs.field_of.Goals as goal

pub returns-then-s-lt3 : goal.returns-then-s-lt3
returns-then-s-lt3 c = body_cut _ _ (omega arith)

pub returns-then-s-len : goal.returns-then-s-len
returns-then-s-len c = body_cut _ _ (omega (arith, c.get16-len.ensures.0))

pub slice_bounds-find-end : goal.slice_bounds-find-end
slice_bounds-find-end c = sym (length-take-le _ _ (omega arith))

pub returns : goal.returns
returns c =
    let a = c.args in
    let n = c.get16-len in
    let room : 3 + n.result ≤ length a.s.now = omega arith in
    c.find.ensures ∙ place-whole _ _ _ _ c.size.ensures.0 n.ensures.0 room

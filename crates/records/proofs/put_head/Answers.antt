-- `records::put_head` meets its contract: a byte, then a number of two bytes after it.
use mathlib.Core.Path.{◌∙◌}
use native.Mathlib.Omega.{arith}
use lib.ListN.{length-set}
use Rattle.records.proofs.Written.{head-written}
use Rattle.records.proofs.put_head.Goals as goal

pub put-requires : goal.put-requires
put-requires c = simp length-set (omega arith)

pub shape_of-out : goal.shape_of-out
shape_of-out c = let a = c.args in omega (arith, c.put.auto.s, length-set a.out.now a.at a.first)

pub returns : goal.returns
returns c =
    let a = c.args in c.put.ensures ∙ head-written a.out.now a.at a.first a.len c.requires

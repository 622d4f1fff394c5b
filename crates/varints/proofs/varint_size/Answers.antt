-- `varints::varint_size` meets its contract: below 128 one byte, else two.
use mathlib.Core.Path.{sym}
use Rattle.varints.proofs.Shortest.{one_long, two_long}
use Rattle.varints.proofs.varint_size.Goals as goal

pub returns-then-n-lt128 : goal.returns-then-n-lt128
returns-then-n-lt128 c = sym (one_long c.args.n c.if-n-lt128.true)

pub returns : goal.returns
returns c = sym (two_long c.args.n c.if-n-lt128.false c.requires)

-- `snapshot::epoch_length` meets its contract.
use mathlib.Core.Path.{sym, ap, ◌∙◌}
use native.Mathlib.Omega.{arith}
use lib.ListN.{length}
use Rattle.records.proofs.Numbers.{length-number}
use Rattle.snapshot.proofs.Trails.{epoch-some, epoch-none}
use Rattle.snapshot.proofs.epoch_length.Goals as goal

pub returns-then-epoch-lt-NEGATIVE : goal.returns-then-epoch-lt-NEGATIVE
returns-then-epoch-lt-NEGATIVE c = (sym (ap length (epoch-some _ c.if-epoch-lt-NEGATIVE.true) ∙ length-number 13 8 c.args.epoch), omega arith)

pub returns : goal.returns
returns c = (sym (ap length (epoch-none _ c.if-epoch-lt-NEGATIVE.false)), omega arith)

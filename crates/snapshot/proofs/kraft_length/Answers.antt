-- `snapshot::kraft_length` meets its contract.
use mathlib.Core.Path.{sym, ap, ◌∙◌}
use native.Mathlib.Omega.{arith}
use lib.ListN.{length}
use Rattle.records.proofs.Numbers.{length-number}
use Rattle.snapshot.proofs.Trails.{kraft-some, kraft-none}
use Rattle.snapshot.proofs.kraft_length.Goals as goal

pub returns-then-kraft-eq-NO_VERSION : goal.returns-then-kraft-eq-NO_VERSION
returns-then-kraft-eq-NO_VERSION c = (sym (ap length (kraft-none _ c.if-kraft-eq-NO_VERSION.true)), omega arith)

pub returns : goal.returns
returns c = (sym (ap length (kraft-some _ c.if-kraft-eq-NO_VERSION.false) ∙ length-number 10 2 c.args.kraft), omega arith)

-- `flat_faults::is_string` meets its contract.
use mathlib.Core.Path.{sym, ap, ◌∙◌}
use Prim.Native.Nat.{◌-◌}
use native.Mathlib.Omega.{arith}
use borrow.Author.Tests.{le-leb}
use Rattle.model.specs.Text.{is_text}
use Rattle.shape_faults.proofs.Parts.{part_slice}
use Rattle.flat_faults.proofs.Flat.{never}
use Rattle.flat_faults.proofs.is_string.Goals as goal

pub returns-then-limit-to : goal.returns-then-limit-to
returns-then-limit-to c = never

pub returns : goal.returns
returns c =
    let lent = part_slice c.args.s.now c.args.from c.args.to c.requires.0 c.requires.1 in
    let a = c.args in
    λ e. (le-leb (a.to - a.from) a.limit (omega (arith, c.if-limit-to.false)), sym (ap is_text lent) ∙ sym c.is_text.ensures ∙ e)

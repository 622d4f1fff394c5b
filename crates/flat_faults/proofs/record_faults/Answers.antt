-- `flat_faults::record_faults` meets its contract: nothing is wrong, or the walk over all fields says what.
use mathlib.Core.Path.{sym}
use native.Mathlib.Omega.{arith}
use Rattle.flat_faults.proofs.Flat.{no_prior}
use Rattle.flat_faults.proofs.record_faults.Goals as goal

pub returns-then-is_flat : goal.returns-then-is_flat
returns-then-is_flat c = sym (c.is_flat.ensures c.if-is_flat.true)

pub faults-requires : goal.faults-requires
faults-requires c =
    let p = c.requires in
    (p.0, p.1, p.2, rw c.no_key.ensures (omega arith))

pub returns : goal.returns
returns c =
    no_prior c.args.s.now c.no_key.ensures _ _ c.faults.ensures

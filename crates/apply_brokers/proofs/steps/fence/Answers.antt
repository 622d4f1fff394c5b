-- `steps::fence` meets its contract: one exit for each kind of fencing.
use native.Mathlib.Omega.{arith}
use lib.Dec.{lit<}
use Rattle.apply_brokers.proofs.Fields.{fencing_width, fenced_suits, unfenced, still_fenced, fenced}
use Rattle.apply_brokers.proofs.steps.fence.Goals as goal

pub value_number-fencing-requires : goal.value_number-fencing-requires
value_number-fencing-requires c =
    (c.requires.1.is, omega arith, fencing_width _ c.requires.1)

pub replace-requires : goal.replace-requires
replace-requires c = (c.requires.0, fenced_suits _ (lit< tt))

pub returns-then-fencing-eq0 : goal.returns-then-fencing-eq0
returns-then-fencing-eq0 c = unfenced _ c.value_number-fencing.ensures _ c.if-fencing-eq0.true c.replace.ensures

pub returns-then-fencing-eq1 : goal.returns-then-fencing-eq1
returns-then-fencing-eq1 c = still_fenced _ c.value_number-fencing.ensures _ c.if-fencing-eq1.true c.requires.0

pub replace-requires-2 : goal.replace-requires-2
replace-requires-2 c = (c.requires.0, fenced_suits _ (lit< tt))

pub returns : goal.returns
returns c =
    fenced _ c.value_number-fencing.ensures _ c.if-fencing-eq0.false c.if-fencing-eq1.false c.replace-2.ensures

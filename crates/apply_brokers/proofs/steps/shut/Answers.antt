-- `steps::shut` meets its contract.
use native.Mathlib.Omega.{arith}
use lib.Dec.{lit<}
use Rattle.apply_brokers.proofs.Fields.{shut_width, shut_suits, shut_down, still_up}
use Rattle.apply_brokers.proofs.steps.shut.Goals as goal

pub value_number-requires : goal.value_number-requires
value_number-requires c =
    (c.requires.1.is, omega arith, shut_width _ c.requires.1)

pub replace-requires : goal.replace-requires
replace-requires c = (c.requires.0, shut_suits _ (lit< tt))

pub returns-then-value_number-eq1 : goal.returns-then-value_number-eq1
returns-then-value_number-eq1 c = shut_down _ c.value_number.ensures _ c.if-value_number-eq1.true c.replace.ensures

pub returns : goal.returns
returns c = still_up _ c.value_number.ensures _ c.if-value_number-eq1.false c.requires.0

-- `downgrade::listed_size` meets its contract.
use mathlib.Core.Path.{refl}
use native.Mathlib.Omega.{arith}
use Rattle.image_entries.proofs.Records.{headed}
use Rattle.downgrade.proofs.ByKind.{of_broker, of_other, of_known, of_partition, listed-size}
use Rattle.downgrade.proofs.listed_size.Goals as goal

pub bounds-s-0 : goal.bounds-s-0
bounds-s-0 c = omega (arith, headed _ c.requires)

pub returns-then-s-eq-BROKER_REGISTRATION : goal.returns-then-s-eq-BROKER_REGISTRATION
returns-then-s-eq-BROKER_REGISTRATION c = listed-size _ _ (of_broker _ c.requires _ c.if-s-eq-BROKER_REGISTRATION.true) c.projected_size.ensures.0 (omega (arith, c.projected_size.ensures.1))

pub bounds-s-0-2 : goal.bounds-s-0-2
bounds-s-0-2 c = omega (arith, headed _ c.requires)

pub returns-then-s-ne-PARTITION : goal.returns-then-s-ne-PARTITION
returns-then-s-ne-PARTITION c = listed-size _ _ (of_other _ c.requires _ c.if-s-eq-BROKER_REGISTRATION.false c.if-s-ne-PARTITION.true) refl (omega arith)

pub returns-then-not-is_under : goal.returns-then-not-is_under
returns-then-not-is_under c =
    listed-size _ _ (of_known _ c.requires _ c.if-s-ne-PARTITION.false c.is_under.ensures c.if-not-is_under.true-raw) refl (omega arith)

pub returns : goal.returns
returns c =
    listed-size _ _ (of_partition _ c.requires _ c.if-s-ne-PARTITION.false c.is_under.ensures c.if-not-is_under.false-raw) c.assignments_size.ensures.0
    c.assignments_size.ensures.1

-- `downgrade::put_listed` meets its contract.
use native.Mathlib.Omega.{arith}
use Rattle.image_entries.proofs.Records.{headed}
use Rattle.downgrade.proofs.ByKind.{of_broker, of_other, of_known, of_partition, listed_fits, listed-put, none-put}
use Rattle.downgrade.proofs.put_listed.Goals as goal

pub bounds-s-0 : goal.bounds-s-0
bounds-s-0 c = omega (arith, headed _ c.requires.0)

pub put_projected-requires : goal.put_projected-requires
put_projected-requires c =
    (c.requires.0, c.if-s-eq-BROKER_REGISTRATION.true, listed_fits _ _ (of_broker _ c.requires.0 _ c.if-s-eq-BROKER_REGISTRATION.true) c.args.out.now _ c.requires.1)

pub returns-then-s-eq-BROKER_REGISTRATION : goal.returns-then-s-eq-BROKER_REGISTRATION
returns-then-s-eq-BROKER_REGISTRATION c =
    listed-put _ _ (of_broker _ c.requires.0 _ c.if-s-eq-BROKER_REGISTRATION.true) c.args.out.now _ c.put_projected.ensures

pub bounds-s-0-2 : goal.bounds-s-0-2
bounds-s-0-2 c = omega (arith, headed _ c.requires.0)

pub returns-then-s-ne-PARTITION : goal.returns-then-s-ne-PARTITION
returns-then-s-ne-PARTITION c =
    none-put _ _ (of_other _ c.requires.0 _ c.if-s-eq-BROKER_REGISTRATION.false c.if-s-ne-PARTITION.true) c.args.out.now _

pub returns-then-not-is_under : goal.returns-then-not-is_under
returns-then-not-is_under c =
    none-put _ _ (of_known _ c.requires.0 _ c.if-s-ne-PARTITION.false c.is_under.ensures c.if-not-is_under.true-raw) c.args.out.now _

pub put_assignments-requires : goal.put_assignments-requires
put_assignments-requires c = (
  c.requires.0,
  c.if-s-ne-PARTITION.false,
  listed_fits _ _ (of_partition _ c.requires.0 _ c.if-s-ne-PARTITION.false c.is_under.ensures c.if-not-is_under.false-raw) c.args.out.now _ c.requires.1,
)

pub returns : goal.returns
returns c =
    listed-put _ _ (of_partition _ c.requires.0 _ c.if-s-ne-PARTITION.false c.is_under.ensures c.if-not-is_under.false-raw) c.args.out.now _ c.put_assignments.ensures

-- `kinds::is_group` meets its contract, test by test.
use native.Mathlib.Omega.{arith}
use borrow.Author.Tests.{not-true, not-false}
use Rattle.image_entries.proofs.Records.{headed}
use Rattle.image_entries.proofs.ByKind.{group_not_bare, group_named, group_config, group_quota}
use Rattle.image_entries.proofs.kinds.is_group.Goals as goal

pub returns-then-not-is_bare : goal.returns-then-not-is_bare
returns-then-not-is_bare c = group_not_bare _ c.requires c.is_bare.ensures (not-true _ c.if-not-is_bare.true-raw)

pub returns-then-not-is_empty : goal.returns-then-not-is_empty
returns-then-not-is_empty c =
    group_named _ c.requires c.is_bare.ensures (not-false _ c.if-not-is_bare.false-raw) c.is_empty.ensures
    (not-true _ c.if-not-is_empty.true-raw)

pub bounds-e-0 : goal.bounds-e-0
bounds-e-0 c = omega (arith, headed _ c.requires)

pub returns-then-e-eq-BROKER_CONFIG : goal.returns-then-e-eq-BROKER_CONFIG
returns-then-e-eq-BROKER_CONFIG c =
    group_config _ c.requires c.is_bare.ensures (not-false _ c.if-not-is_bare.false-raw)
    c.is_empty.ensures (not-false _ c.if-not-is_empty.false-raw) c.if-e-eq-BROKER_CONFIG.true

pub returns : goal.returns
returns c =
    group_quota _ c.requires c.is_bare.ensures (not-false _ c.if-not-is_bare.false-raw)
    c.is_empty.ensures (not-false _ c.if-not-is_empty.false-raw) c.if-e-eq-BROKER_CONFIG.false c.entities_in_order.ensures

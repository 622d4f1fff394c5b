-- `members::member` meets its contract.
use native.Mathlib.Omega.{arith}
use Rattle.apply_work.proofs.Made.{record-size}
use Rattle.apply_plan.proofs.Arms.{left, joined}
use Rattle.apply_plan.proofs.members.member.Goals as goal

pub leave-requires : goal.leave-requires
leave-requires c =
    (c.requires.0, c.requires.1, c.requires.2, c.requires.3, c.requires.4, omega (arith, record-size _ c.requires.1, c.requires.5))

pub returns-then-is_bare : goal.returns-then-is_bare
returns-then-is_bare c =
    left _ c.requires.2 c.is_bare.ensures c.if-is_bare.true c.leave.ensures

pub join-requires : goal.join-requires
join-requires c =
    (c.requires.0, c.requires.1, c.requires.2, c.requires.4, omega (arith, record-size _ c.requires.1, c.requires.5))

pub returns : goal.returns
returns c =
    joined _ c.requires.2 c.is_bare.ensures c.if-is_bare.false c.join.ensures

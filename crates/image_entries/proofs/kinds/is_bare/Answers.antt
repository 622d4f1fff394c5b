-- `kinds::is_bare` meets its contract: a broker config or a quota, without its third field.
use native.Mathlib.Omega.{arith}
use Rattle.image_entries.proofs.Records.{headed}
use Rattle.image_entries.proofs.ByKind.{not_bare, bare_told}
use Rattle.image_entries.proofs.kinds.is_bare.Goals as goal

pub bounds-e-0 : goal.bounds-e-0
bounds-e-0 c = omega (arith, headed _ c.requires)

pub returns-in-6 : goal.returns-in-6
returns-in-6 c = bare_told _ c.requires c.in-6.if-e-lt6-own.false c.in-6.if-this-lt8-own.true c.has.ensures

pub returns-in_default : goal.returns-in_default
returns-in_default c = not_bare _ c.requires (λ q. omega arith) (λ q. omega arith)

pub returns-in_default-2 : goal.returns-in_default-2
returns-in_default-2 c = not_bare _ c.requires (λ q. omega arith) (λ q. omega arith)

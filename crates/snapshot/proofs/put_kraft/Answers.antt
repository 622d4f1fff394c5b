-- `snapshot::put_kraft` meets its contract.
use mathlib.Core.Path.{sym, ap, ◌∙◌}
use native.Mathlib.Omega.{arith}
use Rattle.snapshot.specs.Returned.{kraft_bytes}
use Rattle.snapshot.proofs.Trails.{kraft-some, kraft-none, number_fits, put_some, put-none}
use Rattle.snapshot.proofs.put_kraft.Goals as goal

pub returns-then-kraft-eq-NO_VERSION : goal.returns-then-kraft-eq-NO_VERSION
returns-then-kraft-eq-NO_VERSION c =
    put-none _ c.args.out.now c.args.total (ap kraft_bytes (sym c.kraft_in-kraft.ensures) ∙ kraft-none _ c.if-kraft-eq-NO_VERSION.true)

pub put_number-requires : goal.put_number-requires
put_number-requires c =
    let written = ap kraft_bytes (sym c.kraft_in-kraft.ensures) ∙ kraft-some _ c.if-kraft-eq-NO_VERSION.false in
    (omega arith, number_fits _ c.args.out.now c.args.total 10 2 _ written c.requires.image_in_bounds)

pub returns : goal.returns
returns c =
    let written = ap kraft_bytes (sym c.kraft_in-kraft.ensures) ∙ kraft-some _ c.if-kraft-eq-NO_VERSION.false in
    put_some _ c.args.out.now c.args.total 10 2 _ written c.put_number.ensures

-- `snapshot::put_epoch` meets its contract.
use mathlib.Core.Path.{sym, ap, ◌∙◌}
use native.Mathlib.Omega.{arith}
use Rattle.snapshot.specs.Returned.{epoch_bytes}
use Rattle.snapshot.proofs.Trails.{epoch-some, epoch-none, number_fits, put_some, put-none}
use Rattle.snapshot.proofs.put_epoch.Goals as goal

pub put_number-requires : goal.put_number-requires
put_number-requires c =
    let written = ap epoch_bytes (sym c.epoch_in-epoch.ensures) ∙ epoch-some _ c.if-epoch-lt-NEGATIVE.true in
    (omega arith, number_fits _ c.args.out.now c.args.total 13 8 _ written c.requires.image_in_bounds)

pub returns-then-epoch-lt-NEGATIVE : goal.returns-then-epoch-lt-NEGATIVE
returns-then-epoch-lt-NEGATIVE c =
    let written = ap epoch_bytes (sym c.epoch_in-epoch.ensures) ∙ epoch-some _ c.if-epoch-lt-NEGATIVE.true in
    put_some _ c.args.out.now c.args.total 13 8 _ written c.put_number.ensures

pub returns : goal.returns
returns c =
    put-none _ c.args.out.now c.args.total (ap epoch_bytes (sym c.epoch_in-epoch.ensures) ∙ epoch-none _ c.if-epoch-lt-NEGATIVE.false)

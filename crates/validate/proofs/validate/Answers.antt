-- `validate::validate` meets its contract, exit by exit.
use native.Mathlib.Omega.{arith}
use mathlib.Core.Path.{sym, ap, ◌∙◌}
use Rattle.keys.proofs.Keys.{known_bytes}
use Rattle.model.specs.Answers.{replied}
use Rattle.find.proofs.Lent.{lent-entries}
use Rattle.find.proofs.Logged.{record-length, record-logged}
use Rattle.validate.proofs.Verdicts.{no_image, image_is, read-refused, judged}
use Rattle.validate.proofs.validate.Goals as goal

pub returns-then-not-is_image : goal.returns-then-not-is_image
returns-then-not-is_image c =
    no_image c.args.image.now c.args.input.now c.is_image.ensures c.if-not-is_image.true-raw

pub reals_end-end-requires : goal.reals_end-end-requires
reals_end-end-requires c =
    image_is c.args.image.now c.args.input.now c.is_image.ensures c.if-not-is_image.false-raw

pub slice_bounds-judge-end-in-Used : goal.slice_bounds-judge-end-in-Used
slice_bounds-judge-end-in-Used c =
    record-length c.args.input.now (known_bytes c.args.input.now (λ i. omega (arith, c.type_inv.input i)))
    (ap replied (sym c.in-Used.is) ∙ c.read_logged.ensures)

pub judge-requires : goal.judge-requires
judge-requires c =
    let r = c.reals_end-end.ensures in (
      lent-entries _ r,
      record-logged c.args.input.now (known_bytes c.args.input.now (λ i. omega (arith, c.type_inv.input i)))
          (ap replied (sym c.in-Used.is) ∙ c.read_logged.ensures),
    )

pub returns-in-Refused : goal.returns-in-Refused
returns-in-Refused c =
    read-refused c.args.image.now c.args.input.now c.is_image.ensures c.if-not-is_image.false-raw (ap replied (sym c.in-Refused.is) ∙ c.read_logged.ensures)

pub returns-in-Used : goal.returns-in-Used
returns-in-Used c =
    judged c.args.image.now c.args.input.now c.is_image.ensures c.if-not-is_image.false-raw
    (known_bytes c.args.input.now (λ i. omega (arith, c.type_inv.input i)))
    (ap replied (sym c.in-Used.is) ∙ c.read_logged.ensures) c.reals_end-end.ensures c.judge.ensures

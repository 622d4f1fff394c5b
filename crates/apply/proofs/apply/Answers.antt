-- `apply::apply` meets its contract.
use mathlib.Core.Path.{sym, ap, ◌∙◌}
use native.Mathlib.Omega.{arith}
use Rattle.keys.proofs.Keys.{known_bytes}
use Rattle.model.specs.Answers.{replied}
use Rattle.find.proofs.Logged.{record-length, record-logged}
use Rattle.apply.proofs.Applying.{no_image, image_is, unread, applied}
use Rattle.apply.proofs.apply.Goals as goal

pub returns-then-not-is_image : goal.returns-then-not-is_image
returns-then-not-is_image c =
    let the_whole = no_image _ _ _ c.is_image.ensures c.if-not-is_image.true-raw in record { result_value = the_whole.0; image_after = the_whole.1 }

pub slice_bounds-apply_later-end : goal.slice_bounds-apply_later-end
slice_bounds-apply_later-end c =
    record-length c.args.input.now (known_bytes c.args.input.now (λ i. omega (arith, c.type_inv.input i)))
    (ap replied (sym c.in-Used.is) ∙ c.read_logged.ensures)

pub apply_later-requires : goal.apply_later-requires
apply_later-requires c = (
  image_is _ c.args.offset c.args.input.now c.is_image.ensures c.if-not-is_image.false-raw,
  record-logged c.args.input.now (known_bytes c.args.input.now (λ i. omega (arith, c.type_inv.input i)))
      (ap replied (sym c.in-Used.is) ∙ c.read_logged.ensures),
)

pub returns-in-Refused : goal.returns-in-Refused
returns-in-Refused c =
    let the_whole = unread _ _ _ c.is_image.ensures c.if-not-is_image.false-raw (ap replied (sym c.in-Refused.is) ∙ c.read_logged.ensures) in record { result_value = the_whole.0; image_after = the_whole.1 }

pub returns-in-Used : goal.returns-in-Used
returns-in-Used c =
    let the_whole = applied _ _ _ c.is_image.ensures c.if-not-is_image.false-raw (known_bytes c.args.input.now (λ i. omega (arith, c.type_inv.input i)))
    (ap replied (sym c.in-Used.is) ∙ c.read_logged.ensures) (c.apply_later.ensures.result_value, c.apply_later.ensures.image_after) in record { result_value = the_whole.0; image_after = the_whole.1 }

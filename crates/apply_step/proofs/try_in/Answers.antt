-- `apply_step::try_in` meets its contract.
use mathlib.Core.Path.{ap, ◌∙◌}
use native.Mathlib.Omega.{arith}
use Rattle.model.specs.Apply.{apply}
use Rattle.keys.proofs.Keys.{known_bytes}
use Rattle.apply_step.proofs.Loaded.{image_long, state_loaded, holding_loaded}
use Rattle.apply_step.proofs.try_in.Goals as goal

pub load-bounds-requires : goal.load-bounds-requires
load-bounds-requires c =
    (c.requires.0, omega (arith, image_long _ (known_bytes c.args.image.now (λ i. omega (arith, c.type_inv.image i))) c.requires.0, c.requires.2))

pub epoch_in-requires : goal.epoch_in-requires
epoch_in-requires c =
    (image_long _ (known_bytes c.args.image.now (λ i. omega (arith, c.type_inv.image i))) c.requires.0).0

pub kraft_in-requires : goal.kraft_in-requires
kraft_in-requires c =
    (image_long _ (known_bytes c.args.image.now (λ i. omega (arith, c.type_inv.image i))) c.requires.0).0

pub offset_in-requires : goal.offset_in-requires
offset_in-requires c =
    (image_long _ (known_bytes c.args.image.now (λ i. omega (arith, c.type_inv.image i))) c.requires.0).0

pub step-requires : goal.step-requires
step-requires c = (
  holding_loaded c.args.image.now (known_bytes c.args.image.now (λ i. omega (arith, c.type_inv.image i))) c.requires.0 _ _ _ _ _
      c.load-bounds.ensures c.epoch_in.ensures c.kraft_in.ensures
      c.offset_in.ensures,
  c.requires.1,
  omega (arith, c.requires.2, c.load-bounds.auto.w),
  c.requires.3,
  c.requires.4,
)

pub returns : goal.returns
returns c = (
  c.step.ensures.0 ∙ ap (apply _ _)
      (state_loaded c.args.image.now (known_bytes c.args.image.now (λ i. omega (arith, c.type_inv.image i))) c.requires.0 _ _ _ _ _ c.load-bounds.ensures c.epoch_in.ensures c.kraft_in.ensures
      c.offset_in.ensures),
  c.step.ensures.1,
)

-- The state of a work array into which an image is loaded.
use mathlib.Core.Path.{◌≡◌, refl}
use mathlib.Core.Bool.{true}
use Prim.Native.Nat.{ℕ, ◌+◌, ◌≤◌}
use native.Mathlib.Omega.{arith}
use lib.ListN.{length}
use Rattle.model.specs.Number.{Bytes, AreBytes}
use Rattle.model.specs.Image.{head_size, used_in, fixed_in, contents_of, is_image}
use Rattle.laws_image.specs.Tests.{capacity-least, capacity-most}
use Rattle.laws_image.specs.Exact.{image_fits}
use Rattle.laws_apply.specs.MovedFits.{fits_holds}
use Rattle.find.proofs.Ends.{used_high}
use Rattle.apply_work.specs.Work.{groups_in, Good, held_in, state_in}
use Rattle.apply_work.specs.declared.Bounds.{Bounds}
use Rattle.apply_step.specs.Step.{Holding}

module _ (image : Bytes) (are : AreBytes image) (is : is_image image ≡ true) (w : Bytes) (bounds : Bounds) (epoch kraft offset : ℕ)
    (load : Good w bounds × (held_in w bounds ≡ (contents_of image).real) × (groups_in w bounds ≡ (contents_of image).empties) × (bounds.used + head_size ≡ used_in image))
    (ee : epoch ≡ (fixed_in image).epoch) (ek : kraft ≡ (fixed_in image).kraft) (eo : offset ≡ (fixed_in image).offset) where
  pub state_loaded : state_in w (record { bounds = bounds; epoch = epoch; kraft = kraft; offset = offset }) ≡ contents_of image
  unfolding contents_of
  state_loaded = rw (load.1, load.2, ee, ek, eo) refl

  pub holding_loaded : Holding w (record { bounds = bounds; epoch = epoch; kraft = kraft; offset = offset }) (length image)
  holding_loaded =
      let fits = image_fits image are is in
      record {
        good = load.0;
        holds = rw state_loaded (fits_holds (length image) (contents_of image) fits);
        within = fits.within;
        light = rw state_loaded fits.room;
        fits = omega (arith, load.3, used_high image are is refl);
      }

pub image_long : (image : Bytes) → AreBytes image → is_image image ≡ true → (head_size ≤ length image) × (length image ≤ 65536)
image_long image are is =
    let within = (image_fits image are is).within in
    (omega (arith, capacity-least (length image) within), capacity-most (length image) within)

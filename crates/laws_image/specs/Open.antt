-- The fresh image: it fits every capacity, and Open makes it.
use Rattle.std.specs.Prelude.{◌≡◌, refl, true, ℕ, ◌≤◌, length}
use Rattle.std.proofs.Common.{◌∙◌, ap, arith, lit<}
use Rattle.model.specs.Choice.{total}
use Rattle.model.specs.Number.{Bytes, AreBytes, is_offset}
use Rattle.model.specs.Map.{ascending}
use Rattle.model.specs.Contents.{fresh, weight, named_apart, sound}
use Rattle.model.specs.Image.{is_capacity, image_of, contents_of, is_image, open_of}
use Rattle.laws_image.specs.Fits.{Fits}
use Rattle.laws_image.specs.Tests.{capacity-least}
use Rattle.laws_image.specs.Image.{image_length, image_bytes, image_contents, image_is}

fresh-offset : is_offset fresh.fixed.offset ≡ true
unfolding is_offset
fresh-offset = refl

fresh-sound : sound fresh ≡ true
unfolding sound ascending named_apart
fresh-sound = refl

fresh-weight : (capacity : ℕ) → is_capacity capacity ≡ true → weight fresh ≤ capacity
unfolding weight total
fresh-weight capacity h = omega (arith, capacity-least capacity h)

pub fresh_fits : (capacity : ℕ) → is_capacity capacity ≡ true → Fits capacity fresh
fresh_fits capacity h = record {
  within = h;
  entries = tt;
  groups = tt;
  orderly = fresh-sound;
  epoch = lit< tt;
  kraft = lit< tt;
  offset = fresh-offset;
  room = fresh-weight capacity h;
}

module _ (b : Bytes) (h : is_capacity (length b) ≡ true) where
  pub open_buffer : (open_of b).buffer ≡ image_of (length b) fresh
  unfolding open_of
  open_buffer = rw h

  pub open_length : length (open_of b).buffer ≡ length b
  open_length = ap length open_buffer ∙ image_length (length b) fresh (fresh_fits (length b) h)

  pub open_image : (is_image (open_of b).buffer ≡ true) × (contents_of (open_of b).buffer ≡ fresh) × AreBytes (open_of b).buffer
  open_image =
      let f = fresh_fits (length b) h in
      rw open_buffer (image_is (length b) fresh f, image_contents (length b) fresh f, image_bytes (length b) fresh f)

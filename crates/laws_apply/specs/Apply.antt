-- Apply at bytes: it keeps images, and what it answers is said by the contents alone.
use Rattle.std.specs.Prelude.{◌≡◌, refl, true, false, ℕ, ◌<◌, length}
use Rattle.std.proofs.Common.{sym}
use Rattle.model.specs.Number.{Bytes, AreBytes, span}
use Rattle.model.specs.Shape.{logged}
use Rattle.model.specs.Record.{Rec, Got, bad, got, read}
use Rattle.model.specs.Reply.{refused, Ended, unchanged}
use Rattle.model.specs.Contents.{Contents}
use Rattle.model.specs.Image.{image_of, contents_of, is_image}
use Rattle.model.specs.Apply.{Applied, stays, becomes, apply_at, laid, apply_of}
use Rattle.laws_records.specs.Records.{reads, fields_read}
use Rattle.laws_image.specs.Fits.{Fits}
use Rattle.laws_image.specs.Image.{image_length, image_bytes, image_contents, image_is}
use Rattle.laws_image.specs.Exact.{image_fits, image_back}
use Rattle.laws_apply.specs.MovedFits.{contents_after, applied-at_fits}

-- 1. By what is read

-- the number that Apply says
abbrev pub refusal_number : Applied → ℕ
refusal_number (stays n) = n
refusal_number (becomes c) = 0

pub apply_no_image : (image : Bytes) (n : ℕ) (input : Bytes) → is_image image ≡ false → apply_of image n input ≡ unchanged 1 image
unfolding apply_of
apply_no_image image n input h = rw h

module _ (image : Bytes) (offset : ℕ) (input : Bytes) (is : is_image image ≡ true) where
  pub apply_unread : (n : ℕ) → read logged input ≡ bad n → apply_of image offset input ≡ unchanged n image
  unfolding apply_of
  apply_unread n e = rw (is, e)

  pub apply-read : (r : Rec) (used : ℕ) → read logged input ≡ got r used
      → apply_of image offset input ≡ laid image (apply_at (length image) offset r (contents_of image))
  unfolding apply_of
  apply-read r used e = rw (is, e)

-- 2. Of images

-- what an operation's end says, by what a record does to the contents
pub record Answers (image : Bytes) (a : Applied) (end : Ended) : Type 0 where
  pub reply : end.reply ≡ refused (refusal_number a)
  pub buffer : end.buffer ≡ image_of (length image) (contents_after (contents_of image) a)
  pub contents : contents_of end.buffer ≡ contents_after (contents_of image) a

module _ (image : Bytes) (offset : ℕ) (input : Bytes) (are_bytes : AreBytes image) (is : is_image image ≡ true) (given : AreBytes input) (wide : offset < span 8) where
  module _ (r : Rec) (used : ℕ) (e : read logged input ≡ got r used) where
    pub after_fits : Fits (length image) (contents_after (contents_of image) (apply_at (length image) offset r (contents_of image)))
    after_fits =
        applied-at_fits (length image) offset (contents_of image) (image_fits image are_bytes is) wide r (reads logged input r used e).passes
        (fields_read logged input r used given e)

    pub apply_contents : Answers image (apply_at (length image) offset r (contents_of image)) (apply_of image offset input)
    apply_contents = rw (apply-read image offset input is r used e) (go (apply_at (length image) offset r (contents_of image)) after_fits)
      where
        go : (a : Applied) → Fits (length image) (contents_after (contents_of image) a) → Answers image a (laid image a)
        go (stays n) fits = record { reply = refl; buffer = sym (image_back image are_bytes is); contents = refl }
        go (becomes c) fits = record { reply = refl; buffer = refl; contents = image_contents (length image) c fits }

  -- the image of contents that fit
  laid_image : (b : Bytes) (c : Contents) → b ≡ image_of (length image) c → Fits (length image) c
      → (is_image b ≡ true) × AreBytes b × (length b ≡ length image)
  laid_image b c e fits = rw e (image_is (length image) c fits, image_bytes (length image) c fits, image_length (length image) c fits)

  pub apply_image : (is_image (apply_of image offset input).buffer ≡ true) × AreBytes (apply_of image offset input).buffer
      × (length (apply_of image offset input).buffer ≡ length image)
  apply_image = go (read logged input) refl
    where
      go : (g : Got) → read logged input ≡ g
          → (is_image (apply_of image offset input).buffer ≡ true) × AreBytes (apply_of image offset input).buffer
          × (length (apply_of image offset input).buffer ≡ length image)
      go (bad n) e = rw (apply_unread image offset input is n e) (is, are_bytes, refl)
      go (got r used) e =
          laid_image (apply_of image offset input).buffer (contents_after (contents_of image) (apply_at (length image) offset r (contents_of image)))
          (apply_contents r used e).buffer (after_fits r used e)

-- The bytes of a steady image's snapshot restore to that image.
use mathlib.Core.Path.{◌≡◌, refl, sym, ap, ◌∙◌}
use mathlib.Core.Bool.{Bool, true, false, cond, not}
use mathlib.Core.List.{[], ◌∷◌}
use Prim.Native.Nat.{ℕ}
use native.Mathlib.Omega.{arith}
use borrow.Author.Tests.{not-false}
use lib.ListN.{length, take}
use Rattle.model.specs.Number.{Bytes, AreBytes}
use Rattle.model.specs.Order.{same_bytes}
use Rattle.model.specs.Image.{is_image, contents_of, image_of}
use Rattle.model.specs.Reply.{accepted, unchanged}
use Rattle.model.specs.Snapshot.{emit, snapshot, snapshot_of, restore_of}
use Rattle.laws.specs.Order.{same_bytes_true}
use Rattle.laws_image.specs.Exact.{image_back}
use Rattle.laws_restore.specs.Cut.{cut_becomes_restored}
use Rattle.restore_copy.specs.Rebuild.{Steady, Rebuilt}

module _ (image w : Bytes) {n : ℕ} (said : accepted (n ∷ []) ≡ (snapshot_of image w).reply) where
  -- what is no image has no snapshot
  pub image_is : is_image image ≡ true
  unfolding snapshot_of
  image_is = go (is_image image) said
    where
      go : (b : Bool) → accepted (n ∷ []) ≡ (cond b (emit (snapshot (contents_of image)) w) (unchanged 1 w)).reply → b ≡ true
      go true h = refl
      go false h = absurd (omega (arith, ap (λ r. r.number) h))

  pub rebuilt : (v input : Bytes) → AreBytes image → v ≡ (snapshot_of image w).buffer → not (same_bytes (take n v) input) ≡ false → (r : Bool)
      → Steady image r → Rebuilt input image r
  rebuilt v input bytes ev same true steady = λ b e.
      let made = rw (sym said, sym ev) at (cut_becomes_restored image w b bytes image_is e) in
      ap (λ s. restore_of s b) (sym (same_bytes_true (take n v) input (not-false (same_bytes (take n v) input) same)))
      ∙ made
      ∙ ap (λ x. record { reply = accepted []; buffer = x }) (ap (image_of (length image)) steady ∙ image_back image bytes image_is)
  rebuilt v input bytes ev same false steady = tt

-- Apply, from what a step on the work array says.
use mathlib.Core.Path.{◌≡◌, refl, sym, ◌∙◌}
use mathlib.Core.Bool.{Bool, true, false, not}
use mathlib.Core.List.{[], ◌∷◌}
use Prim.Native.Nat.{ℕ, ◌≤◌}
use native.Mathlib.Omega.{arith}
use borrow.Author.Tests.{not-true, not-false}
use lib.ListN.{length, take}
use Rattle.model.specs.Number.{Bytes, AreBytes}
use Rattle.model.specs.Record.{Rec, read}
use Rattle.model.specs.Shape.{logged}
use Rattle.model.specs.Contents.{Contents, dated}
use Rattle.model.specs.Image.{head_size, fixed_in, image_of, contents_of, is_image}
use Rattle.model.specs.Reply.{accepted, refused}
use Rattle.model.specs.Apply.{Applied, stays, becomes, apply, dated_by, is_later, apply_at, laid, apply_of}
use Rattle.laws_image.specs.Tests.{image_holds, capacity-least}
use Rattle.laws_apply.specs.Apply.{apply_no_image, apply_unread, apply-read}
use Rattle.model.specs.Answers.{number_reply}
use Rattle.find.specs.Logged.{logged_in}
use Rattle.find.proofs.Logged.{it, logged_is as read_is}
use Rattle.records.specs.Answers.{got_reply}
use Rattle.records.proofs.Replies.{refused_bad}

-- 1. What is laid out, at the offset given

module _ (image : Bytes) (offset : ℕ) (r : Applied) where
  pub laid-refused : (n : ℕ) → stays n ≡ r → (number_reply n ≡ (laid image (dated_by offset r)).reply) × (image ≡ (laid image (dated_by offset r)).buffer)
  laid-refused n e = rw (← e) (refl, refl)

  pub laid-moved : (c : Contents) → becomes c ≡ r → {v : Bytes} → v ≡ image_of (length image) (dated offset c)
      → (number_reply 0 ≡ (laid image (dated_by offset r)).reply) × (v ≡ (laid image (dated_by offset r)).buffer)
  laid-moved c e q = rw (← e) (refl, q)

-- 2. Whether the offset is above the image's

pub image_long : (image : Bytes) → is_image image ≡ true → head_size ≤ length image
image_long image is = omega (arith, capacity-least (length image) (image_holds image is).within)

module _ (image : Bytes) (offset : ℕ) (r : Rec) {before : ℕ} (eo : before ≡ (fixed_in image).offset) {b : Bool} (eb : b ≡ is_later before offset) where
  abbrev answer : Applied
  answer = apply_at (length image) offset r (contents_of image)

  above : is_later (contents_of image).fixed.offset offset ≡ b
  unfolding contents_of
  above = rw (← eo) (sym eb)

  pub not_later : not b ≡ true → (number_reply 21 ≡ (laid image answer).reply) × (image ≡ (laid image answer).buffer)
  unfolding apply_at
  not_later h = rw (above, not-true b h) (refl, refl)

  pub later : not b ≡ false → {m : ℕ} {v : Bytes}
      → (number_reply m ≡ (laid image (dated_by offset (apply (length image) r (contents_of image)))).reply) ×
      (v ≡ (laid image (dated_by offset (apply (length image) r (contents_of image)))).buffer)
      → (number_reply m ≡ (laid image answer).reply) × (v ≡ (laid image answer).buffer)
  unfolding apply_at
  later h q = rw (above, not-false b h) q

-- 3. Exits

module _ (image : Bytes) (offset : ℕ) (input : Bytes) {b : Bool} (eb : b ≡ is_image image) where
  pub no_image : not b ≡ true → (number_reply 1 ≡ (apply_of image offset input).reply) × (image ≡ (apply_of image offset input).buffer)
  no_image h = rw (apply_no_image image offset input (sym eb ∙ not-true b h)) (refl, refl)

  module _ (h : not b ≡ false) where
    pub image_is : is_image image ≡ true
    image_is = sym eb ∙ not-false b h

    pub unread : {n : ℕ} → refused n ≡ got_reply (read logged input) → (number_reply n ≡ (apply_of image offset input).reply) × (image ≡ (apply_of image offset input).buffer)
    unread {n} e = rw (apply_unread image offset input image_is n (refused_bad (read logged input) n e)) (refl, refl)

    pub applied : (are : AreBytes input) {n : ℕ} (e : accepted (n ∷ []) ≡ got_reply (read logged input)) {m : ℕ} {v : Bytes}
        → (number_reply m ≡ (laid image (apply_at (length image) offset (logged_in (take n input)) (contents_of image))).reply) ×
        (v ≡ (laid image (apply_at (length image) offset (logged_in (take n input)) (contents_of image))).buffer)
        → (number_reply m ≡ (apply_of image offset input).reply) × (v ≡ (apply_of image offset input).buffer)
    applied are {n} e q =
        rw (apply-read image offset input image_is (it input are e).0 n (it input are e).1, ← read_is input are e) q

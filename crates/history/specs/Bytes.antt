-- Images along a history: each step leaves an image of the same capacity, and its contents are what the step makes of the contents before.
use Rattle.std.specs.Prelude.{◌≡◌, List, [], ◌∷◌, ◌++◌, Bool, true, false, cond, ℕ, leb, eqb, length, drop}
use Rattle.std.proofs.Math.Path.{refl, sym}
use Rattle.std.proofs.Common.{◌∙◌, ap}
use Rattle.std.proofs.Math.Option.{none, some}
use Rattle.model.specs.Choice.{joined}
use Rattle.model.specs.Number.{Bytes, AreBytes}
use Rattle.model.specs.Shape.{logged}
use Rattle.model.specs.Record.{record_bytes, Got, bad, got, read, on_got}
use Rattle.model.specs.Contents.{Contents}
use Rattle.model.specs.Image.{is_capacity, image_of, contents_of, is_image, open_of}
use Rattle.model.specs.Validate.{validate_of, judge}
use Rattle.model.specs.Apply.{Applied, stays, becomes, laid, apply_of}
use Rattle.model.specs.Snapshot.{emit, snapshot, snapshot_of, restore_of, restored}
use Rattle.model.specs.Reply.{refused, accepted, Ended, unchanged, emit_bytes}
use Rattle.model.specs.History.{Step, give, ask_topic, ask_topic_id, ask_partition, ask_broker, ask_epoch, ask_offset, ask_short, ask_freeze, ask_freezes, view, ask_throttle, ask_downgrade, snap, cut}
use Rattle.model.specs.History.{Answer, verdict, judged, image_after, written, cut_image, after, reached, StepGiven, Given}
use Rattle.laws_records.specs.Records.{reads, fields_read}
use Rattle.laws_image.specs.Fits.{Fits}
use Rattle.laws_image.specs.Image.{image_length, image_bytes, image_contents, image_is}
use Rattle.laws_image.specs.Exact.{image_fits}
use Rattle.laws_image.specs.Open.{open_length, open_image}
use Rattle.laws_restore.specs.RestoredFits.{restored_fits}
use Rattle.laws_restore.specs.Cut.{cut_becomes_restored}
use Rattle.laws_apply.specs.MovedFits.{contents_after}
use Rattle.laws_apply.specs.Apply.{refusal_number, apply_unread, apply-read}
use Rattle.history.specs.Offered.{validated, applied, offered, IsRead, offered_fits}

-- 1. A step, of contents

-- a snapshot of the contents fits its output
abbrev pub fits_own : Bytes → Contents → Bool
fits_own own c = leb (length (joined record_bytes (snapshot c))) (length own)

unfoldable pub effect : ℕ → Step → Contents → Applied
effect capacity (give o input) c = offered capacity o (read logged input) c
effect capacity (cut own other) c = cond (fits_own own c) (becomes (restored c)) (stays 19)
effect capacity (ask_topic name out) c = stays 0
effect capacity (ask_topic_id id out) c = stays 0
effect capacity (ask_partition name n out) c = stays 0
effect capacity (ask_broker node out) c = stays 0
effect capacity ask_epoch c = stays 0
effect capacity ask_offset c = stays 0
effect capacity ask_short c = stays 0
effect capacity (ask_freeze name out) c = stays 0
effect capacity (ask_freezes list out) c = stays 0
effect capacity (view q list out) c = stays 0
effect capacity (ask_throttle node which) c = stays 0
effect capacity (ask_downgrade level out) c = stays 0
effect capacity (snap out) c = stays 0

pub is_read : (input : Bytes) → AreBytes input → IsRead (read logged input)
is_read input b = go (read logged input) refl
  where
    go : (g : Got) → read logged input ≡ g → IsRead g
    go (bad n) e = tt
    go (got r used) e = ((reads logged input r used e).passes, fields_read logged input r used b e)

-- the contents fit after it
module _ (capacity : ℕ) (c : Contents) (fits : Fits capacity c) where
  cut_fits : (own : Bytes) → Fits capacity (contents_after c (cond (fits_own own c) (becomes (restored c)) (stays 19)))
  cut_fits own = go (fits_own own c)
    where
      go : (b : Bool) → Fits capacity (contents_after c (cond b (becomes (restored c)) (stays 19)))
      go true = restored_fits capacity c fits
      go false = fits

  effect_fits : (s : Step) → StepGiven capacity s → Fits capacity (contents_after c (effect capacity s c))
  unfolding effect
  effect_fits (give o input) h = offered_fits capacity o h.1 c fits (read logged input) (is_read input h.0)
  effect_fits (cut own other) h = cut_fits own
  effect_fits (ask_topic name out) h = fits
  effect_fits (ask_topic_id id out) h = fits
  effect_fits (ask_partition name n out) h = fits
  effect_fits (ask_broker node out) h = fits
  effect_fits ask_epoch h = fits
  effect_fits ask_offset h = fits
  effect_fits ask_short h = fits
  effect_fits (ask_freeze name out) h = fits
  effect_fits (ask_freezes list out) h = fits
  effect_fits (view q list out) h = fits
  effect_fits (ask_throttle node which) h = fits
  effect_fits (ask_downgrade level out) h = fits
  effect_fits (snap out) h = fits

-- 2. An image of a capacity

pub record Image (capacity : ℕ) (image : Bytes) : Type 0 where
  pub size : length image ≡ capacity
  pub are_bytes : AreBytes image
  pub is : is_image image ≡ true

pub contents_fit : (capacity : ℕ) (image : Bytes) → Image capacity image → Fits capacity (contents_of image)
contents_fit capacity image h = rw h.size at (image_fits image h.are_bytes h.is)

pub opened : (buffer : Bytes) → is_capacity (length buffer) ≡ true → Image (length buffer) (open_of buffer).buffer
opened buffer h = let o = open_image buffer h in record { size = open_length buffer h; are_bytes = o.2; is = o.0 }

laid_out_lem : (capacity : ℕ) (c : Contents) → Fits capacity c → Image capacity (image_of capacity c)
laid_out_lem capacity c f = record { size = image_length capacity c f; are_bytes = image_bytes capacity c f; is = image_is capacity c f }

-- what Validate and Apply say of an image, by its contents
module _ (image input : Bytes) (is : is_image image ≡ true) where
  pub validate_contents : validate_of image input ≡ refused (validated (read logged input) (contents_of image))
  unfolding validate_of
  validate_contents = rw is (go (read logged input))
    where
      go : (g : Got) → on_got g refused (λ r used. refused (judge r (contents_of image).real)) ≡ refused (validated g (contents_of image))
      go (bad n) = refl
      go (got r used) = refl

  pub apply-laid : (o : ℕ) → apply_of image o input ≡ laid image (applied (length image) o (read logged input) (contents_of image))
  apply-laid o = go (read logged input) refl
    where
      go : (g : Got) → read logged input ≡ g → apply_of image o input ≡ laid image (applied (length image) o g (contents_of image))
      go (bad n) e = apply_unread image o input is n e
      go (got r used) e = apply-read image o input is r used e

-- 3. A step leaves the image, or the image of other contents

module _ (capacity : ℕ) (image : Bytes) (h : Image capacity image) where
  abbrev c : Contents
  c = contents_of image

  give_effect : (o : ℕ) (input : Bytes) → image_after o input image ≡ (laid image (offered capacity o (read logged input) c)).buffer
  give_effect o input =
      let g = read logged input in
      let laid_by : (apply_of image o input).buffer ≡ (laid image (applied capacity o g c)).buffer =
      ap (λ e. e.buffer) (apply-laid image input h.is o) ∙ ap (λ n. (laid image (applied n o g c)).buffer) h.size in
      rw (validate_contents image input h.is, laid_by) (go (validated g c) (applied capacity o g c) (eqb (validated g c) 0))
    where
      go : (n : ℕ) (a : Applied) (b : Bool) → cond b (laid image a).buffer image ≡ (laid image (cond b a (stays n))).buffer
      go n a true = refl
      go n a false = refl

  -- Snapshot says 0 exactly where its output has room
  snapshot-number : (own : Bytes) → eqb (snapshot_of image own).reply.number 0 ≡ fits_own own c
  unfolding snapshot_of emit emit_bytes
  snapshot-number own = rw h.is (go (fits_own own c))
    where
      s : Bytes
      s = joined record_bytes (snapshot c)

      whole : Bool → Ended
      whole b = cond b (record { reply = accepted (length s ∷ []); buffer = s ++ drop (length s) own }) (unchanged 19 own)

      go : (b : Bool) → eqb (whole b).reply.number 0 ≡ b
      go true = refl
      go false = refl

  cut_effect : (own other : Bytes) → length other ≡ capacity
      → cut_image own other image ≡ (laid image (cond (fits_own own c) (becomes (restored c)) (stays 19))).buffer
  unfolding cut_image
  cut_effect own other e =
      let made = cut_becomes_restored image own other h.are_bytes h.is (e ∙ sym h.size) in
      rw (snapshot-number own) (go (fits_own own c) (rw (snapshot-number own) at made))
    where
      back : Ended
      back = restore_of (written (snapshot_of image own)) other

      go : (b : Bool)
          → cond b (back ≡ record { reply = accepted []; buffer = image_of (length image) (restored c) }) (cond b back.buffer image ≡ image)
          → cond b back.buffer image ≡ (laid image (cond b (becomes (restored c)) (stays 19))).buffer
      go true q = ap (λ x. x.buffer) q
      go false q = refl

  after-effect : (s : Step) → StepGiven capacity s → after s image ≡ (laid image (effect capacity s c)).buffer
  unfolding after effect
  after-effect (give o input) k = give_effect o input
  after-effect (cut own other) k = cut_effect own other k
  after-effect (ask_topic name out) k = refl
  after-effect (ask_topic_id id out) k = refl
  after-effect (ask_partition name n out) k = refl
  after-effect (ask_broker node out) k = refl
  after-effect ask_epoch k = refl
  after-effect ask_offset k = refl
  after-effect ask_short k = refl
  after-effect (ask_freeze name out) k = refl
  after-effect (ask_freezes list out) k = refl
  after-effect (view q list out) k = refl
  after-effect (ask_throttle node which) k = refl
  after-effect (ask_downgrade level out) k = refl
  after-effect (snap out) k = refl

  laid_image : (a : Applied) → Fits capacity (contents_after c a)
      → Image capacity (laid image a).buffer × (contents_of (laid image a).buffer ≡ contents_after c a)
  laid_image (stays n) f = (h, refl)
  laid_image (becomes d) f = rw h.size (laid_out_lem capacity d f, image_contents capacity d f)

  module _ (s : Step) (k : StepGiven capacity s) where
    laid-after : Image capacity (laid image (effect capacity s c)).buffer
        × (contents_of (laid image (effect capacity s c)).buffer ≡ contents_after c (effect capacity s c))
    laid-after = laid_image (effect capacity s c) (effect_fits capacity c (contents_fit capacity image h) s k)

    pub after_image : Image capacity (after s image)
    after_image = rw (after-effect s k) laid-after.0

    pub after_contents : contents_of (after s image) ≡ contents_after c (effect capacity s c)
    after_contents = ap contents_of (after-effect s k) ∙ laid-after.1

-- 4. A history leaves an image

pub reached_image : (capacity : ℕ) (steps : List Step) (image : Bytes) → Image capacity image → Given capacity steps
    → Image capacity (reached steps image)
unfolding reached
reached_image capacity [] image h k = h
reached_image capacity (s ∷ steps) image h k = reached_image capacity steps (after s image) (after_image capacity image h s k.0) k.1

-- 5. What a record step answers: Validate's number and, where that is 0, Apply's

abbrev pub verdict_of : ℕ → ℕ → Answer
verdict_of n m = verdict (refused n) (cond (eqb n 0) (some (refused m)) none)

laid_reply : (image : Bytes) (a : Applied) → (laid image a).reply ≡ refused (refusal_number a)
laid_reply image (stays n) = refl
laid_reply image (becomes c) = refl

pub judged-offered : (capacity : ℕ) (image : Bytes) → Image capacity image → (o : ℕ) (input : Bytes)
    → let g = read logged input in
    judged o input image ≡ verdict_of (validated g (contents_of image)) (refusal_number (offered capacity o g (contents_of image)))
judged-offered capacity image h o input =
    let c = contents_of image in
    let g = read logged input in
    let replied : (apply_of image o input).reply ≡ refused (refusal_number (applied capacity o g c)) =
    ap (λ e. e.reply) (apply-laid image input h.is o) ∙ laid_reply image (applied (length image) o g c)
    ∙ ap (λ n. refused (refusal_number (applied n o g c))) h.size in
    rw (validate_contents image input h.is, replied) (go (validated g c) (applied capacity o g c) (eqb (validated g c) 0))
  where
    go : (n : ℕ) (a : Applied) (b : Bool)
        → verdict (refused n) (cond b (some (refused (refusal_number a))) none)
        ≡ verdict (refused n) (cond b (some (refused (refusal_number (cond b a (stays n))))) none)
    go n a true = refl
    go n a false = refl

-- One run beside an image: the next record moves it, or the run has ended, or is refused.
use mathlib.Core.Path.{◌≡◌, refl, sym, ap, ◌∙◌, subst}
use mathlib.Core.Bool.{Bool, true, false, cond}
use mathlib.Core.List.{[], ◌∷◌}
use Prim.Native.Nat.{ℕ, zero, suc, ◌<◌}
use native.Mathlib.Omega.{arith}
use lib.ListN.{length, take}
use Rattle.model.specs.Number.{Bytes, AreBytes, span}
use Rattle.model.specs.Shape.{logged}
use Rattle.model.specs.Record.{Rec, got, read}
use Rattle.model.specs.Items.{items_from}
use Rattle.model.specs.Contents.{Contents}
use Rattle.model.specs.Image.{is_image, contents_of}
use Rattle.model.specs.Reply.{accepted, refused}
use Rattle.model.specs.Apply.{Applied, stays, becomes, apply, dated_by, is_later, apply_at, laid}
use Rattle.model.specs.Snapshot.{on_applied}
use Rattle.model.specs.Answers.{number_reply}
use Rattle.laws_records.specs.Records.{reads, fields_read, refusal_positive}
use Rattle.laws_records.specs.Items.{items_got, items_bad}
use Rattle.laws_image.specs.Fits.{Fits}
use Rattle.laws_image.specs.Image.{image_length, image_bytes, image_contents, image_is}
use Rattle.laws_image.specs.Exact.{image_fits}
use Rattle.laws_apply.specs.MovedFits.{Outcome, overflowing, overweight, fitting, outcome, contents_after, applied-at_fits}
use Rattle.model.specs.Recordings.{goes_on, refused_by, standing}
use Rattle.find.specs.Logged.{logged_in}
use Rattle.find.proofs.Logged.{it, logged_is}
use Rattle.records.specs.Answers.{got_reply}
use Rattle.records.proofs.Replies.{refused_bad}
use Rattle.recordings.specs.Turns.{Sound, over_by, Stands, Moved, AdvancedAs}
use Rattle.recordings.specs.declared.Stand.TheVariants as stand

-- 1. A refusal of Apply has a number

abbrev Numbered : Applied → Type 0
Numbered (stays n) = 0 < n
Numbered (becomes c) = Unit {0}

numbered : (capacity k : ℕ) (r : Rec) (c : Contents) → Numbered (apply_at capacity k r c)
unfolding apply_at
numbered capacity k r c = go (is_later c.fixed.offset k)
  where
    each : {a : Applied} → Outcome capacity r c a → Numbered (dated_by k a)
    each (overflowing e) = omega arith
    each (overweight e w) = omega arith
    each (fitting e w) = tt

    go : (t : Bool) → Numbered (cond t (dated_by k (apply capacity r c)) (stays 21))
    go true = each (outcome capacity r c)
    go false = omega arith

above_zero : (n : ℕ) → (n ≡ 0 → ⊥) → 0 < n
above_zero zero h = absurd (h refl)
above_zero (suc n) h = omega arith

by_number_lem : (n : ℕ) → 0 < n → refused_by n ≡ over_by n
by_number_lem zero h = absurd (omega arith)
by_number_lem (suc n) h = refl

-- 2. How the run stands

module _ (image : Bytes) (k : ℕ) where
  pub stands_ended : (run : Bytes) → length run ≡ 0 → AdvancedAs image k run image (stand.Over 0)
  unfolding items_from standing
  stands_ended [] e = ((λ place. refl), refl)
  stands_ended (b ∷ s) e = absurd (omega arith)

  pub stands_unread : (run : Bytes) → (length run ≡ 0 → ⊥) → {n : ℕ} → refused n ≡ got_reply (read logged run) → AdvancedAs image k run image (stand.Over n)
  unfolding standing
  stands_unread [] h e = absurd (h refl)
  stands_unread (b ∷ s) h {n} e =
      let q = refused_bad (read logged (b ∷ s)) n e in
      ((λ place. ap (λ i. standing (length image) k i (contents_of image)) (items_bad logged place b s n q) ∙ by_number_lem n (refusal_positive logged (b ∷ s) n q)), refl)

  -- a record that is read stands as Apply says
  stands_read : (run : Bytes) (r : Rec) (n place : ℕ) → read logged run ≡ got r n
      → standing (length image) k (items_from logged 0 place run) (contents_of image) ≡ on_applied (apply_at (length image) k r (contents_of image)) refused_by (λ d. goes_on)
  unfolding standing
  stands_read run r n place e = ap (λ i. standing (length image) k i (contents_of image)) (items_got logged place run r n e)

  pub moved-stands : (run : Bytes) {n : ℕ} {v : Bytes} → Moved image k run n v → Stands image k run goes_on
  moved-stands run {n} {v} m place =
      stands_read run m.value n place m.reads ∙ ap (λ a. on_applied a refused_by (λ d. goes_on)) m.applies

  -- 3. What Apply says of a record that is read

  module _ (sound : Sound image) (wide : k < span 8) (run : Bytes) (are : AreBytes run) {n : ℕ} (e : accepted (n ∷ []) ≡ got_reply (read logged run)) where
    abbrev r : Rec
    r = (it run are e).0

    answer_is : apply_at (length image) k (logged_in (take n run)) (contents_of image) ≡ apply_at (length image) k r (contents_of image)
    answer_is = ap (λ x. apply_at (length image) k x (contents_of image)) (logged_is run are e)

    module _ {m : ℕ} {v : Bytes}
        (said : (number_reply m ≡ (laid image (apply_at (length image) k (logged_in (take n run)) (contents_of image))).reply) ×
        (v ≡ (laid image (apply_at (length image) k (logged_in (take n run)) (contents_of image))).buffer)) where
      by_answer : (a : Applied) → apply_at (length image) k r (contents_of image) ≡ a → (number_reply m ≡ (laid image a).reply) × (v ≡ (laid image a).buffer)
      by_answer a q = subst (λ x. (number_reply m ≡ (laid image x).reply) × (v ≡ (laid image x).buffer)) (answer_is ∙ q) said

      pub stands-refused : (m ≡ 0 → ⊥) → AdvancedAs image k run v (stand.Over m)
      stands-refused h = go (apply_at (length image) k r (contents_of image)) refl
        where
          positive : 0 < m
          positive = above_zero m h

          go : (a : Applied) → apply_at (length image) k r (contents_of image) ≡ a → AdvancedAs image k run v (stand.Over m)
          go (stays j) q =
              let p = by_answer (stays j) q in
              let same : m ≡ j = ap (λ x. x.number) p.0 in
              ((λ place. stands_read run r n place (it run are e).1 ∙ ap (λ a. on_applied a refused_by (λ d. goes_on)) q ∙ ap refused_by (sym same) ∙ by_number_lem m positive), p.1)
          go (becomes c) q = absurd (h (ap (λ x. x.number) (by_answer (becomes c) q).0))

      pub moves : m ≡ 0 → Moved image k run n v
      moves h = go (apply_at (length image) k r (contents_of image)) refl (numbered (length image) k r (contents_of image))
        where
          fits : Fits (length image) (contents_after (contents_of image) (apply_at (length image) k r (contents_of image)))
          fits =
              applied-at_fits (length image) k (contents_of image) (image_fits image sound.are_bytes sound.is) wide r (reads logged run r n (it run are e).1).passes
              (fields_read logged run r n are (it run are e).1)

          go : (a : Applied) → apply_at (length image) k r (contents_of image) ≡ a → Numbered (apply_at (length image) k r (contents_of image)) → Moved image k run n v
          go (stays j) q w =
              let p = by_answer (stays j) q in
              let same : m ≡ j = ap (λ x. x.number) p.0 in
              let pos : 0 < j = subst Numbered q w in
              absurd (omega (arith, same, h, pos))
          go (becomes c) q w =
              let p = by_answer (becomes c) q in
              let f : Fits (length image) c = subst (λ a. Fits (length image) (contents_after (contents_of image) a)) q fits in
              let held : contents_of v ≡ c = ap contents_of p.1 ∙ image_contents (length image) c f in
              record {
                value = r;
                reads = (it run are e).1;
                applies = q ∙ ap becomes (sym held);
                sound = record {
                  is = ap is_image p.1 ∙ image_is (length image) c f;
                  are_bytes = subst AreBytes (sym p.1) (image_bytes (length image) c f);
                };
                long = ap length p.1 ∙ image_length (length image) c f;
              }

      -- where nothing is changed
      pub stays_put : (m ≡ 0 → ⊥) → v ≡ image
      stays_put h = (stands-refused h).1

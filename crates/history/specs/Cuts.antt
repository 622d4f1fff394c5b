-- Demand 3: cuts are unseen, and a cut anywhere makes exactly the image that 01 names.
use Rattle.std.specs.Prelude.{◌≡◌, true, false, cond, ◌&&◌, ℕ, length}
use Rattle.std.proofs.Math.Path.{refl}
use Rattle.std.proofs.Common.{sym, ◌∙◌, ap}
use mathlib.Core.List.{List, [], ◌∷◌, ◌++◌}
use Rattle.model.specs.Choice.{every}
use Rattle.model.specs.Number.{Bytes}
use Rattle.model.specs.Image.{is_capacity, image_of, contents_of, open_of}
use Rattle.model.specs.Snapshot.{restored}
use Rattle.model.specs.Lookup.{offset_of}
use Rattle.model.specs.History.{Step, give, ask_topic, ask_topic_id, ask_partition, ask_broker, ask_epoch, ask_offset, ask_short, ask_freeze, ask_freezes, view, ask_throttle, ask_downgrade, snap, cut}
use Rattle.model.specs.History.{cut_image, answer, after, run, reached, is_cut, uncut, ids_apart, factor_holds, premises, StepGiven, Given}
use Rattle.model.specs.History.{Premise, ids, factors, epochs, room, meets_at, meets, holds}
use Rattle.model.specs.History.{CutsUnseen, CutBecomesRestored, CutAnywhere, ReachedIsImage}
use Rattle.laws.specs.Choice.{and_left, and_right, and_both}
use Rattle.laws_image.specs.Open.{open_image}
use Rattle.laws_restore.specs.Cut
use Rattle.history.specs.Like.{like_self}
use Rattle.history.specs.Good.{premises_hold, Good, good_fresh}
use Rattle.history.specs.Answers.{Alike}
use Rattle.history.specs.Bytes.{Image, opened, after_image, reached_image}
use Rattle.history.specs.Beside.{StepHolds, alike, same_answer, Close, close_step, close_cut}

-- 1. What is said of a history with cuts

-- the images that the uncut history (u) and the one with cuts (c) give to each step that both have, and, where the last one meets the
-- premises, the images that they reach
abbrev pub AlikeAlong : List Step → Bytes → Bytes → Type 0
AlikeAlong [] u c = premises (contents_of u) ≡ true → Alike u c
AlikeAlong (s ∷ steps) u c = cond (is_cut s) (AlikeAlong steps u (after s c)) (Alike u c × AlikeAlong steps (after s u) (after s c))

pub record Unseen (steps : List Step) (u c : Bytes) : Type 0 where
  pub answers : run steps c ≡ run (uncut steps) u
  pub images : AlikeAlong steps u c
  pub offsets : offset_of (reached steps c) ≡ offset_of (reached (uncut steps) u)

-- 2. Its first step: a cut, or a step that both histories have

data CutOrNot : Step → Type 0 where
  a_cut : (own other : Bytes) → CutOrNot (cut own other)
  not_cut : {s : Step} → is_cut s ≡ false → CutOrNot s

cut_or_not : (s : Step) → CutOrNot s
unfolding is_cut
cut_or_not (cut own other) = a_cut own other
cut_or_not (give o input) = not_cut refl
cut_or_not (ask_topic name out) = not_cut refl
cut_or_not (ask_topic_id id out) = not_cut refl
cut_or_not (ask_partition name n out) = not_cut refl
cut_or_not (ask_broker node out) = not_cut refl
cut_or_not ask_epoch = not_cut refl
cut_or_not ask_offset = not_cut refl
cut_or_not ask_short = not_cut refl
cut_or_not (ask_freeze name out) = not_cut refl
cut_or_not (ask_freezes list out) = not_cut refl
cut_or_not (view q list out) = not_cut refl
cut_or_not (ask_throttle node which) = not_cut refl
cut_or_not (ask_downgrade level out) = not_cut refl
cut_or_not (snap out) = not_cut refl

cut_unseen : (own other : Bytes) (steps : List Step) (u c : Bytes) → Unseen steps u (after (cut own other) c)
    → Unseen (cut own other ∷ steps) u c
unfolding run uncut is_cut answer reached
cut_unseen own other steps u c t = record { answers = t.answers; images = t.images; offsets = t.offsets }

uncut-step : (s : Step) (steps : List Step) → is_cut s ≡ false → uncut (s ∷ steps) ≡ s ∷ uncut steps
unfolding uncut
uncut-step s steps e = rw e

step_unseen : (s : Step) (steps : List Step) (u c : Bytes) → is_cut s ≡ false → answer s c ≡ answer s u → Alike u c
    → Unseen steps (after s u) (after s c) → Unseen (s ∷ steps) u c
unfolding run reached
step_unseen s steps u c e p a t = record {
  answers = rw (uncut-step s steps e, p, t.answers);
  images = rw e (a, t.images);
  offsets = rw (uncut-step s steps e) t.offsets;
}

-- what the premises say of a history, of its first step, and of the rest
abbrev pub AllMeet : List Step → Bytes → Type 0
AllMeet steps u = (p : Premise) → meets p steps u ≡ true

all_meet : (steps : List Step) (u : Bytes) → holds steps u ≡ true → AllMeet steps u
unfolding holds
all_meet steps u h =
    let i = meets ids steps u in
    let f = meets factors steps u in
    let e = meets epochs steps u in
    let r = meets room steps u in
    let three = and_left (i && f && e) r h in
    let two = and_left (i && f) e three in
    λ p. go p (and_left i f two) (and_right i f two) (and_right (i && f) e three) (and_right (i && f && e) r h)
  where
    go : (p : Premise) → meets ids steps u ≡ true → meets factors steps u ≡ true → meets epochs steps u ≡ true → meets room steps u ≡ true
        → meets p steps u ≡ true
    go ids i f e r = i
    go factors i f e r = f
    go epochs i f e r = e
    go room i f e r = r

record Held (s : Step) (steps : List Step) (u : Bytes) : Type 0 where
  premise : premises (contents_of u) ≡ true
  step : StepHolds s u
  rest : AllMeet steps (after s u)

held : (s : Step) (steps : List Step) (u : Bytes) → AllMeet (s ∷ steps) u → Held s steps u
unfolding meets premises meets_at
held s steps u h =
    let l = (contents_of u).real in
    record {
      premise = and_both (ids_apart l) (every (factor_holds l) l) (first ids) (first factors);
      step = (first epochs, first room);
      rest = λ p. and_right (meets_at p s u) (meets p steps (after s u)) (h p);
    }
  where
    first : (p : Premise) → meets_at p s u ≡ true
    first p = and_left (meets_at p s u) (meets p steps (after s u)) (h p)

-- 3. The whole history, from any two images

module _ (capacity : ℕ) where
  pub unseen : (steps : List Step) (u c : Bytes) → Image capacity u → Image capacity c → Given capacity steps
      → Close (contents_of u) (contents_of c) → AllMeet (uncut steps) u → Unseen steps u c
  unfolding run uncut is_cut reached offset_of
  unseen [] u c iu ic given close h =
      record { answers = refl; images = λ premise. alike capacity u c iu ic (close.alike premise).1; offsets = rw (iu.is, ic.is, close.offset) refl }
  unseen (s ∷ steps) u c iu ic given close h = go (cut_or_not s) given.0 h (λ v d iv id. unseen steps v d iv id given.1)
    where
      go : {t : Step} → CutOrNot t → StepGiven capacity t → AllMeet (uncut (t ∷ steps)) u
          → ((v d : Bytes) → Image capacity v → Image capacity d → Close (contents_of v) (contents_of d) → AllMeet (uncut steps) v
          → Unseen steps v d)
          → Unseen (t ∷ steps) u c
      go (a_cut own other) k q later =
          let image = after_image capacity c ic (cut own other) k in
          cut_unseen own other steps u c (later u (after (cut own other) c) iu image (close_cut capacity u c iu ic close own other k) q)
      go (not_cut {s = t} e) k q later =
          let d = held t (uncut steps) u (rw (uncut-step t steps e) at q) in
          let now = close.alike d.premise in
          let same = same_answer capacity u c iu ic now.1 now.0 (premises_hold (contents_of u) d.premise) t e k d.step in
          step_unseen t steps u c e same (alike capacity u c iu ic now.1)
          (later (after t u) (after t c) (after_image capacity u iu t k) (after_image capacity c ic t k)
          (close_step capacity u c iu ic close t e k d.premise d.step) d.rest)

-- 4. From a fresh image

module _ (buffer : Bytes) (fits : is_capacity (length buffer) ≡ true) (steps : List Step) (given : Given (length buffer) steps) where
  abbrev start : Bytes
  start = (open_of buffer).buffer

  pub unseen_from_fresh : holds (uncut steps) start ≡ true → Unseen steps start start
  unseen_from_fresh h =
      let o = opened buffer fits in
      let good : Good (contents_of start) = rw (open_image buffer fits).1 good_fresh in
      let close : Close (contents_of start) (contents_of start) = record { offset = refl; alike = λ premise. (good, like_self (contents_of start)) } in
      unseen (length buffer) steps start start o o given close (all_meet (uncut steps) start h)

  pub reached_is_an_image : Image (length buffer) (reached steps start)
  reached_is_an_image = reached_image (length buffer) steps start (opened buffer fits) given

-- 5. The theorems

pub cuts_unseen : CutsUnseen
cuts_unseen buffer fits steps given h = let u = unseen_from_fresh buffer fits steps given h in (u.answers, u.offsets)

pub cuts_alike : (buffer : Bytes) → is_capacity (length buffer) ≡ true → (steps : List Step) → Given (length buffer) steps
    → holds (uncut steps) (open_of buffer).buffer ≡ true → AlikeAlong steps (open_of buffer).buffer (open_of buffer).buffer
cuts_alike buffer fits steps given h = (unseen_from_fresh buffer fits steps given h).images

pub cut_becomes_restored : CutBecomesRestored
cut_becomes_restored = Cut.cut_becomes_restored

reached-append : (steps more : List Step) (image : Bytes) → reached (steps ++ more) image ≡ reached more (reached steps image)
unfolding reached
reached-append [] more image = refl
reached-append (s ∷ steps) more image = reached-append steps more (after s image)

pub cut_anywhere : CutAnywhere
unfolding reached after cut_image
cut_anywhere buffer fits steps given own other e whole =
    let image = reached steps (open_of buffer).buffer in
    let here = reached_is_an_image buffer fits steps given in
    let made = cut_becomes_restored image own other here.are_bytes here.is (e ∙ sym here.size) in
    let back = rw whole at made in (
      ap (λ x. x.reply) back,
      reached-append steps (cut own other ∷ []) (open_of buffer).buffer
          ∙ rw whole (ap (λ x. x.buffer) back ∙ ap (λ n. image_of n (restored (contents_of image))) here.size),
    )

pub reached-is_image : ReachedIsImage
reached-is_image buffer fits steps given = (reached_is_an_image buffer fits steps given).is

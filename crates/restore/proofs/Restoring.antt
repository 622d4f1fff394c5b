-- Restore: the first record of an input, what a run over records reaches, turn by turn, and what is laid out of it.
use mathlib.Core.Path.{◌≡◌, refl, sym, ap, ◌∙◌, subst}
use mathlib.Core.Bool.{Bool, true, false, cond, not}
use mathlib.Core.List.{[], ◌∷◌, ◌++◌, append_assoc, append-nil}
use Prim.Native.Nat.{ℕ, ◌+◌, ◌-◌, ◌≤◌, ◌<◌}
use native.Mathlib.Omega.{arith}
use borrow.Author.Tests.{not-true, not-false}
use lib.ListN.{length, take, drop, length-drop, take-append-drop}
use lib.Seq.{take_all, take-add, drop_at, length-take-le}
use Rattle.model.specs.Number.{Bytes, AreBytes, number, span, is_offset}
use Rattle.model.specs.Shape.{logged, framed}
use Rattle.model.specs.Run.{value}
use Rattle.model.specs.Record.{Rec, got, read}
use Rattle.model.specs.Items.{items_from, records, is_whole}
use Rattle.model.specs.Contents.{Contents, fresh, dated}
use Rattle.model.specs.Image.{is_capacity, head_size, image_of}
use Rattle.model.specs.Reply.{Reply, accepted, refused}
use Rattle.model.specs.Apply.{apply}
use Rattle.model.specs.Snapshot.{Replayed, stopped, on_applied, replay, restore_of}
use Rattle.laws.specs.Choice.{impossible}
use Rattle.laws_records.specs.Records.{reads}
use Rattle.laws_records.specs.Items.{items_got}
use Rattle.laws_records.specs.Framed.{logged_no_offset, framed_got}
use Rattle.laws_image.specs.Tests.{capacity-least}
use Rattle.laws_image.specs.Fits.{dated_fits}
use Rattle.laws_image.specs.Open.{fresh_fits}
use Rattle.laws_apply.specs.MovedFits.{fits_holds}
use Rattle.keys.proofs.Found.{lent_slice, slice-rest}
use Rattle.find.specs.Logged.{logged_in}
use Rattle.find.proofs.Logged.{it, logged_is}
use Rattle.apply_work.specs.Work.{Good, state_in}
use Rattle.restore_copy.specs.Rebuild.{Rebuilt}
use Rattle.apply_step.specs.Step.{Holding, outcome, StillHolding}
use Rattle.records.specs.Answers.{got_reply}
use Rattle.restore.proofs.Framed.{begun-offset, run_got}
use Rattle.restore.specs.Restore.{replayed, BegunAs, fresh_at, EndsBy, NextIs, Reached, whole_contents, Whole, RanAs}
use Rattle.apply_work.specs.declared.State.{State}
use Rattle.apply_work.specs.declared.Tried.{Tried}
use Rattle.apply_work.specs.declared.Tried.TheVariants.{Refused as TriedRefused, Moved as TriedMoved}
use Rattle.restore.specs.declared.Begun.{Begun}
use Rattle.restore.specs.declared.Begun.TheVariants.{At, Refused as NotBegun}
use Rattle.restore.specs.declared.Next.{Next}
use Rattle.restore.specs.declared.Next.TheVariants.{Moved, Unread, Refused}
use Rattle.restore.specs.declared.Ran.{Ran}
use Rattle.restore.specs.declared.Ran.TheVariants.{Done, Unread as RanUnread, Refused as RanRefused}

-- 1. The first record

module _ (w : Bytes) (s : State) (capacity : ℕ) (input : Bytes) where
  pub next_unread : {n : ℕ} → EndsBy n input → NextIs w s capacity input w (Unread n)
  next_unread {n} e = (e, refl)

  module _ (are : AreBytes input) {n : ℕ} (e : accepted (n ∷ []) ≡ got_reply (read logged input)) where
    -- a step over its bytes is a step over the record that is read
    applied-read : apply capacity (logged_in (take n input)) (state_in w s) ≡ apply capacity (it input are e).0 (state_in w s)
    applied-read = ap (λ r. apply capacity r (state_in w s)) (logged_is input are e)

    module _ (v : Bytes) (r : Tried)
        (step : (outcome v r ≡ apply capacity (logged_in (take n input)) (state_in w s)) × StillHolding v capacity r) where
      pub next-refused : {m : ℕ} → r ≡ TriedRefused m → NextIs w s capacity input v (Refused m)
      next-refused q = ((it input are e).0, n, (it input are e).1, sym (ap (outcome v) (sym q) ∙ step.0 ∙ applied-read))

      pub next-moved : {t : State} → r ≡ TriedMoved t → NextIs w s capacity input v (Moved t n)
      next-moved q = (
        (it input are e).0,
        (it input are e).1,
        sym (ap (outcome v) (sym q) ∙ step.0 ∙ applied-read),
        subst (StillHolding v capacity) q step.1,
      )

-- 2. The start

module _ (w : Bytes) (o : ℕ) where
  fresh_state : state_in w (fresh_at o) ≡ dated o fresh
  unfolding items_from records
  fresh_state = refl

  fresh_good : Good w (fresh_at o).bounds
  unfolding items_from records is_whole
  fresh_good = record { order = omega arith; fits = omega arith; reals = refl; groups = refl; keeps = tt }

  fresh-holding : (capacity : ℕ) → is_capacity capacity ≡ true → is_offset o ≡ true → Holding w (fresh_at o) capacity
  fresh-holding capacity h is =
      let f = dated_fits capacity o fresh is (fresh_fits capacity h) in
      record {
        good = fresh_good;
        holds = rw fresh_state (fits_holds capacity (dated o fresh) f);
        within = h;
        light = rw fresh_state f.room;
        fits = omega (arith, capacity-least capacity h);
      }

pub reached-start : (capacity : ℕ) (input w : Bytes) → is_capacity capacity ≡ true → {o n : ℕ} {b : Begun} → BegunAs input b → b ≡ At o n
    → {s : State} → s ≡ fresh_at o → Reached capacity input n w s
reached-start capacity input w h {o} {n} {b} d q {s} e = rw e (record {
  within = (reads framed input r n p.1).fits;
  holding = fresh-holding w o capacity h (rw p.3 (begun-offset r (reads framed input r n p.1).passes p.2));
  replays = λ t.
      let rest = take n input in
      let seam : drop n (rest ++ t) ≡ t = drop_at rest t n (length-take-le n input (reads framed input r n p.1).fits) in
      run_got capacity (rest ++ t) r n ((reads framed input r n p.1).later t) p.2
      ∙ ap (λ (x : Bytes). replay capacity (items_from framed 0 n x) (dated (number (value 1 r.run)) fresh)) seam
      ∙ ap (λ m. replay capacity (items_from framed 0 n t) (dated m fresh)) (sym p.3)
      ∙ ap (replay capacity (items_from framed 0 n t)) (sym (fresh_state w o));
})
  where
    p : BegunAs input (At o n)
    p = subst (BegunAs input) q d

    r : Rec
    r = p.0

pub ran_unbegun : (capacity : ℕ) (input w : Bytes) → is_capacity capacity ≡ true → {n : ℕ} {b : Begun} → BegunAs input b → b ≡ NotBegun n
    → {s : State} → s ≡ fresh_at (span 8 - 1) → RanAs capacity input w (RanUnread n 0 s)
ran_unbegun capacity input w h {n} d q e =
    rw e (fresh-holding w (span 8 - 1) capacity h fresh-offset, subst (BegunAs input) q d capacity ∙ ap (stopped n 0) (sym (fresh_state w (span 8 - 1))))
  where
    fresh-offset : is_offset (span 8 - 1) ≡ true
    fresh-offset = unfold is_offset in refl

-- 3. A turn

module _ (capacity place : ℕ) where
  replay_got : (s : Bytes) (r : Rec) (n : ℕ) (c : Contents) → read logged s ≡ got r n
      → replay capacity (items_from framed 0 place s) c
      ≡ on_applied (apply capacity r c) (λ m. stopped m place c) (replay capacity (items_from framed 0 (place + n) (drop n s)))
  unfolding replay
  replay_got s r n c e =
      ap (λ i. replay capacity i c) (items_got framed place s r n (framed_got s r n e))
      ∙ ap (λ b. cond b (stopped 22 place c) (on_applied (apply capacity r c) (λ m. stopped m place c) (replay capacity (items_from framed 0 (place + n) (drop n s)))))
      (logged_no_offset r (reads logged s r n e).passes)

module _ (capacity : ℕ) (input : Bytes) (at : ℕ) (w : Bytes) (s : State) (h : Reached capacity input at w s) where
  -- the bytes from the place on, as they are lent
  abbrev lent : Bytes
  lent = take (length input - at) (drop at input)

  lent-rest : lent ≡ drop at input
  lent-rest = lent_slice input at (length input) h.within ∙ slice-rest at input

  reached-rest : replayed capacity input ≡ replay capacity (items_from framed 0 at (drop at input)) (state_in w s)
  reached-rest = ap (replayed capacity) (sym (take-append-drop at input)) ∙ h.replays (drop at input)

  reached-whole : replayed capacity (take at input) ≡ record { reply = accepted []; contents = state_in w s }
  unfolding items_from replay
  reached-whole = ap (replayed capacity) (sym (append-nil (take at input))) ∙ h.replays []

  module _ (v : Bytes) (next : Next) (d : NextIs w s capacity lent v next) where
    next_is : (o : Next) → next ≡ o → NextIs w s capacity (drop at input) v o
    next_is o q = subst (NextIs w s capacity (drop at input) v) q (subst (λ x. NextIs w s capacity x v next) lent-rest d)

    module _ {t : State} {n : ℕ} (q : next ≡ Moved t n) where
      pub turn_places : (0 < n) × (at + n ≤ length input)
      turn_places =
          let p = next_is (Moved t n) q in
          let l = reads logged (drop at input) p.0 n p.1 in
          (omega (arith, l.head), omega (arith, l.fits, length-drop at input, h.within))

      turn_replays : (z : Bytes)
          → replayed capacity (take (at + n) input ++ z) ≡ replay capacity (items_from framed 0 (at + n) z) (state_in v t)
      turn_replays z =
          let p = next_is (Moved t n) q in
          let l = reads logged (drop at input) p.0 n p.1 in
          let rest = take n (drop at input) in
          let seam : drop n (rest ++ z) ≡ z = drop_at rest z n (length-take-le n (drop at input) l.fits) in
          ap (λ x. replayed capacity (x ++ z)) (take-add at n input)
          ∙ ap (replayed capacity) (append_assoc (take at input) rest z)
          ∙ h.replays (rest ++ z)
          ∙ replay_got capacity at (rest ++ z) p.0 n (state_in w s) (l.later z)
          ∙ ap (λ a. on_applied a (λ m. stopped m at (state_in w s)) (replay capacity (items_from framed 0 (at + n) (drop n (rest ++ z))))) p.2
          ∙ ap (λ (x : Bytes). replay capacity (items_from framed 0 (at + n) x) (state_in v t)) seam

      pub turned : Reached capacity input (at + n) v t
      turned = record { within = turn_places.1; holding = (next_is (Moved t n) q).3; replays = turn_replays }

    -- 4. The ends

    pub ran_unread : at < length input → {n : ℕ} → next ≡ Unread n → RanAs capacity input v (RanUnread n at s)
    ran_unread k {n} q =
        let p = next_is (Unread n) q in (
          subst (λ x. Holding x s capacity) (sym p.1) h.holding,
          reached-rest
              ∙ p.0 capacity at (state_in w s) (omega (arith, length-drop at input))
              ∙ ap (λ x. stopped n at (state_in x s)) (sym p.1),
        )

    pub ran_refused : {n : ℕ} → next ≡ Refused n → RanAs capacity input v (RanRefused n at)
    ran_refused {n} q =
        let p = next_is (Refused n) q in (
          h.within,
          ap (λ x. x.reply) reached-whole,
          reached-rest
              ∙ replay_got capacity at (drop at input) p.0 p.1 (state_in w s) p.2
              ∙ ap (λ a. on_applied a (λ m. stopped m at (state_in w s)) (replay capacity (items_from framed 0 (at + p.1) (drop p.1 (drop at input))))) p.3
              ∙ ap (λ x. stopped n at x.contents) (sym reached-whole),
        )

  pub ran_done : length input ≤ at → RanAs capacity input w (Done s)
  ran_done k = (h.holding, ap (replayed capacity) (sym (take_all at input k)) ∙ reached-whole)

-- 5. What is laid out

module _ (capacity : ℕ) (input w : Bytes) (r : Ran) (ran : RanAs capacity input w r) where
  ran_is : (o : Ran) → r ≡ o → RanAs capacity input w o
  ran_is o q = subst (RanAs capacity input w) q ran

  pub done_lays : {s : State} → r ≡ Done s → Good w s.bounds × (head_size + s.bounds.used ≤ capacity)
  done_lays {s} q = let h = (ran_is (Done s) q).0 in (h.good, h.fits)

  pub unread_lays : {n at : ℕ} {s : State} → r ≡ RanUnread n at s → Good w s.bounds × (head_size + s.bounds.used ≤ capacity)
  unread_lays {n} {at} {s} q = let h = (ran_is (RanUnread n at s) q).0 in (h.good, h.fits)

  module _ {n at : ℕ} (q : r ≡ RanRefused n at) where
    pub refused-within : at ≤ length input
    refused-within = (ran_is (RanRefused n at) q).0

    pub refused-whole : Whole capacity (take at input)
    refused-whole = (ran_is (RanRefused n at) q).1

  -- where all records are applied
  module _ (whole : Whole capacity input) where
    pub whole-laid : {s : State} → r ≡ Done s → {v : Bytes} → v ≡ image_of capacity (state_in w s) → v ≡ image_of capacity (whole_contents capacity input)
    whole-laid {s} q e = e ∙ ap (λ d. image_of capacity d.contents) (sym (ran_is (Done s) q).1)

    no_stop : {A : Type 0} (n at : ℕ) (c : Contents) → replayed capacity input ≡ stopped n at c → A
    no_stop n at c e = let z : ◌≡◌ {A = ℕ} 0 1 = sym (ap (λ x. length x.values) whole) ∙ ap (λ d. length d.reply.values) e in impossible z

    pub whole-read : {A : Type 0} {n at : ℕ} {s : State} → r ≡ RanUnread n at s → A
    whole-read {A} {n} {at} {s} q = no_stop n at (state_in w s) (ran_is (RanUnread n at s) q).1

    pub whole-applied : {A : Type 0} {n at : ℕ} → r ≡ RanRefused n at → A
    whole-applied {A} {n} {at} q = no_stop n at (whole_contents capacity (take at input)) (ran_is (RanRefused n at) q).2

-- 6. Exits

module _ (image input : Bytes) (capacity : is_capacity (length image) ≡ true) where
  laid : (d : Replayed) → replayed (length image) input ≡ d → {v : Bytes} → v ≡ image_of (length image) d.contents
      → (d.reply ≡ (restore_of input image).reply) × (v ≡ (restore_of input image).buffer)
  unfolding restore_of
  laid d e q = rw (capacity, e) (refl, q)

  module _ (w : Bytes) (r : Ran) (ran : RanAs (length image) input w r) {v : Bytes} where
    pub laid_done : {s : State} → r ≡ Done s → v ≡ image_of (length image) (state_in w s)
        → (accepted [] ≡ (restore_of input image).reply) × (v ≡ (restore_of input image).buffer)
    laid_done {s} q e = laid _ (ran_is (length image) input w r ran (Done s) q).1 e

    pub laid_unread : {n at : ℕ} {s : State} → r ≡ RanUnread n at s → v ≡ image_of (length image) (state_in w s)
        → ((stopped n at fresh).reply ≡ (restore_of input image).reply) × (v ≡ (restore_of input image).buffer)
    laid_unread {n} {at} {s} q e = laid _ (ran_is (length image) input w r ran (RanUnread n at s) q).1 e

    pub laid-refused : {n at : ℕ} → r ≡ RanRefused n at → v ≡ image_of (length image) (whole_contents (length image) (take at input))
        → ((stopped n at fresh).reply ≡ (restore_of input image).reply) × (v ≡ (restore_of input image).buffer)
    laid-refused {n} {at} q e = laid _ (ran_is (length image) input w r ran (RanRefused n at) q).2 e

  -- only the length of the buffer counts
  same-restored : (v : Bytes) → length image ≡ length v → restore_of input v ≡ restore_of input image
  unfolding restore_of
  same-restored v e = rw (sym e, capacity) refl

module _ (image input : Bytes) {b : Bool} (eb : b ≡ is_capacity (length image)) where
  pub no_capacity : not b ≡ true → (refused 1 ≡ (restore_of input image).reply) × (image ≡ (restore_of input image).buffer)
  unfolding restore_of
  no_capacity h = rw (sym eb ∙ not-true b h) (refl, refl)

  module _ (h : not b ≡ false) (v : Bytes) (same : length v ≡ length image) where
    capacity_is : is_capacity (length image) ≡ true
    capacity_is = sym eb ∙ not-false b h

    pub capacity-kept : is_capacity (length v) ≡ true
    capacity-kept = rw same capacity_is

    -- the image was copied
    pub copied : {r : Bool} → Rebuilt input v r → r ≡ true → (accepted [] ≡ (restore_of input image).reply) × (v ≡ (restore_of input image).buffer)
    copied {r} d q =
        let made = subst (Rebuilt input v) q d image (sym same) in
        (sym (ap (λ x. x.reply) made), sym (ap (λ x. x.buffer) made))

    -- it was not, and the records are restored one by one
    pub each : {x : Reply} {u : Bytes} → (x ≡ (restore_of input v).reply) × (u ≡ (restore_of input v).buffer)
        → (x ≡ (restore_of input image).reply) × (u ≡ (restore_of input image).buffer)
    each p = let e = same-restored image input capacity_is v (sym same) in (p.0 ∙ ap (λ x. x.reply) e, p.1 ∙ ap (λ x. x.buffer) e)

-- The image's log offset is that of the last record applied, with effect or without, wherever cuts fall.
use Rattle.std.specs.Prelude.{◌≡◌, Bool, cond, ◌&&◌, List, [], ◌∷◌, eqb, length}
use Rattle.std.proofs.Math.Path.{refl}
use Rattle.std.proofs.Common.{sym, ap, ◌∙◌, arith, ne_eqb}
use Rattle.std.proofs.Math.Bool.{true, false}
use Prim.Native.Nat.{ℕ}
use Rattle.model.specs.Number.{Bytes}
use Rattle.model.specs.Shape.{logged}
use Rattle.model.specs.Record.{Rec, Got, bad, got, read}
use Rattle.model.specs.Reply.{accepted}
use Rattle.model.specs.Contents.{Contents}
use Rattle.model.specs.Image.{contents_of, open_of}
use Rattle.model.specs.Apply.{Applied, stays, becomes, apply, dated_by, is_later, apply_at, laid}
use Rattle.model.specs.Snapshot.{restored}
use Rattle.model.specs.Lookup.{offset_of}
use Rattle.model.specs.History.{Step, give, ask_topic, ask_topic_id, ask_partition, ask_broker, ask_epoch, ask_offset, ask_short, ask_freeze, ask_freezes, view, ask_throttle, ask_downgrade, snap, cut}
use Rattle.model.specs.History.{after, on_given, reached, StepGiven, Given, offset_after, last_applied, OffsetOfLast}
use Rattle.laws_records.specs.Records.{read_nonzero}
use Rattle.laws_image.specs.Open.{open_image}
use Rattle.laws_apply.specs.MovedFits.{Outcome, overflowing, overweight, fitting, outcome, contents_after}
use Rattle.history.specs.Offered.{validated, applied}
use Rattle.history.specs.Bytes.{fits_own, effect, Image, opened, validate_contents, apply-laid, after_image, after_contents, reached_image}

-- a refusal has a number, and what is accepted is at the offset
abbrev Placed : ℕ → Applied → Type 0
Placed o (stays n) = n ≡ 0 → ⊥
Placed o (becomes c) = c.fixed.offset ≡ o

applied-placed : (capacity o : ℕ) (input : Bytes) (c : Contents) → Placed o (applied capacity o (read logged input) c)
unfolding apply_at
applied-placed capacity o input c = go (read logged input) refl
  where
    each : (r : Rec) (a : Applied) → Outcome capacity r c a → Placed o (dated_by o a)
    each r (stays n) (overflowing e) = λ z. omega arith
    each r (stays n) (overweight e w) = λ z. omega arith
    each r (becomes d) (fitting e w) = refl

    at : (r : Rec) (b : Bool) → Placed o (cond b (dated_by o (apply capacity r c)) (stays 21))
    at r true = each r (apply capacity r c) (outcome capacity r c)
    at r false = λ z. omega arith

    go : (g : Got) → read logged input ≡ g → Placed o (applied capacity o g c)
    go (bad n) e = read_nonzero logged input n e
    go (got r used) e = at r (is_later c.fixed.offset o)

module _ (capacity : ℕ) (image : Bytes) (h : Image capacity image) where
  abbrev c : Contents
  c = contents_of image

  give_offset : (o : ℕ) (input : Bytes) → (contents_after c (effect capacity (give o input) c)).fixed.offset ≡ offset_after c.fixed.offset (give o input) image
  unfolding effect offset_after on_given
  give_offset o input =
      let g = read logged input in
      rw (validate_contents image input h.is, apply-laid image input h.is o, h.size)
      (go (eqb (validated g c) 0) (applied capacity o g c) (applied-placed capacity o input c))
    where
      n : ℕ
      n = validated (read logged input) c

      go : (b : Bool) (a : Applied) → Placed o a
          → (contents_after c (cond b a (stays n))).fixed.offset ≡ cond (b && eqb (laid image a).reply.number 0) o c.fixed.offset
      go true (stays m) p = rw (ne_eqb m 0 p) refl
      go true (becomes d) p = p
      go false a p = refl

  step-offset : (s : Step) → (contents_after c (effect capacity s c)).fixed.offset ≡ offset_after c.fixed.offset s image
  unfolding effect offset_after on_given restored
  step-offset (give o input) = give_offset o input
  step-offset (cut own other) = go (fits_own own c)
    where
      go : (b : Bool) → (contents_after c (cond b (becomes (restored c)) (stays 19))).fixed.offset ≡ c.fixed.offset
      go true = refl
      go false = refl
  step-offset (ask_topic name out) = refl
  step-offset (ask_topic_id id out) = refl
  step-offset (ask_partition name n out) = refl
  step-offset (ask_broker node out) = refl
  step-offset ask_epoch = refl
  step-offset ask_offset = refl
  step-offset ask_short = refl
  step-offset (ask_freeze name out) = refl
  step-offset (ask_freezes list out) = refl
  step-offset (view q list out) = refl
  step-offset (ask_throttle node which) = refl
  step-offset (ask_downgrade level out) = refl
  step-offset (snap out) = refl

last_offset_lem : (capacity : ℕ) (steps : List Step) (image : Bytes) → Image capacity image → Given capacity steps
    → (contents_of (reached steps image)).fixed.offset ≡ last_applied (contents_of image).fixed.offset steps image
unfolding reached last_applied
last_offset_lem capacity [] image h k = refl
last_offset_lem capacity (s ∷ steps) image h k =
    let next = after s image in
    let here = ap (λ (d : Contents). d.fixed.offset) (after_contents capacity image h s k.0) ∙ step-offset capacity image h s in
    last_offset_lem capacity steps next (after_image capacity image h s k.0) k.1 ∙ ap (λ n. last_applied n steps next) here

pub offset_of-last : OffsetOfLast
unfolding offset_of
offset_of-last buffer fits steps given =
    let o = opened buffer fits in
    let start = (open_of buffer).buffer in
    let fresh-one = ap (λ (d : Contents). d.fixed.offset) (open_image buffer fits).1 in
    let last = last_offset_lem (length buffer) steps start o given ∙ ap (λ n. last_applied n steps start) fresh-one in
    rw (reached_image (length buffer) steps start o given).is (ap (λ n. accepted (n ∷ [])) last)

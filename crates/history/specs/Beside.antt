-- One step of a history with cuts beside the same step of the uncut history: the same answer, and like contents afterwards.
use Rattle.std.specs.Prelude.{◌≡◌, refl, [], ◌∷◌, Bool, true, false, cond, ◌&&◌, not, ℕ, eqb, length}
use Rattle.std.proofs.Math.Path.{sym, ap}
use Rattle.std.proofs.Common.{◌∙◌}
use Rattle.std.proofs.lemmas.Bool.{not-true}
use Rattle.model.specs.Number.{Bytes, number, is_negative}
use Rattle.model.specs.Run.{value}
use Rattle.model.specs.Kind.{kind_number}
use Rattle.model.specs.Shape.{logged}
use Rattle.model.specs.Record.{Rec, Got, bad, got, read, on_got}
use Rattle.model.specs.Contents.{Fixed, Contents}
use Rattle.model.specs.Image.{contents_of}
use Rattle.model.specs.Validate.{judge}
use Rattle.model.specs.Apply.{Applied, stays, becomes, apply_of}
use Rattle.model.specs.Snapshot.{restored}
use Rattle.model.specs.History.{Step, give, ask_topic, ask_topic_id, ask_partition, ask_broker, ask_epoch, ask_offset, ask_short, ask_freeze, ask_freezes, view, ask_throttle, ask_downgrade, snap, cut}
use Rattle.model.specs.History.{said, wrote, admitted, answer, after, is_cut, premises, epoch_mild, room_lasts, on_given, epochs, room, meets_at, StepGiven}
use Rattle.model.specs.declared.Kind.TheVariants.{FeaturesEpoch}
use Rattle.laws.specs.Choice.{impossible, true_false}
use Rattle.laws_apply.specs.MovedFits.{fits_holds, contents_after}
use Rattle.laws_apply.specs.Apply.{refusal_number}
use Rattle.history.specs.Like.{Like}
use Rattle.history.specs.Good.{Premises, premises_hold, Good, like_restored}
use Rattle.history.specs.Answers.{Alike, same_topic, same_topic_id, same-partition, same_broker, same-epoch, same-offset, same-short, same-freeze}
use Rattle.history.specs.Answers.{same_freezes, same_view, same-throttle, same-downgrade, same-snapshot_of}
use Rattle.history.specs.Offered.{validated, applied, IsMild, Matched, both_stay, both_become, Next, offered_matched}
use Rattle.history.specs.Bytes.{fits_own, effect, is_read, Image, contents_fit, validate_contents, apply-laid, after_contents}
use Rattle.history.specs.Bytes.{verdict_of, judged-offered}

-- 1. What the premises say of a record step

mild_epoch : (input : Bytes) → epoch_mild input ≡ true → IsMild (read logged input)
unfolding epoch_mild kind_number
mild_epoch input h = go (read logged input) h
  where
    negative : Rec → Bool
    negative r = is_negative 8 (number (value 1 r.run))

    go : (g : Got) → on_got g (λ n. true) (λ r n. cond (eqb (kind_number r.kind) (kind_number FeaturesEpoch)) (not (negative r)) true) ≡ true
        → IsMild g
    go (bad n) q = tt
    go (got r used) q = λ e. not-true (negative r) (rw e at q)

room_lasts_lem : (capacity : ℕ) (image : Bytes) → Image capacity image → (o : ℕ) (input : Bytes) → room_lasts o input image ≡ true
    → eqb (validated (read logged input) (contents_of image)) 0 ≡ true → applied capacity o (read logged input) (contents_of image) ≡ stays 18 → ⊥
unfolding room_lasts
room_lasts_lem capacity image h o input lasts passes e =
    let full : admitted input image && eqb (apply_of image o input).reply.number 18 ≡ true =
    rw (validate_contents image input h.is, passes, apply-laid image input h.is o, h.size, e) in
    true_false full (not-true (admitted input image && eqb (apply_of image o input).reply.number 18) lasts)

-- the two premises on what a step gives
abbrev pub StepHolds : Step → Bytes → Type 0
StepHolds s image = (meets_at epochs s image ≡ true) × (meets_at room s image ≡ true)

-- 2. A step that both histories have

same_number : {P : Contents → Contents → Type 0} {a b : Applied} → Matched P a b → refusal_number b ≡ refusal_number a
same_number (both_stay n) = refl
same_number (both_become p) = refl

module _ (capacity : ℕ) (u c : Bytes) (iu : Image capacity u) (ic : Image capacity c) (k : Like (contents_of u) (contents_of c)) where
  pub alike : Alike u c
  alike = record { first = iu.is; second = ic.is; size = ic.size ∙ sym iu.size; contents = k }

  same-validated : (g : Got) → validated g (contents_of c) ≡ validated g (contents_of u)
  same-validated (bad n) = refl
  same-validated (got r used) = ap (judge r) k.real

  module _ (good : Good (contents_of u)) (premise : Premises (contents_of u).real) where
    matched : (s : Step) → is_cut s ≡ false → StepGiven capacity s → StepHolds s u
        → Matched Next (effect capacity s (contents_of u)) (effect capacity s (contents_of c))
    unfolding is_cut meets_at on_given effect
    matched (cut own other) n given h = impossible cc
    matched (give o input) n given h =
        let held = fits_holds capacity (contents_of u) (contents_fit capacity u iu) in
        let mild = mild_epoch input h.0 in
        let lasts = room_lasts_lem capacity u iu o input h.1 in
        offered_matched capacity o (contents_of u) (contents_of c) k held good premise (read logged input) (is_read input given.0) mild lasts
    matched (ask_topic name out) n given h = both_stay 0
    matched (ask_topic_id id out) n given h = both_stay 0
    matched (ask_partition name m out) n given h = both_stay 0
    matched (ask_broker node out) n given h = both_stay 0
    matched ask_epoch n given h = both_stay 0
    matched ask_offset n given h = both_stay 0
    matched ask_short n given h = both_stay 0
    matched (ask_freeze name out) n given h = both_stay 0
    matched (ask_freezes list out) n given h = both_stay 0
    matched (view q list out) n given h = both_stay 0
    matched (ask_throttle node which) n given h = both_stay 0
    matched (ask_downgrade level out) n given h = both_stay 0
    matched (snap out) n given h = both_stay 0

    pub same_answer : (s : Step) → is_cut s ≡ false → StepGiven capacity s → StepHolds s u → answer s c ≡ answer s u
    unfolding is_cut answer effect
    same_answer (cut own other) n given h = impossible cc
    same_answer (give o input) n given h =
        let by-validate = same-validated (read logged input) in
        let by-apply = same_number (matched (give o input) n given h) in
        ap (λ a. a ∷ [])
        (judged-offered capacity c ic o input ∙ (λ i. verdict_of (by-validate i) (by-apply i)) ∙ sym (judged-offered capacity u iu o input))
    same_answer (ask_topic name out) n given h = ap (λ e. wrote e ∷ []) (same_topic u c alike name out)
    same_answer (ask_topic_id id out) n given h = ap (λ e. wrote e ∷ []) (same_topic_id u c alike id out)
    same_answer (ask_partition name m out) n given h = ap (λ e. wrote e ∷ []) (same-partition u c alike name m out)
    same_answer (ask_broker node out) n given h = ap (λ e. wrote e ∷ []) (same_broker u c alike node out)
    same_answer ask_epoch n given h = ap (λ e. said e ∷ []) (same-epoch u c alike)
    same_answer ask_offset n given h = ap (λ e. said e ∷ []) (same-offset u c alike)
    same_answer ask_short n given h = ap (λ e. said e ∷ []) (same-short u c alike)
    same_answer (ask_freeze name out) n given h = ap (λ e. wrote e ∷ []) (same-freeze u c alike name out)
    same_answer (ask_freezes list out) n given h = ap (λ e. wrote e ∷ []) (same_freezes u c alike list out)
    same_answer (view q list out) n given h = ap (λ e. wrote e ∷ []) (same_view u c alike q list out)
    same_answer (ask_throttle node which) n given h = ap (λ e. said e ∷ []) (same-throttle u c alike node which)
    same_answer (ask_downgrade level out) n given h = ap (λ e. wrote e ∷ []) (same-downgrade u c alike level out)
    same_answer (snap out) n given h = ap (λ e. wrote e ∷ []) (same-snapshot_of u c alike out)

-- 3. The contents afterwards

-- the same offset; and good and like contents, known where the uncut history's meet the premises, which are asked of what a step gets and not of
-- what is left
pub record Close (u c : Contents) : Type 0 where
  pub offset : c.fixed.offset ≡ u.fixed.offset
  pub alike : premises u ≡ true → Good u × Like u c

matched_close : (u c : Contents) → Good u → Like u c → {a b : Applied} → Matched Next a b → Close (contents_after u a) (contents_after c b)
matched_close u c good k (both_stay n) = record { offset = ap (λ (f : Fixed). f.offset) k.fixed; alike = λ h. (good, k) }
matched_close u c good k (both_become {u = v} next) =
    record { offset = ap (λ (f : Fixed). f.offset) next.0.fixed; alike = λ h. (next.1 (premises_hold v h), next.0) }

module _ (capacity : ℕ) (u c : Bytes) (iu : Image capacity u) (ic : Image capacity c) (close : Close (contents_of u) (contents_of c)) where
  pub close_step : (s : Step) → is_cut s ≡ false → StepGiven capacity s → premises (contents_of u) ≡ true → StepHolds s u
      → Close (contents_of (after s u)) (contents_of (after s c))
  close_step s n given premise h =
      let now = close.alike premise in
      let both = matched capacity u c iu ic now.1 now.0 (premises_hold (contents_of u) premise) s n given h in
      rw (after_contents capacity u iu s given, after_contents capacity c ic s given)
      (matched_close (contents_of u) (contents_of c) now.0 now.1 both)

  -- a cut of the one leaves the other as it is
  pub close_cut : (own other : Bytes) → length other ≡ capacity → Close (contents_of u) (contents_of (after (cut own other) c))
  unfolding effect restored
  close_cut own other e =
      rw (after_contents capacity c ic (cut own other) e) (go (fits_own own (contents_of c)))
    where
      d : Contents
      d = contents_of c

      go : (b : Bool) → Close (contents_of u) (contents_after d (cond b (becomes (restored d)) (stays 19)))
      go true = record {
        offset = close.offset;
        alike = λ premise.
            let now = close.alike premise in
            let held = fits_holds capacity (contents_of u) (contents_fit capacity u iu) in
            (now.0, like_restored (contents_of u) d held.ascends now.0 (premises_hold (contents_of u) premise) now.1);
      }
      go false = close

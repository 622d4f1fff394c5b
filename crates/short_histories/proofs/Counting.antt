-- Records that are read one after the other: the fault of those that are left is the fault of all, and so many were read.
use mathlib.Core.Path.{◌≡◌, refl, sym, ap, ap₂, ◌∙◌}
use mathlib.Core.List.{[], ◌∷◌}
use Prim.Native.Nat.{ℕ, zero, suc, ◌+◌, ◌-◌, ◌≤◌, ◌<◌}
use native.Mathlib.Omega.{arith}
use lib.ListN.{length, take, drop, length-drop, drop_of_length-le}
use lib.Seq.{drop-drop}
use Rattle.model.specs.Number.{Bytes}
use Rattle.model.specs.Shape.{framed}
use Rattle.model.specs.Record.{Rec, Got, bad, got, read, on_got}
use Rattle.model.specs.Items as Items
use Rattle.model.specs.Items.{Items, end, item, items_from, items_of, records}
use Rattle.model.specs.Reply.{accepted, refused}
use Rattle.model.specs.ShortHistory.{record_limit, few_fault}
use Rattle.laws_records.specs.Records.{reads, refusal_positive}
use Rattle.laws_records.specs.Items.{items_got, items_bad}
use Rattle.keys.proofs.Found.{rest-lent}
use Rattle.records.specs.Answers.{got_reply}
use Rattle.records.proofs.Replies.{used_got, refused_bad}
use Rattle.short_histories.specs.Histories.{items_at, records_in, CountAs}
use Rattle.short_histories.specs.declared.Count.TheVariants.{Records, Refused}

pub record Reached (s : Bytes) (at n : ℕ) : Type 0 where
  pub within : at ≤ length s
  pub few : n ≤ record_limit
  pub faults : few_fault (record_limit - n) (items_at s at) ≡ few_fault record_limit (items_of framed s)
  pub counts : n + length (records (items_at s at)) ≡ length (records_in s)

pub reached-start : (s : Bytes) → Reached s 0 0
reached-start s = record { within = omega arith; few = omega arith; faults = refl; counts = omega arith }

fault-end : (most : ℕ) → few_fault most end ≡ 0
unfolding few_fault
fault-end zero = refl
fault-end (suc most) = refl

module _ (s : Bytes) {at n : ℕ} (h : Reached s at n) where
  -- the bytes from the place on, as they are lent
  abbrev lent : Bytes
  lent = take (length s - at) (drop at s)

  -- 1. The ends

  one_more : at < length s → few_fault zero (items_at s at) ≡ 5
  unfolding few_fault items_from
  one_more k = go (drop at s) (omega (arith, length-drop at s))
    where
      go : (t : Bytes) → 0 < length t → few_fault zero (items_from framed 0 at t) ≡ 5
      go [] q = absurd (omega arith)
      go (b ∷ t) q = by (read framed (b ∷ t))
        where
          by : (g : Got) → few_fault zero (on_got g (λ number. Items.bad number at) (λ r used. item at r (items_from framed (used - 1) (at + 1) t))) ≡ 5
          by (bad m) = refl
          by (got r m) = refl

  pub ninth : at < length s → n ≡ 8 → CountAs s (Refused 5)
  ninth k e = (sym h.faults ∙ ap (λ m. few_fault (8 - m) (items_at s at)) e ∙ one_more k, omega arith)

  pub all_read : length s ≤ at → CountAs s (Records n)
  unfolding items_from records
  all_read k =
      let none_left : items_at s at ≡ end = ap (items_from framed 0 at) (drop_of_length-le s k) in
      (sym h.faults ∙ ap (few_fault (record_limit - n)) none_left ∙ fault-end (record_limit - n), omega (arith, h.counts, ap (λ is. length (records is)) none_left), h.few)

  -- 2. A record

  module _ (q : n ≡ 8 → ⊥) where
    one_left : record_limit - n ≡ suc (7 - n)
    one_left = omega (arith, h.few, q)

    pub stopped : at < length s → {m : ℕ} → refused m ≡ got_reply (read framed lent) → CountAs s (Refused m)
    unfolding few_fault
    stopped k {m} e = (sym h.faults ∙ ap₂ few_fault one_left (go (drop at s) (omega (arith, length-drop at s)) unread), refusal_positive framed (drop at s) m unread)
      where
        unread : read framed (drop at s) ≡ bad m
        unread = refused_bad (read framed (drop at s)) m (e ∙ ap (λ t. got_reply (read framed t)) (rest-lent at s))

        go : (t : Bytes) → 0 < length t → read framed t ≡ bad m → items_from framed 0 at t ≡ Items.bad m at
        go [] p r = absurd (omega arith)
        go (b ∷ t) p r = items_bad framed at b t m r

    module _ {used : ℕ} (e : accepted (used ∷ []) ≡ got_reply (read framed lent)) where
      it : (r : Rec) × (read framed (drop at s) ≡ got r used)
      it = used_got (read framed (drop at s)) used (e ∙ ap (λ t. got_reply (read framed t)) (rest-lent at s))

      items-here : items_at s at ≡ item at it.0 (items_at s (at + used))
      items-here =
          items_got framed at (drop at s) it.0 used it.1 ∙ ap (λ t. item at it.0 (items_from framed 0 (at + used) t)) (drop-drop used at s)

      pub turn_places : (0 < used) × (at + used ≤ length s)
      turn_places =
          let d = reads framed (drop at s) it.0 used it.1 in
          (omega (arith, d.head), omega (arith, d.fits, length-drop at s, h.within))

      pub turned : Reached s (at + used) (n + 1)
      unfolding few_fault records
      turned =
          let less : record_limit - (n + 1) ≡ 7 - n = omega arith in
          record {
            within = turn_places.1;
            few = omega (arith, h.few, q);
            faults = ap (λ m. few_fault m (items_at s (at + used))) less ∙ sym (ap₂ few_fault one_left items-here) ∙ h.faults;
            counts = omega (arith, h.counts, ap (λ is. length (records is)) items-here);
          }

-- Bytes read record by record: what is read at a place decides whether the rest is whole.
use mathlib.Core.Path.{◌≡◌, refl, sym, ap, ◌∙◌}
use mathlib.Core.List.{[], ◌∷◌}
use mathlib.Core.Bool.{true, false}
use Prim.Native.Nat.{ℕ, zero, suc, ◌+◌, ◌-◌, ◌≤◌, ◌<◌}
use native.Mathlib.Omega.{arith}
use lib.ListN.{length, take, drop, length-drop, drop_of_length-le}
use lib.Seq.{drop-drop}
use Rattle.model.specs.Number.{Bytes}
use Rattle.model.specs.Shape.{Source, stored}
use Rattle.model.specs.Record.{Rec, Got, bad, got, read, on_got}
use Rattle.model.specs.Items as Items
use Rattle.model.specs.Items.{item, items_from, items_of, is_whole}
use Rattle.laws_records.specs.Records.{reads}
use Rattle.laws_records.specs.Items.{items_got, items_bad}
use Rattle.keys.proofs.Found.{lent_slice, slice-rest}
use Rattle.model.specs.Answers.{replied}
use Rattle.records.specs.Answers.{got_reply}
use Rattle.model.specs.declared.answers.Answer.{Answer}
use Rattle.model.specs.declared.answers.Answer.TheVariants.{Used, Refused}
use Rattle.records.proofs.Replies.{used_got, refused_bad}

-- 1. What is read

-- whether items are whole does not depend on where they stand
whole-place : (source : Source) (skip p q : ℕ) (s : Bytes) → is_whole (items_from source skip p s) ≡ is_whole (items_from source skip q s)
unfolding items_from is_whole
whole-place source zero p q [] = refl
whole-place source (suc skip) p q [] = refl
whole-place source (suc skip) p q (b ∷ s) = whole-place source skip (p + 1) (q + 1) s
whole-place source zero p q (b ∷ s) = go (read source (b ∷ s)) (λ n. whole-place source n (p + 1) (q + 1) s)
  where
    go : (g : Got) → ((n : ℕ) → is_whole (items_from source n (p + 1) s) ≡ is_whole (items_from source n (q + 1) s))
        → is_whole (on_got g (λ n. Items.bad n p) (λ r used. item p r (items_from source (used - 1) (p + 1) s)))
        ≡ is_whole (on_got g (λ n. Items.bad n q) (λ r used. item q r (items_from source (used - 1) (q + 1) s)))
    go (bad n) i = refl
    go (got r n) i = i (n - 1)

whole_got : (source : Source) (t : Bytes) (r : Rec) (n : ℕ) → read source t ≡ got r n
    → is_whole (items_of source (drop n t)) ≡ is_whole (items_of source t)
unfolding is_whole
whole_got source t r n e = whole-place source 0 0 (0 + n) (drop n t) ∙ sym (ap is_whole (items_got source 0 t r n e))

whole_bad : (source : Source) (t : Bytes) (n : ℕ) → 0 < length t → read source t ≡ bad n → is_whole (items_of source t) ≡ false
unfolding is_whole
whole_bad source [] n h e = absurd (omega arith)
whole_bad source (b ∷ t) n h e = ap is_whole (items_bad source 0 b t n e)

whole-end : (source : Source) (t : Bytes) → t ≡ [] → is_whole (items_of source t) ≡ true
unfolding items_from is_whole
whole-end source t e = rw e

-- 2. The walk

pub record Upto (s : Bytes) (at : ℕ) : Type 0 where
  pub most : at ≤ length s
  pub same : is_whole (items_of stored (drop at s)) ≡ is_whole (items_of stored s)

pub upto_start : (s : Bytes) → Upto s 0
upto_start s = record { most = omega arith; same = refl }

pub upto_end : {s : Bytes} {at : ℕ} → Upto s at → length s ≤ at → true ≡ is_whole (items_of stored s)
upto_end {s} {at} u past = sym (whole-end stored (drop at s) (drop_of_length-le s past)) ∙ u.same

-- a turn: the bytes from the walk's place on are lent
module _ {s : Bytes} {at : ℕ} (u : Upto s at) (a : Answer) (said : replied a ≡ got_reply (read stored (take (length s - at) (drop at s)))) where
  rest : take (length s - at) (drop at s) ≡ drop at s
  rest = lent_slice s at (length s) u.most ∙ slice-rest at s

  replies : got_reply (read stored (drop at s)) ≡ replied a
  replies = sym (said ∙ ap (λ t. got_reply (read stored t)) rest)

  read_here : {n : ℕ} → a ≡ Used n → (r : Rec) × (read stored (drop at s) ≡ got r n)
  read_here {n} e = used_got (read stored (drop at s)) n (sym (replies ∙ ap replied e))

  pub goes_on_lem : {n : ℕ} → a ≡ Used n → (0 < n) × (at + n ≤ length s)
  goes_on_lem {n} e =
      let g = read_here e in
      let d = reads stored (drop at s) g.0 n g.1 in
      (omega (arith, d.head), omega (arith, d.fits, length-drop at s, u.most))

  pub upto_next : {n : ℕ} → a ≡ Used n → Upto s (at + n)
  upto_next {n} e =
      let g = read_here e in
      record {
        most = (goes_on_lem e).1;
        same = ap (λ x. is_whole (items_of stored x)) (sym (drop-drop n at s)) ∙ whole_got stored (drop at s) g.0 n g.1 ∙ u.same;
      }

  pub upto_refused : {n : ℕ} → a ≡ Refused n → at < length s → false ≡ is_whole (items_of stored s)
  upto_refused {n} e inside =
      let g = refused_bad (read stored (drop at s)) n (sym (replies ∙ ap replied e)) in
      sym (whole_bad stored (drop at s) n (omega (arith, length-drop at s)) g) ∙ u.same

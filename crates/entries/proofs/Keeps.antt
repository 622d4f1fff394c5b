-- Entries that fail a test taken out in one walk: those that pass are moved down over the others, and the rest is as it was.
use mathlib.Core.Path.{◌≡◌, refl, sym, ap, ap₂, ◌∙◌, subst}
use mathlib.Core.List.{List, [], ◌∷◌, ◌++◌, append_assoc, append-nil}
use mathlib.Core.Bool.{Bool, true, false}
use Prim.Native.Nat.{ℕ, ◌+◌, ◌-◌, ◌≤◌, ◌<◌}
use native.Mathlib.Omega.{arith}
use lib.ListN.{length, take, drop, length-append, length-drop}
use lib.Seq.{slice, paste, length-take-le, length-paste, take-paste, drop-paste, take-take, drop-drop, slice_empty}
use Rattle.model.specs.Number.{Bytes, AreBytes}
use Rattle.model.specs.Order.{Key}
use Rattle.model.specs.Record.{Rec, record_bytes}
use Rattle.model.specs.Map.{keep}
use Rattle.model.specs.Contents.{record_key}
use Rattle.laws.specs.Numbers.{append_are_bytes, take_are_bytes, drop_are_bytes}
use Rattle.keys.specs.Keys.{key_in, Keyed}
use Rattle.keys.proofs.Found.{lent_slice, slice_again}
use Rattle.entries.specs.Entries.{records_in, spelt, Entries, Changed}
use Rattle.entries.specs.declared.Cursor.{Cursor}
use Rattle.entries.proofs.Records.{record-key}
use Rattle.entries.proofs.Seeks.{no_records}
use Rattle.entries.proofs.Turns.{Stands, lent, lent-keyed, turn_falls}

module _ (test : Key → Bool) where
  -- the walk is at `at`, and what passed before it ends at `top`
  pub record Kept (w₀ w : Bytes) (from to at top : ℕ) : Type 0 where
    pub same : length w ≡ length w₀
    pub are : AreBytes w
    pub low : from ≤ top
    pub order : top ≤ at
    pub most : at ≤ to
    pub entries : Entries (slice at to w)
    pub front :
        take top w ++ spelt (keep record_key test (records_in (slice at to w)))
        ≡ take from w₀ ++ spelt (keep record_key test (records_in (slice from to w₀)))
    pub back : drop at w ≡ drop at w₀

  pub kept-start : (w : Bytes) (from to : ℕ) → AreBytes w → from ≤ to → Entries (slice from to w) → Kept w w from to from from
  kept-start w from to are ordered e = record {
    same = refl;
    are = are;
    low = omega arith;
    order = omega arith;
    most = ordered;
    entries = e;
    front = refl;
    back = refl;
  }

  -- a turn of the walk: the step from its place found an entry
  pub record Turn (w₀ w : Bytes) (from to at top start end : ℕ) (next : Cursor) : Type 0 where
    pub within : to ≤ length w₀
    pub walk : Kept w₀ w from to at top
    pub found : Stands (take to w) at start end next

keep_true : (test : Key → Bool) (r : Rec) (l : List Rec) → test (record_key r) ≡ true → keep record_key test (r ∷ l) ≡ r ∷ keep record_key test l
unfolding keep
keep_true test r l h = rw h

keep_false : (test : Key → Bool) (r : Rec) (l : List Rec) → test (record_key r) ≡ false → keep record_key test (r ∷ l) ≡ keep record_key test l
unfolding keep
keep_false test r l h = rw h

keep-none : (test : Key → Bool) (l : List Rec) → l ≡ [] → keep record_key test l ≡ []
unfolding keep
keep-none test l e = rw e

-- the part that is walked is whole
whole : {test : Key → Bool} {w₀ w : Bytes} {from to at top : ℕ} → to ≤ length w₀ → Kept test w₀ w from to at top → length (take to w) ≡ to
whole {test} {w₀} {w} {from} {to} within h = length-take-le to w (omega (arith, h.same))

-- 1. A turn

module _ {test : Key → Bool} {w₀ w : Bytes} {from to at top start end : ℕ} {next : Cursor} (u : Turn test w₀ w from to at top start end next) where
  abbrev h : Kept test w₀ w from to at top
  h = u.walk

  abbrev t : Stands (take to w) at start end next
  t = u.found

  longer : start ≤ end
  longer = omega (arith, t.first, t.last)

  inside : end ≤ to
  inside = omega (arith, t.last, t.entry.fits, whole u.within h)

  -- it begins at the walk's place, and ends within the part
  pub bounds : (start ≡ at) × (start ≤ end) × (end ≤ to) × (end ≤ length w)
  bounds = (t.first, longer, inside, omega (arith, inside, u.within, h.same))

  next-end : next.at ≡ end
  next-end = ap (λ c. c.at) t.after

  pub falls : to - next.at < to - at
  falls = let f = turn_falls (take to w) at start end next t in omega (arith, whole u.within h)

  lent-bytes : take (end - start) (drop start w) ≡ record_bytes t.entry.entry
  lent-bytes =
      lent_slice w start end longer
      ∙ ap (drop start) (sym (take-take end to w inside))
      ∙ sym (lent_slice (take to w) start end longer)
      ∙ lent (take to w) at start end next t

  pub here-keyed : Keyed (take (end - start) (drop start w))
  here-keyed = rw (lent-bytes ∙ sym (lent (take to w) at start end next t)) (lent-keyed (take to w) at start end next t)

  told : (b : Bool) → b ≡ test (key_in (take (end - start) (drop start w))) → test (record_key t.entry.entry) ≡ b
  told b e = sym (e ∙ ap (λ x. test (key_in x)) lent-bytes ∙ ap test (record-key t.entry.entry t.entry.passes))

  list : records_in (slice at to w) ≡ t.entry.entry ∷ records_in (slice end to w)
  list = t.entry.list ∙ ap (λ x. t.entry.entry ∷ records_in (slice x to w)) (sym t.last)

  rest : Entries (slice end to w)
  rest = rw t.last t.entry.rest

  -- the bytes after the entry
  after : drop end w ≡ drop end w₀
  after =
      let e : at + (end - start) ≡ end = omega (arith, t.first, longer) in
      ap (λ x. drop x w) (sym e)
      ∙ sym (drop-drop (end - start) at w)
      ∙ ap (drop (end - start)) h.back
      ∙ drop-drop (end - start) at w₀
      ∙ ap (λ x. drop x w₀) e

  -- an entry that fails is passed over
  pub passed_over : {b : Bool} → b ≡ test (key_in (take (end - start) (drop start w))) → b ≡ false → Kept test w₀ w from to next.at top
  passed_over {b} e told-no =
      let fails = keep_false test t.entry.entry (records_in (slice end to w)) (told b e ∙ told-no) in
      let k : Kept test w₀ w from to end top = record {
        same = h.same;
        are = h.are;
        low = h.low;
        order = omega (arith, h.order, t.first, longer);
        most = inside;
        entries = rest;
        front = ap (λ l. take top w ++ spelt l) (sym (ap (keep record_key test) list ∙ fails)) ∙ h.front;
        back = after;
      } in
      subst (λ x. Kept test w₀ w from to x top) (sym next-end) k

  -- one that passes is moved down
  module _ {v : Bytes} (e : v ≡ paste w top (drop start w) (end - start)) where
    room : top + (end - start) ≤ length w
    room = omega (arith, h.same, h.order, t.first, longer, inside)

    long : end - start ≤ length (drop start w)
    long = omega (arith, h.same, longer, inside, length-drop start w)

    moved_front : take (top + (end - start)) v ≡ take top w ++ record_bytes t.entry.entry
    moved_front =
        ap (take (top + (end - start))) e
        ∙ take-paste w top (drop start w) (end - start) (omega (arith, room)) long
        ∙ ap (λ x. take top w ++ x) lent-bytes

    moved-after : drop end v ≡ drop end w
    moved-after =
        let n = top + (end - start) in
        let g : n + (start - top) ≡ end = omega (arith, h.order, t.first, longer) in
        ap (λ x. drop x v) (sym g)
        ∙ sym (drop-drop (start - top) n v)
        ∙ ap (drop (start - top)) (ap (drop n) e ∙ drop-paste w top (drop start w) (end - start) (omega (arith, room)) long)
        ∙ drop-drop (start - top) n w
        ∙ ap (λ x. drop x w) g

    moved_are : AreBytes v
    moved_are =
        rw e
        (append_are_bytes (take top w ++ take (end - start) (drop start w)) (drop (top + (end - start)) w)
        (append_are_bytes (take top w) (take (end - start) (drop start w)) (take_are_bytes top w h.are)
        (take_are_bytes (end - start) (drop start w) (drop_are_bytes start w h.are)))
        (drop_are_bytes (top + (end - start)) w h.are))

    pub moved_down : {b : Bool} → b ≡ test (key_in (take (end - start) (drop start w))) → b ≡ true
        → Kept test w₀ v from to next.at (top + (end - start))
    moved_down {b} says told-yes =
        let r = t.entry.entry in
        let l = keep record_key test (records_in (slice end to w)) in
        let passes = keep_true test r (records_in (slice end to w)) (told b says ∙ told-yes) in
        let same_rest : slice end to v ≡ slice end to w = slice_again v w end to inside moved-after in
        let k : Kept test w₀ v from to end (top + (end - start)) = record {
          same = ap length e ∙ length-paste w top (drop start w) (end - start) room long ∙ h.same;
          are = moved_are;
          low = omega (arith, h.low);
          order = omega (arith, h.order, t.first, longer);
          most = inside;
          entries = rw same_rest rest;
          front =
              ap₂ (λ a s. a ++ spelt (keep record_key test (records_in s))) moved_front same_rest
              ∙ append_assoc (take top w) (record_bytes r) (spelt l)
              ∙ ap (λ x. take top w ++ spelt x) (sym (ap (keep record_key test) list ∙ passes))
              ∙ h.front;
          back = moved-after ∙ after;
        } in
        subst (λ x. Kept test w₀ v from to x (top + (end - start))) (sym next-end) k

-- 2. The end

module _ {test : Key → Bool} {w₀ w : Bytes} {from to at top : ℕ} (within : to ≤ length w₀) (h : Kept test w₀ w from to at top) (past : length (take to w) ≤ at) where
  at_end_lem : at ≡ to
  at_end_lem = omega (arith, whole within h, h.most)

  all-front : take top w ≡ take from w₀ ++ spelt (keep record_key test (records_in (slice from to w₀)))
  all-front =
      let none : slice at to w ≡ [] = ap (λ x. slice x to w) at_end_lem ∙ slice_empty to w in
      sym (ap (λ l. take top w ++ spelt l) (keep-none test (records_in (slice at to w)) (no_records (slice at to w) none)) ∙ append-nil (take top w))
      ∙ h.front

  pub closed : {v none : Bytes} {used r : ℕ} → to ≤ used → used ≤ length w₀ → length v ≡ length w → none ≡ []
      → (r ≡ top + length none + (used - to)) × (take r v ≡ take top w ++ none ++ slice to used w)
      → Changed w₀ v from to used r (keep record_key test (records_in (slice from to w₀))) × (r ≤ used)
  closed {v} {none} {used} {r} before fits same empty said =
      let k = spelt (keep record_key test (records_in (slice from to w₀))) in
      let z : length none ≡ 0 = ap length empty in
      let back : drop to w ≡ drop to w₀ = subst (λ x. drop x w ≡ drop x w₀) at_end_lem h.back in
      let long : top ≡ from + length k =
      sym (length-take-le top w (omega (arith, h.same, h.order, at_end_lem)))
      ∙ ap length all-front
      ∙ length-append (take from w₀) k
      ∙ ap (λ n. n + length k) (length-take-le from w₀ (omega (arith, h.low, h.order, at_end_lem))) in
      let most : r ≤ used = omega (arith, said.0, h.order, at_end_lem) in (
        record {
          holds =
              said.1
              ∙ ap (λ x. take top w ++ x ++ slice to used w) empty
              ∙ ap (λ x. x ++ slice to used w) (append-nil (take top w))
              ∙ ap₂ (λ a b. a ++ b) all-front (slice_again w w₀ to used before back);
          size = omega (arith, said.0);
          fits = omega (arith, same, h.same);
        },
        most,
      )

-- Rows by their tags: which may come how often, and where none is required.
use Rattle.std.specs.Prelude.{◌≡◌, List, [], ◌∷◌, Bool, ◌&&◌, not, ℕ, zero, suc, ◌+◌, ◌-◌, ◌<◌, eqb, take, drop}
use Rattle.std.proofs.Math.Path.{refl}
use Rattle.std.proofs.Common.{sym, ap, ◌∙◌, not-suc-le-zero, arith}
use Rattle.std.proofs.Math.Bool.{true, false, cond}
use Rattle.std.proofs.Math.Option.{some}
use borrow.Author.Tests.{not-true, ltb-true, ltb-false, eqb-true, lt-ltb, le-ltb, eq-eqb}
use Rattle.std.proofs.Math.Dec.{ltb}
use Rattle.std.proofs.Math.ListN.{get_elem?}
use Rattle.std.proofs.Math.Seq.{slice}
use Rattle.model.specs.Shape.{Presence, required, optional, up_to, Row, row_at, is_required, repeats, any_required, may_follow, count_fault}
use Rattle.laws.specs.Choice.{impossible, unless_true, and_left, and_right, or_left, or_right}
use Rattle.laws.specs.Lists.{get_elem?_drop, get_elem?_take, get_elem?_take_past}

-- how often a row's tag may come
abbrev pub times : Presence → ℕ
times required = 1
times optional = 1
times (up_to n) = n

pub times_once : (p : Presence) → repeats p ≡ false → times p ≡ 1
times_once required e = refl
times_once optional e = refl
times_once (up_to n) e = impossible cc

-- tags are from 1 on
pub tag_positive : (rows : List Row) (tag : ℕ) (row : Row) → row_at rows tag ≡ some row → 0 < tag
tag_positive rows zero row e = impossible cc
tag_positive rows (suc t) row e = omega arith

-- 1. Required rows

-- no row is required; none of the tags after one; none of the tags between two
abbrev NoneRequired : List Row → Type 0
NoneRequired rows = (i : ℕ) (row : Row) → get_elem? rows i ≡ some row → is_required row.presence ≡ false

none_required : (rows : List Row) → any_required rows ≡ false → NoneRequired rows
unfolding any_required
none_required [] e i row f = impossible cc
none_required (r ∷ rows) e zero row f =
    let g : r ≡ row = cc in
    rw (← g) (or_left (is_required r.presence) (any_required rows) e)
none_required (r ∷ rows) e (suc i) row f = none_required rows (or_right (is_required r.presence) (any_required rows) e) i row f

required_none : (rows : List Row) → NoneRequired rows → any_required rows ≡ false
unfolding any_required
required_none [] h = refl
required_none (r ∷ rows) h = rw (h 0 r refl) (required_none rows (λ i row f. h (suc i) row f))

module _ (rows : List Row) (last : ℕ) where
  -- the rows of the tags after the last one, before another one
  abbrev pub NoneBetween : ℕ → Type 0
  NoneBetween next = (tag : ℕ) (row : Row) → last < tag → tag < next → row_at rows tag ≡ some row → is_required row.presence ≡ false

  abbrev pub NoneAfter : Type 0
  NoneAfter = (tag : ℕ) (row : Row) → last < tag → row_at rows tag ≡ some row → is_required row.presence ≡ false

  pub none_after : any_required (drop last rows) ≡ false → NoneAfter
  none_after e zero row h f = absurd (not-suc-le-zero h)
  none_after e (suc i) row h f =
      let k : last + (i - last) ≡ i = omega arith in
      none_required (drop last rows) e (i - last) row (get_elem?_drop last (i - last) rows ∙ ap (get_elem? rows) k ∙ f)

  pub after_none : NoneAfter → any_required (drop last rows) ≡ false
  after_none h = required_none (drop last rows) λ i row f. h (suc (last + i)) row (omega arith) (sym (get_elem?_drop last i rows) ∙ f)

  pub none_between : (next : ℕ) → any_required (slice last (next - 1) rows) ≡ false → NoneBetween next
  none_between next e zero row h k f = absurd (not-suc-le-zero h)
  none_between next e (suc i) row h k f =
      let q : last + (i - last) ≡ i = omega arith in
      let before = take (next - 1) rows in
      let g = get_elem?_drop last (i - last) before ∙ ap (get_elem? before) q ∙ get_elem?_take (next - 1) i rows (omega arith) ∙ f in
      none_required (slice last (next - 1) rows) e (i - last) row g

  pub between_none : (next : ℕ) → NoneBetween next → any_required (slice last (next - 1) rows) ≡ false
  between_none next h = required_none (slice last (next - 1) rows) λ i row f.
      let g : get_elem? (take (next - 1) rows) (last + i) ≡ some row = sym (get_elem?_drop last i (take (next - 1) rows)) ∙ f in
      go i row g (ltb (last + i) (next - 1)) refl
    where
      go : (i : ℕ) (row : Row) → get_elem? (take (next - 1) rows) (last + i) ≡ some row → (b : Bool) → ltb (last + i) (next - 1) ≡ b
          → is_required row.presence ≡ false
      go i row g true e =
          let k = ltb-true (last + i) (next - 1) e in
          h (suc (last + i)) row (omega arith) (omega arith) (sym (get_elem?_take (next - 1) (last + i) rows k) ∙ g)
      go i row g false e = let n = get_elem?_take_past (next - 1) (last + i) rows (ltb-false (last + i) (next - 1) e) in impossible cc

-- 2. Tags that may follow

-- a later tag, no required one being passed over; or the same one again
pub data Follow (rows : List Row) (last tag : ℕ) (p : Presence) : Type 0 where
  later : last < tag → NoneBetween rows last tag → Follow rows last tag p
  again : tag ≡ last → repeats p ≡ true → Follow rows last tag p

module _ (rows : List Row) (last tag : ℕ) (p : Presence) where
  pub follow : may_follow rows last tag p ≡ true → Follow rows last tag p
  unfolding may_follow
  follow h = go (ltb last tag) refl h
    where
      go : (b : Bool) → ltb last tag ≡ b → cond b (not (any_required (slice last (tag - 1) rows))) (eqb tag last && repeats p) ≡ true
          → Follow rows last tag p
      go true e k = later (ltb-true last tag e) (none_between rows last tag (not-true _ k))
      go false e k = again (eqb-true tag last (and_left (eqb tag last) (repeats p) k)) (and_right (eqb tag last) (repeats p) k)

  pub may_follow_lem : Follow rows last tag p → may_follow rows last tag p ≡ true
  unfolding may_follow
  may_follow_lem (later h n) = rw (lt-ltb last tag h, between_none rows last tag n)
  may_follow_lem (again e q) = rw (le-ltb last tag (omega arith), eq-eqb tag last e, q)

-- 3. Counts

-- one more of a tag that may follow does not pass its limit
pub count-below : (p : Presence) (n : ℕ) → (repeats p ≡ false → n ≡ 0) → count_fault p n ≡ 0 → n < times p
count-below required n h e = let k = h refl in omega arith
count-below optional n h e = let k = h refl in omega arith
count-below (up_to limit) n h e = ltb-true n limit (unless_true (ltb n limit) 5 (omega arith) e)

pub below-count : (p : Presence) (n : ℕ) → n < times p → count_fault p n ≡ 0
below-count required n h = refl
below-count optional n h = refl
below-count (up_to limit) n h = rw (lt-ltb n limit h)

-- what comes twice repeats
pub twice_repeats : (p : Presence) → 1 < times p → repeats p ≡ true
twice_repeats required h = absurd (omega arith)
twice_repeats optional h = absurd (omega arith)
twice_repeats (up_to limit) h = refl

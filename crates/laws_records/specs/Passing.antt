-- What a run that passes a shape's rows is: whole, its tags ascend, and each tag's values pass its row.
use Rattle.std.specs.Prelude.{◌≡◌, Bool, true, false, not, ℕ, zero, suc, ◌+◌, ◌-◌, ◌≤◌, ◌<◌, eqb, length, drop}
use Rattle.std.proofs.Math.Path.{refl}
use Rattle.std.proofs.Common.{sym, ◌∙◌, not-suc-le-zero, arith, eqb-true, eq-eqb, ne_eqb}
use mathlib.Core.List.{List, [], ◌∷◌}
use Rattle.std.proofs.Math.Option.{Option, none, some}
use Rattle.std.proofs.lemmas.Bool.{not-true, eqb-false}
use Rattle.std.proofs.Math.ListN.{get_elem?}
use Rattle.model.specs.Choice.{or_then, unless, given}
use Rattle.model.specs.Number.{Bytes}
use Rattle.model.specs.Run.{Run, done, torn, item, run_of, field, values}
use Rattle.model.specs.Shape.{Form, Row, row_at, is_required, repeats, any_required, may_follow, count_fault, Before, start, count_before, key_before, after, run_fault}
use Rattle.laws.specs.Choice.{impossible, true_false, cond_same, or_then-left, or_then_right, unless_true, given-some}
use Rattle.laws_records.specs.Rows.{times, tag_positive, NoneBetween, NoneAfter, none_after, after_none, Follow, later, again, follow, may_follow_lem, count-below, below-count, twice_repeats}
use Rattle.laws_records.specs.Runs.{Whole}
use Rattle.laws_records.specs.Fields.{Against, before, at, past, against, Ascending, ascending_from, values-here, values-there, values-below}

-- what says of a value, after a key, whether a form has it
abbrev pub Check : Type 0
Check = Option Bytes → Form → Bytes → ℕ

-- each value passes a form, after the key that the one before it began with
abbrev pub Each : Check → Form → Option Bytes → List Bytes → Type 0
Each check form prior [] = Unit {0}
Each check form prior (v ∷ vs) = (check prior form v ≡ 0) × Each check form (field 1 (run_of v)) vs

-- the values of a tag pass its row, `count` others having come before them
pub record Elements (check : Check) (row : Row) (count : ℕ) (prior : Option Bytes) (vs : List Bytes) : Type 0 where
  pub needed : is_required row.presence ≡ true → 0 < count + length vs
  pub few : length vs ≤ times row.presence - count
  pub each : Each check row.form prior vs

-- a tag that has no row has no values
abbrev pub InRow : Check → Option Row → ℕ → Option Bytes → List Bytes → Type 0
InRow check none count prior vs = vs ≡ []
InRow check (some row) count prior vs = Elements check row count prior vs

-- what has come of a tag: nothing of a later one
module _ (b : Before) (tag : ℕ) where
  pub count-later : b.last < tag → count_before b tag ≡ 0
  count-later h = let a : tag ≡ b.last → ⊥ = λ e. omega arith in rw (ne_eqb tag b.last a)

  pub key-later : b.last < tag → key_before b tag ≡ none
  key-later h = let a : tag ≡ b.last → ⊥ = λ e. omega arith in rw (ne_eqb tag b.last a)

  pub count_again : tag ≡ b.last → count_before b tag ≡ b.count
  count_again e = rw (eq-eqb tag b.last e)

-- after a field, its own tag's count and key
pub count-after : (b : Before) (t : ℕ) (v : Bytes) → count_before (after b t v) t ≡ count_before b t + 1
count-after b t v = rw (eq-eqb t t refl)

pub key-after : (b : Before) (t : ℕ) (v : Bytes) → key_before (after b t v) t ≡ field 1 (run_of v)
key-after b t v = rw (eq-eqb t t refl)

-- the first field passes, and so do the others after it
pub record Accepts (check : Check) (rows : List Row) (b : Before) (t : ℕ) (v : Bytes) (r : Run) : Type 0 where
  pub row : Row
  pub found : row_at rows t ≡ some row
  pub follows : Follow rows b.last t row.presence
  pub right : check (key_before b t) row.form v ≡ 0
  pub counted : count_fault row.presence (count_before b t) ≡ 0
  pub rest : run_fault check rows (after b t v) r ≡ 0

module _ (check : Check) (rows : List Row) where
  pub accepts : (b : Before) (t : ℕ) (v : Bytes) (r : Run) → run_fault check rows b (item t v r) ≡ 0 → Accepts check rows b t v r
  unfolding run_fault
  accepts b t v r e =
      let g = given-some (row_at rows t) 4 _ (omega arith) e in
      let row = g.0 in
      let a = unless (may_follow rows b.last t row.presence) 4 in
      let c = check (key_before b t) row.form v in
      let d = count_fault row.presence (count_before b t) in
      let rest = run_fault check rows (after b t v) r in
      let o = or_then-left a (or_then c (or_then d rest)) g.2 in
      let p = or_then_right a (or_then c (or_then d rest)) g.2 in
      let q = or_then_right c (or_then d rest) p in
      record {
        row = row;
        found = g.1;
        follows = follow rows b.last t row.presence (unless_true (may_follow rows b.last t row.presence) 4 (omega arith) o);
        right = or_then-left c (or_then d rest) p;
        counted = or_then-left d rest q;
        rest = or_then_right d rest q;
      }

  pub accepts_item : (b : Before) (t : ℕ) (v : Bytes) (r : Run) → Accepts check rows b t v r → run_fault check rows b (item t v r) ≡ 0
  unfolding run_fault
  accepts_item b t v r a = rw (a.found, may_follow_lem rows b.last t a.row.presence a.follows, a.right, a.counted) a.rest

  module _ (b : Before) (t : ℕ) (v : Bytes) (r : Run) (a : Accepts check rows b t v r) where
    pub not_before : b.last ≤ t
    not_before = go a.follows
      where
        go : Follow rows b.last t a.row.presence → b.last ≤ t
        go (later h n) = omega arith
        go (again e q) = omega arith

    pub one_below : count_before b t < times a.row.presence
    one_below = count-below a.row.presence (count_before b t) (go a.follows) a.counted
      where
        go : Follow rows b.last t a.row.presence → repeats a.row.presence ≡ false → count_before b t ≡ 0
        go (later h n) e = count-later b t h
        go (again f q) e = absurd (true_false q e)

-- checks that say the same of the rows' forms find the same fault
pub run-same : (check other : Check) (rows : List Row)
    → ((i : ℕ) (row : Row) → get_elem? rows i ≡ some row → (k : Option Bytes) (v : Bytes) → check k row.form v ≡ other k row.form v)
    → (b : Before) (r : Run) → run_fault check rows b r ≡ run_fault other rows b r
unfolding run_fault
run-same check other rows same b done = refl
run-same check other rows same b torn = refl
run-same check other rows same b (item t v r) = go t (run-same check other rows same (after b t v) r)
  where
    rest : Check → Row → ℕ
    rest c row =
        or_then (unless (may_follow rows b.last t row.presence) 4)
        (or_then (c (key_before b t) row.form v)
        (or_then (count_fault row.presence (count_before b t)) (run_fault c rows (after b t v) r)))

    found : (i : ℕ) → run_fault check rows (after b t v) r ≡ run_fault other rows (after b t v) r → (o : Option Row) → get_elem? rows i ≡ o
        → given o 4 (rest check) ≡ given o 4 (rest other)
    found i ih none e = refl
    found i ih (some row) e = rw (same i row e (key_before b t) v, ih)

    go : (u : ℕ) → run_fault check rows (after b t v) r ≡ run_fault other rows (after b t v) r
        → given (row_at rows u) 4 (rest check) ≡ given (row_at rows u) 4 (rest other)
    go zero ih = refl
    go (suc i) ih = found i ih (get_elem? rows i) refl

-- 1. After fields that have come: the rows from the last tag on

-- a tag has come, if any is the last one
abbrev Begun : Before → Type 0
Begun b = 0 < b.last → 0 < b.count

record Follows (check : Check) (rows : List Row) (b : Before) (r : Run) : Type 0 where
  whole : Whole r
  ascends : Ascending b.last r
  rowwise : (tag : ℕ) → b.last ≤ tag → InRow check (row_at rows tag) (count_before b tag) (key_before b tag) (values tag r)

module _ (check : Check) (rows : List Row) where
  -- a tag that does not come
  absent : (b : Before) (tag : ℕ) → Begun b → b.last ≤ tag
      → ((row : Row) → b.last < tag → row_at rows tag ≡ some row → is_required row.presence ≡ false)
      → InRow check (row_at rows tag) (count_before b tag) (key_before b tag) []
  absent b tag begun h free = go (row_at rows tag) refl
    where
      have : (row : Row) → row_at rows tag ≡ some row → is_required row.presence ≡ true → (same : Bool) → eqb tag b.last ≡ same
          → 0 < count_before b tag + 0
      have row e q true f =
          let k = eqb-true tag b.last f in
          let p = tag_positive rows tag row e in
          let c = begun (omega arith) in
          rw (count_again b tag k) (omega arith)
      have row e q false f =
          let a : tag ≡ b.last → ⊥ = eqb-false tag b.last f in
          absurd (true_false q (free row (omega arith) e))

      go : (o : Option Row) → row_at rows tag ≡ o → InRow check o (count_before b tag) (key_before b tag) []
      go none e = refl
      go (some row) e = record { needed = λ q. have row e q (eqb tag b.last) refl; few = omega arith; each = tt }

  begun-after : (b : Before) (t : ℕ) (v : Bytes) → Begun (after b t v)
  begun-after b t v h = omega arith

  module _ (b : Before) (t : ℕ) (v : Bytes) (r : Run) where
    -- of a later tag nothing has come before the field, nor after it
    module _ (tag : ℕ) (vs : List Bytes) (h : b.last ≤ t) (k : t < tag) where
      later-before : InRow check (row_at rows tag) (count_before (after b t v) tag) (key_before (after b t v) tag) vs
          → InRow check (row_at rows tag) (count_before b tag) (key_before b tag) vs
      later-before i =
          let l : b.last < tag = omega arith in
          rw (count-later b tag l, key-later b tag l) (rw (count-later (after b t v) tag k, key-later (after b t v) tag k) at i)

      later-after : InRow check (row_at rows tag) (count_before b tag) (key_before b tag) vs
          → InRow check (row_at rows tag) (count_before (after b t v) tag) (key_before (after b t v) tag) vs
      later-after i =
          let l : b.last < tag = omega arith in
          rw (count-later (after b t v) tag k, key-later (after b t v) tag k) (rw (count-later b tag l, key-later b tag l) at i)

    module _ (begun : Begun b) (a : Accepts check rows b t v r) (f : Follows check rows (after b t v) r) where
      at_tag : InRow check (row_at rows t) (count_before b t) (key_before b t) (values t (item t v r))
      at_tag =
          let i : Elements check a.row (count_before b t + 1) (field 1 (run_of v)) (values t r) =
          rw (a.found, count-after b t v, key-after b t v) at (f.rowwise t (omega arith)) in
          let k = one_below check rows b t v r a in
          rw (a.found, values-here t v r) (record { needed = λ q. omega arith; few = omega (arith, i.few); each = (a.right, i.each) })

      follows_item : Follows check rows b (item t v r)
      follows_item = record { whole = f.whole; ascends = (o, f.ascends); rowwise = λ tag h. go tag h (against t tag) }
        where
          o : b.last ≤ t
          o = not_before check rows b t v r a

          go : (tag : ℕ) → b.last ≤ tag → Against t tag
              → InRow check (row_at rows tag) (count_before b tag) (key_before b tag) (values tag (item t v r))
          go tag h (before k) =
              let n : t ≡ tag → ⊥ = λ e. omega arith in
              rw (values-there t v r tag n) (later-before tag (values tag r) o k (f.rowwise tag (omega arith)))
          go tag h (at e) = rw (← e) at_tag
          go tag h (past k) =
              let n : t ≡ tag → ⊥ = λ e. omega arith in
              rw (values-there t v r tag n, values-below t tag r f.ascends k) (absent b tag begun h (free a.follows))
            where
              free : Follow rows b.last t a.row.presence → (row : Row) → b.last < tag → row_at rows tag ≡ some row
                  → is_required row.presence ≡ false
              free (later l m) row o e = m tag row o k e
              free (again q m) row o e = absurd (omega arith)

  follows_of : (b : Before) (r : Run) → Begun b → run_fault check rows b r ≡ 0 → Follows check rows b r
  unfolding run_fault values
  follows_of b done begun e =
      let n = none_after rows b.last (not-true _ (unless_true (not (any_required (drop b.last rows))) 4 (omega arith) e)) in
      record { whole = tt; ascends = tt; rowwise = λ tag h. absent b tag begun h (λ row k f. n tag row k f) }
  follows_of b torn begun e = absurd (omega arith)
  follows_of b (item t v r) begun e =
      let a = accepts check rows b t v r e in
      follows_item b t v r begun a (follows_of (after b t v) r (begun-after b t v) a.rest)

  -- a later tag that does not come is not required
  free_of : (b : Before) (tag : ℕ) (row : Row) (vs : List Bytes) → b.last < tag → vs ≡ [] → row_at rows tag ≡ some row
      → InRow check (row_at rows tag) (count_before b tag) (key_before b tag) vs → is_required row.presence ≡ false
  free_of b tag row vs h e f i =
      let k : Elements check row 0 none [] = rw (f, count-later b tag h, key-later b tag h, e) at i in
      go (is_required row.presence) refl k
    where
      go : (q : Bool) → is_required row.presence ≡ q → Elements check row 0 none [] → is_required row.presence ≡ false
      go true g k = let z = k.needed g in absurd (omega arith)
      go false g k = g

  module _ (b : Before) (t : ℕ) (v : Bytes) (r : Run) (begun : Begun b) (f : Follows check rows b (item t v r)) where
    none_skipped : NoneBetween rows b.last t
    none_skipped tag row h k e =
        let n : t ≡ tag → ⊥ = λ q. omega arith in
        let z : values tag (item t v r) ≡ [] = values-there t v r tag n ∙ values-below t tag r f.ascends.1 k in
        free_of b tag row (values tag (item t v r)) h z e (f.rowwise tag (omega arith))

    row-there : (row : Row) × (row_at rows t ≡ some row)
    row-there = go (row_at rows t) refl (f.rowwise t f.ascends.0)
      where
        go : (o : Option Row) → row_at rows t ≡ o → InRow check o (count_before b t) (key_before b t) (values t (item t v r))
            → (row : Row) × (row_at rows t ≡ some row)
        go none e i = let z = values-here t v r in impossible cc
        go (some row) e i = (row, e)

    module _ (row : Row) (found : row_at rows t ≡ some row) where
      elements : Elements check row (count_before b t) (key_before b t) (v ∷ values t r)
      elements = rw (found, values-here t v r) at (f.rowwise t f.ascends.0)

      may_come : Against b.last t → Follow rows b.last t row.presence
      may_come (before h) = later h none_skipped
      may_come (at e) =
          let p = tag_positive rows t row found in
          let c = begun (omega arith) in
          let k = elements.few in
          let q = count_again b t (sym e) in
          again (sym e) (twice_repeats row.presence (omega arith))
      may_come (past k) = let h = f.ascends.0 in absurd (omega arith)

      follows_rest : Follows check rows (after b t v) r
      follows_rest = record { whole = f.whole; ascends = f.ascends.1; rowwise = λ tag h. go tag h (against t tag) }
        where
          go : (tag : ℕ) → t ≤ tag → Against t tag
              → InRow check (row_at rows tag) (count_before (after b t v) tag) (key_before (after b t v) tag) (values tag r)
          go tag h (before k) =
              let n : t ≡ tag → ⊥ = λ e. omega arith in
              let o = f.ascends.0 in
              later-after b t v r tag (values tag r) o k (rw (values-there t v r tag n) at (f.rowwise tag (omega arith)))
          go tag h (at e) =
              let i = elements in
              rw (← e, found, count-after b t v, key-after b t v)
              (record { needed = λ q. omega arith; few = omega (arith, i.few); each = i.each.1 })
          go tag h (past k) = absurd (omega arith)

      accepts_of : run_fault check rows (after b t v) r ≡ 0 → Accepts check rows b t v r
      accepts_of e =
          let i = elements in
          record {
            row = row;
            found = found;
            follows = may_come (against b.last t);
            right = i.each.0;
            counted = below-count row.presence (count_before b t) (omega (arith, i.few));
            rest = e;
          }

  fault_of : (b : Before) (r : Run) → Begun b → Follows check rows b r → run_fault check rows b r ≡ 0
  unfolding run_fault values
  fault_of b done begun f =
      let n : NoneAfter rows b.last = λ tag row h e. free_of b tag row [] h refl e (f.rowwise tag (omega arith)) in
      rw (after_none rows b.last n)
  fault_of b torn begun f = absurd f.whole
  fault_of b (item t v r) begun f =
      let w = row-there b t v r begun f in
      let i = fault_of (after b t v) r (begun-after b t v) (follows_rest b t v r begun f w.0 w.1) in
      accepts_item check rows b t v r (accepts_of b t v r begun f w.0 w.1 i)

-- 2. A whole run

pub record Passing (check : Check) (rows : List Row) (r : Run) : Type 0 where
  pub whole : Whole r
  pub ascends : Ascending 1 r
  pub rowwise : (tag : ℕ) → InRow check (row_at rows tag) 0 none (values tag r)

-- nothing has come at the start
count-start : (tag : ℕ) → count_before start tag ≡ 0
count-start tag = cond_same (eqb tag 0) 0

key-start : (tag : ℕ) → key_before start tag ≡ none
key-start tag = cond_same (eqb tag 0) none

ascends-one : (r : Run) → Ascending 0 r → values 0 r ≡ [] → Ascending 1 r
ascends-one done s e = tt
ascends-one torn s e = tt
ascends-one (item t v r) s e = go (against 0 t)
  where
    go : Against 0 t → Ascending 1 (item t v r)
    go (before h) = (h, s.1)
    go (at q) = let z : values 0 (item t v r) ≡ v ∷ values 0 r = rw (← q) (values-here 0 v r) in impossible cc
    go (past h) = absurd (not-suc-le-zero h)

module _ (check : Check) (rows : List Row) (r : Run) where
  pub passing : run_fault check rows start r ≡ 0 → Passing check rows r
  passing e =
      let f = follows_of check rows start r (λ h. h) e in
      record {
        whole = f.whole;
        ascends = ascends-one r f.ascends (f.rowwise 0 (omega arith));
        rowwise = λ tag. rw (count-start tag, key-start tag) at (f.rowwise tag (omega arith));
      }

  pub passes : Passing check rows r → run_fault check rows start r ≡ 0
  passes p = fault_of check rows start r (λ h. h) (record {
    whole = p.whole;
    ascends = ascending_from 0 1 r (omega arith) p.ascends;
    rowwise = λ tag h. rw (count-start tag, key-start tag) (p.rowwise tag);
  })

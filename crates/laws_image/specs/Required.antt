-- A record whose fields are all required is known by its values: the fields of its tags, in order.
use Rattle.std.specs.Prelude.{◌≡◌, refl, List, [], ◌∷◌, Bool, true, false, ℕ, zero, suc, ◌+◌, ◌≤◌, ◌<◌, length}
use Rattle.std.proofs.Common.{sym, ◌∙◌, ap, arith}
use Rattle.std.proofs.Math.Option.{Option, none, some}
use Rattle.std.proofs.Math.ListN.{get_elem?}
use Rattle.model.specs.Choice.{every}
use Rattle.model.specs.Number.{Bytes}
use Rattle.model.specs.Run.{Run, done, item, value, values}
use Rattle.model.specs.Shape.{Presence, required, optional, up_to, Row, rows_of, row_at, is_required, repeats, Source, shape_of, fault}
use Rattle.model.specs.declared.Kind.{Kind}
use Rattle.laws.specs.Choice.{impossible, and_left, and_right}
use Rattle.laws.specs.Lists.{get_elem?_some}
use Rattle.laws_records.specs.Runs.{Whole}
use Rattle.laws_records.specs.Fields.{Against, before, at, past, against, Ascending, values-here, values-there, values-below, run_ext}
use Rattle.laws_records.specs.Faults.{fault-passing, fault-whole, fault-ascends, fault_required, fault_once}
use Rattle.laws_records.specs.Passes.{no_row}

-- 1. Fields in order

-- `count` fields from a tag on, with the values that a run has
abbrev pub fields_from : ℕ → ℕ → Run → Run
fields_from tag zero r = done
fields_from tag (suc count) r = item tag (value tag r) (fields_from (suc tag) count r)

from_whole : (tag count : ℕ) (r : Run) → Whole (fields_from tag count r)
from_whole tag zero r = tt
from_whole tag (suc count) r = from_whole (suc tag) count r

from_ascends : (last tag count : ℕ) (r : Run) → last ≤ tag → Ascending last (fields_from tag count r)
from_ascends last tag zero r h = tt
from_ascends last tag (suc count) r h = (h, from_ascends tag (suc tag) count r (omega arith))

-- a tag among them has its value, and no other tag has one
from_past : (tag from count : ℕ) (r : Run) → from + count ≤ tag → values tag (fields_from from count r) ≡ []
unfolding values
from_past tag from zero r h = refl
from_past tag from (suc count) r h =
    values-there from (value from r) (fields_from (suc from) count r) tag (λ e. omega arith) ∙ from_past tag (suc from) count r (omega arith)

from_first : (tag count : ℕ) (r : Run) → values tag (fields_from tag (suc count) r) ≡ value tag r ∷ []
from_first tag count r =
    values-here tag (value tag r) (fields_from (suc tag) count r)
    ∙ ap (λ (l : List Bytes). value tag r ∷ l)
    (values-below (suc tag) tag (fields_from (suc tag) count r) (from_ascends (suc tag) (suc tag) count r (omega arith)) (omega arith))

from_here : (tag from count : ℕ) (r : Run) → from ≤ tag → tag < from + count → values tag (fields_from from count r) ≡ value tag r ∷ []
from_here tag from zero r h k = absurd (omega arith)
from_here tag from (suc count) r h k = go (against from tag) (from_here tag (suc from) count r)
  where
    go : Against from tag → (suc from ≤ tag → tag < suc from + count → values tag (fields_from (suc from) count r) ≡ value tag r ∷ [])
        → values tag (fields_from from (suc count) r) ≡ value tag r ∷ []
    go (before l) i = values-there from (value from r) (fields_from (suc from) count r) tag (λ e. omega arith) ∙ i l (omega arith)
    go (past l) i = absurd (omega arith)
    go (at e) i = rw e (from_first tag count r)

-- 2. Records

-- no row is optional or repeats
abbrev pub all_required : List Row → Bool
all_required rows = every (λ row. is_required row.presence) rows

no_row_past : (rows : List Row) (i : ℕ) → get_elem? rows i ≡ none → length rows ≤ i
no_row_past [] i e = omega arith
no_row_past (r ∷ rows) zero e = impossible cc
no_row_past (r ∷ rows) (suc i) e = let h = no_row_past rows i e in omega arith

row_required : (rows : List Row) → all_required rows ≡ true → (i : ℕ) (row : Row) → get_elem? rows i ≡ some row
    → is_required row.presence ≡ true
row_required [] h i row e = impossible cc
row_required (r ∷ rows) h zero row e =
    let q : r ≡ row = cc in
    rw (← q) (and_left (is_required r.presence) (all_required rows) h)
row_required (r ∷ rows) h (suc i) row e = row_required rows (and_right (is_required r.presence) (all_required rows) h) i row e

required_once : (p : Presence) → is_required p ≡ true → repeats p ≡ false
required_once required h = refl
required_once optional h = refl
required_once (up_to n) h = impossible cc

module _ (source : Source) (kind : Kind) (run : Run) (ok : fault source kind run ≡ 0) where
  -- a required field's values are its value
  pub required_values : (tag : ℕ) {row : Row} → row_at (rows_of (shape_of source kind)) tag ≡ some row → is_required row.presence ≡ true
      → values tag run ≡ value tag run ∷ []
  required_values tag {row} found q =
      let there = fault_required source kind run ok tag found q in
      fault_once source kind run ok tag found (required_once row.presence q) ∙ simp there.1

  module _ (all : all_required (rows_of (shape_of source kind)) ≡ true) where
    same-values : (tag : ℕ) → values tag run ≡ values tag (fields_from 1 (length (rows_of (shape_of source kind))) run)
    same-values zero =
        let n = length (rows_of (shape_of source kind)) in
        no_row (fault-passing source kind run ok) 0 refl
        ∙ sym (values-below 1 0 (fields_from 1 n run) (from_ascends 1 1 n run (omega arith)) (omega arith))
    same-values (suc i) = go (get_elem? (rows_of (shape_of source kind)) i) refl
      where
        n : ℕ
        n = length (rows_of (shape_of source kind))

        go : (o : Option Row) → get_elem? (rows_of (shape_of source kind)) i ≡ o → values (suc i) run ≡ values (suc i) (fields_from 1 n run)
        go none e =
            let h = no_row_past (rows_of (shape_of source kind)) i e in
            no_row (fault-passing source kind run ok) (suc i) e ∙ sym (from_past (suc i) 1 n run (omega arith))
        go (some row) e =
            let h = get_elem?_some (rows_of (shape_of source kind)) i row e in
            required_values (suc i) e (row_required (rows_of (shape_of source kind)) all i row e)
            ∙ sym (from_here (suc i) 1 n run (omega arith) (omega arith))

    pub required_run : run ≡ fields_from 1 (length (rows_of (shape_of source kind))) run
    required_run =
        let n = length (rows_of (shape_of source kind)) in
        run_ext 1 run (fields_from 1 n run) (fault-whole source kind run ok) (from_whole 1 n run)
        (fault-ascends source kind run ok) (from_ascends 1 1 n run (omega arith)) same-values

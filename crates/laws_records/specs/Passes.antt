-- Runs that pass their rows: what their fields are, and the changes after which they still pass.
use Rattle.std.specs.Prelude.{◌≡◌, List, [], ◌∷◌, true, false, ℕ, ◌≤◌, length}
use Rattle.std.proofs.Common.{sym, ap, ◌∙◌, append-nil, arith, drop_of_length-le}
use Rattle.std.proofs.Math.Option.{Option, none, some}
use Rattle.std.proofs.Math.ListN.{get_elem?}
use Rattle.model.specs.Choice.{given}
use Rattle.model.specs.Number.{Bytes}
use Rattle.model.specs.Run.{Run, run_of, field, or_empty, value, values, set_field, drop_field, items}
use Rattle.model.specs.Shape.{Form, Row, row_at, is_required, repeats}
use Rattle.laws.specs.Choice.{impossible, true_false}
use Rattle.laws.specs.Lists.{All}
use Rattle.laws_records.specs.Rows.{times, times_once, tag_positive}
use Rattle.laws_records.specs.Runs.{Whole}
use Rattle.laws_records.specs.Fields.{Against, before, at, past, against, Ascending, field-values, values-set-same, values-set_other, set-ascending, set-whole, values-drop-same, values-drop_other, drop-ascending, drop-whole, values-items-same, values-items_other, items-ascending, items-whole}
use Rattle.laws_records.specs.Passing.{Check, Each, Elements, InRow, Passing}

-- 1. Fields of a run that passes

module _ {check : Check} {rows : List Row} {r : Run} (p : Passing check rows r) (tag : ℕ) where
  pub no_row : row_at rows tag ≡ none → values tag r ≡ []
  no_row e = rw e at (p.rowwise tag)

  module _ {row : Row} (found : row_at rows tag ≡ some row) where
    pub values_pass : Elements check row 0 none (values tag r)
    values_pass = rw found at (p.rowwise tag)

    pub field_passes : (v : Bytes) → field tag r ≡ some v → check none row.form v ≡ 0
    field_passes v e = go (values tag r) (sym (field-values tag r) ∙ e) values_pass.each
      where
        go : (vs : List Bytes) → get_elem? vs 0 ≡ some v → Each check row.form none vs → check none row.form v ≡ 0
        go [] f i = impossible cc
        go (x ∷ vs) f i = let q : x ≡ v = cc in rw (← q) i.0

    -- a required field is there
    pub required_there : is_required row.presence ≡ true → (v : Bytes) × (field tag r ≡ some v) × (check none row.form v ≡ 0)
    required_there q = go (values tag r) (field-values tag r) values_pass
      where
        go : (vs : List Bytes) → field tag r ≡ get_elem? vs 0 → Elements check row 0 none vs
            → (v : Bytes) × (field tag r ≡ some v) × (check none row.form v ≡ 0)
        go [] f i = let z = i.needed q in absurd (omega arith)
        go (v ∷ vs) f i = (v, f, i.each.0)

    pub value_passes : is_required row.presence ≡ true → check none row.form (value tag r) ≡ 0
    value_passes q = let t = required_there q in rw (ap or_empty t.1) t.2

    pub values_few : length (values tag r) ≤ times row.presence
    values_few = omega (arith, values_pass.few)

    -- a tag that does not repeat comes at most once
    pub values_once : repeats row.presence ≡ false → values tag r ≡ given (field tag r) [] (λ v. v ∷ [])
    values_once q = go (values tag r) (field-values tag r) (values_few) (times_once row.presence q)
      where
        go : (vs : List Bytes) → field tag r ≡ get_elem? vs 0 → length vs ≤ times row.presence → times row.presence ≡ 1
            → vs ≡ given (field tag r) [] (λ v. v ∷ [])
        go [] f h e = rw f
        go (v ∷ []) f h e = rw f
        go (v ∷ w ∷ vs) f h e = absurd (omega arith)

-- each value passes, after some key; where the key does not matter, that is all
pub each_all : (check : Check) (form : Form) (prior : Option Bytes) (vs : List Bytes) → Each check form prior vs
    → All (λ v. (k : Option Bytes) × (check k form v ≡ 0)) vs
each_all check form prior [] h = tt
each_all check form prior (v ∷ vs) h = ((prior, h.0), each_all check form (field 1 (run_of v)) vs h.1)

pub all_each : (check : Check) (form : Form) (prior : Option Bytes) (vs : List Bytes)
    → ((k l : Option Bytes) (v : Bytes) → check k form v ≡ check l form v) → All (λ v. check none form v ≡ 0) vs → Each check form prior vs
all_each check form prior [] same h = tt
all_each check form prior (v ∷ vs) same h = (same prior none v ∙ h.0, all_each check form (field 1 (run_of v)) vs same h.1)

-- 2. Changes that pass

module _ {check : Check} {rows : List Row} {r : Run} (p : Passing check rows r)
    (tag : ℕ) {row : Row} (found : row_at rows tag ≡ some row) where
  -- another run, in which only this tag's values are others
  pub changed_passes : (c : Run) → Whole c → Ascending 1 c → ((other : ℕ) → (other ≡ tag → ⊥) → values other c ≡ values other r)
      → Elements check row 0 none (values tag c) → Passing check rows c
  changed_passes c w s same e = record { whole = w; ascends = s; rowwise = λ other. go other (against other tag) }
    where
      go : (other : ℕ) → Against other tag → InRow check (row_at rows other) 0 none (values other c)
      go other (before h) = rw (same other (λ k. omega arith)) (p.rowwise other)
      go other (at k) = rw (k, found) e
      go other (past h) = rw (same other (λ k. omega arith)) (p.rowwise other)

  -- a field that comes once is set to a value that its form has
  pub set_passes : (w : Bytes) → repeats row.presence ≡ false → check none row.form w ≡ 0 → Passing check rows (set_field tag w r)
  set_passes w q e =
      let once = times_once row.presence q in
      let h = values_few p tag found in
      let i : Elements check row 0 none (w ∷ []) = record { needed = λ z. omega arith; few = omega arith; each = (e, tt) } in
      let k : values tag (set_field tag w r) ≡ w ∷ [] =
      values-set-same tag w 1 r p.ascends ∙ ap (λ (l : List Bytes). w ∷ l) (drop_of_length-le (values tag r) {i = 1} (omega arith)) in
      let s = set-ascending tag w 1 r (tag_positive rows tag row found) p.ascends in
      changed_passes (set_field tag w r) (set-whole tag w r p.whole) s (λ other a. values-set_other tag w other a r) (rw k i)

  -- a field that is not required is dropped
  pub drop_passes : is_required row.presence ≡ false → Passing check rows (drop_field tag r)
  drop_passes q =
      let i : Elements check row 0 none [] = record { needed = λ z. absurd (true_false z q); few = omega arith; each = tt } in
      changed_passes (drop_field tag r) (drop-whole tag r p.whole) (drop-ascending tag 1 r p.ascends)
      (λ other a. values-drop_other tag other a r) (rw (values-drop-same tag r) i)

  -- the first tag's fields are replaced by others
  pub items_passes : (vs : List Bytes) → Ascending tag (drop_field tag r) → Elements check row 0 none vs
      → Passing check rows (items tag vs (drop_field tag r))
  items_passes vs s e =
      let d = drop_field tag r in
      let w = items-whole tag vs d (drop-whole tag r p.whole) in
      let a = items-ascending tag 1 vs d (tag_positive rows tag row found) s in
      changed_passes (items tag vs d) w a (λ other n. values-items_other tag other n vs d ∙ values-drop_other tag other n r)
      (rw (values-items-same tag vs d, values-drop-same tag r, append-nil) e)

-- A run whose fields come one for each row, in order: no field that is right makes a fault, and so nothing is wrong with the run but what is wrong
-- behind it.
use mathlib.Core.Path.{◌≡◌, refl, sym, ap, ◌∙◌}
use mathlib.Core.Bool.{Bool, true, false, not}
use mathlib.Core.Option.{Option, none, some}
use Prim.Native.Nat.{ℕ, suc, ◌+◌, ◌-◌, ◌/◌, ◌%◌, ◌≤◌, ◌<◌}
use native.Mathlib.Omega.{arith}
use borrow.Author.Tests.{lt-ltb, ne_eqb, eqb-true}
use lib.Dec.{eqb, leb}
use lib.ListN.{length}
use lib.Seq.{slice, slice_empty, length-slice}
use Rattle.model.specs.Number.{Bytes}
use Rattle.model.specs.Text.{is_text}
use Rattle.model.specs.Nodes.{nodes_of, no_repeats}
use Rattle.model.specs.Run.{Run, done, item}
use Rattle.model.specs.Shape.{Before, start, after, any_required, may_follow, run_fault, value_fault, leaf_fault}
use Rattle.laws.specs.Choice.{impossible}
use Rattle.shapes.specs.Table.{row_count, form_in, size_in, many_in, form_of, number_at, fields_at, rows_from}
use Rattle.shapes.proofs.Columns.{base_fits, row_at_lem}
use Rattle.shape_faults.specs.Walk.{IsBase, prior_key, no_key, check_at, end_fault}
use Rattle.shape_faults.specs.declared.Prior.{Prior}
use Rattle.shape_faults.proofs.Values.{value_leaf}
use Rattle.shape_faults.proofs.Tags.{count_once}
use Rattle.shape_faults.proofs.Runs.{on_done}

pub not-false : (a : Bool) → not a ≡ false → a ≡ true
not-false true e = refl
not-false false e = impossible cc

pub never : {A : Type 0} → false ≡ true → A
never e = impossible cc

-- 1. A value

module _ (row : ℕ) {form size : ℕ} (ef : form ≡ form_in row) (es : size ≡ size_in row) (s : Bytes) (from to : ℕ) where
  pub fixed_right : from ≤ to → to ≤ length s → form ≡ 0 → eqb (to - from) size ≡ true
      → value_fault none (form_of (form_in row) (size_in row)) (slice from to s) ≡ 0
  unfolding value_fault leaf_fault form_of
  fixed_right h k z e = rw (← ef, ← es, z, length-slice from to s k, e)

  pub nodes_right : from ≤ to → to ≤ length s → form ≡ 5 → ((to - from) % 8 ≡ 0) × (leb ((to - from) / 8) size ≡ true)
      → value_fault none (form_of (form_in row) (size_in row)) (slice from to s) ≡ 0
  unfolding value_fault leaf_fault form_of
  nodes_right h k z e = rw (← ef, ← es, z, length-slice from to s k, e.0, e.1)

  pub ids_right : from ≤ to → to ≤ length s → form ≡ 6 → ((to - from) % 16 ≡ 0) × (leb ((to - from) / 16) size ≡ true)
      → value_fault none (form_of (form_in row) (size_in row)) (slice from to s) ≡ 0
  unfolding value_fault leaf_fault form_of
  ids_right h k z e = rw (← ef, ← es, z, length-slice from to s k, e.0, e.1)

  pub text_right : from ≤ to → to ≤ length s → form ≡ 2 → (leb (to - from) size ≡ true) × (is_text (slice from to s) ≡ true)
      → value_fault none (form_of (form_in row) (size_in row)) (slice from to s) ≡ 0
  unfolding value_fault leaf_fault form_of
  text_right h k z e = rw (← ef, ← es, z, length-slice from to s k, e.0, e.1)

  pub set_right : from ≤ to → to ≤ length s → form ≡ 7
      → ((to - from) % 8 ≡ 0) × (leb ((to - from) / 8) size ≡ true) × (no_repeats (nodes_of (slice from to s)) ≡ true)
      → value_fault none (form_of (form_in row) (size_in row)) (slice from to s) ≡ 0
  unfolding value_fault leaf_fault form_of
  set_right h k z e = rw (← ef, ← es, z, e.2, length-slice from to s k, e.0, e.1)

  pub leaf_right : {p : Prior} → p ≡ no_key → form < 9 → {f : ℕ} → f ≡ leaf_fault (prior_key s p) (form_of form size) (slice from to s) → eqb f 0 ≡ true
      → value_fault none (form_of (form_in row) (size_in row)) (slice from to s) ≡ 0
  leaf_right {p} q k {f} e h =
      let e' : f ≡ leaf_fault none (form_of form size) (slice from to s) = rw q at e in
      sym (value_leaf row (slice from to s) none none {inner = false} ef es refl k e') ∙ eqb-true f 0 h

-- 2. Fields in order

pub fields_are : (base : ℕ) {row fields : ℕ} → row ≡ number_at base → fields ≡ size_in row → fields ≡ fields_at base
fields_are base er ef = ef ∙ ap size_in er

pub fits : {base tag fields : ℕ} → IsBase base → fields ≡ fields_at base → tag ≤ fields → base + tag < row_count
fits is e h = omega (arith, base_fits is.shape is.at)

-- what was passed, and that what is wrong with all is what is wrong with the rest
pub record Reached (base : ℕ) (whole rest : Run) (last : ℕ) : Type 0 where
  pub before : Before
  pub at : before.last ≡ last
  pub same : run_fault (check_at false none) (rows_from base) before rest ≡ run_fault (check_at false none) (rows_from base) start whole

pub begun : (base : ℕ) (whole : Run) → Reached base whole whole 0
begun base whole = record { before = start; at = refl; same = refl }

passed : {base : ℕ} (is : IsBase base) (b : Before) {tag : ℕ} (row : ℕ) (v : Bytes) (r : Run) → tag ≡ suc b.last → tag ≤ fields_at base
    → row ≡ number_at (base + tag) → many_in row < 2 → value_fault none (form_of (form_in row) (size_in row)) v ≡ 0
    → run_fault (check_at false none) (rows_from base) (after b tag v) r ≡ run_fault (check_at false none) (rows_from base) b (item tag v r)
unfolding run_fault may_follow any_required
passed {base} is b {tag} row v r q most er once right =
    let there = row_at_lem is.shape is.at tag (omega arith) most in
    let before : suc b.last - 1 ≡ b.last = omega arith in
    rw (there, ← er, q, lt-ltb b.last (suc b.last) (omega arith), before, slice_empty b.last (rows_from base), ne_eqb (suc b.last) b.last (omega arith), right, ← count_once (many_in row) 0 once)

module _ {base : ℕ} (is : IsBase base) {whole rest : Run} {last : ℕ} (reached : Reached base whole rest last) where
  pub turn : {tag row : ℕ} {v : Bytes} {r : Run} → rest ≡ item tag v r → tag ≡ last + 1 → tag ≤ fields_at base → row ≡ number_at (base + tag)
      → many_in row < 2 → value_fault none (form_of (form_in row) (size_in row)) v ≡ 0 → Reached base whole r tag
  turn {tag} {row} {v} {r} e next most er once right =
      let b = reached.before in
      let q : tag ≡ suc b.last = omega (arith, reached.at) in
      let same = reached.same in
      record { before = after b tag v; at = refl; same = passed is b row v r q most er once right ∙ ap (run_fault (check_at false none) (rows_from base) b) (sym e) ∙ same }

  pub end : rest ≡ done → {f : ℕ} → f ≡ end_fault (rows_from base) last → f ≡ 0 → run_fault (check_at false none) (rows_from base) start whole ≡ 0
  end e ef z =
      sym reached.same ∙ sym (on_done (check_at false none) (rows_from base) reached.before e) ∙ ap (end_fault (rows_from base)) reached.at ∙ sym ef ∙ z

-- the walk over all fields, after no key
pub no_prior : (s : Bytes) {p : Prior} → p ≡ no_key → (base : ℕ) (whole : Run) {f : ℕ}
    → f ≡ run_fault (check_at false (prior_key s p)) (rows_from base) start whole → f ≡ run_fault (check_at false none) (rows_from base) start whole
no_prior s q base whole e = rw q at e

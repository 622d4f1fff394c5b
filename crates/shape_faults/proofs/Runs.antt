-- A run field by field: what is wrong with a field, and with the rest after it.
use mathlib.Core.Path.{◌≡◌, refl, sym, ap, ◌∙◌}
use mathlib.Core.List.{List}
use mathlib.Core.Bool.{Bool, true, false, cond}
use mathlib.Core.Option.{Option, none, some}
use Prim.Native.Nat.{ℕ, zero, suc, ◌+◌, ◌≤◌, ◌<◌}
use native.Mathlib.Omega.{arith}
use borrow.Author.Tests.{leb-true, leb-false, eq-eqb, le-ltb, eqb-true}
use lib.Dec.{leb, eqb}
use Rattle.model.specs.Choice.{or_then, unless, given}
use Rattle.model.specs.Number.{Bytes}
use Rattle.model.specs.Run.{Run, done, torn, item}
use Rattle.model.specs.Shape.{Row, Before, start, row_at, repeats, may_follow, key_before, count_before, after, count_fault, run_fault}
use Rattle.laws.specs.Choice.{impossible, or_then-left, or_then-first, given-some}
use Rattle.laws_records.specs.Rows.{tag_positive}
use Rattle.laws_records.specs.Passing.{Check}
use Rattle.shapes.specs.Table.{row_count, form_in, size_in, many_in, form_of, presence_of, unpacked, number_at, fields_at, rows_from}
use Rattle.shapes.proofs.Columns.{base_fits, row_at_lem, row_past, run_base}
use Rattle.shape_faults.specs.Walk.{IsBase, IsRow, begun, before_in, presence_at, key_of, passed, tag_fault, end_fault, field_fault}
use Rattle.shape_faults.specs.declared.Walk.{Walk}

-- 1. A tag that has a row

module _ {base : ℕ} (is : IsBase base) (last tag : ℕ) {f : ℕ} (e : f ≡ tag_fault (rows_from base) last tag) (z : f ≡ 0) where
  found : (row : Row) × (row_at (rows_from base) tag ≡ some row)
  unfolding tag_fault
  found = let g = given-some (row_at (rows_from base) tag) 4 _ (omega arith) (sym e ∙ z) in (g.0, g.1)

  tag_most : tag ≤ fields_at base
  tag_most = go (leb tag (fields_at base)) refl
    where
      go : (b : Bool) → leb tag (fields_at base) ≡ b → tag ≤ fields_at base
      go true q = leb-true tag (fields_at base) q
      go false q =
          let p = found.1 in
          let n = row_past is.shape is.at tag (leb-false tag (fields_at base) q) in
          impossible cc

  pub row-there : row_at (rows_from base) tag ≡ some (unpacked (number_at (base + tag)))
  row-there = row_at_lem is.shape is.at tag (tag_positive (rows_from base) tag found.0 found.1) tag_most

  pub row_fits : base + tag < row_count
  row_fits = omega (arith, tag_most, base_fits is.shape is.at)

  pub is_row : {row : ℕ} → row ≡ number_at (base + tag) → IsRow row
  is_row q = rw q (λ h. run_base (base + tag) row_fits h)

-- 2. A field

module _ (check : Check) (rows : List Row) (b : Before) (tag : ℕ) (v : Bytes) {f : ℕ} (ef : f ≡ tag_fault rows b.last tag) where
  pub field_tag : (f ≡ 0 → ⊥) → f ≡ field_fault check rows b tag v
  unfolding field_fault
  field_tag n = rw (← ef) (or_then-first f _ n)

  module _ (z : f ≡ 0) {number row : ℕ} (there : row_at rows tag ≡ some (unpacked number)) (er : row ≡ number) {key : Option Bytes}
      (ek : key ≡ key_before b tag) {g : ℕ} (eg : g ≡ check key (form_of (form_in row) (size_in row)) v) where
    opened-field : field_fault check rows b tag v ≡ or_then g (count_fault (presence_of (many_in row)) (count_before b tag))
    unfolding field_fault
    opened-field = rw (← ef, z, there, ← er, ← ek, ← eg)

    pub field-value : (g ≡ 0 → ⊥) → g ≡ field_fault check rows b tag v
    field-value n = rw opened-field (or_then-first g _ n)

    pub field-count : g ≡ 0 → {many count h : ℕ} → many ≡ many_in row → count ≡ count_before b tag → h ≡ count_fault (presence_of many) count
        → h ≡ field_fault check rows b tag v
    field-count q em ec e = rw (opened-field, q, ← em, ← ec) e

-- 3. A key that no later field asks for

abbrev before : ℕ → ℕ → Option Bytes → Before
before last count key = record { last = last; count = count; element_key = key }

key_forgotten : (check : Check) (rows : List Row) (last count : ℕ) (j k : Option Bytes) (row : Row) → row_at rows last ≡ some row
    → repeats row.presence ≡ false → (r : Run) → run_fault check rows (before last count j) r ≡ run_fault check rows (before last count k) r
unfolding run_fault may_follow
key_forgotten check rows last count j k row e once done = refl
key_forgotten check rows last count j k row e once torn = refl
key_forgotten check rows last count j k row e once (item t v r) = go (eqb t last) refl
  where
    go : (q : Bool) → eqb t last ≡ q
        → run_fault check rows (before last count j) (item t v r) ≡ run_fault check rows (before last count k) (item t v r)
    go true q = let p = eqb-true t last q in rw (p, e, le-ltb last last (omega arith), once, eq-eqb last last refl)
    go false q = rw q

passed-after : (check : Check) (rows : List Row) (b : Before) (tag : ℕ) (v : Bytes) (row : Row) → row_at rows tag ≡ some row
    → (r : Run) → run_fault check rows (passed row.presence b tag v) r ≡ run_fault check rows (after b tag v) r
unfolding passed
passed-after check rows b tag v row e r = go (repeats row.presence) refl
  where
    go : (q : Bool) → repeats row.presence ≡ q
        → run_fault check rows (before tag (count_before b tag + 1) (cond q (key_of v) none)) r ≡ run_fault check rows (after b tag v) r
    go true q = refl
    go false q = key_forgotten check rows tag (count_before b tag + 1) none (key_of v) row e q r

-- 4. A run

or_then_assoc : (f g h : ℕ) → or_then f (or_then g h) ≡ or_then (or_then f g) h
or_then_assoc zero g h = refl
or_then_assoc (suc f) g h = refl

given-or_then : (o : Option Row) (f g h : Row → ℕ) (rest : ℕ)
    → given o 4 (λ row. or_then (f row) (or_then (g row) (or_then (h row) rest)))
    ≡ or_then (or_then (given o 4 f) (given o 4 (λ row. or_then (g row) (h row)))) rest
given-or_then none f g h rest = refl
given-or_then (some row) f g h rest =
    ap (or_then (f row)) (or_then_assoc (g row) (h row) rest) ∙ or_then_assoc (f row) (or_then (g row) (h row)) rest

module _ (check : Check) (rows : List Row) (b : Before) {p : Run} where
  pub on_done : p ≡ done → end_fault rows b.last ≡ run_fault check rows b p
  unfolding run_fault end_fault
  on_done e = rw e

  pub on_torn : p ≡ torn → 4 ≡ run_fault check rows b p
  unfolding run_fault
  on_torn e = rw e

  module _ {tag : ℕ} {v : Bytes} {r : Run} (e : p ≡ item tag v r) {f : ℕ} (ef : f ≡ field_fault check rows b tag v) where
    opened : run_fault check rows b p ≡ or_then f (run_fault check rows (after b tag v) r)
    unfolding run_fault field_fault tag_fault
    opened =
        rw (e, ef)
        (given-or_then (row_at rows tag) (λ row. unless (may_follow rows b.last tag row.presence) 4) (λ row. check (key_before b tag) row.form v)
        (λ row. count_fault row.presence (count_before b tag)) (run_fault check rows (after b tag v) r))

    pub on_fault : (f ≡ 0 → ⊥) → f ≡ run_fault check rows b p
    on_fault n = rw opened (or_then-first f _ n)

-- the rest after a field without fault
module _ (check : Check) {base : ℕ} (is : IsBase base) (b : Before) (tag : ℕ) (v : Bytes) {f : ℕ} (ef : f ≡ field_fault check (rows_from base) b tag v)
    (z : f ≡ 0) where
  no_tag_fault : 0 ≡ tag_fault (rows_from base) b.last tag
  unfolding field_fault
  no_tag_fault = sym (or_then-left (tag_fault (rows_from base) b.last tag) _ (sym ef ∙ z))

  pub field_fits : base + tag < row_count
  field_fits = row_fits is b.last tag no_tag_fault refl

  pub on_field : {p r : Run} → p ≡ item tag v r → {next : Before} → next ≡ passed (presence_at base tag) b tag v
      → run_fault check (rows_from base) next r ≡ run_fault check (rows_from base) b p
  on_field {p} {r} e q =
      let there = row-there is b.last tag no_tag_fault refl in
      rw (opened check (rows_from base) b e ef, z, q) (passed-after check (rows_from base) b tag v (unpacked (number_at (base + tag))) there r)

pub on_begun : (check : Check) (rows : List Row) (s : Bytes) {w : Walk} → w ≡ begun → (p : Run)
    → run_fault check rows (before_in s w) p ≡ run_fault check rows start p
on_begun check rows s e p = rw e

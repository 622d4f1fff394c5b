-- What a value that passes its form is.
use Rattle.std.specs.Prelude.{◌≡◌, refl, List, [], ◌∷◌, Bool, true, false, ◌&&◌, ℕ, zero, suc, ◌/◌, ◌%◌, ◌≤◌, ◌<◌, leb, eqb, length}
use Rattle.std.proofs.Math.Option.{Option, some}
use Rattle.std.proofs.Common.{arith, eqb-true, leb-true, ltb-true, eq-eqb, le-leb, lt-ltb}
use Rattle.std.proofs.Math.ListN.{get_elem?}
use Rattle.model.specs.Choice.{or_then, unless, every}
use Rattle.model.specs.Number.{Bytes, number, is_offset}
use Rattle.model.specs.Text.{is_text}
use Rattle.model.specs.Run.{run_of}
use Rattle.model.specs.Nodes.{nodes_from, no_repeats}
use Rattle.model.specs.Shape.{Shape, Form, fixed, below, offset, text, map_key, raw, list, node_set, nested, Row, rows_of, start, ascends, is_below_byte, leaf_fault, value_fault}
use Rattle.laws.specs.Choice.{impossible, and_left, and_right, or_then-left, or_then_right, unless_true}
use Rattle.laws_records.specs.Passing.{Check, run-same, Passing, passing, passes}

-- the check of a field of an element that comes after a key
abbrev pub leaf_check : Option Bytes → Check
leaf_check prior = λ k f w. leaf_fault prior f w

-- one byte below a bound
pub record OneBelow (bound : ℕ) (v : Bytes) : Type 0 where
  pub byte : ℕ
  pub only : v ≡ byte ∷ []
  pub low : byte < bound

-- a value of a form, after a key; `run` says which are a shape's runs
abbrev pub Fits : (Shape → Bytes → Type 0) → Option Bytes → Form → Bytes → Type 0
Fits run prior (fixed width) v = length v ≡ width
Fits run prior (below bound) v = OneBelow bound v
Fits run prior offset v = (length v ≡ 8) × (is_offset (number v) ≡ true)
Fits run prior (text limit) v = (is_text v ≡ true) × (length v ≤ limit)
Fits run prior (map_key limit) v = (is_text v ≡ true) × (ascends prior v ≡ true) × (length v ≤ limit)
Fits run prior (raw limit) v = length v ≤ limit
Fits run prior (list width limit) v = (length v % width ≡ 0) × (length v / width ≤ limit)
Fits run prior (node_set limit) v = (length v % 8 ≡ 0) × (length v / 8 ≤ limit) × (no_repeats (nodes_from (length v / 8) v) ≡ true)
Fits run prior (nested s) v = run s v

abbrev pub LeafFits : Option Bytes → Form → Bytes → Type 0
LeafFits prior form v = Fits (λ s w. ⊥) prior form v

abbrev pub ValueFits : Option Bytes → Form → Bytes → Type 0
ValueFits prior form v = Fits (λ s w. Passing (leaf_check prior) (rows_of s) (run_of w)) prior form v

one_below : (bound : ℕ) (v : Bytes) → is_below_byte bound v ≡ true → OneBelow bound v
unfolding is_below_byte
one_below bound [] e = impossible cc
one_below bound (b ∷ []) e = record { byte = b; only = refl; low = ltb-true b bound e }
one_below bound (b ∷ c ∷ v) e = impossible cc

below_one : (bound : ℕ) (v : Bytes) → OneBelow bound v → is_below_byte bound v ≡ true
unfolding is_below_byte
below_one bound v o = rw o.only (lt-ltb o.byte bound o.low)

-- a test that is refused by a number
passed : (b : Bool) (n : ℕ) → unless b (suc n) ≡ 0 → b ≡ true
passed b n e = unless_true b (suc n) (omega arith) e

limited : (n limit : ℕ) → unless (leb n limit) 5 ≡ 0 → n ≤ limit
limited n limit e = leb-true n limit (passed (leb n limit) 4 e)

pub leaf_fits : (prior : Option Bytes) (form : Form) (v : Bytes) → leaf_fault prior form v ≡ 0 → LeafFits prior form v
unfolding leaf_fault
leaf_fits prior (fixed width) v e = eqb-true (length v) width (passed (eqb (length v) width) 3 e)
leaf_fits prior (below bound) v e = one_below bound v (passed (is_below_byte bound v) 3 e)
leaf_fits prior offset v e =
    let a = eqb (length v) 8 in
    let h = passed (a && is_offset (number v)) 3 e in
    (eqb-true (length v) 8 (and_left a (is_offset (number v)) h), and_right a (is_offset (number v)) h)
leaf_fits prior (text limit) v e =
    let a = unless (is_text v) 4 in
    let b = unless (leb (length v) limit) 5 in
    (passed (is_text v) 3 (or_then-left a b e), limited (length v) limit (or_then_right a b e))
leaf_fits prior (map_key limit) v e =
    let a = unless (is_text v) 4 in
    let b = unless (ascends prior v) 4 in
    let c = unless (leb (length v) limit) 5 in
    let f = or_then-left a (or_then b c) e in
    let g = or_then_right a (or_then b c) e in
    (passed (is_text v) 3 f, passed (ascends prior v) 3 (or_then-left b c g), limited (length v) limit (or_then_right b c g))
leaf_fits prior (raw limit) v e = limited (length v) limit e
leaf_fits prior (list width limit) v e =
    let a = unless (eqb (length v % width) 0) 4 in
    let b = unless (leb (length v / width) limit) 5 in
    let f = passed (eqb (length v % width) 0) 3 (or_then-left a b e) in
    (eqb-true (length v % width) 0 f, limited (length v / width) limit (or_then_right a b e))
leaf_fits prior (node_set limit) v e =
    let a = unless (eqb (length v % 8) 0) 4 in
    let b = unless (leb (length v / 8) limit) 5 in
    let apart = no_repeats (nodes_from (length v / 8) v) in
    let c = unless apart 20 in
    let f = passed (eqb (length v % 8) 0) 3 (or_then-left a (or_then b c) e) in
    let g = or_then_right a (or_then b c) e in
    (eqb-true (length v % 8) 0 f, limited (length v / 8) limit (or_then-left b c g), passed apart 19 (or_then_right b c g))
leaf_fits prior (nested s) v e = absurd (omega arith)

pub fits_leaf : (prior : Option Bytes) (form : Form) (v : Bytes) → LeafFits prior form v → leaf_fault prior form v ≡ 0
unfolding leaf_fault
fits_leaf prior (fixed width) v h = rw (eq-eqb (length v) width h)
fits_leaf prior (below bound) v h = rw (below_one bound v h)
fits_leaf prior offset v h = rw (eq-eqb (length v) 8 h.0, h.1)
fits_leaf prior (text limit) v h = rw (h.0, le-leb (length v) limit h.1)
fits_leaf prior (map_key limit) v h = rw (h.0, h.1, le-leb (length v) limit h.2)
fits_leaf prior (raw limit) v h = rw (le-leb (length v) limit h)
fits_leaf prior (list width limit) v h = rw (eq-eqb (length v % width) 0 h.0, le-leb (length v / width) limit h.1)
fits_leaf prior (node_set limit) v h = rw (eq-eqb (length v % 8) 0 h.0, le-leb (length v / 8) limit h.1, h.2)
fits_leaf prior (nested s) v h = absurd h

pub value_fits : (prior : Option Bytes) (form : Form) (v : Bytes) → value_fault prior form v ≡ 0 → ValueFits prior form v
unfolding value_fault
value_fits prior (fixed width) v e = leaf_fits prior (fixed width) v e
value_fits prior (below bound) v e = leaf_fits prior (below bound) v e
value_fits prior offset v e = leaf_fits prior offset v e
value_fits prior (text limit) v e = leaf_fits prior (text limit) v e
value_fits prior (map_key limit) v e = leaf_fits prior (map_key limit) v e
value_fits prior (raw limit) v e = leaf_fits prior (raw limit) v e
value_fits prior (list width limit) v e = leaf_fits prior (list width limit) v e
value_fits prior (node_set limit) v e = leaf_fits prior (node_set limit) v e
value_fits prior (nested s) v e = passing (leaf_check prior) (rows_of s) (run_of v) e

pub fits_value : (prior : Option Bytes) (form : Form) (v : Bytes) → ValueFits prior form v → value_fault prior form v ≡ 0
unfolding value_fault
fits_value prior (fixed width) v h = fits_leaf prior (fixed width) v h
fits_value prior (below bound) v h = fits_leaf prior (below bound) v h
fits_value prior offset v h = fits_leaf prior offset v h
fits_value prior (text limit) v h = fits_leaf prior (text limit) v h
fits_value prior (map_key limit) v h = fits_leaf prior (map_key limit) v h
fits_value prior (raw limit) v h = fits_leaf prior (raw limit) v h
fits_value prior (list width limit) v h = fits_leaf prior (list width limit) v h
fits_value prior (node_set limit) v h = fits_leaf prior (node_set limit) v h
fits_value prior (nested s) v h = passes (leaf_check prior) (rows_of s) (run_of v) h

-- forms other than a map's key do not look at the key before
abbrev pub is_keyless : Form → Bool
is_keyless (fixed width) = true
is_keyless (below bound) = true
is_keyless offset = true
is_keyless (text limit) = true
is_keyless (map_key limit) = false
is_keyless (raw limit) = true
is_keyless (list width limit) = true
is_keyless (node_set limit) = true
is_keyless (nested s) = true

pub leaf_keyless : (k l : Option Bytes) (form : Form) (v : Bytes) → is_keyless form ≡ true → leaf_fault k form v ≡ leaf_fault l form v
unfolding leaf_fault
leaf_keyless k l (fixed width) v h = refl
leaf_keyless k l (below bound) v h = refl
leaf_keyless k l offset v h = refl
leaf_keyless k l (text limit) v h = refl
leaf_keyless k l (map_key limit) v h = impossible cc
leaf_keyless k l (raw limit) v h = refl
leaf_keyless k l (list width limit) v h = refl
leaf_keyless k l (node_set limit) v h = refl
leaf_keyless k l (nested s) v h = refl

every-row : (rows : List Row) (i : ℕ) (row : Row) → every (λ x. is_keyless x.form) rows ≡ true → get_elem? rows i ≡ some row
    → is_keyless row.form ≡ true
every-row [] i row h e = impossible cc
every-row (x ∷ rows) zero row h e =
    let q : x ≡ row = cc in
    rw (← q) (and_left (is_keyless x.form) (every (λ y. is_keyless y.form) rows) h)
every-row (x ∷ rows) (suc i) row h e = every-row rows i row (and_right (is_keyless x.form) (every (λ y. is_keyless y.form) rows) h) e

pub nested_keyless : (k l : Option Bytes) (s : Shape) (v : Bytes) → every (λ x. is_keyless x.form) (rows_of s) ≡ true
    → value_fault k (nested s) v ≡ value_fault l (nested s) v
unfolding value_fault
nested_keyless k l s v h = run-same (leaf_check k) (leaf_check l) (rows_of s) same start (run_of v)
  where
    same : (i : ℕ) (row : Row) → get_elem? (rows_of s) i ≡ some row → (p : Option Bytes) (w : Bytes)
        → leaf_fault k row.form w ≡ leaf_fault l row.form w
    same i row e p w = leaf_keyless k l row.form w (every-row (rows_of s) i row h e)

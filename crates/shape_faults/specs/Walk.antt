-- The state of a walk over fields, and what is wrong with a field: `run_fault` field by field, as the code goes.
use Rattle.std.specs.Prelude.{◌≡◌, List, Bool, true, false, cond, not, ℕ, ◌+◌, ◌/◌, ◌%◌, ◌≤◌, leb, eqb, length, drop}
use Rattle.std.proofs.Math.Option.{Option, none, some}
use Rattle.std.proofs.Math.Seq.{slice}
use Rattle.model.specs.Choice.{given, unless, or_then}
use Rattle.model.specs.Number.{Bytes}
use Rattle.model.specs.Run.{run_of, field}
use Rattle.model.specs.Shape.{Shape, Form, Presence, Row, Before, leaf_fault, value_fault, may_follow, repeats, row_at, any_required, key_before, count_before, count_fault}
use Rattle.shapes.specs.Table.{base_of, shape_at, form_in, size_in, many_in, presence_of, number_at}
use Rattle.shape_faults.specs.declared.Prior.{Prior}
use Rattle.shape_faults.specs.declared.Walk.{Walk}

-- a base of the table
pub record IsBase (base : ℕ) : Type 0 where
  pub shape : Shape
  pub at : base ≡ base_of shape

-- a row whose size, where it is a run, is the base of the run's shape
abbrev pub IsRow : ℕ → Type 0
IsRow row = 9 ≤ form_in row → size_in row ≡ base_of (shape_at (size_in row))

-- 1. What came before

-- the key of the element before, where there is one
abbrev pub prior_key : Bytes → Prior → Option Bytes
prior_key s p = cond (leb p.start p.end) (some (slice p.start p.end s)) none

abbrev pub PriorIn : Bytes → Prior → Type 0
PriorIn s p = p.end ≤ length s

abbrev pub no_key : Prior
no_key = record { start = 1; end = 0 }

abbrev pub begun : Walk
begun = record { last = 0; count = 0; prior = no_key }

-- what came before, as `model` has it
abbrev pub before_in : Bytes → Walk → Before
before_in s w = record { last = w.last; count = w.count; element_key = prior_key s w.prior }

-- for a field of a tag: the key, and how many elements came
abbrev pub prior_for : Walk → ℕ → Prior
prior_for w tag = cond (eqb tag w.last) w.prior no_key

abbrev pub count_for : Walk → ℕ → ℕ
count_for w tag = cond (eqb tag w.last) w.count 0

-- the key that an element begins with
abbrev pub key_of : Bytes → Option Bytes
key_of v = field 1 (run_of v)

-- after a field; only where its row repeats can its key matter
unfoldable pub passed : Presence → Before → ℕ → Bytes → Before
passed p b tag v = record { last = tag; count = count_before b tag + 1; element_key = cond (repeats p) (key_of v) none }

abbrev pub presence_at : ℕ → ℕ → Presence
presence_at base tag = presence_of (many_in (number_at (base + tag)))

-- 2. Faults

-- the check of a value: within an element after the key `prior`, or of a record's field after the key `before`
abbrev pub check_at : Bool → Option Bytes → Option Bytes → Form → Bytes → ℕ
check_at true prior before form v = leaf_fault prior form v
check_at false prior before form v = value_fault before form v

-- too many, and a list's by its length alone
abbrev pub limit_fault : ℕ → ℕ → ℕ
limit_fault n limit = unless (leb n limit) 5

abbrev pub list_fault : ℕ → ℕ → ℕ → ℕ
list_fault len width limit = or_then (unless (eqb (len % width) 0) 4) (limit_fault (len / width) limit)

-- a tag's after another, and the end's after a tag
unfoldable pub tag_fault : List Row → ℕ → ℕ → ℕ
tag_fault rows last tag = given (row_at rows tag) 4 (λ row. unless (may_follow rows last tag row.presence) 4)

unfoldable pub end_fault : List Row → ℕ → ℕ
end_fault rows last = unless (not (any_required (drop last rows))) 4

-- a field's
unfoldable pub field_fault : (Option Bytes → Form → Bytes → ℕ) → List Row → Before → ℕ → Bytes → ℕ
field_fault check rows b tag v =
    or_then (tag_fault rows b.last tag)
    (given (row_at rows tag) 4 (λ row. or_then (check (key_before b tag) row.form v) (count_fault row.presence (count_before b tag))))

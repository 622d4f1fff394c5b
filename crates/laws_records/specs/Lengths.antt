-- How long values and runs that pass can be.
use Rattle.std.specs.Prelude.{◌≡◌, refl, List, [], ◌∷◌, Bool, true, false, cond, ℕ, zero, suc, ◌+◌, ◌*◌, ◌-◌, ◌≤◌, ◌<◌, eqb, length, drop}
use Rattle.std.proofs.Common.{ap, not-suc-le-zero, div-add-mod', mul-le-mul_right, lit≤}
use Rattle.std.proofs.Math.Option.{Option, some}
use Rattle.std.proofs.Math.Nat.{sub-zero}
use native.Mathlib.Omega.{arith}
use Rattle.model.specs.Choice.{given}
use Rattle.model.specs.Number.{Bytes}
use Rattle.model.specs.Run.{Run, done, torn, item, run_of, bytes_of}
use Rattle.model.specs.Kind.{kind_number}
use Rattle.model.specs.Shape.{Shape, record_of, stored_topic, Form, fixed, below, offset, text, map_key, raw, list, node_set, nested, Row, rows_of, row_at, Before, start, count_before, key_before, after, run_fault, leaf_fault, value_fault, Source, logged, stored, framed, shape_of}
use Rattle.model.specs.declared.Kind.{Kind}
use Rattle.model.specs.declared.Kind.TheVariants.{Topic, Partition, BrokerRegistration, DeleteTopic, TopicConfig, BrokerConfig, ClientQuota, ProducerIds, UnregisterBroker, KRaftVersion, FeatureLevel, ClientMetricsConfig, FeaturesEpoch, PartitionDirAssignment}
use Rattle.model.specs.declared.Kind.TheVariants.{PartitionOffsetAdvance, GroupConfig, ControllerRegistration, TopicFreeze, BreakGlassProposal, DeleteBreakGlassProposal, PartitionElr, PartitionRecovery, PartitionUpdate, BrokerRegistrationChange, UnregisterController, LogOffset}
use Rattle.laws.specs.Choice.{impossible}
use Rattle.laws_records.specs.Rows.{times, Follow, later, again}
use Rattle.laws_records.specs.Runs.{length_run, length_item}
use Rattle.laws_records.specs.Passing.{Check, Accepts, accepts, one_below, count-later, count_again, Passing, passes}
use Rattle.laws_records.specs.Forms.{leaf_check, Fits, leaf_fits, value_fits}

-- the longest value of a form, where `run` is the longest run of a shape
abbrev pub most_with : (Shape → ℕ) → Form → ℕ
most_with run (fixed width) = width
most_with run (below bound) = 1
most_with run offset = 8
most_with run (text limit) = limit
most_with run (map_key limit) = limit
most_with run (raw limit) = limit
most_with run (list width limit) = limit * width
most_with run (node_set limit) = limit * 8
most_with run (nested s) = run s

-- a row's fields: each with its tag and its length
abbrev pub room : (Form → ℕ) → Row → ℕ
room most row = 3 + most row.form

abbrev pub longest_with : (Form → ℕ) → List Row → ℕ
longest_with most [] = 0
longest_with most (row ∷ rows) = times row.presence * room most row + longest_with most rows

-- of a value leaf_check an element, and of an element
abbrev pub most_leaf : Form → ℕ
most_leaf = most_with (λ s. 0)

abbrev pub longest_leaves : List Row → ℕ
longest_leaves = longest_with most_leaf

-- of a record's value, and of a record's fields
abbrev pub most : Form → ℕ
most = most_with (λ s. longest_leaves (rows_of s))

abbrev pub longest : List Row → ℕ
longest = longest_with most

-- 1. Values

fits_most : (run : Shape → Bytes → Type 0) (size : Shape → ℕ) → ((s : Shape) (v : Bytes) → run s v → length v ≤ size s)
    → (prior : Option Bytes) (form : Form) (v : Bytes) → Fits run prior form v → length v ≤ most_with size form
fits_most run size h prior (fixed width) v f = omega arith
fits_most run size h prior (below bound) v f = let e = ap (length {A = ℕ}) f.only in omega arith
fits_most run size h prior offset v f = omega (arith, f.0)
fits_most run size h prior (text limit) v f = f.1
fits_most run size h prior (map_key limit) v f = f.2
fits_most run size h prior (raw limit) v f = f
fits_most run size h prior (list width limit) v f = omega (arith, div-add-mod' (length v) width, mul-le-mul_right width f.1)
fits_most run size h prior (node_set limit) v f = omega (arith, div-add-mod' (length v) 8, mul-le-mul_right 8 f.1)
fits_most run size h prior (nested s) v f = h s v f

pub leaf_length : (prior : Option Bytes) (form : Form) (v : Bytes) → leaf_fault prior form v ≡ 0 → length v ≤ most_leaf form
leaf_length prior form v e = fits_most (λ s w. ⊥) (λ s. 0) (λ s w f. absurd f) prior form v (leaf_fits prior form v e)

-- 2. Runs

-- the drop of a row: what is left after it
longest-drop : (most : Form → ℕ) (rows : List Row) (last t : ℕ) (row : Row) → last < t → row_at rows t ≡ some row
    → times row.presence * room most row + longest_with most (drop t rows) ≤ longest_with most (drop last rows)
longest-drop most rows last zero row h e = absurd (not-suc-le-zero h)
longest-drop most [] last (suc t) row h e = impossible cc
longest-drop most (x ∷ rows) zero (suc zero) row h e = let q : x ≡ row = cc in rw q (omega arith)
longest-drop most (x ∷ rows) zero (suc (suc t)) row h e = let i = longest-drop most rows zero (suc t) row (omega arith) e in omega arith
longest-drop most (x ∷ rows) (suc last) (suc zero) row h e = absurd (omega arith)
longest-drop most (x ∷ rows) (suc last) (suc (suc t)) row h e = longest-drop most rows last (suc t) row (omega arith) e

one_more : (n c u : ℕ) → c < n → u + (n - (c + 1)) * u ≡ (n - c) * u
one_more n c u h = let e : n - c ≡ suc (n - (c + 1)) = omega arith in rw e (omega arith)

module _ (check : Check) (most : Form → ℕ) (rows : List Row)
    (short : (prior : Option Bytes) (form : Form) (v : Bytes) → check prior form v ≡ 0 → length v ≤ most form) where
  -- room for more of a tag that has come
  abbrev left : ℕ → ℕ → ℕ
  left tag count = given (row_at rows tag) 0 (λ row. (times row.presence - count) * room most row)

  module _ (b : Before) (t : ℕ) (v : Bytes) (r : Run) (a : Accepts check rows b t v r) where
    step : length (bytes_of r) ≤ left t (count_before b t + 1) + longest_with most (drop t rows)
        → length (bytes_of (item t v r)) ≤ left b.last b.count + longest_with most (drop b.last rows)
    step i =
        let u : ℕ = room most a.row in
        let n : ℕ = times a.row.presence in
        let c : ℕ = count_before b t in
        let j : length (bytes_of r) ≤ (n - (c + 1)) * u + longest_with most (drop t rows) = rw a.found at i in
        let m = one_more n c u (one_below check rows b t v r a) in
        let h = short (key_before b t) a.row.form v a.right in
        let k : length (bytes_of (item t v r)) ≤ (n - c) * u + longest_with most (drop t rows) = omega (arith, length_item t v r) in
        go a.follows k
      where
        n : ℕ
        n = length (bytes_of (item t v r))

        go : Follow rows b.last t a.row.presence
            → n ≤ (times a.row.presence - count_before b t) * room most a.row + longest_with most (drop t rows)
            → n ≤ left b.last b.count + longest_with most (drop b.last rows)
        go (later h m) k =
            let z = longest-drop most rows b.last t a.row h a.found in
            let y = rw (count-later b t h, sub-zero) at k in
            omega arith
        go (again e q) k = rw (← e, a.found) (rw (count_again b t e) at k)

  run-length_from : (b : Before) (r : Run) → run_fault check rows b r ≡ 0
      → length (bytes_of r) ≤ left b.last b.count + longest_with most (drop b.last rows)
  unfolding run_fault bytes_of
  run-length_from b done e = omega arith
  run-length_from b torn e = absurd (omega arith)
  run-length_from b (item t v r) e = let a = accepts check rows b t v r e in step b t v r a (run-length_from (after b t v) r a.rest)

  pub run_length : (r : Run) → run_fault check rows start r ≡ 0 → length (bytes_of r) ≤ longest_with most rows
  run_length r e = let i = run-length_from start r e in omega arith

pub leaves_length : (prior : Option Bytes) (rows : List Row) (r : Run) → run_fault (leaf_check prior) rows start r ≡ 0
    → length (bytes_of r) ≤ longest_leaves rows
leaves_length prior rows r e = run_length (leaf_check prior) most_leaf rows (λ k form v. leaf_length prior form v) r e

pub value-length : (prior : Option Bytes) (form : Form) (v : Bytes) → value_fault prior form v ≡ 0 → length v ≤ most form
value-length prior form v e = fits_most nested_passes (λ s. longest_leaves (rows_of s)) nested_length prior form v (value_fits prior form v e)
  where
    nested_passes : Shape → Bytes → Type 0
    nested_passes s w = Passing (leaf_check prior) (rows_of s) (run_of w)

    nested_length : (s : Shape) (w : Bytes) → nested_passes s w → length w ≤ longest_leaves (rows_of s)
    nested_length s w p =
        omega (arith, length_run w p.whole, leaves_length prior (rows_of s) (run_of w) (passes (leaf_check prior) (rows_of s) (run_of w) p))

pub fields-length : (rows : List Row) (r : Run) → run_fault value_fault rows start r ≡ 0 → length (bytes_of r) ≤ longest rows
fields-length rows r e = run_length value_fault most rows value-length r e

-- 3. Records

-- no record's fields are longer
abbrev pub longest_body : ℕ
longest_body = 33474

longest_kind : (kind : Kind) → longest (rows_of (record_of kind)) ≤ longest_body
unfolding rows_of
longest_kind Topic = lit≤ tt
longest_kind Partition = lit≤ tt
longest_kind BrokerRegistration = lit≤ tt
longest_kind DeleteTopic = lit≤ tt
longest_kind TopicConfig = lit≤ tt
longest_kind BrokerConfig = lit≤ tt
longest_kind ClientQuota = lit≤ tt
longest_kind ProducerIds = lit≤ tt
longest_kind UnregisterBroker = lit≤ tt
longest_kind KRaftVersion = lit≤ tt
longest_kind FeatureLevel = lit≤ tt
longest_kind ClientMetricsConfig = lit≤ tt
longest_kind FeaturesEpoch = lit≤ tt
longest_kind PartitionDirAssignment = lit≤ tt
longest_kind PartitionOffsetAdvance = lit≤ tt
longest_kind GroupConfig = lit≤ tt
longest_kind ControllerRegistration = lit≤ tt
longest_kind TopicFreeze = lit≤ tt
longest_kind BreakGlassProposal = lit≤ tt
longest_kind DeleteBreakGlassProposal = lit≤ tt
longest_kind PartitionElr = lit≤ tt
longest_kind PartitionRecovery = lit≤ tt
longest_kind PartitionUpdate = lit≤ tt
longest_kind BrokerRegistrationChange = lit≤ tt
longest_kind UnregisterController = lit≤ tt
longest_kind LogOffset = lit≤ tt

longest_topic : longest (rows_of stored_topic) ≤ longest_body
unfolding rows_of
longest_topic = lit≤ tt

-- a topic config's rows give the number
longest_config : longest (rows_of (record_of TopicConfig)) ≡ longest_body
unfolding rows_of
longest_config = refl

pub longest_shape : (source : Source) (kind : Kind) → longest (rows_of (shape_of source kind)) ≤ longest_body
unfolding shape_of
longest_shape logged kind = longest_kind kind
longest_shape framed kind = longest_kind kind
longest_shape stored kind = go (eqb (kind_number kind) 1)
  where
    go : (b : Bool) → longest (rows_of (cond b stored_topic (record_of kind))) ≤ longest_body
    go true = longest_topic
    go false = longest_kind kind

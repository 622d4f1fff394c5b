-- What the numbers of a base say of its rows: how many there are, a tag's row, the greatest required tag before it, and the shape of a run.
use mathlib.Core.Path.{◌≡◌, refl, ap, ◌∙◌}
use mathlib.Core.Bool.{Bool, true, false, cond, ◌&&◌, ◌||◌}
use mathlib.Core.List.{List, [], ◌∷◌, map}
use mathlib.Core.Option.{none, some}
use Prim.Native.Nat.{ℕ, zero, suc, ◌+◌, ◌-◌, ◌≤◌, ◌<◌}
use native.Mathlib.Nat.{not-suc-le-zero}
use native.Mathlib.Omega.{arith}
use borrow.Author.Tests.{leb-true, eqb-true, lt-ltb, le-ltb}
use lib.Dec.{leb, ltb, eqb}
use lib.ListN.{length, get_or, take, drop, get_elem?, length-map}
use lib.Seq.{slice, length-slice, get_or-drop, get_or-take}
use Rattle.model.specs.Choice.{every}
use Rattle.model.specs.Shape.{Shape, record_of, stored_topic, endpoint, approval, entity, pair, feature, Row, rows_of, row_at, is_required, any_required}
use Rattle.model.specs.declared.Kind.TheVariants.{Topic, Partition, BrokerRegistration, DeleteTopic, TopicConfig, BrokerConfig, ClientQuota, ProducerIds, UnregisterBroker, KRaftVersion, FeatureLevel, ClientMetricsConfig, FeaturesEpoch, PartitionDirAssignment}
use Rattle.model.specs.declared.Kind.TheVariants.{PartitionOffsetAdvance, GroupConfig, ControllerRegistration, TopicFreeze, BreakGlassProposal, DeleteBreakGlassProposal, PartitionElr, PartitionRecovery, PartitionUpdate, BrokerRegistrationChange, UnregisterController, LogOffset}
use Rattle.laws.specs.Choice.{and_left, and_right}
use Rattle.laws.specs.Lists.{get_elem?_past}
use Rattle.shapes.specs.Table as Table
use Rattle.shapes.specs.Table.{row_count, base_of, last_required, table, form_in, size_in, prior_in, many_in, shape_at, presence_of, unpacked, number_at, fields_at, rows_from}

-- 1. Runs

-- the size of a run's row is its shape's base
size_right : ℕ → Bool
size_right row = ltb (form_in row) 9 || eqb (size_in row) (base_of (shape_at (size_in row)))

sizes_right : every size_right table ≡ true
unfolding size_right rows_of base_of Table.table Table.shapes Table.pack_shape Table.pack_rows last_required Table.form_code Table.form_size Table.how_often shape_at
sizes_right = refl

every-at : (test : ℕ → Bool) (l : List ℕ) (i : ℕ) → every test l ≡ true → i < length l → test (get_or l i 0) ≡ true
every-at test [] i e h = absurd (not-suc-le-zero h)
every-at test (x ∷ l) zero e h = and_left (test x) (every test l) e
every-at test (x ∷ l) (suc i) e h = every-at test l i (and_right (test x) (every test l) e) (omega arith)

table-length : length table ≡ row_count
unfolding rows_of Table.table Table.shapes Table.pack_shape Table.pack_rows
table-length = refl

pub run_base : (i : ℕ) → i < row_count → 9 ≤ form_in (number_at i) → size_in (number_at i) ≡ base_of (shape_at (size_in (number_at i)))
unfolding size_right
run_base i k h =
    let row = number_at i in
    let t = every-at size_right table i sizes_right (omega (arith, table-length)) in
    eqb-true (size_in row) (base_of (shape_at (size_in row))) (rw (le-ltb (form_in row) 9 h) at t)

-- 2. Required tags

-- the greatest required tag is above a tag where a row after that tag's is required
last-most : (prior tag : ℕ) (rows : List Row) → prior < tag → prior ≤ last_required prior tag rows
unfolding last_required
last-most prior tag [] h = omega arith
last-most prior tag (r ∷ rows) h = go (is_required r.presence) (last-most tag (suc tag) rows (omega arith)) (last-most prior (suc tag) rows (omega arith))
  where
    go : (b : Bool) → tag ≤ last_required tag (suc tag) rows → prior ≤ last_required prior (suc tag) rows
        → prior ≤ last_required (cond b tag prior) (suc tag) rows
    go true i j = omega arith
    go false i j = j

last-any : (last prior tag : ℕ) (rows : List Row) → prior ≤ last → last < tag → ltb last (last_required prior tag rows) ≡ any_required rows
unfolding last_required any_required
last-any last prior tag [] h k = le-ltb last prior h
last-any last prior tag (r ∷ rows) h k = go (is_required r.presence) (last-any last prior (suc tag) rows h (omega arith))
  where
    go : (b : Bool) → ltb last (last_required prior (suc tag) rows) ≡ any_required rows
        → ltb last (last_required (cond b tag prior) (suc tag) rows) ≡ b || any_required rows
    go true i = lt-ltb last (last_required tag (suc tag) rows) (omega (arith, last-most tag (suc tag) rows (omega arith)))
    go false i = i

last-after : (n prior tag : ℕ) (rows : List Row) → prior < tag
    → ltb (n + (tag - 1)) (last_required prior tag rows) ≡ any_required (drop n rows)
unfolding last_required any_required
last-after zero prior tag rows h = last-any (0 + (tag - 1)) prior tag rows (omega arith) (omega arith)
last-after (suc n) prior tag [] h = le-ltb (suc n + (tag - 1)) prior (omega arith)
last-after (suc n) prior tag (r ∷ rows) h =
    go (is_required r.presence) (last-after n tag (suc tag) rows (omega arith)) (last-after n prior (suc tag) rows (omega arith))
  where
    go : (b : Bool) → ltb (n + (suc tag - 1)) (last_required tag (suc tag) rows) ≡ any_required (drop n rows)
        → ltb (n + (suc tag - 1)) (last_required prior (suc tag) rows) ≡ any_required (drop n rows)
        → ltb (suc n + (tag - 1)) (last_required (cond b tag prior) (suc tag) rows) ≡ any_required (drop n rows)
    go true i j = let e : n + (suc tag - 1) ≡ suc n + (tag - 1) = omega arith in rw e at i
    go false i j = let e : n + (suc tag - 1) ≡ suc n + (tag - 1) = omega arith in rw e at j

pub required_after : (last : ℕ) (rows : List Row) → ltb last (last_required 0 1 rows) ≡ any_required (drop last rows)
required_after last rows = let e : last + (1 - 1) ≡ last = omega arith in rw e at (last-after last 0 1 rows (omega arith))

-- the prior column has the greatest required tag before each row
priors_right : ℕ → ℕ → List ℕ → Bool
priors_right prior tag [] = true
priors_right prior tag (row ∷ rows) =
    eqb (prior_in row) prior && priors_right (cond (is_required (presence_of (many_in row))) tag prior) (suc tag) rows

priors_at : (prior tag : ℕ) (rows : List ℕ) (i : ℕ) → priors_right prior tag rows ≡ true → i < length rows
    → prior_in (get_or rows i 0) ≡ last_required prior tag (take i (map unpacked rows))
unfolding priors_right last_required
priors_at prior tag [] i e h = absurd (not-suc-le-zero h)
priors_at prior tag (row ∷ rows) zero e h = eqb-true (prior_in row) prior (and_left (eqb (prior_in row) prior) _ e)
priors_at prior tag (row ∷ rows) (suc i) e h =
    priors_at (cond (is_required (presence_of (many_in row))) tag prior) (suc tag) rows i (and_right (eqb (prior_in row) prior) _ e) (omega arith)

-- 3. Bases

abbrev row_numbers : ℕ → List ℕ
row_numbers base = slice (base + 1) (base + 1 + fields_at base) table

base_right : ℕ → Bool
base_right base =
    leb (base + 1 + fields_at base) row_count &&
    (eqb (prior_in (number_at base)) (last_required 0 1 (rows_from base)) && priors_right 0 1 (row_numbers base))

bases_right : (s : Shape) → base_right (base_of s) ≡ true
unfolding base_right priors_right rows_from rows_of base_of Table.table Table.shapes Table.pack_shape Table.pack_rows last_required Table.form_code Table.form_size Table.how_often shape_at presence_of
bases_right (record_of Topic) = refl
bases_right (record_of Partition) = refl
bases_right (record_of BrokerRegistration) = refl
bases_right (record_of DeleteTopic) = refl
bases_right (record_of TopicConfig) = refl
bases_right (record_of BrokerConfig) = refl
bases_right (record_of ClientQuota) = refl
bases_right (record_of ProducerIds) = refl
bases_right (record_of UnregisterBroker) = refl
bases_right (record_of KRaftVersion) = refl
bases_right (record_of FeatureLevel) = refl
bases_right (record_of ClientMetricsConfig) = refl
bases_right (record_of FeaturesEpoch) = refl
bases_right (record_of PartitionDirAssignment) = refl
bases_right (record_of PartitionOffsetAdvance) = refl
bases_right (record_of GroupConfig) = refl
bases_right (record_of ControllerRegistration) = refl
bases_right (record_of TopicFreeze) = refl
bases_right (record_of BreakGlassProposal) = refl
bases_right (record_of DeleteBreakGlassProposal) = refl
bases_right (record_of PartitionElr) = refl
bases_right (record_of PartitionRecovery) = refl
bases_right (record_of PartitionUpdate) = refl
bases_right (record_of BrokerRegistrationChange) = refl
bases_right (record_of UnregisterController) = refl
bases_right (record_of LogOffset) = refl
bases_right stored_topic = refl
bases_right endpoint = refl
bases_right approval = refl
bases_right entity = refl
bases_right pair = refl
bases_right feature = refl

map_at : (rows : List ℕ) (i : ℕ) → i < length rows → get_elem? (map unpacked rows) i ≡ some (unpacked (get_or rows i 0))
map_at [] i h = absurd (not-suc-le-zero h)
map_at (row ∷ rows) zero h = refl
map_at (row ∷ rows) (suc i) h = map_at rows i (omega arith)

module _ (s : Shape) {base : ℕ} (at : base ≡ base_of s) where
  right : base_right base ≡ true
  right = rw at (bases_right s)

  fits : base + 1 + fields_at base ≤ length table
  unfolding base_right
  fits =
      let n = base + 1 + fields_at base in
      omega (arith, table-length, leb-true n row_count (and_left (leb n row_count) _ right))

  pub base_fits : base + fields_at base < row_count
  base_fits = omega (arith, table-length, fits)

  row_count_lem : length (row_numbers base) ≡ fields_at base
  row_count_lem = omega (arith, length-slice (base + 1) (base + 1 + fields_at base) table fits)

  number_at_lem : (i : ℕ) → i < fields_at base → get_or (row_numbers base) i 0 ≡ number_at (base + suc i)
  number_at_lem i h =
      let e : base + 1 + i ≡ base + suc i = omega arith in
      get_or-drop (base + 1) (take (base + 1 + fields_at base) table) i 0
      ∙ get_or-take (base + 1 + fields_at base) table (base + 1 + i) 0 (omega arith)
      ∙ ap number_at e

  -- a tag's row
  pub row_at_lem : (tag : ℕ) → 0 < tag → tag ≤ fields_at base → row_at (rows_from base) tag ≡ some (unpacked (number_at (base + tag)))
  unfolding rows_from
  row_at_lem zero h k = absurd (not-suc-le-zero h)
  row_at_lem (suc i) h k =
      map_at (row_numbers base) i (omega (arith, row_count_lem)) ∙ ap (λ (row : ℕ). some (unpacked row)) (number_at_lem i k)

  pub row_past : (tag : ℕ) → fields_at base < tag → row_at (rows_from base) tag ≡ none
  unfolding rows_from
  row_past zero h = absurd (not-suc-le-zero h)
  row_past (suc i) h =
      get_elem?_past (rows_from base) i (omega (arith, row_count_lem, length-map (row_numbers base) unpacked))

  -- whether a required row is after a tag, and before another
  pub prior_after : (last : ℕ) → ltb last (prior_in (number_at base)) ≡ any_required (drop last (rows_from base))
  unfolding base_right
  prior_after last =
      let rows = rows_from base in
      let prior = prior_in (number_at base) in
      let t = and_right (leb (base + 1 + fields_at base) row_count) _ right in
      let e = eqb-true prior (last_required 0 1 rows) (and_left (eqb prior (last_required 0 1 rows)) _ t) in
      ap (ltb last) e ∙ required_after last rows

  pub prior_between : (last tag : ℕ) → 0 < tag → tag ≤ fields_at base
      → ltb last (prior_in (number_at (base + tag))) ≡ any_required (slice last (tag - 1) (rows_from base))
  unfolding base_right rows_from
  prior_between last zero h k = absurd (not-suc-le-zero h)
  prior_between last (suc i) h k =
      let rows = rows_from base in
      let prior = prior_in (number_at base) in
      let t = and_right (leb (base + 1 + fields_at base) row_count) _ right in
      let u = and_right (eqb prior (last_required 0 1 rows)) _ t in
      let q : suc i - 1 ≡ i = omega arith in
      let e = priors_at 0 1 (row_numbers base) i u (omega (arith, row_count_lem)) in
      rw (q, ← number_at_lem i k, e) (required_after last (take i rows))

-- The code's table: each row of `model` as one number, and before each shape's rows one for the shape. `rows_from` reads rows back, and
-- gives each shape the rows that `model` has (proofs/Table).
use Rattle.std.specs.Prelude.{ℕ, zero, suc, ◌+◌, ◌*◌, ◌/◌, ◌%◌, ◌^◌, cond, List, [], ◌∷◌, map, eqb, length, get_or}
use Rattle.std.proofs.Math.Seq.{slice}
use Rattle.model.specs.Choice.{given, joined}
use Rattle.model.specs.Kind.{kind_of}
use Rattle.model.specs.Shape.{Shape, record_of, stored_topic, endpoint, approval, entity, pair, feature, Form, fixed, below, offset, text, map_key, raw, list, node_set, nested, Presence, required, optional, up_to, Row, rows_of, is_required, Source, shape_of, unknown}
use Rattle.model.specs.declared.Kind.TheVariants.{Topic, Partition, BrokerRegistration, DeleteTopic, TopicConfig, BrokerConfig, ClientQuota, ProducerIds, UnregisterBroker, KRaftVersion, FeatureLevel, ClientMetricsConfig, FeaturesEpoch, PartitionDirAssignment}
use Rattle.model.specs.declared.Kind.TheVariants.{PartitionOffsetAdvance, GroupConfig, ControllerRegistration, TopicFreeze, BreakGlassProposal, DeleteBreakGlassProposal, PartitionElr, PartitionRecovery, PartitionUpdate, BrokerRegistrationChange, UnregisterController, LogOffset}

-- where a shape's rows begin
unfoldable pub base_of : Shape → ℕ
base_of (record_of Topic) = 0
base_of (record_of Partition) = 5
base_of (record_of BrokerRegistration) = 16
base_of (record_of DeleteTopic) = 29
base_of (record_of TopicConfig) = 31
base_of (record_of BrokerConfig) = 34
base_of (record_of ClientQuota) = 38
base_of (record_of ProducerIds) = 42
base_of (record_of UnregisterBroker) = 46
base_of (record_of KRaftVersion) = 49
base_of (record_of FeatureLevel) = 51
base_of (record_of ClientMetricsConfig) = 54
base_of (record_of FeaturesEpoch) = 57
base_of (record_of PartitionDirAssignment) = 59
base_of (record_of PartitionOffsetAdvance) = 64
base_of (record_of GroupConfig) = 68
base_of (record_of ControllerRegistration) = 71
base_of (record_of TopicFreeze) = 77
base_of (record_of BreakGlassProposal) = 87
base_of (record_of DeleteBreakGlassProposal) = 98
base_of (record_of PartitionElr) = 100
base_of (record_of PartitionRecovery) = 105
base_of (record_of PartitionUpdate) = 109
base_of (record_of BrokerRegistrationChange) = 114
base_of (record_of UnregisterController) = 121
base_of stored_topic = 123
base_of endpoint = 129
base_of approval = 134
base_of entity = 139
base_of pair = 142
base_of feature = 145
base_of (record_of LogOffset) = 149

abbrev pub row_count : ℕ
row_count = 151

-- 1. From rows to numbers

unfoldable pub form_code : Form → ℕ
form_code (fixed width) = 0
form_code (below bound) = 1
form_code (text limit) = 2
form_code (map_key limit) = 3
form_code (raw limit) = 4
form_code (list width limit) = cond (eqb width 8) 5 6
form_code (node_set limit) = 7
form_code offset = 8
form_code (nested s) = 9

unfoldable pub form_size : Form → ℕ
form_size (fixed width) = width
form_size (below bound) = bound
form_size (text limit) = limit
form_size (map_key limit) = limit
form_size (raw limit) = limit
form_size (list width limit) = limit
form_size (node_set limit) = limit
form_size offset = 8
form_size (nested s) = base_of s

unfoldable pub how_often : Presence → ℕ
how_often required = 0
how_often optional = 1
how_often (up_to n) = n

abbrev pub packed_row : ℕ → ℕ → ℕ → ℕ → ℕ
packed_row form size prior many = form * 2 ^ 28 + size * 65536 + prior * 256 + many

-- rows from a tag on, after the greatest required tag `prior`
unfoldable pub pack_rows : ℕ → ℕ → List Row → List ℕ
pack_rows prior tag [] = []
pack_rows prior tag (r ∷ rows) =
    packed_row (form_code r.form) (form_size r.form) prior (how_often r.presence) ∷
    pack_rows (cond (is_required r.presence) tag prior) (suc tag) rows

unfoldable pub last_required : ℕ → ℕ → List Row → ℕ
last_required prior tag [] = prior
last_required prior tag (r ∷ rows) = last_required (cond (is_required r.presence) tag prior) (suc tag) rows

unfoldable pub pack_shape : List Row → List ℕ
pack_shape rows = packed_row 0 (length rows) (last_required 0 1 rows) 0 ∷ pack_rows 0 1 rows

unfoldable pub shapes : List Shape
shapes =
    record_of Topic ∷ record_of Partition ∷ record_of BrokerRegistration ∷ record_of DeleteTopic ∷ record_of TopicConfig ∷ record_of
    BrokerConfig ∷ record_of ClientQuota ∷ record_of ProducerIds ∷ record_of UnregisterBroker ∷ record_of KRaftVersion ∷ record_of
    FeatureLevel ∷ record_of ClientMetricsConfig ∷ record_of FeaturesEpoch ∷ record_of PartitionDirAssignment ∷ record_of
    PartitionOffsetAdvance ∷ record_of GroupConfig ∷ record_of ControllerRegistration ∷ record_of TopicFreeze ∷ record_of
    BreakGlassProposal ∷ record_of DeleteBreakGlassProposal ∷ record_of PartitionElr ∷ record_of PartitionRecovery ∷ record_of
    PartitionUpdate ∷ record_of BrokerRegistrationChange ∷ record_of UnregisterController ∷ stored_topic ∷ endpoint ∷ approval ∷ entity ∷
    pair ∷ feature ∷ record_of LogOffset ∷ []

unfoldable pub table : List ℕ
table = joined (λ s. pack_shape (rows_of s)) shapes

-- 2. From numbers to rows

abbrev pub form_in : ℕ → ℕ
form_in row = row / 0x10000000

abbrev pub size_in : ℕ → ℕ
size_in row = row / 65536 % 4096

abbrev pub prior_in : ℕ → ℕ
prior_in row = row / 256 % 256

abbrev pub many_in : ℕ → ℕ
many_in row = row % 256

-- the shape of a base, among those that stand within others
unfoldable pub shape_at : ℕ → Shape
shape_at n =
    cond (eqb n 5) (record_of Partition)
    (cond (eqb n 129) endpoint (cond (eqb n 134) approval (cond (eqb n 139) entity (cond (eqb n 142) pair feature))))

unfoldable pub form_of : ℕ → ℕ → Form
form_of code size =
    cond (eqb code 0) (fixed size)
    (cond (eqb code 1) (below size)
    (cond (eqb code 2) (text size)
    (cond (eqb code 3) (map_key size)
    (cond (eqb code 4) (raw size)
    (cond (eqb code 5) (list 8 size) (cond (eqb code 6) (list 16 size) (cond (eqb code 7) (node_set size) (cond (eqb code 8) offset (nested (shape_at size))))))))))

unfoldable pub presence_of : ℕ → Presence
presence_of many = cond (eqb many 0) required (cond (eqb many 1) optional (up_to many))

abbrev pub unpacked : ℕ → Row
unpacked row = record { form = form_of (form_in row) (size_in row); presence = presence_of (many_in row) }

-- a row's number, and how many rows a base has
abbrev pub number_at : ℕ → ℕ
number_at i = get_or table i 0

abbrev pub fields_at : ℕ → ℕ
fields_at base = size_in (number_at base)

unfoldable pub rows_from : ℕ → List Row
rows_from base = map unpacked (slice (base + 1) (base + 1 + fields_at base) table)

-- 3. The base of a kind number, where its source knows the kind

abbrev pub known_base : ℕ → ℕ → ℕ
known_base zero base = base
known_base (suc n) base = row_count

unfoldable pub kind_base : Source → ℕ → ℕ
kind_base source kind = given (kind_of kind) row_count (λ k. known_base (unknown source k) (base_of (shape_of source k)))

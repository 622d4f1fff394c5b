-- The table of shapes and the one rule that reads by it: 01, "A table gives each kind's tags, widths and limits", and *Read*'s "fields in
-- byte order, the first faulty one deciding: 4, wrong tag, length or value, or one missing; then 5, over a limit".
use Rattle.std.specs.Prelude.{ℕ, zero, suc, ◌+◌, ◌-◌, ◌/◌, ◌%◌, Bool, true, false, cond, ◌&&◌, ◌||◌, not, List, [], ◌∷◌, leb, ltb, eqb, length, drop}
use Rattle.std.proofs.Math.Option.{Option, none, some}
use Rattle.std.proofs.Math.ListN.{get_elem?}
use Rattle.std.proofs.Math.Seq.{slice}
use Rattle.model.specs.Choice.{or_then, unless, given}
use Rattle.model.specs.Number.{Bytes, number, is_offset}
use Rattle.model.specs.Text.{is_text}
use Rattle.model.specs.Order.{compare_bytes, is_below}
use Rattle.model.specs.Run.{Run, done, torn, item, run_of, field}
use Rattle.model.specs.Nodes.{nodes_of, no_repeats}
use Rattle.model.specs.Kind.{kind_number}
use Rattle.model.specs.declared.Kind.{Kind}
use Rattle.model.specs.declared.Kind.TheVariants.{Topic, Partition, BrokerRegistration, DeleteTopic, TopicConfig, BrokerConfig, ClientQuota, ProducerIds, UnregisterBroker, KRaftVersion, FeatureLevel, ClientMetricsConfig, FeaturesEpoch, PartitionDirAssignment}
use Rattle.model.specs.declared.Kind.TheVariants.{PartitionOffsetAdvance, GroupConfig, ControllerRegistration, TopicFreeze, BreakGlassProposal, DeleteBreakGlassProposal, PartitionElr, PartitionRecovery, PartitionUpdate, BrokerRegistrationChange, UnregisterController, LogOffset}

-- 1. Rows

-- what has fields: a kind's record, the topic as an image stores it, and the elements of compound lists and maps
pub data Shape : Type 0 where
  record_of : Kind → Shape
  stored_topic : Shape
  endpoint : Shape
  approval : Shape
  entity : Shape
  pair : Shape
  feature : Shape

-- a value: a fixed width; a byte below a bound; a log offset; UTF-8, a map's key and any bytes, each up to a limit; numbers of a width, up to
-- a limit; a run of a shape's fields
pub data Form : Type 0 where
  fixed : ℕ → Form
  below : ℕ → Form
  offset : Form
  text : ℕ → Form
  map_key : ℕ → Form
  raw : ℕ → Form
  list : ℕ → ℕ → Form
  node_set : ℕ → Form
  nested : Shape → Form

pub data Presence : Type 0 where
  required : Presence
  optional : Presence
  up_to : ℕ → Presence

pub record Row : Type 0 where
  pub form : Form
  pub presence : Presence

-- 01, "At most: strings 255 bytes of UTF-8, signatures 512, lists and maps 64, endpoints and approvals 16, quota entities 8"
abbrev pub string_limit : ℕ
string_limit = 255

abbrev pub signature_limit : ℕ
signature_limit = 512

abbrev pub list_limit : ℕ
list_limit = 64

abbrev pub endpoint_limit : ℕ
endpoint_limit = 16

abbrev pub entity_limit : ℕ
entity_limit = 8

abbrev must : Form → Row
must f = record { form = f; presence = required }

abbrev may : Form → Row
may f = record { form = f; presence = optional }

abbrev many : ℕ → Shape → Row
many n s = record { form = nested s; presence = up_to n }

abbrev string : Form
string = text string_limit

abbrev bool : Form
bool = below 2

abbrev u16 : Form
u16 = fixed 2

abbrev i16 : Form
i16 = fixed 2

abbrev i32 : Form
i32 = fixed 4

abbrev u64 : Form
u64 = fixed 8

abbrev i64 : Form
i64 = fixed 8

abbrev f64 : Form
f64 = fixed 8

abbrev uuid : Form
uuid = fixed 16

abbrev nodes : Form
nodes = list 8 list_limit

abbrev uuids : Form
uuids = list 16 list_limit

abbrev endpoints : Row
endpoints = many endpoint_limit endpoint

abbrev features : Row
features = many list_limit feature

abbrev pairs : Row
pairs = many list_limit pair

-- a shape's rows, the first being tag 1's: a line is a struct of the Rust's (or an element of its maps, or a topic as an image stores it), and
-- each of its rows a field
unfoldable pub rows_of : Shape → List Row
rows_of (record_of Topic) = must string ∷ must uuid ∷ must i32 ∷ must i16 ∷ []
rows_of (record_of Partition) =
    must string ∷ must i32 ∷ must u64 ∷ must (node_set list_limit) ∷ must nodes ∷ must i32 ∷ must nodes ∷ must nodes ∷ must uuids ∷ must i32 ∷ []
rows_of (record_of BrokerRegistration) =
    must u64 ∷ must i64 ∷ must uuid ∷ must string ∷ must u16 ∷ may string ∷ endpoints ∷ must uuids ∷ must bool ∷ must bool ∷ may uuids ∷
    features ∷ []
rows_of (record_of DeleteTopic) = must string ∷ []
rows_of (record_of TopicConfig) = must string ∷ pairs ∷ []
rows_of (record_of BrokerConfig) = must u64 ∷ must string ∷ may string ∷ []
rows_of (record_of ClientQuota) = many entity_limit entity ∷ must string ∷ may f64 ∷ []
rows_of (record_of ProducerIds) = must u64 ∷ must i64 ∷ must i64 ∷ []
rows_of (record_of UnregisterBroker) = must u64 ∷ must i64 ∷ []
rows_of (record_of KRaftVersion) = must u16 ∷ []
rows_of (record_of FeatureLevel) = must string ∷ must i16 ∷ []
rows_of (record_of ClientMetricsConfig) = must string ∷ pairs ∷ []
rows_of (record_of FeaturesEpoch) = must i64 ∷ []
rows_of (record_of PartitionDirAssignment) = must string ∷ must i32 ∷ must u64 ∷ must uuid ∷ []
rows_of (record_of PartitionOffsetAdvance) = must string ∷ must i32 ∷ must i64 ∷ []
rows_of (record_of GroupConfig) = must string ∷ pairs ∷ []
rows_of (record_of ControllerRegistration) = must u64 ∷ must uuid ∷ must bool ∷ endpoints ∷ features ∷ []
rows_of (record_of TopicFreeze) =
    must string ∷ must (below 2) ∷ must bool ∷ must string ∷ must string ∷ must i64 ∷ must uuid ∷ must string ∷
    must (raw signature_limit) ∷ []
rows_of (record_of BreakGlassProposal) =
    must uuid ∷ must (below 7) ∷ must string ∷ must string ∷ must string ∷ must i64 ∷ must i64 ∷ many endpoint_limit approval ∷
    must i64 ∷ must bool ∷ []
rows_of (record_of DeleteBreakGlassProposal) = must uuid ∷ []
rows_of (record_of PartitionElr) = must string ∷ must i32 ∷ must nodes ∷ must nodes ∷ []
rows_of (record_of PartitionRecovery) = must string ∷ must i32 ∷ must (below 2) ∷ []
rows_of (record_of PartitionUpdate) = must (nested (record_of Partition)) ∷ may nodes ∷ may nodes ∷ may (below 2) ∷ []
rows_of (record_of BrokerRegistrationChange) = must u64 ∷ must i64 ∷ must (below 3) ∷ must bool ∷ must uuids ∷ may uuids ∷ []
rows_of (record_of UnregisterController) = must u64 ∷ []
rows_of (record_of LogOffset) = must offset ∷ []
rows_of stored_topic = must string ∷ must uuid ∷ must i32 ∷ must i16 ∷ must (fixed 5) ∷ []
rows_of endpoint = must string ∷ must string ∷ must u16 ∷ must (below 4) ∷ []
rows_of approval = must string ∷ must i64 ∷ must string ∷ must (raw signature_limit) ∷ []
rows_of entity = must string ∷ may string ∷ []
rows_of pair = must (map_key string_limit) ∷ must string ∷ []
rows_of feature = must (map_key string_limit) ∷ must i16 ∷ must i16 ∷ []

-- 2. Tags

-- a tag's row
abbrev pub row_at : List Row → ℕ → Option Row
row_at rows zero = none
row_at rows (suc t) = get_elem? rows t

abbrev pub is_required : Presence → Bool
is_required required = true
is_required optional = false
is_required (up_to n) = false

abbrev pub repeats : Presence → Bool
repeats required = false
repeats optional = false
repeats (up_to n) = true

unfoldable pub any_required : List Row → Bool
any_required [] = false
any_required (r ∷ rows) = is_required r.presence || any_required rows

-- what came before a field: the last tag, how often it came, and the key that its last element began with
pub record Before : Type 0 where
  pub last : ℕ
  pub count : ℕ
  pub element_key : Option Bytes

abbrev pub start : Before
start = record { last = 0; count = 0; element_key = none }

-- tags ascend and pass no required one; a tag comes again only where its row repeats
unfoldable pub may_follow : List Row → ℕ → ℕ → Presence → Bool
may_follow rows last tag p = cond (ltb last tag) (not (any_required (slice last (tag - 1) rows))) (eqb tag last && repeats p)

-- how many elements of this tag came before, and with which key the last of them began
abbrev pub count_before : Before → ℕ → ℕ
count_before b tag = cond (eqb tag b.last) b.count 0

abbrev pub key_before : Before → ℕ → Option Bytes
key_before b tag = cond (eqb tag b.last) b.element_key none

abbrev pub after : Before → ℕ → Bytes → Before
after b tag v = record { last = tag; count = count_before b tag + 1; element_key = field 1 (run_of v) }

-- an element that is one too many
abbrev pub count_fault : Presence → ℕ → ℕ
count_fault required n = 0
count_fault optional n = 0
count_fault (up_to limit) n = unless (ltb n limit) 5

-- 3. Values

unfoldable pub is_below_byte : ℕ → Bytes → Bool
is_below_byte bound [] = false
is_below_byte bound (b ∷ []) = ltb b bound
is_below_byte bound (b ∷ c ∷ v) = false

-- 01, "Map keys strictly ascend by bytes"
abbrev pub ascends : Option Bytes → Bytes → Bool
ascends none v = true
ascends (some k) v = is_below (compare_bytes k v)

abbrev pub text_fault : ℕ → Bytes → ℕ
text_fault limit v = or_then (unless (is_text v) 4) (unless (leb (length v) limit) 5)

-- a value that is no run; `prior` is the key of the element before
unfoldable pub leaf_fault : Option Bytes → Form → Bytes → ℕ
leaf_fault prior (fixed width) v = unless (eqb (length v) width) 4
leaf_fault prior (below bound) v = unless (is_below_byte bound v) 4
leaf_fault prior offset v = unless (eqb (length v) 8 && is_offset (number v)) 4
leaf_fault prior (text limit) v = text_fault limit v
leaf_fault prior (map_key limit) v = or_then (unless (is_text v) 4) (or_then (unless (ascends prior v) 4) (unless (leb (length v) limit) 5))
leaf_fault prior (raw limit) v = unless (leb (length v) limit) 5
leaf_fault prior (list width limit) v = or_then (unless (eqb (length v % width) 0) 4) (unless (leb (length v / width) limit) 5)
leaf_fault prior (node_set limit) v =
    or_then (unless (eqb (length v % 8) 0) 4) (or_then (unless (leb (length v / 8) limit) 5) (unless (no_repeats (nodes_of v)) 20))
leaf_fault prior (nested s) v = 4

-- 4. Runs

-- the first fault of a run, by what `check` says of a value after a key, at a form
unfoldable pub run_fault : (Option Bytes → Form → Bytes → ℕ) → List Row → Before → Run → ℕ
run_fault check rows b done = unless (not (any_required (drop b.last rows))) 4
run_fault check rows b torn = 4
run_fault check rows b (item t v r) =
    given (row_at rows t) 4 λ row.
    or_then (unless (may_follow rows b.last t row.presence) 4)
    (or_then (check (key_before b t) row.form v)
    (or_then (count_fault row.presence (count_before b t)) (run_fault check rows (after b t v) r)))

-- an element or a nested partition: its own fields; no shape within a shape has runs in it
abbrev pub nested_fault : Option Bytes → Shape → Bytes → ℕ
nested_fault prior s v = run_fault (λ k f w. leaf_fault prior f w) (rows_of s) start (run_of v)

unfoldable pub value_fault : Option Bytes → Form → Bytes → ℕ
value_fault prior (fixed width) v = leaf_fault prior (fixed width) v
value_fault prior (below bound) v = leaf_fault prior (below bound) v
value_fault prior offset v = leaf_fault prior offset v
value_fault prior (text limit) v = leaf_fault prior (text limit) v
value_fault prior (map_key limit) v = leaf_fault prior (map_key limit) v
value_fault prior (raw limit) v = leaf_fault prior (raw limit) v
value_fault prior (list width limit) v = leaf_fault prior (list width limit) v
value_fault prior (node_set limit) v = leaf_fault prior (node_set limit) v
value_fault prior (nested s) v = nested_fault prior s v

-- where a record stands: in the log, as Validate and Apply are given it; in an image, whose topics have one field more; or by itself and in
-- a snapshot, as Read, Write and Restore know it (`framed`), of 26 kinds
pub data Source : Type 0 where
  logged : Source
  stored : Source
  framed : Source

unfoldable pub shape_of : Source → Kind → Shape
shape_of logged k = record_of k
shape_of framed k = record_of k
shape_of stored k = cond (eqb (kind_number k) 1) stored_topic (record_of k)

-- 02, 5: "to Validate and Apply that kind is 3", whatever its fields, and no image stores it
abbrev pub unknown : Source → Kind → ℕ
unknown logged k = cond (eqb (kind_number k) 26) 3 0
unknown stored k = cond (eqb (kind_number k) 26) 3 0
unknown framed k = 0

-- what is wrong with a record's fields: 0 nothing, else 3, 4, 5 or 20
abbrev pub fault : Source → Kind → Run → ℕ
fault source kind run = or_then (unknown source kind) (run_fault value_fault (rows_of (shape_of source kind)) start run)

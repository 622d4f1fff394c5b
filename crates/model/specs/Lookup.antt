-- *Lookups*: "1; a queried name's 4, then 5; 19, output too short. A stored entry is returned as its record; absent is no refusal and writes
-- nothing."
use Rattle.std.specs.Prelude.{ℕ, zero, suc, ◌+◌, ◌*◌, ◌-◌, ◌%◌, Bool, true, false, cond, ◌&&◌, List, [], ◌∷◌, ◌++◌, leb, ltb, eqb}
use Rattle.std.proofs.Math.Option.{Option, none, some}
use Rattle.model.specs.Choice.{given, or_else}
use Rattle.model.specs.Number.{Bytes, bytes, span, half, is_negative}
use Rattle.model.specs.Order.{Key}
use Rattle.model.specs.Run.{Run, field}
use Rattle.model.specs.Nodes.{nodes_of, outside}
use Rattle.model.specs.Shape.{string_limit, text_fault}
use Rattle.model.specs.Record.{Rec}
use Rattle.model.specs.Key.{topic_key, partition_key, node_key, config_key, freeze_key}
use Rattle.model.specs.Map.{get}
use Rattle.model.specs.Contents.{Entry, topic, part, plain, returned, key, names_id}
use Rattle.model.specs.Image.{is_image, contents_of}
use Rattle.model.specs.Move.{run_at, replicas, isr, adding, node_count}
use Rattle.model.specs.Snapshot.{emit}
use Rattle.model.specs.Reply.{Reply, accepted, refused, Ended, unchanged}
use Rattle.model.specs.declared.Kind.TheVariants.{Partition, BrokerRegistration}

-- 1. A stored entry

abbrev pub found : Option Entry → List Rec
found none = []
found (some e) = returned e ∷ []

-- the checks of a lookup by name, then what it finds
abbrev pub named : ℕ → List Rec → Bytes → Ended
named zero rs out = emit rs out
named (suc n) rs out = unchanged (suc n) out

unfoldable pub topic_by_name : Bytes → Bytes → Bytes → Ended
topic_by_name image name out =
    cond (is_image image) (named (text_fault string_limit name) (found (get key (topic_key name) (contents_of image).real)) out) (unchanged 1 out)

-- the topic that the id index names
unfoldable pub named_by : Bytes → List Entry → Option Entry
named_by id [] = none
named_by id (e ∷ l) = cond (names_id id e) (some e) (named_by id l)

unfoldable pub topic_by_id : Bytes → Bytes → Bytes → Ended
topic_by_id image id out = cond (is_image image) (emit (found (named_by id (contents_of image).real)) out) (unchanged 1 out)

unfoldable pub partition_of : Bytes → Bytes → ℕ → Bytes → Ended
partition_of image name n out =
    cond (is_image image)
    (named (text_fault string_limit name) (found (get key (partition_key Partition name (bytes 4 n)) (contents_of image).real)) out)
    (unchanged 1 out)

unfoldable pub broker_of : Bytes → ℕ → Bytes → Ended
broker_of image node out =
    cond (is_image image) (emit (found (get key (node_key BrokerRegistration (bytes 8 node)) (contents_of image).real)) out) (unchanged 1 out)

-- 2. Numbers

-- the features epoch, as the unsigned number of its bytes
unfoldable pub epoch_of : Bytes → Reply
epoch_of image = cond (is_image image) (accepted ((contents_of image).fixed.epoch ∷ [])) (refused 1)

-- the log offset, as the unsigned number of its bytes
unfoldable pub offset_of : Bytes → Reply
offset_of image = cond (is_image image) (accepted ((contents_of image).fixed.offset ∷ [])) (refused 1)

-- "a partition is short when its ISR is smaller than the number of its replicas that are not among the adding replicas"
abbrev pub expected : Run → ℕ
expected r = outside (nodes_of (adding r)) (nodes_of (replicas r))

unfoldable pub is_short : Entry → Bool
is_short (topic name id c f n) = false
is_short (part r) = ltb (node_count (isr r)) (expected r)
is_short (plain r) = false

unfoldable pub short_count : List Entry → ℕ
short_count [] = 0
short_count (e ∷ l) = cond (is_short e) (suc (short_count l)) (short_count l)

unfoldable pub short_of : Bytes → Reply
short_of image = cond (is_image image) (accepted (short_count (contents_of image).real ∷ [])) (refused 1)

-- 3. "Freeze of a name: none if it begins with the two bytes "__"; else the literal scope; else the longest stored prefix; else none."

unfoldable pub begins_with : Bytes → Bytes → Bool
begins_with [] name = true
begins_with (a ∷ p) [] = false
begins_with (a ∷ p) (b ∷ name) = eqb a b && begins_with p name

-- the two bytes "__"
abbrev pub internal : Bytes
internal = 0x5f ∷ 0x5f ∷ []

abbrev pub literal : Bytes
literal = 0 ∷ []

abbrev pub prefixed : Bytes
prefixed = 1 ∷ []

-- by a finder of a scope: the name's prefixes, the longest first
unfoldable pub longest_by : (Bytes → Option Rec) → Bytes → Bytes → Option Rec
longest_by find before [] = find before
longest_by find before (b ∷ name) = or_else (longest_by find (before ++ (b ∷ [])) name) (find before)

-- by a finder of a pattern and a scope
unfoldable pub freeze_by : (Bytes → Bytes → Option Rec) → Bytes → Option Rec
freeze_by find name = cond (begins_with internal name) none (or_else (find literal name) (longest_by (find prefixed) [] name))

abbrev pub returned_at : Key → List Entry → Option Rec
returned_at k l = given (get key k l) none (λ e. some (returned e))

unfoldable pub freeze : Bytes → List Entry → Option Rec
freeze name l = freeze_by (λ pattern scope. returned_at (freeze_key pattern scope) l) name

abbrev pub as_list : Option Rec → List Rec
as_list none = []
as_list (some r) = r ∷ []

unfoldable pub freeze_of : Bytes → Bytes → Bytes → Ended
freeze_of image name out =
    cond (is_image image) (named (text_fault string_limit name) (as_list (freeze name (contents_of image).real)) out) (unchanged 1 out)

-- 4. "Throttle: the broker's entry, else the default node's (2^64 - 1); read as Rust reads an i64; negative or unreadable is none."

-- the rest of the two replication keys, ".replication.throttled.rate"
abbrev pub replication_rate : Bytes
replication_rate =
    0x2e ∷ 0x72 ∷ 0x65 ∷ 0x70 ∷ 0x6c ∷ 0x69 ∷ 0x63 ∷ 0x61 ∷ 0x74 ∷ 0x69 ∷ 0x6f ∷ 0x6e ∷ 0x2e ∷ 0x74 ∷ 0x68 ∷ 0x72 ∷ 0x6f ∷ 0x74 ∷
    0x74 ∷ 0x6c ∷ 0x65 ∷ 0x64 ∷ 0x2e ∷ 0x72 ∷ 0x61 ∷ 0x74 ∷ 0x65 ∷ []

-- "leader", "follower"
abbrev pub leader_rate : Bytes
leader_rate = 0x6c ∷ 0x65 ∷ 0x61 ∷ 0x64 ∷ 0x65 ∷ 0x72 ∷ replication_rate

abbrev pub follower_rate : Bytes
follower_rate = 0x66 ∷ 0x6f ∷ 0x6c ∷ 0x6c ∷ 0x6f ∷ 0x77 ∷ 0x65 ∷ 0x72 ∷ replication_rate

-- "replica.alter.log.dirs.io.max.bytes.per.second"
abbrev pub alter_log_dirs_rate : Bytes
alter_log_dirs_rate =
    0x72 ∷ 0x65 ∷ 0x70 ∷ 0x6c ∷ 0x69 ∷ 0x63 ∷ 0x61 ∷ 0x2e ∷ 0x61 ∷ 0x6c ∷ 0x74 ∷ 0x65 ∷ 0x72 ∷ 0x2e ∷ 0x6c ∷ 0x6f ∷ 0x67 ∷ 0x2e ∷
    0x64 ∷ 0x69 ∷ 0x72 ∷ 0x73 ∷ 0x2e ∷ 0x69 ∷ 0x6f ∷ 0x2e ∷ 0x6d ∷ 0x61 ∷ 0x78 ∷ 0x2e ∷ 0x62 ∷ 0x79 ∷ 0x74 ∷ 0x65 ∷ 0x73 ∷ 0x2e ∷
    0x70 ∷ 0x65 ∷ 0x72 ∷ 0x2e ∷ 0x73 ∷ 0x65 ∷ 0x63 ∷ 0x6f ∷ 0x6e ∷ 0x64 ∷ []

-- "0 to 2 in `ThrottleKind`'s order, others are 4"
unfoldable pub throttle_name : ℕ → Option Bytes
throttle_name n = cond (eqb n 0) (some leader_rate) (cond (eqb n 1) (some follower_rate) (cond (eqb n 2) (some alter_log_dirs_rate) none))

-- Rust's reading of an i64: an optional sign, at least one digit, and nothing else; out of range is unreadable. The number is kept as the
-- unsigned one of the same bytes
unfoldable pub digits : ℕ → Bytes → Option ℕ
digits n [] = some n
digits n (d ∷ s) = cond (leb 0x30 d && leb d 0x39) (digits (n * 10 + (d - 0x30)) s) none

unfoldable pub magnitude : Bytes → Option ℕ
magnitude [] = none
magnitude (d ∷ s) = digits 0 (d ∷ s)

abbrev pub positive : ℕ → Option ℕ
positive n = cond (ltb n (half 8)) (some n) none

abbrev pub negative : ℕ → Option ℕ
negative n = cond (leb n (half 8)) (some ((span 8 - n) % span 8)) none

unfoldable pub read_i64 : Bytes → Option ℕ
read_i64 [] = none
read_i64 (b ∷ s) =
    cond (eqb b 0x2b) (given (magnitude s) none positive)
    (cond (eqb b 0x2d) (given (magnitude s) none negative) (given (magnitude (b ∷ s)) none positive))

abbrev pub unless_negative : ℕ → Option ℕ
unless_negative n = cond (is_negative 8 n) none (some n)

abbrev pub default_node : ℕ
default_node = span 8 - 1

abbrev pub config_at : ℕ → Bytes → List Entry → Option Bytes
config_at node name l = given (run_at (config_key (bytes 8 node) name) l) none (field 3)

unfoldable pub throttle : ℕ → Bytes → List Entry → Option ℕ
throttle node name l = given (or_else (config_at node name l) (config_at default_node name l)) none (λ v. given (read_i64 v) none unless_negative)

abbrev pub as_values : Option ℕ → List ℕ
as_values none = []
as_values (some n) = n ∷ []

-- a rate is a value, and none is no value
unfoldable pub throttle_of : Bytes → ℕ → ℕ → Reply
throttle_of image node which =
    cond (is_image image) (given (throttle_name which) (refused 4) (λ name. accepted (as_values (throttle node name (contents_of image).real)))) (refused 1)

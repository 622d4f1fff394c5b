-- What the code says of the parts of a message, in the model's terms.
use Rattle.std.specs.Prelude.{◌≡◌, false, [], ◌∷◌, ◌++◌, ℕ, ◌+◌, ◌-◌, ◌≤◌, length, drop}
use Rattle.std.proofs.Math.Seq.{slice}
use Rattle.model.specs.Number.{Bytes, bytes}
use Rattle.model.specs.Run.{bytes_of}
use Rattle.model.specs.Kind.{kind_number}
use Rattle.model.specs.Record.{Rec, record_bytes}
use Rattle.model.specs.Reply.{Reply, Ended, unchanged, emit_bytes, also_says}
use Rattle.model.specs.Kafka.{Taken, bad, took, and_then, on_taken, read_fixed, name, raw, broker, read_field, read_tagged}
use Rattle.records.specs.Answers.{head}
use Rattle.kafka_frame.specs.Parts.{onward, message_of}
use Rattle.kafka_frame.specs.declared.Passed.{Passed}
use Rattle.kafka_frame.specs.declared.Passed.TheVariants.{To, Refused as NotPassed}
use Rattle.kafka_read.specs.declared.message.Name.{Name}
use Rattle.kafka_read.specs.declared.message.Name.TheVariants.{Text, Refused as NoName}
use Rattle.kafka_read.specs.declared.message.Broker.{Broker}
use Rattle.kafka_read.specs.declared.message.Broker.TheVariants.{Fields, Refused as NoBroker}

-- 1. Names

abbrev pub name_taken : Bytes → Name → Taken Bytes
name_taken s (Text start end) = took (slice start end s) (drop end s)
name_taken s (NoName n) = bad n

abbrev pub NameWithin : Bytes → Name → Type 0
NameWithin s (Text start end) = (start ≤ end) × (end ≤ length s) × (end ≤ start + 255)
NameWithin s (NoName n) = Unit {0}

-- 2. So many bytes as they stand and the tagged fields, whatever record is made of those bytes

abbrev pub RestWithin : Bytes → ℕ → Passed → Type 0
RestWithin s to (To end) = (to ≤ end) × (end ≤ length s)
RestWithin s to (NotPassed n) = Unit {0}

abbrev pub RestAs : Bytes → ℕ → ℕ → Passed → Type 0
RestAs s at width r =
    ((x : Bytes → Rec) → and_then (read_fixed width (drop at s)) (λ v t. read_tagged false (x v) t) ≡ onward s (took (x (slice at (at + width) s))) r)
    × RestWithin s (at + width) r

-- 3. The same with a broker's id before them

abbrev pub broker_taken : Bytes → (ℕ → Rec) → Broker → Taken Rec
broker_taken s x (Fields id end) = took (x id) (drop end s)
broker_taken s x (NoBroker n) = bad n

abbrev pub BrokerWithin : Bytes → ℕ → Broker → Type 0
BrokerWithin s to (Fields id end) = (to ≤ end) × (end ≤ length s)
BrokerWithin s to (NoBroker n) = Unit {0}

abbrev pub BrokerAs : Bytes → ℕ → ℕ → Broker → Type 0
BrokerAs s at width r =
    ((x : Bytes → Bytes → Rec)
    → and_then (read_field false broker (drop at s)) (λ v t. and_then (read_fixed width t) (λ w u. read_tagged false (x v w) u))
    ≡ broker_taken s (λ id. x (bytes 8 id) (slice (at + 4) (at + 4 + width) s)) r)
    × BrokerWithin s (at + 4 + width) r

-- 4. What is written

-- a record's bytes by its kind's number: two fields, and the bytes of others
abbrev pub record_of : ℕ → Bytes → Bytes → Bytes → Bytes
record_of kind first second others =
    head kind (6 + length first + length second + length others)
    ++ ((head 1 (length first) ++ first) ++ ((head 2 (length second) ++ second) ++ others))

-- some bytes are written, and so many of the input were used
abbrev pub EmitsAs : Bytes → ℕ → Bytes → Reply → Bytes → Type 0
EmitsAs s used out r v = (r ≡ (also_says (used ∷ []) (emit_bytes s out)).reply) × (v ≡ (also_says (used ∷ []) (emit_bytes s out)).buffer)

-- 5. The answer to a message that was taken, or not

abbrev pub answered : Bytes → Bytes → Taken Rec → Ended
answered input out t =
    on_taken t (λ n. unchanged n out) λ r rest. also_says ((length input - length rest) ∷ []) (emit_bytes (record_bytes r) out)

abbrev pub AnswersAs : Bytes → Bytes → Taken Rec → Reply → Bytes → Type 0
AnswersAs input out t r v = (r ≡ (answered input out t).reply) × (v ≡ (answered input out t).buffer)

-- a kind whose message is a name and so many bytes, and whose record has other fields of these bytes
pub record NamedAs (kind width : ℕ) (others : Bytes) : Type 0 where
  pub forms_are : (message_of kind).forms ≡ name ∷ raw width ∷ []
  pub kind_is : kind_number (message_of kind).kind ≡ kind
  pub others_are : bytes_of (message_of kind).others ≡ others

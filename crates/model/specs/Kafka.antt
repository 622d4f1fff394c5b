-- Kafka's own record bytes: 02, point 13. The value of one record of the metadata log: KIP-631's frame, version 1, around a message of Kafka's
-- published schemas, version 0.
use Rattle.std.specs.Prelude.{◌≡◌, ℕ, zero, suc, ◌+◌, ◌-◌, ◌*◌, ◌/◌, ◌%◌, Bool, true, false, cond, ◌&&◌, ◌||◌, not, List, [], ◌∷◌, ◌++◌, leb, ltb, eqb, length, take, drop}
use Rattle.std.proofs.Math.Option.{Option, none, some}
use Rattle.model.specs.Choice.{given}
use Rattle.model.specs.Number.{Bytes, AreBytes, number, bytes, half, is_negative}
use Rattle.model.specs.Run.{Run, done, item, value, set_field}
use Rattle.model.specs.Kind.{kind_number}
use Rattle.model.specs.Shape.{framed, string_limit, text_fault}
use Rattle.model.specs.Record.{Rec, rec, record_bytes, got, read, on_got}
use Rattle.model.specs.History.{written}
use Rattle.model.specs.Reply.{Ended, unchanged, emit_bytes, also_says}
use Rattle.model.specs.declared.Kind.{Kind}
use Rattle.model.specs.declared.Kind.TheVariants.{Topic, ProducerIds, UnregisterBroker, FeatureLevel}

-- 1. Parts of an input: a refusal, or a value and the bytes after it

pub data Taken (A : Type 0) : Type 0 where
  bad : ℕ → Taken A
  took : A → Bytes → Taken A

abbrev pub and_then : {A B : Type 0} → Taken A → (A → Bytes → Taken B) → Taken B
and_then (bad n) f = bad n
and_then (took a s) f = f a s

-- a value that is refused
abbrev pub unless_wrong : {A : Type 0} → ℕ → A → Bytes → Taken A
unless_wrong zero a s = took a s
unless_wrong (suc n) a s = bad (suc n)

-- 2. Unsigned varints: seven bits in a byte, the lowest first; a byte from 128 on is followed by another. Of five bytes the last has four bits:
-- "a varint's fifth byte above 15 being 4"

-- the shortest form
unfoldable pub varint_bytes : ℕ → ℕ → Bytes
varint_bytes zero n = n ∷ []
varint_bytes (suc more) n = cond (ltb n 128) (n ∷ []) ((n % 128 + 128) ∷ varint_bytes more (n / 128))

abbrev pub varint : ℕ → Bytes
varint n = varint_bytes 4 n

-- up to `more` bytes after this one, which weighs `weight`
unfoldable pub varint_from : ℕ → ℕ → ℕ → Bytes → Taken ℕ
varint_from more weight before [] = bad 2
varint_from zero weight before (b ∷ s) = cond (leb b 15) (took (before + b * weight) s) (bad 4)
varint_from (suc more) weight before (b ∷ s) =
    cond (ltb b 128) (took (before + b * weight) s) (varint_from more (weight * 128) (before + (b - 128) * weight) s)

-- read strictly, a longer form is refused: for 02's "shortest varints"
unfoldable pub read_varint : Bool → Bytes → Taken ℕ
read_varint strict s =
    and_then (varint_from 4 1 0 s) λ n rest. cond (not strict || eqb (length s) (length (varint n) + length rest)) (took n rest) (bad 4)

-- 3. Fields

-- a compact string: its length and one, then its bytes; 0 is null, which no field here may be
abbrev pub text_of : ℕ → Bytes → Taken Bytes
text_of zero rest = bad 4
text_of (suc n) rest = cond (ltb (length rest) n) (bad 2) (unless_wrong (text_fault string_limit (take n rest)) (take n rest) (drop n rest))

unfoldable pub read_string : Bool → Bytes → Taken Bytes
read_string strict s = and_then (read_varint strict s) text_of

unfoldable pub read_fixed : ℕ → Bytes → Taken Bytes
read_fixed width s = cond (ltb (length s) width) (bad 2) (took (take width s) (drop width s))

-- a field of a message: a name; so many bytes as they stand; a broker's id, an int32 there and a u64 here
pub data Form : Type 0 where
  name : Form
  raw : ℕ → Form
  broker : Form

unfoldable pub read_field : Bool → Form → Bytes → Taken Bytes
read_field strict name s = read_string strict s
read_field strict (raw width) s = read_fixed width s
read_field strict broker s =
    and_then (read_fixed 4 s) λ v rest. cond (is_negative 4 (number v)) (bad 4) (took (bytes 8 (number v)) rest)

unfoldable pub field_bytes : Form → Bytes → Bytes
field_bytes name v = varint (suc (length v)) ++ v
field_bytes (raw width) v = v
field_bytes broker v = bytes 4 (number v)

-- "27, a number Kafka's field can't hold"
unfoldable pub field_holds : Form → Bytes → Bool
field_holds name v = true
field_holds (raw width) v = true
field_holds broker v = ltb (number v) (half 4)

-- 4. Messages: their fields are the first of ours, in order

pub record Message : Type 0 where
  pub key : ℕ
  pub kind : Kind
  pub forms : List Form
  -- what ours has beside
  pub others : Run

abbrev message : ℕ → Kind → List Form → Run → Message
message key kind forms others = record { key = key; kind = kind; forms = forms; others = others }

-- "A topic read has count 0 and replication factor 0."
abbrev pub no_count : Run
no_count = item 3 (bytes 4 0) (item 4 (bytes 2 0) done)

unfoldable pub messages : List Message
messages =
    message 1 UnregisterBroker (broker ∷ raw 8 ∷ []) done ∷
    message 2 Topic (name ∷ raw 16 ∷ []) no_count ∷
    message 12 FeatureLevel (name ∷ raw 2 ∷ []) done ∷
    message 15 ProducerIds (broker ∷ raw 8 ∷ raw 8 ∷ []) done ∷ []

unfoldable pub by_api_key : ℕ → List Message → Option Message
by_api_key n [] = none
by_api_key n (m ∷ ms) = cond (eqb m.key n) (some m) (by_api_key n ms)

unfoldable pub by_kind : Kind → List Message → Option Message
by_kind k [] = none
by_kind k (m ∷ ms) = cond (eqb (kind_number m.kind) (kind_number k)) (some m) (by_kind k ms)

-- the fields from a tag on
unfoldable pub read_fields : Bool → ℕ → List Form → Run → Bytes → Taken Run
read_fields strict tag [] others s = took others s
read_fields strict tag (f ∷ fs) others s =
    and_then (read_field strict f s) λ v rest. and_then (read_fields strict (suc tag) fs others rest) λ r end. took (item tag v r) end

unfoldable pub fields_bytes : ℕ → List Form → Run → Bytes
fields_bytes tag [] r = []
fields_bytes tag (f ∷ fs) r = field_bytes f (value tag r) ++ fields_bytes (suc tag) fs r

unfoldable pub all_hold : ℕ → List Form → Run → Bool
all_hold tag [] r = true
all_hold tag (f ∷ fs) r = field_holds f (value tag r) && all_hold (suc tag) fs r

-- "tagged fields are skipped, whatever their tags": each a tag, a size and so many bytes
unfoldable pub skip_tagged : ℕ → Bytes → Taken ℕ
skip_tagged zero s = took 0 s
skip_tagged (suc count) s =
    and_then (read_varint false s) λ tag s. and_then (read_varint false s) λ size s. and_then (read_fixed size s) λ v s. skip_tagged count s

-- none of them, where it is read strictly
abbrev pub tagged : Bool → ℕ → Bytes → Taken ℕ
tagged false count s = skip_tagged count s
tagged true zero s = took 0 s
tagged true (suc count) s = bad 4

-- 5. "reading judges the parts in byte order": the frame's version, the message's key and version, its fields, its tagged fields

abbrev pub frame_version : ℕ
frame_version = 1

abbrev pub message_version : ℕ
message_version = 0

unfoldable pub read_tagged : Bool → Rec → Bytes → Taken Rec
read_tagged strict r s = and_then (read_varint strict s) λ count s. and_then (tagged strict count s) λ n s. took r s

unfoldable pub read_message : Bool → Message → Bytes → Taken Rec
read_message strict m s = and_then (read_fields strict 1 m.forms m.others s) λ run s. read_tagged strict (rec m.kind run) s

unfoldable pub read_version : Bool → Message → Bytes → Taken Rec
read_version strict m s = and_then (read_varint strict s) λ version s. cond (eqb version message_version) (read_message strict m s) (bad 4)

unfoldable pub read_key : Bool → Bytes → Taken Rec
read_key strict s = and_then (read_varint strict s) λ key s. given (by_api_key key messages) (bad 3) (λ m. read_version strict m s)

unfoldable pub read_kafka : Bool → Bytes → Taken Rec
read_kafka strict s = and_then (read_varint strict s) λ frame s. cond (eqb frame frame_version) (read_key strict s) (bad 4)

-- our record's bytes into the output: how many, and the bytes of the input that were used; "as Read, it says the bytes used"
abbrev pub on_taken : {A B : Type 0} → Taken A → (ℕ → B) → (A → Bytes → B) → B
on_taken (bad n) f g = f n
on_taken (took a s) f g = g a s

unfoldable pub read_kafka_of : Bytes → Bytes → Ended
read_kafka_of input out =
    on_taken (read_kafka false input) (λ n. unchanged n out) λ r rest. also_says ((length input - length rest) ∷ []) (emit_bytes (record_bytes r) out)

-- 6. "Writing has Read's, then 3 for a kind beyond these, then 27, a number Kafka's field can't hold, then 19."

unfoldable pub kafka_bytes : Message → Run → Bytes
kafka_bytes m r = varint frame_version ++ (varint m.key ++ (varint message_version ++ (fields_bytes 1 m.forms r ++ varint 0)))

unfoldable pub write_kafka_of : Bytes → Bytes → Ended
write_kafka_of input out =
    on_got (read framed input) (λ n. unchanged n out) λ r used.
    given (by_kind r.kind messages) (unchanged 3 out) λ m.
    cond (all_hold 1 m.forms r.run) (emit_bytes (kafka_bytes m r.run) out) (unchanged 27 out)

-- 7. The two round trips

-- a topic's count and replication factor are 0
unfoldable pub uncounted : Rec → Rec
uncounted r =
    cond (eqb (kind_number r.kind) (kind_number Topic)) (rec r.kind (set_field 4 (bytes 2 0) (set_field 3 (bytes 4 0) r.run))) r

-- "A written record reads back alike but for these two": all of the bytes are used
abbrev pub KafkaReadsBack : Type 0
KafkaReadsBack =
    (input out own : Bytes) (r : Rec) (used : ℕ) → AreBytes input → read framed input ≡ got r used →
    eqb (write_kafka_of input out).reply.number 0 ≡ true →
    let s = written (write_kafka_of input out) in
    read_kafka_of s own ≡ also_says (length s ∷ []) (emit_bytes (record_bytes (uncounted r)) own)

-- "and a read one with shortest varints and no tagged fields writes back to its bytes"
abbrev pub KafkaWritesBack : Type 0
KafkaWritesBack =
    (input out own : Bytes) (r : Rec) (rest : Bytes) → AreBytes input → read_kafka true input ≡ took r rest →
    eqb (read_kafka_of input out).reply.number 0 ≡ true →
    write_kafka_of (written (read_kafka_of input out)) own ≡ emit_bytes (take (length input - length rest) input) own

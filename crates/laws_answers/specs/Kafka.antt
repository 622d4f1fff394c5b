-- The bytes written where Kafka's record bytes are read or written are below 2^32, whatever the operation is given.
use Rattle.std.specs.Prelude.{◌≡◌, refl, Bool, true, false, cond, List, [], ◌∷◌, ◌++◌, ℕ, zero, suc, ◌+◌, ◌-◌, ◌*◌, ◌/◌, ◌%◌, ◌≤◌, ◌<◌, leb, ltb, eqb, length, take, drop}
use Rattle.std.proofs.Common.{sym, ap, ◌∙◌, arith, length-append, length-take, leb-true}
use Rattle.std.proofs.Math.Option.{Option, none, some}
use Rattle.model.specs.Choice.{given, unless}
use Rattle.model.specs.Number.{Bytes, number, bytes, is_negative}
use Rattle.model.specs.Run.{Run, done, torn, item, bytes_of, field, value, or_empty}
use Rattle.model.specs.Kind.{kind_number}
use Rattle.model.specs.Text.{is_text}
use Rattle.model.specs.Shape.{string_limit, text_fault, framed, fault}
use Rattle.model.specs.Record.{Rec, rec, record_bytes, Got, bad, got, read, on_got}
use Rattle.model.specs.Reply.{unchanged, emit_bytes, also_says}
use Rattle.model.specs.Kafka as Kafka
use Rattle.model.specs.Kafka.{Taken, took, and_then, unless_wrong, varint_bytes, varint, read_varint, text_of, read_string, read_fixed, Form, name, raw, broker, read_field, field_bytes}
use Rattle.model.specs.Kafka.{Message, messages, by_api_key, by_kind, read_fields, fields_bytes, all_hold, tagged, read_tagged, read_message, read_version, read_key, read_kafka, on_taken, read_kafka_of, kafka_bytes, write_kafka_of}
use Rattle.model.specs.declared.Kind.{Kind}
use Rattle.laws.specs.Choice.{or_then_right, unless_true}
use Rattle.laws.specs.Lists.{All}
use Rattle.laws.specs.Numbers.{length-bytes}
use Rattle.laws_records.specs.Lengths.{longest_body}
use Rattle.laws_records.specs.Runs.{length_item}
use Rattle.laws_records.specs.Records.{length_record, reads}
use Rattle.laws_records.specs.Faults.{fault-length}
use Rattle.laws_answers.specs.Values.{Below, none_below, emit-below}
use Rattle.laws_answers.specs.Jobs.{said-below}

-- 1. What holds of whatever is taken, or found

abbrev Each : {A : Type 0} → (A → Type 0) → Taken A → Type 0
Each P (Kafka.bad n) = Unit {0}
Each P (took a s) = P a

each_then : {A B : Type 0} (Q : A → Type 0) (P : B → Type 0) (t : Taken A) (f : A → Bytes → Taken B) → Each Q t
    → ((a : A) (s : Bytes) → Q a → Each P (f a s)) → Each P (and_then t f)
each_then Q P (Kafka.bad n) f q h = tt
each_then Q P (took a s) f q h = h a s q

anything : {A : Type 0} → A → Type 0
anything a = Unit {0}

each_any : {A : Type 0} (t : Taken A) → Each anything t
unfolding anything
each_any (Kafka.bad n) = tt
each_any (took a s) = tt

abbrev Found : (Message → Type 0) → Option Message → Type 0
Found P none = Unit {0}
Found P (some m) = P m

found-key : (P : Message → Type 0) (n : ℕ) (ms : List Message) → All P ms → Found P (by_api_key n ms)
unfolding by_api_key
found-key P n [] u = tt
found-key P n (m ∷ ms) u = go (eqb m.key n) (found-key P n ms u.1)
  where
    go : (b : Bool) → Found P (by_api_key n ms) → Found P (cond b (some m) (by_api_key n ms))
    go true f = u.0
    go false f = f

found_kind : (P : Message → Type 0) (k : Kind) (ms : List Message) → All P ms → Found P (by_kind k ms)
unfolding by_kind
found_kind P k [] u = tt
found_kind P k (m ∷ ms) u = go (eqb (kind_number m.kind) (kind_number k)) (found_kind P k ms u.1)
  where
    go : (b : Bool) → Found P (by_kind k ms) → Found P (cond b (some m) (by_kind k ms))
    go true f = u.0
    go false f = f

-- 2. A record that is read: its fields are short

abbrev most : Form → ℕ
most name = 255
most (raw width) = width
most broker = 8

abbrev most_all : List Form → ℕ
most_all [] = 0
most_all (f ∷ fs) = 3 + most f + most_all fs

text_each : (n : ℕ) (s : Bytes) → Each (λ v. length v ≤ 255) (text_of n s)
text_each zero s = tt
text_each (suc n) s = go (ltb (length s) n) (text_fault string_limit (take n s)) refl
  where
    go : (b : Bool) (f : ℕ) → text_fault string_limit (take n s) ≡ f
        → Each (λ v. length v ≤ 255) (cond b (Kafka.bad 2) (unless_wrong f (take n s) (drop n s)))
    go true f e = tt
    go false zero e =
        leb-true (length (take n s)) string_limit
        (unless_true (leb (length (take n s)) string_limit) 5 (omega arith)
        (or_then_right (unless (is_text (take n s)) 4) (unless (leb (length (take n s)) string_limit) 5) e))
    go false (suc f) e = tt

fixed_each : (width : ℕ) (s : Bytes) → Each (λ v. length v ≤ width) (read_fixed width s)
unfolding read_fixed
fixed_each width s = go (ltb (length s) width)
  where
    go : (b : Bool) → Each (λ v. length v ≤ width) (cond b (Kafka.bad 2) (took (take width s) (drop width s)))
    go true = tt
    go false = simp length-take (omega arith)

field_each : (f : Form) (s : Bytes) → Each (λ v. length v ≤ most f) (read_field false f s)
unfolding read_field read_string
field_each name s = each_then anything (λ v. length v ≤ 255) (read_varint false s) text_of (each_any (read_varint false s)) (λ n t u. text_each n t)
field_each (raw width) s = fixed_each width s
field_each broker s =
    each_then anything (λ v. length v ≤ 8) (read_fixed 4 s) (λ v rest. cond (is_negative 4 (number v)) (Kafka.bad 4) (took (bytes 8 (number v)) rest))
    (each_any (read_fixed 4 s)) (λ v rest u. go v rest (is_negative 4 (number v)))
  where
    go : (v rest : Bytes) (b : Bool) → Each (λ x. length x ≤ 8) (cond b (Kafka.bad 4) (took (bytes 8 (number v)) rest))
    go v rest true = tt
    go v rest false = omega (arith, length-bytes 8 (number v))

abbrev Within : ℕ → Run → Type 0
Within n r = length (bytes_of r) ≤ n

fields_each : (tag : ℕ) (fs : List Form) (others : Run) (s : Bytes) → Each (Within (most_all fs + length (bytes_of others))) (read_fields false tag fs others s)
unfolding read_fields
fields_each tag [] others s = omega arith
fields_each tag (f ∷ fs) others s =
    each_then (λ v. length v ≤ most f) (Within (most_all (f ∷ fs) + length (bytes_of others))) (read_field false f s)
    (λ v rest. and_then (read_fields false (suc tag) fs others rest) λ r end. took (item tag v r) end)
    (field_each f s) λ v rest short.
    each_then (Within (most_all fs + length (bytes_of others))) (Within (most_all (f ∷ fs) + length (bytes_of others))) (read_fields false (suc tag) fs others rest)
    (λ r end. took (item tag v r) end)
    (fields_each (suc tag) fs others rest) λ r end h.
    omega (arith, length_item tag v r, short, h)

abbrev limit : ℕ
limit = 1000

abbrev Small : Rec → Type 0
Small r = length (record_bytes r) ≤ limit

abbrev Low : Message → Type 0
Low m = (3 + (most_all m.forms + length (bytes_of m.others)) ≤ limit) × (length m.forms ≤ 3)

all_low : All Low messages
unfolding messages bytes_of
all_low = ((omega arith, omega arith), ((omega arith, omega arith), ((omega arith, omega arith), ((omega arith, omega arith), tt))))

tagged_each : (r : Rec) → Small r → (s : Bytes) → Each Small (read_tagged false r s)
unfolding read_tagged
tagged_each r h s =
    each_then anything Small (read_varint false s) (λ count t. and_then (tagged false count t) λ n u. took r u) (each_any (read_varint false s)) λ count t u.
    each_then anything Small (tagged false count t) (λ n w. took r w) (each_any (tagged false count t)) λ n w x. h

message_each : (m : Message) → Low m → (s : Bytes) → Each Small (read_message false m s)
unfolding read_message
message_each m low s =
    each_then (Within (most_all m.forms + length (bytes_of m.others))) Small (read_fields false 1 m.forms m.others s)
    (λ run t. read_tagged false (rec m.kind run) t)
    (fields_each 1 m.forms m.others s) λ run t h.
    tagged_each (rec m.kind run) (omega (arith, length_record (rec m.kind run), h, low.0)) t

version_each : (m : Message) → Low m → (s : Bytes) → Each Small (read_version false m s)
unfolding read_version
version_each m low s =
    each_then anything Small (read_varint false s) (λ version t. cond (eqb version 0) (read_message false m t) (Kafka.bad 4)) (each_any (read_varint false s))
    λ version t u. go t (eqb version 0)
  where
    go : (t : Bytes) (b : Bool) → Each Small (cond b (read_message false m t) (Kafka.bad 4))
    go t true = message_each m low t
    go t false = tt

key_each : (s : Bytes) → Each Small (read_key false s)
unfolding read_key
key_each s =
    each_then anything Small (read_varint false s) (λ key t. given (by_api_key key messages) (Kafka.bad 3) (λ m. read_version false m t)) (each_any (read_varint false s))
    λ key t u. go t (by_api_key key messages) (found-key Low key messages all_low)
  where
    go : (t : Bytes) (o : Option Message) → Found Low o → Each Small (given o (Kafka.bad 3) (λ m. read_version false m t))
    go t none f = tt
    go t (some m) f = version_each m f t

kafka_each : (s : Bytes) → Each Small (read_kafka false s)
unfolding read_kafka
kafka_each s =
    each_then anything Small (read_varint false s) (λ frame t. cond (eqb frame 1) (read_key false t) (Kafka.bad 4)) (each_any (read_varint false s))
    λ frame t u. go t (eqb frame 1)
  where
    go : (t : Bytes) (b : Bool) → Each Small (cond b (read_key false t) (Kafka.bad 4))
    go t true = key_each t
    go t false = tt

pub kafka_read-below : (input out : Bytes) → Below (read_kafka_of input out).reply
unfolding read_kafka_of
kafka_read-below input out = go (read_kafka false input) (kafka_each input)
  where
    go : (t : Taken Rec) → Each Small t
        → Below (on_taken t (λ n. unchanged n out) (λ r rest. also_says ((length input - length rest) ∷ []) (emit_bytes (record_bytes r) out))).reply
    go (Kafka.bad n) h = none_below n
    go (took r rest) h = said-below (record_bytes r) out ((length input - length rest) ∷ []) (omega (arith, h))

-- 3. A record that is written: its message is hardly longer than its fields

varint-short : (more n : ℕ) → length (varint_bytes more n) ≤ suc more
unfolding varint_bytes
varint-short zero n = omega arith
varint-short (suc more) n = go (ltb n 128) (varint-short more (n / 128))
  where
    go : (b : Bool) → length (varint_bytes more (n / 128)) ≤ suc more
        → length (cond b (n ∷ []) ((n % 128 + 128) ∷ varint_bytes more (n / 128))) ≤ suc (suc more)
    go true h = omega arith
    go false h = omega arith

value-shorter : (tag : ℕ) (r : Run) → length (value tag r) ≤ length (bytes_of r)
unfolding field
value-shorter tag done = omega arith
value-shorter tag torn = omega arith
value-shorter tag (item t v r) = go (eqb t tag) (value-shorter tag r)
  where
    go : (b : Bool) → length (value tag r) ≤ length (bytes_of r) → length (or_empty (cond b (some v) (field tag r))) ≤ length (bytes_of (item t v r))
    go true h = omega (arith, length_item t v r)
    go false h = omega (arith, length_item t v r)

field-short : (f : Form) (v : Bytes) → length (field_bytes f v) ≤ 5 + length v
unfolding field_bytes
field-short name v = omega (arith, length-append (varint (suc (length v))) v, varint-short 4 (suc (length v)))
field-short (raw width) v = omega arith
field-short broker v = omega (arith, length-bytes 4 (number v))

fields-short : (tag : ℕ) (fs : List Form) (r : Run) → length (bytes_of r) ≤ longest_body → length (fields_bytes tag fs r) ≤ length fs * (5 + longest_body)
unfolding fields_bytes
fields-short tag [] r h = omega arith
fields-short tag (f ∷ fs) r h =
    omega (
      arith,
      length-append (field_bytes f (value tag r)) (fields_bytes (suc tag) fs r),
      field-short f (value tag r),
      value-shorter tag r,
      fields-short (suc tag) fs r h,
    )

message-short : (m : Message) → length m.forms ≤ 3 → (r : Run) → length (bytes_of r) ≤ longest_body → length (kafka_bytes m r) < 4294967296
unfolding kafka_bytes
message-short m few r h =
    let fields = fields_bytes 1 m.forms r in
    omega (
      arith,
      length-append (varint 1) (varint m.key ++ (varint 0 ++ (fields ++ varint 0))),
      length-append (varint m.key) (varint 0 ++ (fields ++ varint 0)),
      length-append (varint 0) (fields ++ varint 0),
      length-append fields (varint 0),
      varint-short 4 1,
      varint-short 4 m.key,
      varint-short 4 0,
      fields-short 1 m.forms r h,
    )

pub kafka_write_below : (input out : Bytes) → Below (write_kafka_of input out).reply
unfolding write_kafka_of
kafka_write_below input out = go (read framed input) refl
  where
    held : (r : Rec) (m : Message) → fault framed r.kind r.run ≡ 0 → Low m → (b : Bool)
        → Below (cond b (emit_bytes (kafka_bytes m r.run) out) (unchanged 27 out)).reply
    held r m ok low true = emit-below (kafka_bytes m r.run) out (message-short m low.1 r.run (fault-length framed r.kind r.run ok))
    held r m ok low false = none_below 27

    sent : (r : Rec) → fault framed r.kind r.run ≡ 0 → (o : Option Message) → Found Low o
        → Below (given o (unchanged 3 out) (λ m. cond (all_hold 1 m.forms r.run) (emit_bytes (kafka_bytes m r.run) out) (unchanged 27 out))).reply
    sent r ok none f = none_below 3
    sent r ok (some m) f = held r m ok f (all_hold 1 m.forms r.run)

    go : (g : Got) → read framed input ≡ g
        → Below (on_got g (λ n. unchanged n out) (λ r used. given (by_kind r.kind messages) (unchanged 3 out) λ m. cond (all_hold 1 m.forms r.run) (emit_bytes (kafka_bytes m r.run) out) (unchanged 27 out))).reply
    go (bad n) e = none_below n
    go (got r used) e = sent r (reads framed input r used e).passes (by_kind r.kind messages) (found_kind Low r.kind messages all_low)

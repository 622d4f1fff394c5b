-- The two round trips, of the operations.
use Rattle.std.specs.Prelude.{◌≡◌, refl, Bool, true, false, cond, ◌&&◌, [], ◌∷◌, ◌++◌, ℕ, ◌-◌, ◌<◌, leb, ltb, eqb, length, take, drop}
use Rattle.std.proofs.Common.{sym, ap, ap₂, ◌∙◌, append-nil, arith, length-append, ltb-true, lt-ltb}
use Rattle.std.proofs.Math.Option.{Option, none, some}
use Rattle.std.proofs.Math.Seq.{take-append_seam}
use Rattle.model.specs.Choice.{given}
use Rattle.model.specs.Number.{Bytes, number, bytes, half}
use Rattle.model.specs.Run.{Run, done, item, value, set_field}
use Rattle.model.specs.Kind.{kind_number}
use Rattle.model.specs.Shape.{text, fixed, string_limit, text_fault, rows_of, any_required, may_follow, leaf_fault, run_fault, value_fault, framed, shape_of, fault}
use Rattle.model.specs.Record.{Rec, rec, record_bytes, got, read}
use Rattle.model.specs.Reply.{accepted, Ended, unchanged, emit_bytes, also_says}
use Rattle.model.specs.History.{written}
use Rattle.model.specs.Kafka.{took, name, raw, broker, field_holds, Message, no_count, messages, by_kind, all_hold, read_kafka, read_kafka_of, kafka_bytes, write_kafka_of}
use Rattle.model.specs.Kafka.{uncounted, KafkaReadsBack, KafkaWritesBack}
use Rattle.model.specs.declared.Kind.TheVariants.{Topic, ProducerIds, UnregisterBroker, FeatureLevel}
use Rattle.laws.specs.Choice.{true_false, and_left}
use Rattle.laws.specs.Lists.{All, in_all}
use Rattle.laws_records.specs.Runs.{AreFields}
use Rattle.laws_records.specs.Fields.{value_are_bytes}
use Rattle.laws_records.specs.Forms.{LeafFits, fits_leaf, fits_value}
use Rattle.laws_records.specs.Faults.{fault-value}
use Rattle.laws_records.specs.Records.{read_record, reads, fields_read}
use Rattle.laws_image.specs.Required.{required_run}
use Rattle.laws_kafka.specs.Kafka.{kept, AllFit, Known, all_known, kind_in_lem, read-written, written_read}

-- 1. A record of ours that passes: its fields fit their messages, and they are all but a topic's two

abbrev Sent : Message → Type 0
Sent m =
    (run : Run) → AreFields run → fault framed m.kind run ≡ 0 → all_hold 1 m.forms run ≡ true →
    AllFit 1 m.forms run × (rec m.kind (kept 1 m.forms m.others run) ≡ uncounted (rec m.kind run))

low : (v : Bytes) (b : Bool) → ltb (number v) (half 4) && b ≡ true → number v < half 4
low v b h = ltb-true (number v) (half 4) (and_left (ltb (number v) (half 4)) b h)

named : (v : Bytes) → LeafFits none (text string_limit) v → text_fault string_limit v ≡ 0
unfolding leaf_fault
named v h = fits_leaf none (text string_limit) v h

leaf_value : (v : Bytes) → text_fault string_limit v ≡ 0 → value_fault none (text string_limit) v ≡ 0
unfolding value_fault leaf_fault
leaf_value v h = h

all_sent : All Sent messages
unfolding messages kind_number rows_of shape_of all_hold field_holds kept uncounted set_field
all_sent = (unregister, (topic, (level, (producers, tt))))
  where
    unregister : (run : Run) → AreFields run → fault framed UnregisterBroker run ≡ 0 → ltb (number (value 1 run)) (half 4) && (true && true) ≡ true
        → AllFit 1 (broker ∷ raw 8 ∷ []) run × (rec UnregisterBroker (item 1 (value 1 run) (item 2 (value 2 run) done)) ≡ rec UnregisterBroker run)
    unregister run fields ok h =
        let one = fault-value framed UnregisterBroker run ok 1 refl refl in
        let two = fault-value framed UnregisterBroker run ok 2 refl refl in
        let e : run ≡ item 1 (value 1 run) (item 2 (value 2 run) done) = required_run framed UnregisterBroker run ok refl in
        (((one, value_are_bytes 1 run fields, low (value 1 run) (true && true) h), (two, tt)), ap (rec UnregisterBroker) (sym e))

    producers : (run : Run) → AreFields run → fault framed ProducerIds run ≡ 0 → ltb (number (value 1 run)) (half 4) && (true && (true && true)) ≡ true
        → AllFit 1 (broker ∷ raw 8 ∷ raw 8 ∷ []) run
        × (rec ProducerIds (item 1 (value 1 run) (item 2 (value 2 run) (item 3 (value 3 run) done))) ≡ rec ProducerIds run)
    producers run fields ok h =
        let one = fault-value framed ProducerIds run ok 1 refl refl in
        let two = fault-value framed ProducerIds run ok 2 refl refl in
        let three = fault-value framed ProducerIds run ok 3 refl refl in
        let e : run ≡ item 1 (value 1 run) (item 2 (value 2 run) (item 3 (value 3 run) done)) = required_run framed ProducerIds run ok refl in
        (((one, value_are_bytes 1 run fields, low (value 1 run) (true && (true && true)) h), (two, (three, tt))), ap (rec ProducerIds) (sym e))

    level : (run : Run) → AreFields run → fault framed FeatureLevel run ≡ 0 → true && (true && true) ≡ true
        → AllFit 1 (name ∷ raw 2 ∷ []) run × (rec FeatureLevel (item 1 (value 1 run) (item 2 (value 2 run) done)) ≡ rec FeatureLevel run)
    level run fields ok h =
        let one = fault-value framed FeatureLevel run ok 1 refl refl in
        let two = fault-value framed FeatureLevel run ok 2 refl refl in
        let e : run ≡ item 1 (value 1 run) (item 2 (value 2 run) done) = required_run framed FeatureLevel run ok refl in
        ((named (value 1 run) one, (two, tt)), ap (rec FeatureLevel) (sym e))

    topic : (run : Run) → AreFields run → fault framed Topic run ≡ 0 → true && (true && true) ≡ true
        → AllFit 1 (name ∷ raw 16 ∷ []) run
        × (rec Topic (item 1 (value 1 run) (item 2 (value 2 run) no_count)) ≡ rec Topic (set_field 4 (bytes 2 0) (set_field 3 (bytes 4 0) run)))
    topic run fields ok h =
        let one = fault-value framed Topic run ok 1 refl refl in
        let two = fault-value framed Topic run ok 2 refl refl in
        let e : run ≡ item 1 (value 1 run) (item 2 (value 2 run) (item 3 (value 3 run) (item 4 (value 4 run) done))) = required_run framed Topic run ok refl in
        ((named (value 1 run) one, (two, tt)), sym (ap (λ x. rec Topic (set_field 4 (bytes 2 0) (set_field 3 (bytes 4 0) x))) e))

-- 2. A record that was read passes, and its message holds it

abbrev Came : Message → Type 0
Came m =
    (run : Run) → AllFit 1 m.forms run → run ≡ kept 1 m.forms m.others run →
    (fault framed m.kind run ≡ 0) × (all_hold 1 m.forms run ≡ true)

all_came : All Came messages
unfolding messages kind_number rows_of shape_of any_required may_follow run_fault all_hold field_holds kept
all_came = (unregister, (topic, (level, (producers, tt))))
  where
    unregister : Came (record { key = 1; kind = UnregisterBroker; forms = broker ∷ raw 8 ∷ []; others = done })
    unregister run fit e = (
      ap (fault framed UnregisterBroker) e
          ∙ rw (fits_value none (fixed 8) (value 1 run) fit.0.0, fits_value none (fixed 8) (value 2 run) fit.1.0),
      rw (lt-ltb (number (value 1 run)) (half 4) fit.0.2),
    )

    producers : Came (record { key = 15; kind = ProducerIds; forms = broker ∷ raw 8 ∷ raw 8 ∷ []; others = done })
    producers run fit e = (
      ap (fault framed ProducerIds) e
          ∙ rw (
            fits_value none (fixed 8) (value 1 run) fit.0.0,
            fits_value none (fixed 8) (value 2 run) fit.1.0,
            fits_value none (fixed 8) (value 3 run) fit.1.1.0,
          ),
      rw (lt-ltb (number (value 1 run)) (half 4) fit.0.2),
    )

    level : Came (record { key = 12; kind = FeatureLevel; forms = name ∷ raw 2 ∷ []; others = done })
    level run fit e = (
      ap (fault framed FeatureLevel) e ∙ rw (leaf_value (value 1 run) fit.0, fits_value none (fixed 2) (value 2 run) fit.1.0),
      refl,
    )

    topic : Came (record { key = 2; kind = Topic; forms = name ∷ raw 16 ∷ []; others = no_count })
    topic run fit e = (
      ap (fault framed Topic) e
          ∙ rw (
            leaf_value (value 1 run) fit.0,
            fits_value none (fixed 16) (value 2 run) fit.1.0,
            fits_value none (fixed 4) (bytes 4 0) refl,
            fits_value none (fixed 2) (bytes 2 0) refl,
          ),
      refl,
    )

-- 3. Outputs

emitted : (s out : Bytes) → eqb (emit_bytes s out).reply.number 0 ≡ true → written (emit_bytes s out) ≡ s
unfolding emit_bytes
emitted s out h = go (leb (length s) (length out)) h
  where
    whole : Bool → Ended
    whole b = cond b (record { reply = accepted (length s ∷ []); buffer = s ++ drop (length s) out }) (unchanged 19 out)

    go : (b : Bool) → eqb (whole b).reply.number 0 ≡ true → written (whole b) ≡ s
    go true q = take-append_seam s (drop (length s) out)
    go false q = absurd (true_false q refl)

also_emitted : (n : ℕ) (s out : Bytes) → eqb (also_says (n ∷ []) (emit_bytes s out)).reply.number 0 ≡ true → written (also_says (n ∷ []) (emit_bytes s out)) ≡ s
unfolding emit_bytes
also_emitted n s out h = go (leb (length s) (length out)) h
  where
    whole : Bool → Ended
    whole b = also_says (n ∷ []) (cond b (record { reply = accepted (length s ∷ []); buffer = s ++ drop (length s) out }) (unchanged 19 out))

    go : (b : Bool) → eqb (whole b).reply.number 0 ≡ true → written (whole b) ≡ s
    go true q = take-append_seam s (drop (length s) out)
    go false q = absurd (true_false q refl)

-- 4. "A written record reads back alike but for these two"

abbrev writing : Option Message → Rec → Bytes → Ended
writing o r out = given o (unchanged 3 out) (λ m. cond (all_hold 1 m.forms r.run) (emit_bytes (kafka_bytes m r.run) out) (unchanged 27 out))

record Wrote (o : Option Message) (r : Rec) (out : Bytes) : Type 0 where
  of : Message
  is : o ≡ some of
  holds : all_hold 1 of.forms r.run ≡ true
  bytes_are : written (writing o r out) ≡ kafka_bytes of r.run

wrote : (o : Option Message) (r : Rec) (out : Bytes) → eqb (writing o r out).reply.number 0 ≡ true → Wrote o r out
wrote none r out h = absurd (true_false h refl)
wrote (some m) r out h = go (all_hold 1 m.forms r.run) refl h
  where
    go : (b : Bool) → all_hold 1 m.forms r.run ≡ b
        → eqb (cond b (emit_bytes (kafka_bytes m r.run) out) (unchanged 27 out)).reply.number 0 ≡ true → Wrote (some m) r out
    go true e q = record { of = m; is = refl; holds = e; bytes_are = rw e (emitted (kafka_bytes m r.run) out q) }
    go false e q = absurd (true_false q refl)

pub kafka_reads_back : KafkaReadsBack
unfolding write_kafka_of read_kafka_of
kafka_reads_back input out own r used are e said =
    let made : write_kafka_of input out ≡ writing (by_kind r.kind messages) r out = rw e in
    let w = wrote (by_kind r.kind messages) r out (rw made at said) in
    let m = w.of in
    let i = kind_in_lem r.kind messages m w.is in
    let s : written (write_kafka_of input out) ≡ kafka_bytes m r.run = ap written made ∙ w.bytes_are in
    let ok : fault framed m.kind r.run ≡ 0 = ap (λ k. fault framed k r.run) i.1 ∙ (reads framed input r used e).passes in
    let t = in_all Sent messages all_sent m i.0 r.run (fields_read framed input r used are e) ok w.holds in
    let back = read-written false m (in_all Known messages all_known m i.0) r.run [] t.0 in
    let same : rec m.kind (kept 1 m.forms m.others r.run) ≡ uncounted r = t.1 ∙ ap (λ k. uncounted (rec k r.run)) i.1 in
    let all : read_kafka false (kafka_bytes m r.run) ≡ took (uncounted r) [] =
    ap (read_kafka false) (sym (append-nil (kafka_bytes m r.run))) ∙ back ∙ ap (λ x. took x []) same in
    let n : length (kafka_bytes m r.run) - 0 ≡ length (kafka_bytes m r.run) = omega arith in
    let mid : read_kafka_of (kafka_bytes m r.run) own ≡ also_says (length (kafka_bytes m r.run) ∷ []) (emit_bytes (record_bytes (uncounted r)) own) =
    rw (all, n) in
    ap (λ x. read_kafka_of x own) s
    ∙ mid
    ∙ ap (λ x. also_says (length x ∷ []) (emit_bytes (record_bytes (uncounted r)) own)) (sym s)

-- 5. "a read one with shortest varints and no tagged fields writes back to its bytes"

pub kafka_writes_back : KafkaWritesBack
unfolding write_kafka_of read_kafka_of
kafka_writes_back input out own r rest are e said =
    let b = written_read input r rest are e in
    let m = b.of in
    let n : ℕ = length input - length rest in
    let made : read_kafka_of input out ≡ also_says (n ∷ []) (emit_bytes (record_bytes r) out) = rw b.loosely in
    let s : written (read_kafka_of input out) ≡ record_bytes r = ap written made ∙ also_emitted n (record_bytes r) out (rw made at said) in
    let t = in_all Came messages all_came m b.listed r.run b.fit b.all in
    let ok : fault framed r.kind r.run ≡ 0 = ap (λ k. fault framed k r.run) (sym b.kind_is) ∙ t.0 in
    let again : read framed (record_bytes r) ≡ got r (length (record_bytes r)) =
    ap (read framed) (sym (append-nil (record_bytes r))) ∙ read_record framed r [] ok in
    let k = kafka_bytes m r.run in
    let long : length input - length rest ≡ length k = omega (arith, ap length b.bytes_are, length-append k rest) in
    let front : take (length input - length rest) input ≡ k = ap₂ (λ x y. take x y) long b.bytes_are ∙ take-append_seam k rest in
    let mid : write_kafka_of (record_bytes r) own ≡ emit_bytes k own = rw (again, b.known, t.1) in
    ap (λ x. write_kafka_of x own) s ∙ mid ∙ ap (λ x. emit_bytes x own) (sym front)

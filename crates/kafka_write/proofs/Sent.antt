-- A record that was read, by its kind: the fields that it has, and the message that it is sent as.
use mathlib.Core.Path.{◌≡◌, refl, sym, ap, ap₂, ◌∙◌, subst}
use mathlib.Core.Bool.{Bool, true, false, cond, ◌&&◌}
use mathlib.Core.List.{[], ◌∷◌, ◌++◌, append_assoc}
use mathlib.Core.Option.{none}
use Prim.Native.Nat.{ℕ, suc, ◌≤◌}
use native.Mathlib.Omega.{arith}
use lib.Dec.{leb, ltb}
use lib.ListN.{length, take}
use borrow.Author.Tests.{leb-true, eq-eqb, ne_eqb}
use Rattle.model.specs.Choice.{given, unless}
use Rattle.model.specs.Number.{Bytes, AreBytes, number, bytes, half}
use Rattle.model.specs.Run.{Run, done, item, field, value}
use Rattle.model.specs.Kind.{kind_number}
use Rattle.model.specs.Text.{is_text}
use Rattle.model.specs.Shape.{text, string_limit, rows_of, leaf_fault, framed, shape_of, fault}
use Rattle.model.specs.Record.{Rec, record_bytes, got, read, read_of}
use Rattle.model.specs.Reply.{Reply, accepted, refused, Ended, unchanged, emit_bytes}
use Rattle.model.specs.Kafka.{varint_bytes, varint, field_bytes, field_holds, messages, by_kind, fields_bytes, all_hold, kafka_bytes, write_kafka_of}
use Rattle.model.specs.declared.Kind.{Kind}
use Rattle.model.specs.declared.Kind.TheVariants.{Topic, Partition, BrokerRegistration, DeleteTopic, TopicConfig, BrokerConfig, ClientQuota, ProducerIds, UnregisterBroker, KRaftVersion, FeatureLevel, ClientMetricsConfig, FeaturesEpoch, PartitionDirAssignment}
use Rattle.model.specs.declared.Kind.TheVariants.{PartitionOffsetAdvance, GroupConfig, ControllerRegistration, TopicFreeze, BreakGlassProposal, DeleteBreakGlassProposal, PartitionElr, PartitionRecovery, PartitionUpdate, BrokerRegistrationChange, UnregisterController, LogOffset}
use Rattle.laws.specs.Choice.{or_then_right, unless_true}
use Rattle.laws_records.specs.Runs.{run-bytes}
use Rattle.laws_records.specs.Forms.{LeafFits, fits_leaf}
use Rattle.laws_records.specs.Faults.{fault-value, fault-whole, fault-short}
use Rattle.laws_records.specs.Records.{reads}
use Rattle.laws_image.specs.Kinds.{is_kind}
use Rattle.laws_image.specs.Required.{required_run}
use Rattle.records.proofs.Replies.{used_got, refused_bad}
use Rattle.keys.specs.Keys.{kind_in, run_in}
use Rattle.kafka_write.specs.Messages.{EndsAs, message_bytes, named_bytes, broker_ends, sent_by, NamedFits, BrokerFits, Sendable}

-- 1. The fields of the four kinds

name_short : (v : Bytes) → LeafFits none (text string_limit) v → length v ≤ 255
unfolding leaf_fault
name_short v h =
    leb-true (length v) string_limit
    (unless_true (leb (length v) string_limit) 5 (omega arith) (or_then_right (unless (is_text v) 4) (unless (leb (length v) string_limit) 5) (fits_leaf none (text string_limit) v h)))

module _ (run : Run) where
  topic_fits : fault framed Topic run ≡ 0 → NamedFits run
  unfolding rows_of shape_of kind_number
  topic_fits ok = (name_short (value 1 run) (fault-value framed Topic run ok 1 refl refl), omega (arith, fault-value framed Topic run ok 2 refl refl))

  level_fits : fault framed FeatureLevel run ≡ 0 → NamedFits run
  unfolding rows_of shape_of kind_number
  level_fits ok = (name_short (value 1 run) (fault-value framed FeatureLevel run ok 1 refl refl), omega (arith, fault-value framed FeatureLevel run ok 2 refl refl))

  producers_fit : fault framed ProducerIds run ≡ 0 → BrokerFits run
  unfolding rows_of shape_of kind_number
  producers_fit ok = (
    fault-value framed ProducerIds run ok 1 refl refl,
    omega (arith, fault-value framed ProducerIds run ok 2 refl refl),
    omega (arith, fault-value framed ProducerIds run ok 3 refl refl),
  )

  no_third : fault framed UnregisterBroker run ≡ 0 → value 3 run ≡ []
  unfolding rows_of shape_of kind_number field
  no_third ok =
      let e : run ≡ item 1 (value 1 run) (item 2 (value 2 run) done) = required_run framed UnregisterBroker run ok refl in ap (value 3) e

  unregistration_fits : fault framed UnregisterBroker run ≡ 0 → BrokerFits run
  unfolding rows_of shape_of kind_number
  unregistration_fits ok = (
    fault-value framed UnregisterBroker run ok 1 refl refl,
    omega (arith, fault-value framed UnregisterBroker run ok 2 refl refl),
    omega (arith, ap length (no_third ok)),
  )

-- 2. Their messages

one_byte : (varint 0 ≡ 0 ∷ []) × (varint 1 ≡ 1 ∷ []) × (varint 2 ≡ 2 ∷ []) × (varint 12 ≡ 12 ∷ []) × (varint 15 ≡ 15 ∷ [])
unfolding varint_bytes
one_byte = (refl, refl, refl, refl, refl)

in_frame : (key : ℕ) → varint key ≡ key ∷ [] → (body : Bytes)
    → varint 1 ++ (varint key ++ (varint 0 ++ (body ++ varint 0))) ≡ 1 ∷ key ∷ 0 ∷ (body ++ (0 ∷ []))
in_frame key e body = rw (e, one_byte.0, one_byte.1)

and-true : (b : Bool) → (b && true) ≡ b
and-true true = refl
and-true false = refl

abbrev sent_as : Kind → Run → Bytes → Ended
sent_as k run out =
    given (by_kind k messages) (unchanged 3 out) (λ m. cond (all_hold 1 m.forms run) (emit_bytes (kafka_bytes m run) out) (unchanged 27 out))

module _ (run : Run) (out : Bytes) where
  named_bytes_lem : (key : ℕ) → varint key ≡ key ∷ []
      → varint 1 ++ (varint key ++ (varint 0 ++ (((varint (suc (length (value 1 run))) ++ value 1 run) ++ (value 2 run ++ [])) ++ varint 0))) ≡ named_bytes key run
  named_bytes_lem key e =
      let size = varint (suc (length (value 1 run))) in
      let v = value 1 run in
      let w = value 2 run in
      in_frame key e ((size ++ v) ++ (w ++ []))
      ∙ ap (λ x. 1 ∷ key ∷ 0 ∷ x)
      (append_assoc (size ++ v) (w ++ []) (0 ∷ []) ∙ append_assoc size v ((w ++ []) ++ (0 ∷ [])) ∙ ap (λ x. size ++ (v ++ x)) (append_assoc w [] (0 ∷ [])))

  broker_held : (key : ℕ) (s : Bytes) → s ≡ message_bytes key (bytes 4 (number (value 1 run))) (value 2 run) (value 3 run) → (b : Bool)
      → b ≡ ltb (number (value 1 run)) (half 4) → broker_ends key run out ≡ cond b (emit_bytes s out) (unchanged 27 out)
  broker_held key s e b q = rw (q, e)

  message_sent : (k : Kind) → fault framed k run ≡ 0 → sent_by (kind_number k) run out ≡ sent_as k run out
  unfolding kind_number by_kind messages all_hold field_holds fields_bytes field_bytes kafka_bytes
  message_sent Topic ok = ap (λ s. emit_bytes s out) (sym (named_bytes_lem 2 one_byte.2))
  message_sent FeatureLevel ok = ap (λ s. emit_bytes s out) (sym (named_bytes_lem 12 one_byte.3))
  message_sent ProducerIds ok =
      let id = bytes 4 (number (value 1 run)) in
      let w = value 2 run in
      let y = value 3 run in
      broker_held 15 (varint 1 ++ (varint 15 ++ (varint 0 ++ ((id ++ (w ++ (y ++ []))) ++ varint 0))))
      (in_frame 15 one_byte.4 (id ++ (w ++ (y ++ [])))
      ∙ ap (λ x. 1 ∷ 15 ∷ 0 ∷ x)
      (append_assoc id (w ++ (y ++ [])) (0 ∷ [])
      ∙ ap (λ x. id ++ x) (append_assoc w (y ++ []) (0 ∷ []) ∙ ap (λ x. w ++ x) (append_assoc y [] (0 ∷ [])))))
      (ltb (number (value 1 run)) (half 4) && true) (and-true (ltb (number (value 1 run)) (half 4)))
  message_sent UnregisterBroker ok =
      let id = bytes 4 (number (value 1 run)) in
      let w = value 2 run in
      broker_held 1 (varint 1 ++ (varint 1 ++ (varint 0 ++ ((id ++ (w ++ [])) ++ varint 0))))
      (in_frame 1 one_byte.1 (id ++ (w ++ []))
      ∙ ap (λ x. 1 ∷ 1 ∷ 0 ∷ x) (append_assoc id (w ++ []) (0 ∷ []) ∙ ap (λ x. id ++ x) (append_assoc w [] (0 ∷ [])))
      ∙ ap (λ y. message_bytes 1 id w y) (sym (no_third run ok)))
      (ltb (number (value 1 run)) (half 4) && true) (and-true (ltb (number (value 1 run)) (half 4)))
  message_sent Partition ok = refl
  message_sent BrokerRegistration ok = refl
  message_sent DeleteTopic ok = refl
  message_sent TopicConfig ok = refl
  message_sent BrokerConfig ok = refl
  message_sent ClientQuota ok = refl
  message_sent KRaftVersion ok = refl
  message_sent ClientMetricsConfig ok = refl
  message_sent FeaturesEpoch ok = refl
  message_sent PartitionDirAssignment ok = refl
  message_sent PartitionOffsetAdvance ok = refl
  message_sent GroupConfig ok = refl
  message_sent ControllerRegistration ok = refl
  message_sent TopicFreeze ok = refl
  message_sent BreakGlassProposal ok = refl
  message_sent DeleteBreakGlassProposal ok = refl
  message_sent PartitionElr ok = refl
  message_sent PartitionRecovery ok = refl
  message_sent PartitionUpdate ok = refl
  message_sent BrokerRegistrationChange ok = refl
  message_sent UnregisterController ok = refl
  message_sent LogOffset ok = refl

-- 3. By the kind's number, as the code goes

module _ (kind : ℕ) (run : Run) (out : Bytes) {r : Reply} {v : Bytes} where
  pub by_topic : kind ≡ 1 → EndsAs r v (emit_bytes (named_bytes 2 run) out) → EndsAs r v (sent_by kind run out)
  by_topic e d = rw e d

  pub by_level : kind ≡ 11 → EndsAs r v (emit_bytes (named_bytes 12 run) out) → EndsAs r v (sent_by kind run out)
  by_level e d = rw e d

  pub by_producers : kind ≡ 8 → EndsAs r v (broker_ends 15 run out) → EndsAs r v (sent_by kind run out)
  by_producers e d = rw e d

  pub by_unregistration : kind ≡ 9 → EndsAs r v (broker_ends 1 run out) → EndsAs r v (sent_by kind run out)
  by_unregistration e d = rw e d

pub by_none : (kind : ℕ) (run : Run) (out : Bytes) → (kind ≡ 1 → ⊥) → (kind ≡ 11 → ⊥) → (kind ≡ 8 → ⊥) → (kind ≡ 9 → ⊥)
    → EndsAs (refused 3) out (sent_by kind run out)
by_none kind run out a b c d = rw (ne_eqb kind 1 a, ne_eqb kind 11 b, ne_eqb kind 8 c, ne_eqb kind 9 d) (refl, refl)

-- 4. The record that was read

abbrev EndsTo : Bytes → Bytes → Reply → Bytes → Type 0
EndsTo input out r v = EndsAs r v (write_kafka_of input out)

pub not_read : (input out : Bytes) {n : ℕ} → refused n ≡ read_of input → EndsTo input out (refused n) out
unfolding read_of write_kafka_of
not_read input out {n} e = rw (refused_bad (read framed input) n e) (refl, refl)

module _ (input out : Bytes) (are : AreBytes input) {n : ℕ} (e : accepted (n ∷ []) ≡ read_of input) where
  there : (r : Rec) × (read framed input ≡ got r n)
  unfolding read_of
  there = used_got (read framed input) n e

  abbrev it : Rec
  it = there.0

  passing : fault framed it.kind it.run ≡ 0
  passing = (reads framed input it n there.1).passes

  spelt : take n input ≡ record_bytes it
  spelt = (reads framed input it n there.1).spelt are

  kind_there : kind_in (take n input) ≡ kind_number it.kind
  kind_there = ap kind_in spelt ∙ first
    where
      first : kind_in (record_bytes it) ≡ kind_number it.kind
      first = unfold record_bytes in refl

  run-there : run_in (take n input) ≡ it.run
  run-there = ap run_in spelt ∙ body
    where
      body : run_in (record_bytes it) ≡ it.run
      body = unfold record_bytes in run-bytes it.run (fault-whole framed it.kind it.run passing) (fault-short framed it.kind it.run passing)

  pub used-within : n ≤ length input
  used-within = (reads framed input it n there.1).fits

  is : (k : Kind) → kind_in (take n input) ≡ kind_number k → fault framed k it.run ≡ 0
  is k h = subst (λ x. fault framed x it.run ≡ 0) (is_kind it.kind k (eq-eqb (kind_number it.kind) (kind_number k) (sym kind_there ∙ h))) passing

  pub sendable : Sendable (take n input)
  unfolding kind_number
  sendable =
      let d = reads framed input it n there.1 in
      record {
        headed = omega (arith, ap length spelt, d.used, d.head);
        topic = λ h. subst NamedFits (sym run-there) (topic_fits it.run (is Topic h));
        level = λ h. subst NamedFits (sym run-there) (level_fits it.run (is FeatureLevel h));
        producers = λ h. subst BrokerFits (sym run-there) (producers_fit it.run (is ProducerIds h));
        unregistration = λ h. subst BrokerFits (sym run-there) (unregistration_fits it.run (is UnregisterBroker h));
      }

  pub sent : {r : Reply} {v : Bytes} → EndsAs r v (sent_by (kind_in (take n input)) (run_in (take n input)) out) → EndsTo input out r v
  unfolding write_kafka_of
  sent {r} {v} d =
      let all : sent_by (kind_in (take n input)) (run_in (take n input)) out ≡ sent_as it.kind it.run out =
      ap₂ (λ k x. sent_by k x out) kind_there run-there ∙ message_sent it.run out it.kind passing in
      rw there.1 (subst (EndsAs r v) all d)

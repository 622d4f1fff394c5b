-- A message that is taken, whole: what is answered to it.
use mathlib.Core.Path.{◌≡◌, refl, sym, ap, ap₂, ◌∙◌, subst}
use mathlib.Core.Bool.{false}
use mathlib.Core.List.{[], ◌∷◌, ◌++◌, append-nil}
use Prim.Native.Nat.{ℕ, ◌+◌, ◌-◌, ◌≤◌}
use native.Mathlib.Omega.{arith}
use lib.ListN.{length, take, drop, length-append, length-drop}
use lib.Seq.{slice, drop-drop, length-slice}
use borrow.Author.Tests.{ne_eqb}
use Rattle.model.specs.Number.{Bytes, bytes}
use Rattle.model.specs.Run.{Run, done, item, bytes_of}
use Rattle.model.specs.Kind.{kind_number}
use Rattle.model.specs.Record.{Rec, rec, record_bytes}
use Rattle.model.specs.Reply.{Reply, refused}
use Rattle.model.specs.declared.Kind.{Kind}
use Rattle.model.specs.declared.Kind.TheVariants.{ProducerIds, UnregisterBroker}
use Rattle.model.specs.Kafka.{Taken, bad, took, and_then, read_string, read_fixed, name, broker, read_field, Message, read_fields, read_tagged, read_message, read_kafka, read_kafka_of}
use Rattle.fields.proofs.Parse.{take-drop, take-slice}
use Rattle.records.specs.Answers.{head}
use Rattle.kafka_frame.specs.Parts.{onward, message_of, framed, FrameWithin}
use Rattle.kafka_frame.specs.declared.Passed.{Passed}
use Rattle.kafka_frame.specs.declared.Passed.TheVariants.{To, Refused as NotPassed}
use Rattle.kafka_frame.specs.declared.Frame.{Frame}
use Rattle.kafka_frame.specs.declared.Frame.TheVariants.{Message as FrameOf, Refused as NoFrame}
use Rattle.kafka_frame.proofs.Frames.{RestAs as FrameAs}
use Rattle.kafka_read.specs.Messages.{name_taken, NameWithin, RestWithin, RestAs, broker_taken, BrokerWithin, BrokerAs, record_of, EmitsAs, answered, AnswersAs, NamedAs}
use Rattle.kafka_read.specs.declared.message.Name.{Name}
use Rattle.kafka_read.specs.declared.message.Name.TheVariants.{Text, Refused as NoName}
use Rattle.kafka_read.specs.declared.message.Broker.{Broker}
use Rattle.kafka_read.specs.declared.message.Broker.TheVariants.{Fields, Refused as NoBroker}
use Rattle.kafka_read.proofs.Texts.{NameAs}
use Rattle.kafka_read.proofs.Rests.{fixed_twice}
use Rattle.kafka_read.proofs.Emitted.{filled}

-- 1. A record's bytes by its parts

pub record_is : (k : Kind) (v w : Bytes) (others : Run) → record_bytes (rec k (item 1 v (item 2 w others))) ≡ record_of (kind_number k) v w (bytes_of others)
unfolding record_bytes bytes_of
record_is k v w others =
    let size : length (bytes_of (item 1 v (item 2 w others))) ≡ 6 + length v + length w + length (bytes_of others) =
    omega (arith, length-append v ((head 2 (length w) ++ w) ++ bytes_of others), length-append w (bytes_of others)) in
    ap (λ n. head (kind_number k) n ++ ((head 1 (length v) ++ v) ++ ((head 2 (length w) ++ w) ++ bytes_of others))) size

module _ (s out : Bytes) where
  pub answer-refused : (t : Taken Rec) (n : ℕ) → t ≡ bad n → AnswersAs s out t (refused n) out
  answer-refused t n e = rw e (refl, refl)

  pub answer-written : (t : Taken Rec) (x : Rec) (used : ℕ) → t ≡ took x (drop used s) → used ≤ length s
      → {b : Bytes} → record_bytes x ≡ b → {r : Reply} {v : Bytes} → EmitsAs b used out r v → AnswersAs s out t r v
  answer-written t x used e h q g =
      let n : length s - length (drop used s) ≡ used = omega (arith, length-drop used s) in
      rw (e, n, q) g

-- 2. A name and so many bytes

module _ (kind width : ℕ) (others : Bytes) (m : NamedAs kind width others) where
  abbrev named : Bytes → Bytes → Rec
  named v w = rec (message_of kind).kind (item 1 v (item 2 w (message_of kind).others))

  named-message : (t : Bytes)
      → read_message false (message_of kind) t ≡ and_then (read_string false t) (λ v u. and_then (read_fixed width u) (λ w x. read_tagged false (named v w) x))
  unfolding read_message read_fields read_field
  named-message t =
      ap (λ fs. and_then (read_fields false 1 fs (message_of kind).others t) (λ run u. read_tagged false (rec (message_of kind).kind run) u)) m.forms_are
      ∙ go (read_string false t)
    where
      two : (v : Bytes) (q : Taken Bytes)
          → and_then (and_then (and_then q (λ w x. took (item 2 w (message_of kind).others) x)) (λ r x. took (item 1 v r) x)) (λ run u. read_tagged false (rec (message_of kind).kind run) u)
          ≡ and_then q (λ w x. read_tagged false (named v w) x)
      two v (bad n) = refl
      two v (took w x) = refl

      go : (q : Taken Bytes)
          → and_then (and_then q (λ v u. and_then (and_then (read_fixed width u) (λ w x. took (item 2 w (message_of kind).others) x)) (λ r x. took (item 1 v r) x))) (λ run u. read_tagged false (rec (message_of kind).kind run) u)
          ≡ and_then q (λ v u. and_then (read_fixed width u) (λ w x. read_tagged false (named v w) x))
      go (bad n) = refl
      go (took v u) = two v (read_fixed width u)

  module _ (s out : Bytes) (at : ℕ) (nr : Name) (h : NameAs s (read_string false (drop at s)) nr) where
    abbrev message : Taken Rec
    message = read_message false (message_of kind) (drop at s)

    abbrev onwards : Bytes → Bytes → Taken Rec
    onwards v u = and_then (read_fixed width u) (λ w x. read_tagged false (named v w) x)

    name_taken_lem : message ≡ and_then (name_taken s nr) onwards
    name_taken_lem = named-message (drop at s) ∙ ap (λ t. and_then t onwards) h.0

    pub no_name : {n : ℕ} → nr ≡ NoName n → AnswersAs s out message (refused n) out
    no_name {n} e = answer-refused s out message n (name_taken_lem ∙ ap (λ r. and_then (name_taken s r) onwards) e)

    module _ {start end : ℕ} (e : nr ≡ Text start end) where
      pub name_ends : (start ≤ end) × (end ≤ length s) × (end ≤ start + 255)
      name_ends = subst (NameWithin s) e h.1

      module _ (p : Passed) (g : RestAs s end width p) where
        rest-taken : message ≡ onward s (took (named (slice start end s) (slice end (end + width) s))) p
        rest-taken = name_taken_lem ∙ ap (λ r. and_then (name_taken s r) onwards) e ∙ g.0 (named (slice start end s))

        pub no_rest : {n : ℕ} → p ≡ NotPassed n → AnswersAs s out message (refused n) out
        no_rest {n} q = answer-refused s out message n (rest-taken ∙ ap (onward s (took (named (slice start end s) (slice end (end + width) s)))) q)

        module _ {used : ℕ} (q : p ≡ To used) where
          pub rest_ends : (end + width ≤ used) × (used ≤ length s)
          rest_ends = subst (RestWithin s (end + width)) q g.1

          pub named-written : {r : Reply} {v : Bytes}
              → EmitsAs (record_of kind (take (end - start) (drop start s)) (take (end + width - end) (drop end s)) others) used out r v → AnswersAs s out message r v
          named-written d =
              let first : take (end - start) (drop start s) ≡ slice start end s =
              (let n : start + (end - start) ≡ end = omega (arith, name_ends.0) in take-drop start (end - start) s ∙ ap (λ k. slice start k s) n) in
              let second : take (end + width - end) (drop end s) ≡ slice end (end + width) s =
              (let n : end + (end + width - end) ≡ end + width = omega arith in take-drop end (end + width - end) s ∙ ap (λ k. slice end k s) n) in
              let written : record_bytes (named (slice start end s) (slice end (end + width) s)) ≡ record_of kind (take (end - start) (drop start s)) (take (end + width - end) (drop end s)) others =
              record_is (message_of kind).kind (slice start end s) (slice end (end + width) s) (message_of kind).others
              ∙ ap₂ (λ k o. record_of k (slice start end s) (slice end (end + width) s) o) m.kind_is m.others_are
              ∙ ap₂ (λ a b. record_of kind a b others) (sym first) (sym second) in
              answer-written s out message (named (slice start end s) (slice end (end + width) s)) used
              (rest-taken ∙ ap (onward s (took (named (slice start end s) (slice end (end + width) s)))) q) rest_ends.1 written d

-- 3. A broker and its epoch, and the next producer id

abbrev unregistered : Bytes → Bytes → Rec
unregistered v w = rec UnregisterBroker (item 1 v (item 2 w done))

unregistration : (t : Bytes)
    → read_message false (message_of 9) t ≡ and_then (read_field false broker t) (λ v u. and_then (read_fixed 8 u) (λ w x. read_tagged false (unregistered v w) x))
unfolding read_message read_fields read_field
unregistration t = go (read_field false broker t)
  where
    two : (v : Bytes) (q : Taken Bytes)
        → and_then (and_then (and_then q (λ w x. took (item 2 w done) x)) (λ r x. took (item 1 v r) x)) (λ run u. read_tagged false (rec UnregisterBroker run) u)
        ≡ and_then q (λ w x. read_tagged false (unregistered v w) x)
    two v (bad n) = refl
    two v (took w x) = refl

    go : (q : Taken Bytes)
        → and_then (and_then q (λ v u. and_then (and_then (read_fixed 8 u) (λ w x. took (item 2 w done) x)) (λ r x. took (item 1 v r) x))) (λ run u. read_tagged false (rec UnregisterBroker run) u)
        ≡ and_then q (λ v u. and_then (read_fixed 8 u) (λ w x. read_tagged false (unregistered v w) x))
    go (bad n) = refl
    go (took v u) = two v (read_fixed 8 u)

abbrev produced : Bytes → Bytes → Rec
produced v w = rec ProducerIds (item 1 v (item 2 (take 8 w) (item 3 (drop 8 w) done)))

abbrev ids : Bytes → Bytes → Bytes → Bytes → Taken Rec
ids v w y x = read_tagged false (rec ProducerIds (item 1 v (item 2 w (item 3 y done)))) x

producers : (t : Bytes)
    → read_message false (message_of 8) t ≡ and_then (read_field false broker t) (λ v u. and_then (read_fixed 16 u) (λ w x. read_tagged false (produced v w) x))
unfolding read_message read_fields read_field
producers t = go (read_field false broker t)
  where
    three : (v w : Bytes) (q : Taken Bytes)
        → and_then (and_then (and_then (and_then q (λ y x. took (item 3 y done) x)) (λ r x. took (item 2 w r) x)) (λ r x. took (item 1 v r) x)) (λ run u. read_tagged false (rec ProducerIds run) u)
        ≡ and_then q (ids v w)
    three v w (bad n) = refl
    three v w (took y x) = refl

    two : (v : Bytes) (q : Taken Bytes)
        → and_then (and_then (and_then q (λ w u. and_then (and_then (read_fixed 8 u) (λ y x. took (item 3 y done) x)) (λ r x. took (item 2 w r) x))) (λ r x. took (item 1 v r) x)) (λ run u. read_tagged false (rec ProducerIds run) u)
        ≡ and_then q (λ w u. and_then (read_fixed 8 u) (ids v w))
    two v (bad n) = refl
    two v (took w u) = three v w (read_fixed 8 u)

    go : (q : Taken Bytes)
        → and_then (and_then q (λ v t. and_then (and_then (read_fixed 8 t) (λ w u. and_then (and_then (read_fixed 8 u) (λ y x. took (item 3 y done) x)) (λ r x. took (item 2 w r) x))) (λ r x. took (item 1 v r) x))) (λ run u. read_tagged false (rec ProducerIds run) u)
        ≡ and_then q (λ v t. and_then (read_fixed 16 t) (λ w x. read_tagged false (produced v w) x))
    go (bad n) = refl
    go (took v t) = two v (read_fixed 8 t) ∙ fixed_twice 8 8 t (ids v)

module _ (s out : Bytes) (at width kind : ℕ) (x : Bytes → Bytes → Rec)
    (made : (t : Bytes) → read_message false (message_of kind) t ≡ and_then (read_field false broker t) (λ v u. and_then (read_fixed width u) (λ w y. read_tagged false (x v w) y)))
    (br : Broker) (h : BrokerAs s at width br) where
  abbrev made_of : ℕ → Rec
  made_of id = x (bytes 8 id) (slice (at + 4) (at + 4 + width) s)

  broker_taken_lem : read_message false (message_of kind) (drop at s) ≡ broker_taken s made_of br
  broker_taken_lem = made (drop at s) ∙ h.0 x

  pub no_broker : {n : ℕ} → br ≡ NoBroker n → AnswersAs s out (read_message false (message_of kind) (drop at s)) (refused n) out
  no_broker {n} e = answer-refused s out (read_message false (message_of kind) (drop at s)) n (broker_taken_lem ∙ ap (broker_taken s made_of) e)

  pub broker_written : {id used : ℕ} → br ≡ Fields id used → {b : Bytes} → record_bytes (made_of id) ≡ b → {r : Reply} {v : Bytes} → EmitsAs b used out r v
      → AnswersAs s out (read_message false (message_of kind) (drop at s)) r v
  broker_written {id} {used} e q d =
      answer-written s out (read_message false (message_of kind) (drop at s)) (made_of id) used (broker_taken_lem ∙ ap (broker_taken s made_of) e)
      (subst (BrokerWithin s (at + 4 + width)) e h.1).1 q d

module _ (s out : Bytes) (at : ℕ) (br : Broker) where
  pub no_unregistration : BrokerAs s at 8 br → {n : ℕ} → br ≡ NoBroker n → AnswersAs s out (read_message false (message_of 9) (drop at s)) (refused n) out
  no_unregistration h e = no_broker s out at 8 9 unregistered unregistration br h e

  pub unregistration_end : BrokerAs s at 8 br → {id used : ℕ} → br ≡ Fields id used → at + 4 + 8 ≤ length s
  unregistration_end h e = let b = subst (BrokerWithin s (at + 4 + 8)) e h.1 in omega (arith, b.0, b.1)

  pub unregistration_written : BrokerAs s at 8 br → {id used : ℕ} → br ≡ Fields id used → {r : Reply} {v : Bytes}
      → EmitsAs (record_of 9 (bytes 8 id) (slice (at + 4) (at + 4 + 8) s) []) used out r v
      → AnswersAs s out (read_message false (message_of 9) (drop at s)) r v
  unfolding kind_number bytes_of
  unregistration_written h {id} {used} e d =
      broker_written s out at 8 9 unregistered unregistration br h e (record_is UnregisterBroker (bytes 8 id) (slice (at + 4) (at + 4 + 8) s) done) d

  pub no_producers : BrokerAs s at 16 br → {n : ℕ} → br ≡ NoBroker n → AnswersAs s out (read_message false (message_of 8) (drop at s)) (refused n) out
  no_producers h e = no_broker s out at 16 8 produced producers br h e

  -- the next id, as a field
  module _ (h : BrokerAs s at 16 br) {id used : ℕ} (e : br ≡ Fields id used) where
    pub producers-end : at + 20 ≤ length s
    producers-end = let b = subst (BrokerWithin s (at + 4 + 16)) e h.1 in omega (arith, b.0, b.1)

    abbrev next : Bytes
    next = take (at + 20 - (at + 12)) (drop (at + 12) s)

    next_is : next ≡ slice (at + 12) (at + 20) s
    next_is =
        let n : at + 12 + (at + 20 - (at + 12)) ≡ at + 20 = omega arith in
        take-drop (at + 12) (at + 20 - (at + 12)) s ∙ ap (λ k. slice (at + 12) k s) n

    pub next_long : length next ≡ 8
    next_long = ap length next_is ∙ length-slice (at + 12) (at + 20) s producers-end ∙ omega arith

    pub producers-written : (zeros : Bytes) {tail : Bytes} → length zeros ≡ 11 → tail ≡ take 0 zeros ++ (head 3 (length next) ++ next) ++ drop (0 + length (head 3 (length next) ++ next)) zeros
        → {r : Reply} {v : Bytes} → EmitsAs (record_of 8 (bytes 8 id) (slice (at + 4) (at + 4 + 8) s) tail) used out r v
        → AnswersAs s out (read_message false (message_of 8) (drop at s)) r v
    unfolding kind_number bytes_of
    producers-written zeros {tail} long q d =
        let w = slice (at + 4) (at + 4 + 16) s in
        let to : at + 4 + 16 ≡ at + 20 = omega arith in
        let from : at + 4 + 8 ≡ at + 12 = omega arith in
        let second : take 8 w ≡ slice (at + 4) (at + 4 + 8) s = take-slice s (at + 4) 8 (at + 4 + 16) (omega arith) in
        let third : drop 8 w ≡ next = drop-drop 8 (at + 4) (take (at + 4 + 16) s) ∙ ap₂ (λ a b. slice a b s) from to ∙ sym next_is in
        let field : tail ≡ head 3 (length next) ++ next = q ∙ filled zeros (head 3 (length next) ++ next) (omega (arith, long, next_long)) in
        broker_written s out at 16 8 produced producers br h e
        (record_is ProducerIds (bytes 8 id) (take 8 w) (item 3 (drop 8 w) done)
        ∙ ap₂ (λ a b. record_of 8 (bytes 8 id) a ((head 3 (length b) ++ b) ++ [])) second third
        ∙ ap (record_of 8 (bytes 8 id) (slice (at + 4) (at + 4 + 8) s)) (append-nil (head 3 (length next) ++ next) ∙ sym field)) d

-- 4. By the kind

pub topic_named_lem : NamedAs 1 16 (3 ∷ 0 ∷ 4 ∷ 0 ∷ 0 ∷ 0 ∷ 0 ∷ 4 ∷ 0 ∷ 2 ∷ 0 ∷ 0 ∷ [])
unfolding kind_number bytes_of
topic_named_lem = record { forms_are = refl; kind_is = refl; others_are = refl }

pub level-named : NamedAs 11 2 []
unfolding kind_number bytes_of
level-named = record { forms_are = refl; kind_is = refl; others_are = refl }

module _ (s out : Bytes) (kind at : ℕ) (r : Reply) (v : Bytes) where
  abbrev AnswersTo : Message → Type 0
  AnswersTo m = AnswersAs s out (read_message false m (drop at s)) r v

  pub by_topic : kind ≡ 1 → AnswersTo (message_of 1) → AnswersTo (message_of kind)
  by_topic e h = subst (λ k. AnswersTo (message_of k)) (sym e) h

  pub by_level : kind ≡ 11 → AnswersTo (message_of 11) → AnswersTo (message_of kind)
  by_level e h = subst (λ k. AnswersTo (message_of k)) (sym e) h

  pub by_producers : kind ≡ 8 → AnswersTo (message_of 8) → AnswersTo (message_of kind)
  by_producers e h = subst (λ k. AnswersTo (message_of k)) (sym e) h

  pub by_unregistration : (kind ≡ 1 → ⊥) → (kind ≡ 11 → ⊥) → (kind ≡ 8 → ⊥) → AnswersTo (message_of 9) → AnswersTo (message_of kind)
  by_unregistration a b c h = rw (ne_eqb kind 1 a, ne_eqb kind 11 b, ne_eqb kind 8 c) h

-- 5. After its frame

module _ (s out : Bytes) (f : Frame) (h : FrameAs s (read_kafka false s) f) where
  abbrev EndsTo : Reply → Bytes → Type 0
  EndsTo r v = (r ≡ (read_kafka_of s out).reply) × (v ≡ (read_kafka_of s out).buffer)

  pub frame_within : {kind at : ℕ} → f ≡ FrameOf kind at → at ≤ length s
  frame_within e = subst (FrameWithin s) e h.1

  pub no_frame : {n : ℕ} → f ≡ NoFrame n → EndsTo (refused n) out
  unfolding read_kafka_of
  no_frame {n} e = answer-refused s out (read_kafka false s) n (h.0 ∙ ap (framed s) e)

  pub frame_answered : {kind at : ℕ} → f ≡ FrameOf kind at → {r : Reply} {v : Bytes} → AnswersAs s out (read_message false (message_of kind) (drop at s)) r v → EndsTo r v
  unfolding read_kafka_of
  frame_answered e d = rw (h.0 ∙ ap (framed s) e) d

-- What the code says of the parts of Kafka's record bytes, in the model's terms.
use Rattle.std.specs.Prelude.{◌≡◌, false, cond, [], ◌∷◌, ℕ, ◌≤◌, ◌<◌, eqb, length, drop}
use Rattle.model.specs.Choice.{given}
use Rattle.model.specs.Number.{Bytes}
use Rattle.model.specs.Run.{done}
use Rattle.model.specs.Record.{Rec}
use Rattle.model.specs.declared.Kind.TheVariants.{Topic, ProducerIds, UnregisterBroker, FeatureLevel}
use Rattle.model.specs.Kafka.{Taken, bad, name, raw, broker, no_count, Message, messages, by_api_key, read_message, read_version}
use Rattle.kafka_frame.specs.declared.Passed.{Passed}
use Rattle.kafka_frame.specs.declared.Passed.TheVariants.{To, Refused as NotPassed}
use Rattle.kafka_frame.specs.declared.Frame.{Frame}
use Rattle.kafka_frame.specs.declared.Frame.TheVariants.{Message as FrameOf, Refused as NoFrame}

-- what follows a part that ends somewhere
abbrev pub onward : {A : Type 0} → Bytes → (Bytes → Taken A) → Passed → Taken A
onward s f (To end) = f (drop end s)
onward s f (NotPassed n) = bad n

-- a part ends behind a place, within the bytes
abbrev pub Behind : Bytes → ℕ → Passed → Type 0
Behind s at (To end) = (at ≤ end) × (end ≤ length s)
Behind s at (NotPassed n) = 0 < n

-- the message of a kind, by its number
abbrev pub message_of : ℕ → Message
message_of kind =
    cond (eqb kind 1) (record { key = 2; kind = Topic; forms = name ∷ raw 16 ∷ []; others = no_count })
    (cond (eqb kind 11) (record { key = 12; kind = FeatureLevel; forms = name ∷ raw 2 ∷ []; others = done })
    (cond (eqb kind 8) (record { key = 15; kind = ProducerIds; forms = broker ∷ raw 8 ∷ raw 8 ∷ []; others = done })
    (record { key = 1; kind = UnregisterBroker; forms = broker ∷ raw 8 ∷ []; others = done })))

-- what a key's kind says of the rest: 3 where there is none
abbrev pub by_kind : ℕ → Bytes → Taken Rec
by_kind kind s = cond (eqb kind 0) (bad 3) (read_version false (message_of kind) s)

-- a key's kind
abbrev pub KindAs : ℕ → ℕ → Type 0
KindAs key kind = (s : Bytes) → given (by_api_key key messages) (bad 3) (λ m. read_version false m s) ≡ by_kind kind s

-- a frame
abbrev pub framed : Bytes → Frame → Taken Rec
framed s (FrameOf kind at) = read_message false (message_of kind) (drop at s)
framed s (NoFrame n) = bad n

abbrev pub FrameWithin : Bytes → Frame → Type 0
FrameWithin s (FrameOf kind at) = at ≤ length s
FrameWithin s (NoFrame n) = 0 < n

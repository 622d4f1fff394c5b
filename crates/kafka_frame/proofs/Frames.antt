-- The frame: a key's kind, and its message's version.
use mathlib.Core.Path.{◌≡◌, refl, ap, ◌∙◌, subst}
use mathlib.Core.Bool.{false, cond}
use Prim.Native.Nat.{ℕ, ◌≤◌, ◌<◌}
use native.Mathlib.Omega.{arith}
use lib.Dec.{eqb}
use lib.ListN.{length, drop}
use borrow.Author.Tests.{eq-eqb, ne_eqb}
use Rattle.model.specs.Choice.{given}
use Rattle.model.specs.Number.{Bytes}
use Rattle.model.specs.Record.{Rec}
use Rattle.model.specs.Kafka.{Taken, bad, and_then, messages, by_api_key, read_varint, read_message, read_version, read_key, read_kafka}
use Rattle.varints.specs.Varints.{VarintAs}
use Rattle.varints.specs.declared.Varint.{Varint}
use Rattle.varints.specs.declared.Varint.TheVariants.{Is, Refused}
use Rattle.kafka_frame.specs.Parts.{onward, Behind, message_of, by_kind, KindAs, framed, FrameWithin}
use Rattle.kafka_frame.specs.declared.Passed.{Passed}
use Rattle.kafka_frame.specs.declared.Passed.TheVariants.{To, Refused as NotPassed}
use Rattle.kafka_frame.specs.declared.Frame.{Frame}
use Rattle.kafka_frame.specs.declared.Frame.TheVariants.{Message as FrameOf, Refused as NoFrame}
use Rattle.kafka_frame.proofs.Versions.{VersionAs, varint_is, varint-onward, varint-refused, varint-positive}

-- 1. Keys

abbrev keyed : ℕ → Bytes → Taken Rec
keyed key s = given (by_api_key key messages) (bad 3) (λ m. read_version false m s)

module _ {key : ℕ} where
  pub key_unregister : key ≡ 1 → KindAs key 9
  unfolding by_api_key messages
  key_unregister e s = ap (λ k. keyed k s) e

  pub key_topic : key ≡ 2 → KindAs key 1
  unfolding by_api_key messages
  key_topic e s = ap (λ k. keyed k s) e

  pub key-level : key ≡ 12 → KindAs key 11
  unfolding by_api_key messages
  key-level e s = ap (λ k. keyed k s) e

  pub key-producers : key ≡ 15 → KindAs key 8
  unfolding by_api_key messages
  key-producers e s = ap (λ k. keyed k s) e

  pub key-none : (key ≡ 1 → ⊥) → (key ≡ 2 → ⊥) → (key ≡ 12 → ⊥) → (key ≡ 15 → ⊥) → KindAs key 0
  unfolding by_api_key messages
  key-none a b c d s =
      rw (
        ne_eqb 1 key (λ e. a (omega (arith, e))),
        ne_eqb 2 key (λ e. b (omega (arith, e))),
        ne_eqb 12 key (λ e. c (omega (arith, e))),
        ne_eqb 15 key (λ e. d (omega (arith, e))),
      ) refl

-- 2. A message's version

abbrev pub RestAs : Bytes → Taken Rec → Frame → Type 0
RestAs s t r = (t ≡ framed s r) × FrameWithin s r

module _ (s : Bytes) (at kind : ℕ) where
  pub no_kind : kind ≡ 0 → RestAs s (by_kind kind (drop at s)) (NoFrame 3)
  no_kind e = (rw (eq-eqb kind 0 e) refl, omega arith)

  module _ (known : kind ≡ 0 → ⊥) (r : Passed) (h : VersionAs s at 0 r) where
    version_read : by_kind kind (drop at s) ≡ onward s (read_message false (message_of kind)) r
    unfolding read_version
    version_read = rw (ne_eqb kind 0 known) (h.0 (read_message false (message_of kind)))

    pub message-refused : {n : ℕ} → r ≡ NotPassed n → RestAs s (by_kind kind (drop at s)) (NoFrame n)
    message-refused e = (version_read ∙ ap (onward s (read_message false (message_of kind))) e, subst (Behind s at) e h.1)

    pub message_begins : {end : ℕ} → r ≡ To end → RestAs s (by_kind kind (drop at s)) (FrameOf kind end)
    message_begins e = (version_read ∙ ap (onward s (read_message false (message_of kind))) e, (subst (Behind s at) e h.1).1)

-- 3. A key

module _ (s : Bytes) (at : ℕ) (r : Varint) (h : VarintAs s at r) where
  pub key-refused : {n : ℕ} → r ≡ Refused n → RestAs s (read_key false (drop at s)) (NoFrame n)
  unfolding read_key
  key-refused e = (varint-refused s at r h e keyed, varint-positive s at r h e)

  pub key-read : {key end : ℕ} → r ≡ Is key end → (kind : ℕ) → KindAs key kind → (f : Frame) → RestAs s (by_kind kind (drop end s)) f
      → RestAs s (read_key false (drop at s)) f
  unfolding read_key
  key-read {key} {end} e kind k f g = (varint_is s at r h e keyed ∙ k (drop end s) ∙ g.0, g.1)

-- 4. The frame

module _ (s : Bytes) (r : Passed) (h : VersionAs s 0 1 r) where
  pub frame_refused : {n : ℕ} → r ≡ NotPassed n → RestAs s (read_kafka false s) (NoFrame n)
  unfolding read_kafka
  frame_refused e = (h.0 (read_key false) ∙ ap (onward s (read_key false)) e, subst (Behind s 0) e h.1)

  pub frame_read : {at : ℕ} → r ≡ To at → (f : Frame) → RestAs s (read_key false (drop at s)) f → RestAs s (read_kafka false s) f
  unfolding read_kafka
  frame_read e f g = (h.0 (read_key false) ∙ ap (onward s (read_key false)) e ∙ g.0, g.1)

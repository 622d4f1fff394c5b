-- Bytes as they stand, a broker's id before them, and the tagged fields behind them.
use mathlib.Core.Path.{◌≡◌, refl, ap, ◌∙◌, subst}
use mathlib.Core.Bool.{Bool, true, false, cond}
use Prim.Native.Nat.{ℕ, ◌+◌, ◌-◌, ◌≤◌, ◌<◌}
use native.Mathlib.Omega.{arith}
use lib.Dec.{ltb}
use lib.ListN.{length, take, drop, length-drop}
use lib.Seq.{slice, drop-drop, take-take}
use borrow.Author.Tests.{ltb-true, ltb-false, lt-ltb, le-ltb, le-leb, lt-leb}
use Rattle.model.specs.Number.{Bytes, number, bytes, half}
use Rattle.model.specs.Record.{Rec}
use Rattle.model.specs.Kafka.{Taken, bad, took, and_then, read_varint, read_fixed, broker, read_field, skip_tagged, tagged, read_tagged}
use Rattle.fields.proofs.Parse.{take-drop}
use Rattle.kafka_frame.specs.Parts.{onward, Behind}
use Rattle.kafka_frame.specs.declared.Passed.{Passed}
use Rattle.kafka_frame.specs.declared.Passed.TheVariants.{To, Refused as NotPassed}
use Rattle.kafka_frame.proofs.Tagged.{SkippedAs}
use Rattle.kafka_read.specs.Messages.{RestWithin, RestAs, BrokerAs}
use Rattle.kafka_read.specs.declared.message.Broker.TheVariants.{Fields, Refused as NoBroker}

-- 1. Bytes as they stand

module _ (s : Bytes) (at width : ℕ) where
  fixed_cut : length s - at < width → read_fixed width (drop at s) ≡ bad 2
  unfolding read_fixed
  fixed_cut h = rw (lt-ltb (length (drop at s)) width (omega (arith, length-drop at s)))

  fixed_there : width ≤ length s - at → read_fixed width (drop at s) ≡ took (slice at (at + width) s) (drop (at + width) s)
  unfolding read_fixed
  fixed_there h = rw (le-ltb (length (drop at s)) width (omega (arith, length-drop at s)), take-drop at width s, drop-drop width at s)

-- two parts are one
pub fixed_twice : (a b : ℕ) (t : Bytes) {A : Type 0} (f : Bytes → Bytes → Bytes → Taken A)
    → and_then (read_fixed a t) (λ v u. and_then (read_fixed b u) (f v)) ≡ and_then (read_fixed (a + b) t) (λ w u. f (take a w) (drop a w) u)
unfolding read_fixed
fixed_twice a b t f = go (ltb (length t) a) refl (ltb (length t) (a + b)) refl
  where
    go : (c : Bool) → ltb (length t) a ≡ c → (d : Bool) → ltb (length t) (a + b) ≡ d
        → and_then (cond c (bad 2) (took (take a t) (drop a t))) (λ v u. and_then (cond (ltb (length u) b) (bad 2) (took (take b u) (drop b u))) (f v))
        ≡ and_then (cond d (bad 2) (took (take (a + b) t) (drop (a + b) t))) (λ w u. f (take a w) (drop a w) u)
    go true p true q = refl
    go true p false q = absurd (omega (arith, ltb-true (length t) a p, ltb-false (length t) (a + b) q))
    go false p true q = rw (lt-ltb (length (drop a t)) b (omega (arith, length-drop a t, ltb-true (length t) (a + b) q, ltb-false (length t) a p)))
    go false p false q =
        rw (
          le-ltb (length (drop a t)) b (omega (arith, length-drop a t, ltb-false (length t) (a + b) q)),
          take-take a (a + b) t (omega arith),
          take-drop a b t,
          drop-drop b a t,
        )

-- 2. The tagged fields

tagged_skipped : (s : Bytes) (at : ℕ) (r : Passed) → SkippedAs s at (and_then (read_varint false (drop at s)) skip_tagged) r → (x : Rec)
    → read_tagged false x (drop at s) ≡ onward s (took x) r
unfolding read_tagged
tagged_skipped s at r h x = go (read_varint false (drop at s)) ∙ ap (λ t. and_then t (λ n u. took x u)) h.0 ∙ by r
  where
    go : (t : Taken ℕ) → and_then t (λ count u. and_then (skip_tagged count u) (λ n w. took x w)) ≡ and_then (and_then t skip_tagged) (λ n w. took x w)
    go (bad n) = refl
    go (took n u) = refl

    by : (r : Passed) → and_then {A = ℕ} (onward s (took 0) r) (λ n u. took x u) ≡ onward s (took x) r
    by (To end) = refl
    by (NotPassed n) = refl

module _ (s : Bytes) (at width : ℕ) where
  pub rest_cut : length s - at < width → RestAs s at width (NotPassed 2)
  rest_cut h = (λ x. ap (λ t. and_then t (λ v u. read_tagged false (x v) u)) (fixed_cut s at width h), tt)

  pub rest_skipped : width ≤ length s - at → (r : Passed) → SkippedAs s (at + width) (and_then (read_varint false (drop (at + width) s)) skip_tagged) r
      → RestAs s at width r
  rest_skipped h r g = (
    λ x.
        ap (λ t. and_then t (λ v u. read_tagged false (x v) u)) (fixed_there s at width h)
        ∙ tagged_skipped s (at + width) r g (x (slice at (at + width) s)),
    by r g.1,
  )
    where
      by : (r : Passed) → Behind s (at + width) r → RestWithin s (at + width) r
      by (To end) b = b
      by (NotPassed n) b = tt

-- 3. A broker's id

module _ (s : Bytes) (at width : ℕ) where
  abbrev after : (Bytes → Bytes → Rec) → Bytes → Bytes → Taken Rec
  after x v t = and_then (read_fixed width t) (λ w u. read_tagged false (x v w) u)

  pub broker_cut : length s - at < 4 → BrokerAs s at width (NoBroker 2)
  unfolding read_field
  broker_cut h = (λ x. rw (fixed_cut s at 4 h), tt)

  module _ (h : 4 ≤ length s - at) {id : ℕ} (e : id ≡ number (slice at (at + 4) s)) where
    pub broker_negative : 2147483648 ≤ id → BrokerAs s at width (NoBroker 4)
    unfolding read_field
    broker_negative k = (λ x. rw (fixed_there s at 4 h, ← e, le-leb (half 4) id k), tt)

    module _ (k : id < 2147483648) (r : Passed) (g : RestAs s (at + 4) width r) where
      broker_there : (x : Bytes → Bytes → Rec)
          → and_then (read_field false broker (drop at s)) (after x) ≡ onward s (took (x (bytes 8 id) (slice (at + 4) (at + 4 + width) s))) r
      unfolding read_field
      broker_there x = rw (fixed_there s at 4 h, ← e, lt-leb (half 4) id k) (g.0 (x (bytes 8 id)))

      pub broker_refused : {n : ℕ} → r ≡ NotPassed n → BrokerAs s at width (NoBroker n)
      broker_refused q = (λ x. broker_there x ∙ ap (onward s (took (x (bytes 8 id) (slice (at + 4) (at + 4 + width) s)))) q, tt)

      pub broker_read : {end : ℕ} → r ≡ To end → BrokerAs s at width (Fields id end)
      broker_read q = (
        λ x. broker_there x ∙ ap (onward s (took (x (bytes 8 id) (slice (at + 4) (at + 4 + width) s)))) q,
        subst (RestWithin s (at + 4 + width)) q g.1,
      )

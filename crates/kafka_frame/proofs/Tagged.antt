-- Bytes as they stand, and the tagged fields that are skipped.
use mathlib.Core.Path.{◌≡◌, refl, ap, ◌∙◌, subst}
use mathlib.Core.Bool.{false}
use Prim.Native.Nat.{ℕ, suc, ◌+◌, ◌-◌, ◌≤◌, ◌<◌}
use native.Mathlib.Omega.{arith}
use lib.ListN.{length, drop, length-drop}
use lib.Seq.{drop-drop}
use borrow.Author.Tests.{lt-ltb, le-ltb}
use Rattle.model.specs.Number.{Bytes}
use Rattle.model.specs.Kafka.{Taken, bad, took, and_then, read_varint, read_fixed, skip_tagged}
use Rattle.varints.specs.Varints.{VarintAs}
use Rattle.varints.specs.declared.Varint.{Varint}
use Rattle.varints.specs.declared.Varint.TheVariants.{Is, Refused}
use Rattle.kafka_frame.specs.Parts.{onward, Behind}
use Rattle.kafka_frame.specs.declared.Passed.{Passed}
use Rattle.kafka_frame.specs.declared.Passed.TheVariants.{To, Refused as NotPassed}
use Rattle.kafka_frame.proofs.Versions.{varint_is, varint-onward, varint-refused, varint-positive}

-- a part is passed, whatever follows it
abbrev pub PassedBy : Bytes → ℕ → ((Bytes → Taken ℕ) → Taken ℕ) → Passed → Type 0
PassedBy s at part r = ((f : Bytes → Taken ℕ) → part f ≡ onward s f r) × Behind s at r

abbrev pub fixed_then : Bytes → ℕ → (Bytes → Taken ℕ) → Taken ℕ
fixed_then s len f = and_then (read_fixed len s) (λ v rest. f rest)

abbrev pub sized_then : Bytes → (Bytes → Taken ℕ) → Taken ℕ
sized_then s f = and_then (read_varint false s) (λ size t. fixed_then t size f)

abbrev pub field_then : Bytes → (Bytes → Taken ℕ) → Taken ℕ
field_then s f = and_then (read_varint false s) (λ tag t. sized_then t f)

-- 1. Bytes as they stand

module _ (s : Bytes) (at len : ℕ) (within : at ≤ length s) where
  pub bytes_cut : length s - at < len → PassedBy s at (fixed_then (drop at s) len) (NotPassed 2)
  unfolding read_fixed
  bytes_cut h = (λ f. rw (lt-ltb (length (drop at s)) len (omega (arith, length-drop at s))) refl, omega arith)

  pub bytes-passed : len ≤ length s - at → PassedBy s at (fixed_then (drop at s) len) (To (at + len))
  unfolding read_fixed
  bytes-passed h = (
    λ f. rw (le-ltb (length (drop at s)) len (omega (arith, length-drop at s))) (ap f (drop-drop len at s)),
    (omega arith, omega arith),
  )

-- 2. A tagged field

behind : (s : Bytes) (at end : ℕ) (r : Passed) → at < end → Behind s end r → Behind s at r
behind s at end (To to) h b = (omega (arith, b.0), b.1)
behind s at end (NotPassed n) h b = b

module _ (s : Bytes) (at : ℕ) (r : Varint) (h : VarintAs s at r) where
  pub size-refused : {n : ℕ} → r ≡ Refused n → PassedBy s at (sized_then (drop at s)) (NotPassed n)
  size-refused e = (λ f. varint-refused s at r h e (λ size t. fixed_then t size f), varint-positive s at r h e)

  pub size-read : {len end : ℕ} → r ≡ Is len end → (p : Passed) → PassedBy s end (fixed_then (drop end s) len) p → PassedBy s at (sized_then (drop at s)) p
  size-read {len} {end} e p g = (
    λ f. varint_is s at r h e (λ size t. fixed_then t size f) ∙ g.0 f,
    behind s at end p (varint-onward s at r h e).0 g.1,
  )

  pub tag_refused : {n : ℕ} → r ≡ Refused n → PassedBy s at (field_then (drop at s)) (NotPassed n)
  tag_refused e = (λ f. varint-refused s at r h e (λ tag t. sized_then t f), varint-positive s at r h e)

  pub tag_read : {tag end : ℕ} → r ≡ Is tag end → (p : Passed) → PassedBy s end (sized_then (drop end s)) p → PassedBy s at (field_then (drop at s)) p
  tag_read {tag} {end} e p g = (
    λ f. varint_is s at r h e (λ tag t. sized_then t f) ∙ g.0 f,
    behind s at end p (varint-onward s at r h e).0 g.1,
  )

-- 3. All of them

abbrev pub SkippedAs : Bytes → ℕ → Taken ℕ → Passed → Type 0
SkippedAs s at t r = (t ≡ onward s (took 0) r) × Behind s at r

pub record Left (s : Bytes) (at count to left : ℕ) : Type 0 where
  pub onwards : at ≤ to
  pub within : to ≤ length s
  pub same : skip_tagged count (drop at s) ≡ skip_tagged left (drop to s)

pub left-start : (s : Bytes) (at count : ℕ) → at ≤ length s → Left s at count at count
left-start s at count h = record { onwards = omega arith; within = h; same = refl }

module _ {s : Bytes} {at count to left : ℕ} (h : Left s at count to left) where
  pub none_left : left ≤ 0 → SkippedAs s at (skip_tagged count (drop at s)) (To to)
  unfolding skip_tagged
  none_left k = let none : left ≡ 0 = omega arith in (h.same ∙ ap (λ n. skip_tagged n (drop to s)) none, (h.onwards, h.within))

  module _ (some : 0 < left) (r : Passed) (g : PassedBy s to (field_then (drop to s)) r) where
    one_skipped : skip_tagged count (drop at s) ≡ onward s (skip_tagged (left - 1)) r
    unfolding skip_tagged
    one_skipped = let one : left ≡ suc (left - 1) = omega arith in h.same ∙ ap (λ n. skip_tagged n (drop to s)) one ∙ g.0 (skip_tagged (left - 1))

    pub field-refused : {n : ℕ} → r ≡ NotPassed n → SkippedAs s at (skip_tagged count (drop at s)) (NotPassed n)
    field-refused e = (one_skipped ∙ ap (onward s (skip_tagged (left - 1))) e, subst (Behind s to) e g.1)

    pub field_skipped : {end : ℕ} → r ≡ To end → Left s at count end (left - 1)
    field_skipped e =
        let b = subst (Behind s to) e g.1 in
        record { onwards = omega (arith, h.onwards, b.0); within = b.1; same = one_skipped ∙ ap (onward s (skip_tagged (left - 1))) e }

-- 4. With their count

module _ (s : Bytes) (at : ℕ) (r : Varint) (h : VarintAs s at r) where
  pub count-refused : {n : ℕ} → r ≡ Refused n → SkippedAs s at (and_then (read_varint false (drop at s)) skip_tagged) (NotPassed n)
  count-refused e = (varint-refused s at r h e skip_tagged, varint-positive s at r h e)

  pub count-read : {count end : ℕ} → r ≡ Is count end → (p : Passed) → SkippedAs s end (skip_tagged count (drop end s)) p
      → SkippedAs s at (and_then (read_varint false (drop at s)) skip_tagged) p
  count-read {count} {end} e p g = (varint_is s at r h e skip_tagged ∙ g.0, behind s at end p (varint-onward s at r h e).0 g.1)

-- A varint that has to be a version.
use mathlib.Core.Path.{◌≡◌, refl, ap, ◌∙◌, subst}
use mathlib.Core.Bool.{false, cond}
use Prim.Native.Nat.{ℕ, ◌≤◌, ◌<◌}
use native.Mathlib.Omega.{arith}
use lib.Dec.{eqb}
use lib.ListN.{length, drop}
use borrow.Author.Tests.{eq-eqb, ne_eqb}
use Rattle.model.specs.Number.{Bytes}
use Rattle.model.specs.Record.{Rec}
use Rattle.model.specs.Kafka.{Taken, bad, and_then, read_varint}
use Rattle.varints.specs.Varints.{taken, Onward, VarintAs}
use Rattle.varints.specs.declared.Varint.{Varint}
use Rattle.varints.specs.declared.Varint.TheVariants.{Is, Refused}
use Rattle.kafka_frame.specs.Parts.{onward, Behind}
use Rattle.kafka_frame.specs.declared.Passed.{Passed}
use Rattle.kafka_frame.specs.declared.Passed.TheVariants.{To, Refused as NotPassed}

abbrev pub VersionAs : Bytes → ℕ → ℕ → Passed → Type 0
VersionAs s at version p =
    ((f : Bytes → Taken Rec) → and_then (read_varint false (drop at s)) (λ n rest. cond (eqb n version) (f rest) (bad 4)) ≡ onward s f p) × Behind s at p

-- a varint that is read: its number, and what follows; or its refusal
module _ (s : Bytes) (at : ℕ) (r : Varint) (h : VarintAs s at r) where
  pub varint_is : {n end : ℕ} → r ≡ Is n end → {A : Type 0} (g : ℕ → Bytes → Taken A) → and_then (read_varint false (drop at s)) g ≡ g n (drop end s)
  varint_is e g = ap (λ t. and_then t g) (h.0 ∙ ap (taken s) e)

  pub varint-onward : {n end : ℕ} → r ≡ Is n end → (at < end) × (end ≤ length s) × (n < 4294967296)
  varint-onward e = subst (Onward s at) e h.1

  pub varint-refused : {n : ℕ} → r ≡ Refused n → {A : Type 0} (g : ℕ → Bytes → Taken A) → and_then (read_varint false (drop at s)) g ≡ bad n
  varint-refused e g = ap (λ t. and_then t g) (h.0 ∙ ap (taken s) e)

  pub varint-positive : {n : ℕ} → r ≡ Refused n → 0 < n
  varint-positive e = subst (Onward s at) e h.1

  module _ (version : ℕ) where
    pub version_refused : {n : ℕ} → r ≡ Refused n → VersionAs s at version (NotPassed n)
    version_refused e = (λ f. varint-refused e (λ n rest. cond (eqb n version) (f rest) (bad 4)), varint-positive e)

    module _ {n end : ℕ} (e : r ≡ Is n end) where
      pub version_wrong : (n ≡ version → ⊥) → VersionAs s at version (NotPassed 4)
      version_wrong ne = (λ f. varint_is e (λ n rest. cond (eqb n version) (f rest) (bad 4)) ∙ rw (ne_eqb n version ne) refl, omega arith)

      pub version_right : n ≡ version → VersionAs s at version (To end)
      version_right q = (
        λ f. varint_is e (λ n rest. cond (eqb n version) (f rest) (bad 4)) ∙ rw (eq-eqb n version q) refl,
        (omega (arith, (varint-onward e).0), (varint-onward e).1),
      )

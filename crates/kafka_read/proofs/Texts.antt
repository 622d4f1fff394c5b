-- A name: a number that is its length and one, and its bytes.
use mathlib.Core.Path.{◌≡◌, refl, sym, ap, ◌∙◌, subst}
use mathlib.Core.Bool.{Bool, true, false, cond}
use Prim.Native.Nat.{ℕ, suc, ◌+◌, ◌-◌, ◌≤◌, ◌<◌}
use native.Mathlib.Omega.{arith}
use lib.Dec.{leb, ltb}
use lib.ListN.{length, take, drop, length-drop}
use lib.Seq.{slice, drop-drop, length-take-le}
use borrow.Author.Tests.{ltb-true, ltb-false, lt-ltb, le-ltb, leb-true}
use Rattle.model.specs.Choice.{unless}
use Rattle.model.specs.Number.{Bytes}
use Rattle.model.specs.Text.{is_text}
use Rattle.model.specs.Shape.{string_limit, text_fault}
use Rattle.model.specs.Kafka.{Taken, bad, took, and_then, unless_wrong, text_of, read_string, read_fixed}
use Rattle.laws.specs.Choice.{impossible, or_then_right, unless_true}
use Rattle.fields.proofs.Parse.{take-drop}
use Rattle.varints.specs.Varints.{VarintAs}
use Rattle.varints.specs.declared.Varint.{Varint}
use Rattle.varints.specs.declared.Varint.TheVariants.{Is, Refused}
use Rattle.kafka_frame.specs.Parts.{onward, Behind}
use Rattle.kafka_frame.specs.declared.Passed.{Passed}
use Rattle.kafka_frame.specs.declared.Passed.TheVariants.{To, Refused as NotPassed}
use Rattle.kafka_frame.proofs.Versions.{varint_is, varint-refused}
use Rattle.kafka_frame.proofs.Tagged.{PassedBy, fixed_then}
use Rattle.kafka_read.specs.Messages.{name_taken, NameWithin}
use Rattle.kafka_read.specs.declared.message.Name.{Name}
use Rattle.kafka_read.specs.declared.message.Name.TheVariants.{Text, Refused as NoName}

abbrev pub NameAs : Bytes → Taken Bytes → Name → Type 0
NameAs s t r = (t ≡ name_taken s r) × NameWithin s r

-- 1. Bytes that were passed, or are not there

module _ (s : Bytes) (at len : ℕ) (within : at ≤ length s) (r : Passed) (h : PassedBy s at (fixed_then (drop at s) len) r) where
  bytes-there : {end : ℕ} → r ≡ To end → (end ≡ at + len) × (len ≤ length s - at)
  unfolding read_fixed
  bytes-there {end} e =
      let b = subst (Behind s at) e h.1 in
      go (ltb (length (drop at s)) len) refl b.1 (h.0 (took 0) ∙ ap (onward s (took 0)) e)
    where
      go : (c : Bool) → ltb (length (drop at s)) len ≡ c → end ≤ length s
          → and_then {B = ℕ} (cond c (bad 2) (took (take len (drop at s)) (drop len (drop at s)))) (λ v rest. took 0 rest) ≡ took 0 (drop end s)
          → (end ≡ at + len) × (len ≤ length s - at)
      go true q l k = impossible cc
      go false q l k =
          let rest : drop len (drop at s) ≡ drop end s = cc in
          let room : len ≤ length (drop at s) = ltb-false (length (drop at s)) len q in
          let size = length-drop at s in
          (omega (arith, ap length rest, length-drop len (drop at s), length-drop end s), omega arith)

  bytes-missing : {n : ℕ} → r ≡ NotPassed n → (length (drop at s) < len) × (2 ≡ n)
  unfolding read_fixed
  bytes-missing {n} e = go (ltb (length (drop at s)) len) refl (h.0 (took 0) ∙ ap (onward s (took 0)) e)
    where
      go : (c : Bool) → ltb (length (drop at s)) len ≡ c
          → and_then {B = ℕ} (cond c (bad 2) (took (take len (drop at s)) (drop len (drop at s)))) (λ v rest. took 0 rest) ≡ bad n
          → (length (drop at s) < len) × (2 ≡ n)
      go true q k = (ltb-true (length (drop at s)) len q, cc)
      go false q k = impossible cc

-- 2. A name's bytes

wrong_text : (n : ℕ) → (n ≡ 0 → ⊥) → (v rest : Bytes) → unless_wrong n v rest ≡ bad n
wrong_text n k v rest = let one : n ≡ suc (n - 1) = omega arith in ap (λ m. unless_wrong m v rest) one ∙ ap bad (sym one)

text_short : (v : Bytes) → text_fault string_limit v ≡ 0 → length v ≤ 255
text_short v h =
    leb-true (length v) string_limit (unless_true (leb (length v) string_limit) 5 (omega arith) (or_then_right (unless (is_text v) 4) (unless (leb (length v) string_limit) 5) h))

module _ (s : Bytes) (at n : ℕ) (within : at ≤ length s) (some : n ≡ 0 → ⊥) (r : Passed) (h : PassedBy s at (fixed_then (drop at s) (n - 1)) r) where
  one : n ≡ suc (n - 1)
  one = omega arith

  pub text_cut : {m : ℕ} → r ≡ NotPassed m → NameAs s (text_of n (drop at s)) (NoName m)
  text_cut e =
      let k = bytes-missing s at (n - 1) within r h e in
      (ap (λ m. text_of m (drop at s)) one ∙ rw (lt-ltb (length (drop at s)) (n - 1) k.0) (ap bad k.1), tt)

  module _ {end : ℕ} (e : r ≡ To end) where
    text_ends : (at ≤ end) × (end ≤ length s)
    text_ends = subst (Behind s at) e h.1

    text_there : text_of n (drop at s) ≡ unless_wrong (text_fault string_limit (take (end - at) (drop at s))) (slice at end s) (drop end s)
    text_there =
        let k = bytes-there s at (n - 1) within r h e in
        let size : n - 1 ≡ end - at = omega arith in
        let whole : at + (end - at) ≡ end = omega arith in
        let part : take (end - at) (drop at s) ≡ slice at end s = take-drop at (end - at) s ∙ ap (λ m. slice at m s) whole in
        let after : drop (end - at) (drop at s) ≡ drop end s = drop-drop (end - at) at s ∙ ap (λ m. drop m s) whole in
        ap (λ m. text_of m (drop at s)) one
        ∙ rw (le-ltb (length (drop at s)) (n - 1) (omega (arith, k.1, length-drop at s)), size, part, after)

    module _ {f : ℕ} (q : f ≡ text_fault string_limit (take (end - at) (drop at s))) where
      pub text_wrong : (f ≡ 0 → ⊥) → NameAs s (text_of n (drop at s)) (NoName f)
      text_wrong k = (text_there ∙ ap (λ m. unless_wrong m (slice at end s) (drop end s)) (sym q) ∙ wrong_text f k (slice at end s) (drop end s), tt)

      pub text_right : f ≡ 0 → NameAs s (text_of n (drop at s)) (Text at end)
      text_right k =
          let b = text_ends in
          let short = text_short (take (end - at) (drop at s)) (sym q ∙ k) in (
            text_there ∙ ap (λ m. unless_wrong m (slice at end s) (drop end s)) (sym q ∙ k),
            (b.0, b.1, omega (arith, short, length-take-le (end - at) (drop at s) (omega (arith, length-drop at s)))),
          )

-- 3. With the number before them

module _ (s : Bytes) (at : ℕ) (r : Varint) (h : VarintAs s at r) where
  pub name_refused : {n : ℕ} → r ≡ Refused n → NameAs s (read_string false (drop at s)) (NoName n)
  unfolding read_string
  name_refused e = (varint-refused s at r h e text_of, tt)

  pub name_read : {n end : ℕ} → r ≡ Is n end → (t : Name) → NameAs s (text_of n (drop end s)) t → NameAs s (read_string false (drop at s)) t
  unfolding read_string
  name_read e t g = (varint_is s at r h e text_of ∙ g.0, g.1)

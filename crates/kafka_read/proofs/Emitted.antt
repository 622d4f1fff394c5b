-- A record's bytes written part after part.
use mathlib.Core.Path.{◌≡◌, refl, sym, ap, ap₂, ◌∙◌, subst}
use mathlib.Core.List.{[], ◌∷◌, ◌++◌, append-nil}
use Prim.Native.Nat.{ℕ, ◌+◌, ◌-◌, ◌≤◌, ◌<◌}
use native.Mathlib.Omega.{arith}
use native.Mathlib.Nat.{zero-add}
use lib.ListN.{length, take, drop, length-append, length-take, length-drop, drop_of_length-le}
use lib.Seq.{slice}
use borrow.Author.Tests.{le-leb, lt-leb}
use Rattle.model.specs.Number.{Bytes, bytes}
use Rattle.model.specs.Reply.{Reply, accepted, refused, emit_bytes}
use Rattle.fields.proofs.Parse.{take-drop}
use Rattle.records.specs.Answers.{put_at, head}
use Rattle.records.proofs.Growing.{grow_start, grow, grown}
use Rattle.kafka_read.specs.Messages.{record_of, EmitsAs}

-- an array that is filled
pub filled : (out s : Bytes) → length out ≡ length s → put_at out 0 s ≡ s
filled out s h = ap (λ t. s ++ t) (drop_of_length-le out {i = 0 + length s} (omega arith)) ∙ append-nil s

-- a part that is lent is no longer than its ends are apart
pub part-short : (s : Bytes) (a e n : ℕ) → e ≤ a + n → length (take (e - a) (drop a s)) ≤ n
part-short s a e n h = simp (length-take, length-drop) (omega arith)

pub part_width : (s : Bytes) (a width n : ℕ) → width ≤ n → length (take (a + width - a) (drop a s)) ≤ n
part_width s a width n h = part-short s a (a + width) n (omega arith)

module _ (s out : Bytes) (used : ℕ) where
  bytes-short : length out < length s → EmitsAs s used out (refused 19) out
  unfolding emit_bytes
  bytes-short h = rw (lt-leb (length s) (length out) h) (refl, refl)

  bytes-written : length s ≤ length out → {n : ℕ} {v : Bytes} → (n ≡ 0 + length s) × (v ≡ put_at out 0 s) → EmitsAs s used out (accepted (n ∷ used ∷ [])) v
  unfolding emit_bytes
  bytes-written h {n} {v} e =
      let size : n ≡ length s = e.0 ∙ zero-add (length s) in
      rw (le-leb (length s) (length out) h) (rw size refl, e.1 ∙ ap (λ m. s ++ drop m out) (zero-add (length s)))

module _ (kind : ℕ) (first second others : Bytes) where
  length_record : length (record_of kind first second others) ≡ 6 + length first + 3 + length second + length others
  length_record =
      omega (arith, length-append first ((head 2 (length second) ++ second) ++ others), length-append second others)

  module _ (out : Bytes) (used : ℕ) where
    pub record-short : length out < 6 + length first + 3 + length second + length others → EmitsAs (record_of kind first second others) used out (refused 19) out
    record-short h = bytes-short (record_of kind first second others) out used (omega (arith, length_record))

    pub record-written : 6 + length first + 3 + length second + length others ≤ length out → {a b c d : Bytes}
        → a ≡ put_at out 0 (head kind (6 + length first + 3 + length second + length others - 3))
        → b ≡ put_at a 3 (head 1 (length first) ++ first)
        → c ≡ put_at b (6 + length first) (head 2 (length second) ++ second)
        → d ≡ put_at c (6 + length first + 3 + length second) others
        → EmitsAs (record_of kind first second others) used out (accepted ((6 + length first + 3 + length second + length others) ∷ used ∷ [])) d
    record-written h {a} {b} {c} {d} ea eb ec ed =
        let all = record_of kind first second others in
        let size : 6 + length first + 3 + length second + length others - 3 ≡ 6 + length first + length second + length others = omega arith in
        let one = head 1 (length first) ++ first in
        let two = head 2 (length second) ++ second in
        let g = grow_start out 0 all (omega (arith, length_record)) in
        let ga = grow g (head kind (6 + length first + length second + length others)) (one ++ (two ++ others)) refl {n = 3} (refl, ea ∙ ap (λ n. put_at out 0 (head kind n)) size) in
        let gb = grow ga one (two ++ others) refl {n = 6 + length first} (omega arith, eb) in
        let gc = grow gb two others refl {n = 6 + length first + 3 + length second} (omega arith, ec) in
        let gd = grow gc others [] (sym (append-nil others)) {n = 6 + length first + 3 + length second + length others} (refl, ed) in
        bytes-written all out used (omega (arith, length_record)) (grown gd refl)

-- a broker's id as eight bytes, and the part after it
pub broker_parts : (kind broker : ℕ) (s : Bytes) (at : ℕ) (others out : Bytes) (used : ℕ) {id : Bytes} → id ≡ bytes 8 broker → {r : Reply} {v : Bytes}
    → EmitsAs (record_of kind id (take (at + 8 - at) (drop at s)) others) used out r v
    → EmitsAs (record_of kind (bytes 8 broker) (slice at (at + 8) s) others) used out r v
broker_parts kind broker s at others out used e {r} {v} d =
    let n : at + (at + 8 - at) ≡ at + 8 = omega arith in
    let part : take (at + 8 - at) (drop at s) ≡ slice at (at + 8) s = take-drop at (at + 8 - at) s ∙ ap (λ k. slice at k s) n in
    subst (λ b. EmitsAs b used out r v) (ap₂ (λ i p. record_of kind i p others) e part) d

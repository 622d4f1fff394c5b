-- A message written part after part.
use mathlib.Core.Path.{◌≡◌, refl, ap, ◌∙◌}
use mathlib.Core.List.{[], ◌∷◌, ◌++◌}
use Prim.Native.Nat.{ℕ, ◌+◌, ◌≤◌, ◌<◌}
use native.Mathlib.Omega.{arith}
use native.Mathlib.Nat.{zero-add}
use lib.ListN.{length, drop, set, length-append}
use lib.Seq.{sets-eq}
use borrow.Author.Tests.{le-leb, lt-leb}
use Rattle.model.specs.Number.{Bytes}
use Rattle.model.specs.Reply.{accepted, refused, emit_bytes}
use Rattle.records.specs.Answers.{put_at}
use Rattle.records.proofs.Written.{put_at_byte}
use Rattle.records.proofs.Growing.{grow_start, grow, grown, grown_length}
use Rattle.kafka_write.specs.Messages.{EndsAs, message_bytes}

pub frame_put : (out : Bytes) (key : ℕ) → 3 ≤ length out → set (set (set out 0 1) 1 key) 2 0 ≡ put_at out 0 (1 ∷ key ∷ 0 ∷ [])
frame_put out key h = sets-eq (1 ∷ key ∷ 0 ∷ []) out 0 (omega arith)

module _ (s out : Bytes) where
  bytes-short : length out < length s → EndsAs (refused 19) out (emit_bytes s out)
  unfolding emit_bytes
  bytes-short h = rw (lt-leb (length s) (length out) h) (refl, refl)

  bytes-written : length s ≤ length out → {n : ℕ} {v : Bytes} → (n ≡ 0 + length s) × (v ≡ put_at out 0 s) → EndsAs (accepted (n ∷ [])) v (emit_bytes s out)
  unfolding emit_bytes
  bytes-written h {n} {v} e =
      let size : n ≡ length s = e.0 ∙ zero-add (length s) in
      rw (le-leb (length s) (length out) h) (rw size refl, e.1 ∙ ap (λ m. s ++ drop m out) (zero-add (length s)))

module _ (key : ℕ) (first second third out : Bytes) where
  length-message : length (message_bytes key first second third) ≡ 3 + length first + length second + length third + 1
  length-message =
      omega (arith, length-append first (second ++ (third ++ (0 ∷ []))), length-append second (third ++ (0 ∷ [])), length-append third (0 ∷ []))

  pub message-short : length out ≤ 3 + length first + length second + length third → EndsAs (refused 19) out (emit_bytes (message_bytes key first second third) out)
  message-short h = bytes-short (message_bytes key first second third) out (omega (arith, length-message))

  pub message-written : 3 + length first + length second + length third < length out → {a b c d : Bytes}
      → a ≡ put_at out 0 (1 ∷ key ∷ 0 ∷ [])
      → b ≡ put_at a 3 first
      → c ≡ put_at b (3 + length first) second
      → d ≡ put_at c (3 + length first + length second) third
      → EndsAs (accepted ((3 + length first + length second + length third + 1) ∷ [])) (set d (3 + length first + length second + length third) 0)
      (emit_bytes (message_bytes key first second third) out)
  message-written h {a} {b} {c} {d} ea eb ec ed =
      let all = message_bytes key first second third in
      let end = 3 + length first + length second + length third in
      let g = grow_start out 0 all (omega (arith, length-message)) in
      let ga = grow g (1 ∷ key ∷ 0 ∷ []) (first ++ (second ++ (third ++ (0 ∷ [])))) refl {n = 3} (refl, ea) in
      let gb = grow ga first (second ++ (third ++ (0 ∷ []))) refl {n = 3 + length first} (refl, eb) in
      let gc = grow gb second (third ++ (0 ∷ [])) refl {n = 3 + length first + length second} (refl, ec) in
      let gd = grow gc third (0 ∷ []) refl {n = end} (refl, ed) in
      let last = put_at_byte d end 0 (omega (arith, grown_length gd)) in
      let ge = grow gd (0 ∷ []) [] refl {n = end + 1} (refl, last) in
      bytes-written all out (omega (arith, length-message)) (grown ge refl)

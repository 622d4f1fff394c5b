-- Write, exit by exit. A record that passes is so short that its length fits two bytes.
use mathlib.Core.Path.{◌≡◌, refl, sym, ap, ◌∙◌}
use mathlib.Core.List.{List, [], ◌∷◌, ◌++◌}
use Prim.Native.Nat.{ℕ, zero, suc, ◌+◌, ◌≤◌, ◌<◌}
use native.Mathlib.Nat.{zero-add}
use native.Mathlib.Omega.{arith}
use lib.ListN.{length, drop}
use Rattle.model.specs.Kind.{kind_number}
use Rattle.model.specs.Number.{Bytes}
use Rattle.model.specs.Run.{Run, bytes_of}
use Rattle.model.specs.Shape.{framed, fault}
use Rattle.model.specs.Record.{Rec, rec, record_bytes, gathered, writing, write_of}
use Rattle.model.specs.Reply.{Reply, accepted, refused, Ended, unchanged, emit_bytes}
use Rattle.model.specs.declared.Kind.{Kind}
use Rattle.laws_records.specs.Runs.{Whole}
use Rattle.laws_records.specs.Faults.{fault-whole, fault-length}
use Rattle.laws_records.specs.Emits.{emit_fits, emit-short}
use Rattle.records.specs.Answers.{body_length, put_at, head}
use Rattle.records.proofs.Written.{put_at-append}
use Rattle.records.proofs.Bodies.{gathered-body}

writing-refused : (f : ℕ) (r : Rec) (out : Bytes) → (f ≡ 0 → ⊥) → unchanged f out ≡ writing f r out
writing-refused zero r out n = absurd (n refl)
writing-refused (suc f) r out n = refl

-- what is written at the start
written_start : (out s : Bytes) → put_at out 0 s ≡ s ++ drop (length s) out
written_start out s = rw zero-add

-- a reply and a buffer
both : {reply : Reply} {buffer : Bytes} (w : Ended) → record { reply = reply; buffer = buffer } ≡ w → (reply ≡ w.reply) × (buffer ≡ w.buffer)
both w e = (ap (λ (x : Ended). x.reply) e, ap (λ (x : Ended). x.buffer) e)

module _ (kind : Kind) (tags : Bytes) (lengths : List ℕ) (values : Bytes) {f : ℕ} (ef : f ≡ fault framed kind (gathered tags lengths values)) where
  abbrev run : Run
  run = gathered tags lengths values

  abbrev bytes : Bytes
  bytes = record_bytes (rec kind run)

  pub write_faulty : (out : Bytes) → (f ≡ 0 → ⊥)
      → (refused f ≡ (write_of kind tags lengths values out).reply) × (out ≡ (write_of kind tags lengths values out).buffer)
  unfolding write_of
  write_faulty out n =
      both (write_of kind tags lengths values out) (writing-refused f (rec kind run) out n ∙ ap (λ (g : ℕ). writing g (rec kind run) out) ef)

  module _ (z : f ≡ 0) where
    passes : fault framed kind run ≡ 0
    passes = sym ef ∙ z

    pub fields-whole : Whole run
    fields-whole = fault-whole framed kind run passes

    body_bytes : length (bytes_of run) ≡ body_length lengths
    body_bytes = gathered-body tags lengths values fields-whole

    pub body-short : body_length lengths < 65536
    body-short = omega (arith, body_bytes, fault-length framed kind run passes)

    module _ {len : ℕ} (el : len ≡ body_length lengths) where
      pub body_is : length (bytes_of run) ≡ len
      body_is = body_bytes ∙ sym el

      size : length bytes ≡ 3 + len
      unfolding record_bytes
      size = omega (arith, body_is)

      module _ (out : Bytes) where
        abbrev answer : Ended
        answer = write_of kind tags lengths values out

        emitted : answer ≡ emit_bytes bytes out
        unfolding write_of
        emitted = ap (λ (g : ℕ). writing g (rec kind run) out) passes

        pub write_short : length out < 3 + len → (refused 19 ≡ answer.reply) × (out ≡ answer.buffer)
        write_short h = both answer (sym (emitted ∙ emit-short bytes out (omega (arith, size))))

        module _ (fits : 3 + len ≤ length out) {number : ℕ} (en : number ≡ kind_number kind) {headed whole : Bytes}
            (eh : headed ≡ put_at out 0 (head number len)) (ew : whole ≡ put_at headed 3 (bytes_of run)) where
          record-written : whole ≡ bytes ++ drop (length bytes) out
          unfolding record_bytes
          record-written =
              let s : head number len ++ bytes_of run ≡ bytes = rw (en, body_is) in
              let k : 0 + length (head number len) ≤ length out = omega arith in
              ew ∙ rw eh (put_at-append out 0 (head number len) k (bytes_of run)) ∙ ap (put_at out 0) s ∙ written_start out bytes

          pub write_right : (accepted ((3 + len) ∷ []) ≡ answer.reply) × (whole ≡ answer.buffer)
          write_right =
              let b = both answer (sym (emitted ∙ emit_fits bytes out (omega (arith, size)))) in
              (ap (λ (n : ℕ). accepted (n ∷ [])) (sym size) ∙ b.0, record-written ∙ b.1)

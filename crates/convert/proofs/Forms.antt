-- What is written of either form: the log offset's record and then the run, or what stands behind that record.
use mathlib.Core.Path.{◌≡◌, refl, sym, ap, ◌∙◌}
use mathlib.Core.List.{[], ◌∷◌, ◌++◌}
use Prim.Native.Nat.{ℕ, ◌+◌, ◌-◌, ◌≤◌, ◌<◌}
use native.Mathlib.Omega.{arith}
use lib.ListN.{length, take, drop, length-append, length-drop}
use lib.Seq.{slice}
use Rattle.model.specs.Choice.{joined}
use Rattle.model.specs.Number.{Bytes, AreBytes, number, bytes}
use Rattle.model.specs.Run.{bytes_of}
use Rattle.model.specs.Shape.{framed}
use Rattle.model.specs.Record.{record_bytes}
use Rattle.model.specs.Items.{items_of}
use Rattle.model.specs.Reply.{accepted, refused, Ended, emit_bytes}
use Rattle.model.specs.Snapshot.{offset_rec, offset_size}
use Rattle.model.specs.Convert.{passes, start_checked, start_offset, beside}
use Rattle.laws.specs.Numbers.{number_bytes_lem}
use Rattle.laws.specs.Offsets.{offset-span}
use Rattle.laws_records.specs.Emits.{emit_fits, emit-short}
use Rattle.laws_convert.specs.NewForm.{NewForm, new_form}
use Rattle.keys.proofs.Found.{rest-lent}
use Rattle.records.specs.Answers.{put_at, number_bytes}
use Rattle.records.proofs.Written.{put_at-append}
use Rattle.records.proofs.Numbers.{length-number, offset-number}

-- 1. The new form

module _ (run : Bytes) (n : ℕ) (out : Bytes) where
  abbrev new : Bytes
  new = record_bytes (offset_rec n) ++ run

  new-length : length new ≡ offset_size + length run
  new-length = omega (arith, length-append (record_bytes (offset_rec n)) run, ap length (offset-number n), length-number 26 8 n)

  pub new-short : length out < offset_size + length run → (refused 19 ≡ (emit_bytes new out).reply) × (out ≡ (emit_bytes new out).buffer)
  new-short h = rw (emit-short new out (omega (arith, new-length))) (refl, refl)

  pub new-written : offset_size + length run ≤ length out → {a b : Bytes} → a ≡ put_at out 0 (number_bytes 26 8 n) → b ≡ put_at a offset_size run
      → (accepted ((offset_size + length run) ∷ []) ≡ (emit_bytes new out).reply) × (b ≡ (emit_bytes new out).buffer)
  new-written h {a} {b} ea eb =
      let long = length-number 26 8 n in
      let six : offset_size ≡ 0 + length (number_bytes 26 8 n) = omega (arith, long) in
      let whole : b ≡ put_at out 0 new =
      eb
      ∙ ap (λ x. put_at x offset_size run) ea
      ∙ ap (λ k. put_at (put_at out 0 (number_bytes 26 8 n)) k run) six
      ∙ put_at-append out 0 (number_bytes 26 8 n) (omega (arith, long)) run
      ∙ ap (λ s. put_at out 0 (s ++ run)) (sym (offset-number n)) in
      let from : 0 + length new ≡ length new = omega arith in
      rw (emit_fits new out (omega (arith, new-length)))
      (ap (λ k. accepted (k ∷ [])) (sym new-length), whole ∙ ap (λ k. new ++ drop k out) from)

-- 2. The old form, and the offset beside it

module _ (run : Bytes) (are : AreBytes run) (h : start_checked (items_of framed run) ≡ passes) where
  form : NewForm run
  form = new_form run are h

  abbrev offset : ℕ
  offset = start_offset (items_of framed run)

  pub old_long : offset_size ≤ length run
  old_long =
      omega (
        arith,
        ap length form.spelt,
        length-append (record_bytes (offset_rec offset)) (joined record_bytes form.later),
        ap length (offset-number offset),
        length-number 26 8 offset,
      )

  -- the number behind both heads
  offset-there : number (slice 6 14 run) ≡ offset
  offset-there = ap (λ s. number (slice 6 14 s)) (sym form.spelt) ∙ there ∙ number_bytes_lem 8 offset (offset-span offset form.offset)
    where
      there : number (slice 6 14 (record_bytes (offset_rec offset) ++ joined record_bytes form.later)) ≡ number (bytes 8 offset)
      there = unfold record_bytes bytes_of in refl

  module _ (out : Bytes) where
    abbrev answer : Ended
    answer = beside offset (emit_bytes (drop offset_size run) out)

    pub old-short : length out < length run - offset_size → (refused 19 ≡ answer.reply) × (out ≡ answer.buffer)
    old-short k = rw (emit-short (drop offset_size run) out (omega (arith, length-drop offset_size run))) (refl, refl)

    pub old-written : length run - offset_size ≤ length out → {a : Bytes} → a ≡ put_at out 0 (take (length run - offset_size) (drop offset_size run))
        → {o : ℕ} → o ≡ number (slice 6 14 run) → (accepted ((length run - offset_size) ∷ o ∷ []) ≡ answer.reply) × (a ≡ answer.buffer)
    old-written k {a} ea {o} eo =
        let long = length-drop offset_size run in
        let from : 0 + length (drop offset_size run) ≡ length (drop offset_size run) = omega arith in
        rw (emit_fits (drop offset_size run) out (omega (arith, long))) (
          ap (λ x. accepted ((length run - offset_size) ∷ x ∷ [])) (eo ∙ offset-there) ∙ ap (λ x. accepted (x ∷ offset ∷ [])) (sym long),
          ea ∙ ap (put_at out 0) (rest-lent offset_size run) ∙ ap (λ x. drop offset_size run ++ drop x out) from,
        )

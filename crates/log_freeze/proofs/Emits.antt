-- What is written: some bytes, the record at a place, the freeze that a name has by the slots.
use mathlib.Core.Path.{◌≡◌, refl, sym, ap, ◌∙◌, subst}
use mathlib.Core.List.{[], ◌∷◌, ◌++◌, append-nil}
use mathlib.Core.Option.{some}
use Prim.Native.Nat.{ℕ, suc, ◌+◌, ◌-◌, ◌≤◌, ◌<◌}
use native.Mathlib.Omega.{arith}
use borrow.Author.Tests.{le-leb, lt-leb}
use lib.ListN.{length, take, drop, length-drop}
use lib.Seq.{slice, drop-drop}
use Rattle.model.specs.Number.{Bytes, AreBytes, number}
use Rattle.model.specs.Shape.{framed}
use Rattle.model.specs.Record.{Rec, record_bytes, got, read}
use Rattle.model.specs.Reply.{Reply, accepted, refused, Ended, emit_bytes}
use Rattle.model.specs.Snapshot.{emit}
use Rattle.model.specs.Lookup.{as_list}
use Rattle.laws_records.specs.Records.{reads, head_of}
use Rattle.fields.proofs.Parse.{take-drop}
use Rattle.log_freeze.specs.Slots.{frozen_at, Holds}
use Rattle.log_freeze.proofs.Turns.{spelt-part}

-- a reply and a buffer, as an operation ends
abbrev pub EndsAs : Reply → Bytes → Ended → Type 0
EndsAs r v e = (r ≡ e.reply) × (v ≡ e.buffer)

-- 1. Some bytes

module _ (s out : Bytes) where
  pub bytes-short : length out < length s → EndsAs (refused 19) out (emit_bytes s out)
  unfolding emit_bytes
  bytes-short h = rw (lt-leb (length s) (length out) h) (refl, refl)

  pub bytes-room : length s ≤ length out → {v : Bytes} → v ≡ take 0 out ++ s ++ drop (0 + length s) out → EndsAs (accepted (length s ∷ [])) v (emit_bytes s out)
  unfolding emit_bytes
  bytes-room h e = let z : 0 + length s ≡ length s = omega arith in rw (le-leb (length s) (length out) h) (refl, e ∙ ap (λ n. s ++ drop n out) z)

-- 2. The record at a place

-- its length stands in its header
used-size : (s : Bytes) (r : Rec) (n : ℕ) → read framed s ≡ got r n → n ≡ 3 + number (slice 1 3 s)
used-size [] r n e = let d = reads framed [] r n e in absurd (omega (arith, d.fits, d.head))
used-size (k ∷ []) r n e = let d = reads framed (k ∷ []) r n e in absurd (omega (arith, d.fits, d.head))
used-size (k ∷ h ∷ []) r n e = let d = reads framed (k ∷ h ∷ []) r n e in absurd (omega (arith, d.fits, d.head))
used-size (k ∷ h ∷ l ∷ s) r n e = let u = (head_of framed k h l s r n e).used in omega arith

module _ (run : Bytes) (at : ℕ) (holds : Holds run (at + 1)) where
  abbrev there : (r : Rec) × (n : ℕ) × (read framed (drop at run) ≡ got r n)
  there = let next : at + 1 ≡ suc at = omega arith in subst (Holds run) next holds

  header-there : slice (at + 1) (at + 1 + 2) run ≡ slice 1 3 (drop at run)
  header-there =
      let to : at + 1 + 2 ≡ at + 3 = omega arith in
      ap (λ n. drop (at + 1) (take n run)) to ∙ sym (drop-drop 1 at (take (at + 3) run)) ∙ ap (drop 1) (sym (take-drop at 3 run))

  pub size-there : {m : ℕ} → m ≡ number (slice (at + 1) (at + 1 + 2) run) → there.1 ≡ 3 + m
  size-there {m} e =
      let u = used-size (drop at run) there.0 there.1 there.2 in
      let same : m ≡ number (slice 1 3 (drop at run)) = e ∙ ap number header-there in
      omega (arith, u, same)

  pub header_fits : at + 1 + 2 ≤ length run
  header_fits = let d = reads framed (drop at run) there.0 there.1 there.2 in omega (arith, d.fits, d.head, length-drop at run)

  pub record-fits : {m : ℕ} → m ≡ number (slice (at + 1) (at + 1 + 2) run) → at + 3 + m ≤ length run
  record-fits e = let d = reads framed (drop at run) there.0 there.1 there.2 in omega (arith, d.fits, d.head, length-drop at run, size-there e)

  frozen-there : frozen_at run (at + 1) ≡ some there.0
  frozen-there = let next : at + 1 ≡ suc at = omega arith in ap (frozen_at run) next ∙ go there.0 there.1 there.2
    where
      go : (r : Rec) (n : ℕ) → read framed (drop at run) ≡ got r n → frozen_at run (suc at) ≡ some r
      go r n e = unfold frozen_at in rw e refl

  pub record-emitted : AreBytes run → {m : ℕ} → m ≡ number (slice (at + 1) (at + 1 + 2) run) → (out : Bytes) {r : Reply} {v : Bytes}
      → EndsAs r v (emit_bytes (take (at + 3 + m - at) (drop at run)) out) → EndsAs r v (emit (as_list (frozen_at run (at + 1))) out)
  record-emitted are {m} e out ends =
      let r = there.0 in
      let n = there.1 in
      let same : at + 3 + m ≡ at + n = omega (arith, size-there e) in
      let bytes : take (at + 3 + m - at) (drop at run) ≡ record_bytes r = ap (λ k. take (k - at) (drop at run)) same ∙ spelt-part run are at r n there.2 in
      let listed : emit_bytes (take (at + 3 + m - at) (drop at run)) out ≡ emit (as_list (frozen_at run (at + 1))) out =
      ap (λ s. emit_bytes s out) (bytes ∙ sym (append-nil (record_bytes r))) ∙ sym (ap (λ o. emit (as_list o) out) frozen-there ∙ unfold emit in refl) in
      (ends.0 ∙ ap (λ x. x.reply) listed, ends.1 ∙ ap (λ x. x.buffer) listed)

-- The answers: by the records' fault, by their number, by the history's number, and what is written.
use mathlib.Core.Path.{◌≡◌, refl, sym, ap, ◌∙◌}
use mathlib.Core.List.{List, [], ◌∷◌, ◌++◌}
use mathlib.Core.Option.{none, some}
use Prim.Native.Nat.{ℕ, zero, suc, ◌+◌, ◌≤◌, ◌<◌}
use native.Mathlib.Omega.{arith}
use borrow.Author.Tests.{le-leb, lt-leb}
use lib.ListN.{length, drop}
use Rattle.model.specs.Number.{Bytes}
use Rattle.model.specs.Shape.{framed}
use Rattle.model.specs.Record.{Rec}
use Rattle.model.specs.Items.{items_of, records}
use Rattle.model.specs.Reply.{Reply, accepted, refused, Ended, emit_bytes}
use Rattle.model.specs.ShortHistory.{record_limit, positions, history_at, few_fault, history_bytes, numbered, history_of}
use Rattle.laws_short.specs.Answers.{numbered-none, numbered-some}
use Rattle.records.specs.Answers.{put_at}
use Rattle.short_histories.specs.Histories.{records_in, CountAs, FoundAs}
use Rattle.short_histories.specs.declared.Count.TheVariants.{Records, Refused}
use Rattle.short_histories.specs.declared.Found.TheVariants.{History, Past}

-- a reply and a buffer, as an operation ends
abbrev pub EndsAs : Reply → Bytes → Ended → Type 0
EndsAs r v e = (r ≡ e.reply) × (v ≡ e.buffer)

-- 1. What is written

module _ (s out : Bytes) {size : ℕ} (e : size ≡ length s) where
  pub too_short : length out < size → EndsAs (refused 19) out (emit_bytes s out)
  unfolding emit_bytes
  too_short h = let less : length out < length s = omega (arith, e) in rw (lt-leb (length s) (length out) less) (refl, refl)

  pub room : size ≤ length out → {v : Bytes} → v ≡ put_at out 0 s → EndsAs (accepted (size ∷ [])) v (emit_bytes s out)
  unfolding emit_bytes
  room h q =
      let fits : length s ≤ length out = omega (arith, e) in
      let z : 0 + length s ≡ length s = omega arith in
      rw (le-leb (length s) (length out) fits) (ap (λ n. accepted (n ∷ [])) e, q ∙ ap (λ n. s ++ drop n out) z)

-- 2. The checks

module _ (input : Bytes) (number : ℕ) (out : Bytes) where
  pub record-refused : {n : ℕ} → CountAs input (Refused n) → EndsAs (refused n) out (history_of input number out)
  unfolding history_of
  record-refused {n} d = go n d.0 d.1
    where
      go : (m : ℕ) → few_fault record_limit (items_of framed input) ≡ m → 0 < m → EndsAs (refused m) out (history_of input number out)
      go zero e h = absurd (omega arith)
      go (suc m) e h = rw e (refl, refl)

  module _ {n : ℕ} (d : CountAs input (Records n)) where
    passed : history_of input number out ≡ numbered (records_in input) number out
    unfolding history_of
    passed = rw d.0 refl

    pub no_record : n ≡ 0 → EndsAs (refused 5) out (history_of input number out)
    no_record h = rw passed (go (records_in input) (omega (arith, d.1)))
      where
        go : (rs : List Rec) → length rs ≡ 0 → EndsAs (refused 5) out (numbered rs number out)
        go [] e = (refl, refl)
        go (r ∷ rs) e = absurd (omega arith)

    module _ (least : n ≡ 0 → ⊥) where
      pub some_record : 0 < n
      some_record = omega (arith, least)

      least-length : 0 < length (records_in input)
      least-length = omega (arith, some_record, d.1)

      pub past_last : FoundAs n number Past → EndsAs (refused 26) out (history_of input number out)
      past_last f =
          let same = passed ∙ numbered-none (records_in input) number out least-length (ap (λ m. history_at m number) (sym d.1) ∙ f) in
          (sym (ap (λ x. x.reply) same), sym (ap (λ x. x.buffer) same))

      pub history_written : {len i : ℕ} → FoundAs n number (History len i) → {r : Reply} {v : Bytes}
          → EndsAs r v (emit_bytes (history_bytes (records_in input) (positions n len i)) out) → EndsAs r v (history_of input number out)
      history_written {len} {i} f q =
          let same = passed ∙ numbered-some (records_in input) number out least-length (positions n len i) (ap (λ m. history_at m number) (sym d.1) ∙ f.0) in
          (q.0 ∙ sym (ap (λ x. x.reply) same), q.1 ∙ sym (ap (λ x. x.buffer) same))

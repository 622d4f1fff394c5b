-- A broker's record as a level knows it: none where that is the broker's own, else a head and the fields as they are known.
use mathlib.Core.Path.{◌≡◌, refl, sym, ap, ap₂, ◌∙◌}
use mathlib.Core.Bool.{Bool, true, false, cond}
use mathlib.Core.List.{[], ◌∷◌, ◌++◌, append-nil}
use Prim.Native.Nat.{ℕ, ◌+◌, ◌-◌, ◌≤◌, ◌<◌}
use native.Mathlib.Omega.{arith}
use borrow.Author.Tests.{eq-eqb, ne_eqb, eqb-true, eqb-false}
use lib.Dec.{eqb}
use lib.ListN.{length, length-append, length-drop, drop}
use Rattle.model.specs.Choice.{joined}
use Rattle.model.specs.Number.{Bytes}
use Rattle.model.specs.Order.{same_bytes}
use Rattle.model.specs.Run.{bytes_of}
use Rattle.model.specs.Kind.{kind_number}
use Rattle.model.specs.Shape.{stored, fault}
use Rattle.model.specs.Record.{rec, record_bytes}
use Rattle.model.specs.Downgrade.{project}
use Rattle.model.specs.declared.Kind.TheVariants.{BrokerRegistration}
use Rattle.laws.specs.Order.{same_bytes_self, apart_same_bytes}
use Rattle.laws_records.specs.Runs.{Whole, length_run}
use Rattle.laws_records.specs.Faults.{fault-whole}
use Rattle.keys.specs.Keys.{kind_in, run_in}
use Rattle.entries.specs.Entries.{IsRecord}
use Rattle.entries.proofs.Changes.{record-in}
use Rattle.image_entries.proofs.Records.{headed, run_in_lem, kind_is}
use Rattle.records.specs.Answers.{put_at, head}
use Rattle.records.proofs.Written.{put_at_nothing, put_at-append, length-written}
use Rattle.downgrade_brokers.specs.Known.{empty_tag, gone_tag, known, known_field, field_bytes, projected_bytes}
use Rattle.downgrade_brokers.proofs.Known.{known_same, no_bytes, project-known}

-- 1. A field, as it is written

module _ (empty gone t : ℕ) (v out : Bytes) (at : ℕ) where
  written_as : {part : Bytes} → known_field empty gone t v ≡ part → {n : ℕ} {w : Bytes} → (n ≡ at + length part) × (w ≡ put_at out at part)
      → (n ≡ at + length (known_field empty gone t v)) × (w ≡ put_at out at (known_field empty gone t v))
  written_as e h = rw e h

  pub put-gone : t ≡ gone → (at ≡ at + length (known_field empty gone t v)) × (out ≡ put_at out at (known_field empty gone t v))
  put-gone e = written_as {part = []} (rw (eq-eqb t gone e)) (omega arith, sym (put_at_nothing out at))

  module _ (there : t ≡ gone → ⊥) where
    is_empty_lem : t ≡ empty → known_field empty gone t v ≡ head t 0
    is_empty_lem e = rw (ne_eqb t gone there, eq-eqb t empty e)

    is_whole : (t ≡ empty → ⊥) → known_field empty gone t v ≡ field_bytes t v
    is_whole other = rw (ne_eqb t gone there, ne_eqb t empty other)

    module _ (fits : at + length (known_field empty gone t v) ≤ length out) where
      pub empty_fits : t ≡ empty → at + 3 ≤ length out
      empty_fits e = omega (arith, ap length (is_empty_lem e))

      pub whole_fits : (t ≡ empty → ⊥) → at + 3 + length v ≤ length out
      whole_fits other = omega (arith, ap length (is_whole other))

    pub put_empty : t ≡ empty → {w : Bytes} → w ≡ put_at out at (head t 0)
        → (at + 3 ≡ at + length (known_field empty gone t v)) × (w ≡ put_at out at (known_field empty gone t v))
    put_empty e h = written_as (is_empty_lem e) (omega arith, h)

    pub put_whole : (t ≡ empty → ⊥) → {w : Bytes} → w ≡ put_at out at (field_bytes t v)
        → (at + 3 + length v ≡ at + length (known_field empty gone t v)) × (w ≡ put_at out at (known_field empty gone t v))
    put_whole other h = written_as (is_whole other) (omega arith, h)

-- 2. A broker

module _ (s : Bytes) (i : IsRecord s) (is : kind_in s ≡ 3) where
  passes : fault stored BrokerRegistration (run_in s) ≡ 0
  unfolding kind_number
  passes =
      let same = record-in s i in
      ap (fault stored BrokerRegistration) (run_in_lem s i ∙ ap (λ r. r.run) same)
      ∙ ap (λ k. fault stored k i.value.run) (sym (kind_is s i BrokerRegistration is) ∙ ap (λ r. r.kind) same)
      ∙ i.passes

  pub may_know : (3 ≤ length s) × Whole (run_in s)
  may_know = (headed s i, fault-whole stored BrokerRegistration (run_in s) passes)

  long : 3 + length (bytes_of (run_in s)) ≡ length s
  long = omega (arith, length_run (drop 3 s) may_know.1, length-drop 3 s, may_know.0)

  module _ (level : ℕ) {empty gone : ℕ} (ee : empty ≡ empty_tag level) (eg : gone ≡ gone_tag level) where
    is_known : project level (run_in s) ≡ known empty gone (run_in s)
    is_known = project-known level (run_in s) passes ∙ ap₂ (λ x y. known x y (run_in s)) (sym ee) (sym eg)

    module _ {n : ℕ} (en : n ≡ length (bytes_of (known empty gone (run_in s)))) where
      own : 3 + n ≡ length s → projected_bytes level (run_in s) ≡ []
      own e =
          let same = is_known ∙ known_same empty gone (run_in s) (omega (arith, long)) in
          let test : same_bytes (bytes_of (project level (run_in s))) (bytes_of (run_in s)) ≡ true =
          ap (λ r. same_bytes (bytes_of r) (bytes_of (run_in s))) same ∙ same_bytes_self (bytes_of (run_in s)) in
          rw test

      other : (3 + n ≡ length s → ⊥) → projected_bytes level (run_in s) ≡ head 3 n ++ bytes_of (known empty gone (run_in s))
      unfolding record_bytes kind_number
      other apart =
          let test : same_bytes (bytes_of (project level (run_in s))) (bytes_of (run_in s)) ≡ false =
          apart_same_bytes (bytes_of (project level (run_in s))) (bytes_of (run_in s)) (λ e. apart (omega (arith, long, ap length e, ap (λ r. length (bytes_of r)) is_known))) in
          ap (λ x. joined record_bytes (cond x [] (rec BrokerRegistration (project level (run_in s)) ∷ []))) test
          ∙ append-nil (record_bytes (rec BrokerRegistration (project level (run_in s))))
          ∙ ap (λ r. record_bytes (rec BrokerRegistration r)) is_known
          ∙ ap (λ x. head 3 x ++ bytes_of (known empty gone (run_in s))) (sym en)

      pub other_size : 3 + n < length s → (3 + n ≡ length (projected_bytes level (run_in s))) × (3 + n ≤ length s)
      other_size less = (omega (arith, en, ap length (other (λ e. omega arith)), length-append (head 3 n) (bytes_of (known empty gone (run_in s)))), omega arith)

      pub own-size : length s ≤ 3 + n → n + 3 ≤ length s → (0 ≡ length (projected_bytes level (run_in s))) × (0 ≤ length s)
      own-size more low = (sym (ap length (own (omega arith))), omega arith)

    -- what is written, by the size
    module _ {size : ℕ} (es : size ≡ length (projected_bytes level (run_in s))) where
      pub nothing : size ≡ 0 → (out : Bytes) (at : ℕ) → (at ≡ at + length (projected_bytes level (run_in s))) × (out ≡ put_at out at (projected_bytes level (run_in s)))
      nothing z out at = (omega arith, sym (put_at_nothing out at) ∙ ap (put_at out at) (no_bytes (projected_bytes level (run_in s)) (sym es ∙ z)))

      module _ (some : size ≡ 0 → ⊥) where
        parts : (projected_bytes level (run_in s) ≡ head 3 (size - 3) ++ bytes_of (known empty gone (run_in s))) × (size ≡ 3 + length (bytes_of (known empty gone (run_in s))))
        parts = go (eqb (3 + length (bytes_of (known empty gone (run_in s)))) (length s)) refl
          where
            go : (b : Bool) → eqb (3 + length (bytes_of (known empty gone (run_in s)))) (length s) ≡ b
                → (projected_bytes level (run_in s) ≡ head 3 (size - 3) ++ bytes_of (known empty gone (run_in s))) × (size ≡ 3 + length (bytes_of (known empty gone (run_in s))))
            go true e = absurd (some (es ∙ ap length (own refl (eqb-true (3 + length (bytes_of (known empty gone (run_in s)))) (length s) e))))
            go false e =
                let k = bytes_of (known empty gone (run_in s)) in
                let all = other refl (eqb-false (3 + length k) (length s) e) in
                let sum : size ≡ 3 + length k = es ∙ ap length all ∙ length-append (head 3 (length k)) k in
                let left : length k ≡ size - 3 = omega arith in
                (all ∙ ap (λ x. head 3 x ++ k) left, sum)

        pub size_low : 3 ≤ size
        size_low = omega (arith, parts.1)

        module _ (out : Bytes) (at : ℕ) (fits : at + length (projected_bytes level (run_in s)) ≤ length out) where
          pub head_fits : at + 3 ≤ length out
          head_fits = omega (arith, es, size_low)

          module _ {w : Bytes} (ew : w ≡ put_at out at (head 3 (size - 3))) where
            pub run_fits : at + 3 + length (bytes_of (known empty gone (run_in s))) ≤ length w
            run_fits = omega (arith, ap length ew ∙ length-written out at (head 3 (size - 3)) (omega (arith, head_fits)), es, parts.1)

            pub put-parts : {n : ℕ} {v : Bytes}
                → (n ≡ at + 3 + length (bytes_of (known empty gone (run_in s)))) × (v ≡ put_at w (at + 3) (bytes_of (known empty gone (run_in s))))
                → (n ≡ at + length (projected_bytes level (run_in s))) × (v ≡ put_at out at (projected_bytes level (run_in s)))
            put-parts h = (
              omega (arith, h.0, es, parts.1),
              h.1
                  ∙ ap (λ x. put_at x (at + 3) (bytes_of (known empty gone (run_in s)))) ew
                  ∙ put_at-append out at (head 3 (size - 3)) (omega (arith, head_fits)) (bytes_of (known empty gone (run_in s)))
                  ∙ ap (put_at out at) (sym parts.0),
            )

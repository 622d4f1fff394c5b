-- Bytes written to an output: all of them or none, and the rest of the output stays.
use Rattle.std.specs.Prelude.{◌≡◌, refl, List, [], ◌∷◌, ◌++◌, Bool, true, false, cond, ℕ, suc, ◌≤◌, ◌<◌, leb, length, drop}
use Rattle.std.proofs.Common.{sym, ap, arith, le-leb, leb-true}
use Rattle.std.proofs.lemmas.Bool.{lt-leb}
use Rattle.model.specs.Number.{Bytes}
use Rattle.model.specs.Reply.{Reply, accepted, refused, Ended, unchanged, emit_bytes}

module _ (s out : Bytes) where
  pub emit_fits : length s ≤ length out → emit_bytes s out ≡ record { reply = accepted (length s ∷ []); buffer = s ++ drop (length s) out }
  unfolding emit_bytes
  emit_fits h = rw (le-leb _ _ h)

  pub emit-short : length out < length s → emit_bytes s out ≡ unchanged 19 out
  unfolding emit_bytes
  emit-short h = rw (lt-leb _ _ h)

-- what an accepted reply tells
pub record Emits (s out : Bytes) (w : Ended) (n : ℕ) : Type 0 where
  pub size : n ≡ length s
  pub fits : n ≤ length out
  pub buffer : w.buffer ≡ s ++ drop n out

pub one_value : (m n : ℕ) → accepted (m ∷ []) ≡ accepted (n ∷ []) → m ≡ n
one_value m n e = let q : ◌≡◌ {A = List ℕ} (m ∷ []) (n ∷ []) = ap (λ (r : Reply). r.values) e in cc

pub not_refused : (m : ℕ) (vs : List ℕ) → refused (suc m) ≡ accepted vs → ⊥
not_refused m vs e = let q : suc m ≡ 0 = ap (λ (r : Reply). r.number) e in omega arith

pub emits : (s out : Bytes) (n : ℕ) → (emit_bytes s out).reply ≡ accepted (n ∷ []) → Emits s out (emit_bytes s out) n
unfolding emit_bytes
emits s out n e = go (leb (length s) (length out)) refl e
  where
    whole : Ended
    whole = record { reply = accepted (length s ∷ []); buffer = s ++ drop (length s) out }

    go : (b : Bool) → leb (length s) (length out) ≡ b → (cond b whole (unchanged 19 out)).reply ≡ accepted (n ∷ [])
        → Emits s out (cond b whole (unchanged 19 out)) n
    go true f h =
        let q : length s ≡ n = one_value (length s) n h in
        let k = leb-true (length s) (length out) f in
        record { size = sym q; fits = omega arith; buffer = ap (λ (z : ℕ). s ++ drop z out) q }
    go false f h = absurd (not_refused 18 (n ∷ []) h)

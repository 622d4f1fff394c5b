-- The prefixes of a name: the longest that is stored, by those of growing length; a shorter one is below a longer one.
use mathlib.Core.Path.{◌≡◌, refl, sym, ap, ◌∙◌}
use mathlib.Core.List.{[], ◌∷◌, ◌++◌, append_assoc, append-nil}
use mathlib.Core.Option.{Option, none, some}
use Prim.Native.Nat.{Ordering}
use Prim.Native.Nat.{ℕ, zero, suc, ◌+◌, ◌≤◌, ◌<◌}
use native.Mathlib.Omega.{arith}
use lib.ListN.{length, take, length-append}
use lib.Seq.{take_at, take-length}
use Rattle.model.specs.Choice.{or_else}
use Rattle.model.specs.Number.{Bytes}
use Rattle.model.specs.Order.{compare_bytes, compare_keys, then_by}
use Rattle.model.specs.Record.{Rec}
use Rattle.model.specs.Key.{rank_part, freeze_key}
use Rattle.model.specs.Lookup.{longest_by}
use Rattle.model.specs.declared.Kind.TheVariants.{TopicFreeze}
use Rattle.laws.specs.Order.{numbers_total, bytes-total, lexicographic-append, Lt}

else_assoc : (a b c : Option Rec) → or_else (or_else a b) c ≡ or_else a (or_else b c)
else_assoc none b c = refl
else_assoc (some r) b c = refl

else_none : (a : Option Rec) → or_else a none ≡ a
else_none none = refl
else_none (some r) = refl

module _ (find : Bytes → Option Rec) (name : Bytes) where
  -- by the prefixes of less than `n` bytes, the longest first
  abbrev pub shorter : ℕ → Option Rec
  shorter zero = none
  shorter (suc n) = or_else (find (take n name)) (shorter n)

  prefix : (before rest : Bytes) → name ≡ before ++ rest → take (length before) name ≡ before
  prefix before rest e = ap (take (length before)) e ∙ take_at before rest (length before) refl

  from : (before rest : Bytes) → name ≡ before ++ rest → or_else (longest_by find before rest) (shorter (length before)) ≡ shorter (suc (length name))
  unfolding longest_by
  from before [] e =
      let same : name ≡ before = e ∙ append-nil before in
      let whole : take (length name) name ≡ before = take-length name ∙ same in
      rw whole (ap (λ n. or_else (find before) (shorter n)) (ap length (sym same)))
  from before (b ∷ rest) e =
      let more : name ≡ (before ++ (b ∷ [])) ++ rest = e ∙ sym (append_assoc before (b ∷ []) rest) in
      let one : length (before ++ (b ∷ [])) ≡ suc (length before) = omega (arith, length-append before (b ∷ [])) in
      else_assoc (longest_by find (before ++ (b ∷ [])) rest) (find before) (shorter (length before))
      ∙ ap (λ x. or_else (longest_by find (before ++ (b ∷ [])) rest) (or_else (find x) (shorter (length before)))) (sym (prefix before (b ∷ rest) e))
      ∙ ap (λ n. or_else (longest_by find (before ++ (b ∷ [])) rest) (shorter n)) (sym one)
      ∙ from (before ++ (b ∷ [])) rest more

  pub longest-shorter : longest_by find [] name ≡ shorter (suc (length name))
  longest-shorter = sym (else_none (longest_by find [] name)) ∙ from [] name refl

shorter-below : (name : Bytes) (n m : ℕ) → n < m → m ≤ length name → compare_bytes (take n name) (take m name) ≡ Ordering.lt
unfolding compare_bytes
shorter-below name n zero h k = absurd (omega arith)
shorter-below [] n (suc m) h k = absurd (omega arith)
shorter-below (b ∷ name) zero (suc m) h k = refl
shorter-below (b ∷ name) (suc n) (suc m) h k = rw (numbers_total.same b) (shorter-below name n m (omega arith) (omega arith))

-- the keys of their freezes
pub freeze-below : (pattern name : Bytes) (n m : ℕ) → n < m → m ≤ length name → Lt (freeze_key pattern (take n name)) (freeze_key pattern (take m name))
unfolding compare_keys
freeze-below pattern name n m h k = record {
  is =
      lexicographic-append bytes-total (rank_part TopicFreeze ∷ pattern ∷ []) (take n name ∷ []) (take m name ∷ [])
      ∙ ap (λ o. then_by o (compare_keys [] [])) (shorter-below name n m h k);
}

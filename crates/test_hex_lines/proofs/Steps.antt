-- The line after one byte of the input, case by case.
use Prim.Native.Nat.{ℕ, zero, suc, ◌+◌, ◌*◌, ◌%◌, ◌<◌}
use mathlib.Core.Path.{◌≡◌, refl, sym, ap, ◌∙◌}
use mathlib.Core.Bool.{true, false}
use mathlib.Core.List.{List, [], ◌∷◌, ◌++◌}
use native.Mathlib.Nat.{le_of_suc-le-suc, not-suc-le-zero}
use native.Mathlib.Omega.{arith}
use borrow.Author.Tests.{eq-eqb, ne_eqb}
use lib.ListN.{length, take, set}
use lib.Seq.{length-take-le}
use Rattle.test_hex_lines.specs.Line.{digit_of, Held, holding, held_in, after_digit, after_byte}
use Rattle.test_hex_lines.specs.declared.Line.{Line}

-- the bytes up to a place and the one that is stored there
kept : (s : List ℕ) (n b : ℕ) → n < length s → take (suc n) (set s n b) ≡ take n s ++ (b ∷ [])
kept [] n b h = absurd (not-suc-le-zero h)
kept (x ∷ xs) zero b h = refl
kept (x ∷ xs) (suc n) b h = ap (λ (r : List ℕ). x ∷ r) (kept xs n b (le_of_suc-le-suc h))

stored : (s : List ℕ) (n b : ℕ) → n < length s → take (n + 1) (set s n b) ≡ take n s ++ (b ∷ [])
stored s n b h = let e : n + 1 ≡ suc n = omega arith in ap (λ (k : ℕ). take k (set s n b)) e ∙ kept s n b h

-- a line that begins holds nothing
pub begun : (s : List ℕ) (l : Line) → (l.len ≡ 0) × (l.upper ≡ 16) × (l.passed ≡ false) × (l.ended ≡ false) → held_in s l ≡ holding [] 16 false false
begun s l e = simp (e.0, e.1, e.2, e.3) refl

pub digit_first : (room d : ℕ) (h : Held) → h.upper ≡ 16 → holding h.bytes d h.passed h.ended ≡ after_digit room h d
unfolding after_digit
digit_first room d h e = simp (eq-eqb _ _ e) refl

pub digit_lost : (s : List ℕ) (d : ℕ) (l : Line) → (l.upper ≡ 16 → ⊥) → l.len ≡ length s → holding (take l.len s) 16 l.passed l.ended ≡ after_digit (length s) (held_in s l) d
unfolding after_digit
digit_lost s d l ne full = simp (ne_eqb _ _ ne, eq-eqb _ _ (length-take-le l.len s (omega (arith, full)) ∙ full)) refl

pub digit_second : (s : List ℕ) (d b : ℕ) (l : Line) → (l.upper ≡ 16 → ⊥) → l.len < length s → b ≡ l.upper % 16 * 16 + d % 16 →
    holding (take (l.len + 1) (set s l.len b)) 16 l.passed l.ended ≡ after_digit (length s) (held_in s l) d
unfolding after_digit
digit_second s d b l ne room e =
    let short : length (take l.len s) ≡ length s → ⊥ = λ full. omega (arith, length-take-le l.len s (omega (arith, room)), full, room) in
    simp (ne_eqb _ _ ne, ne_eqb _ _ short) (ap (λ (r : List ℕ). holding r 16 l.passed l.ended) (stored s l.len b room ∙ ap (λ (x : ℕ). take l.len s ++ (x ∷ [])) e))

module _ (room b : ℕ) (h : Held) where
  pub passed-end : b ≡ 10 → h.passed ≡ true → holding [] 16 false false ≡ after_byte room h b
  unfolding after_byte
  passed-end e p = simp (eq-eqb _ _ e, p) refl

  pub line_end : b ≡ 10 → h.passed ≡ false → holding h.bytes h.upper h.passed true ≡ after_byte room h b
  unfolding after_byte
  line_end e p = simp (eq-eqb _ _ e, p) refl

  module _ (within : b ≡ 10 → ⊥) where
    pub passed_over : b ≡ 35 → holding h.bytes h.upper true h.ended ≡ after_byte room h b
    unfolding after_byte
    passed_over e = simp (ne_eqb _ _ within, eq-eqb _ _ e) refl

    module _ (other : b ≡ 35 → ⊥) where
      pub in_passed : h.passed ≡ true → h ≡ after_byte room h b
      unfolding after_byte
      in_passed p = simp (ne_eqb _ _ within, ne_eqb _ _ other, p) refl

      module _ (p : h.passed ≡ false) (d : ℕ) (digits : d ≡ digit_of b) where
        pub no_digit : d ≡ 16 → h ≡ after_byte room h b
        unfolding after_byte
        no_digit e = simp (ne_eqb _ _ within, ne_eqb _ _ other, p, eq-eqb _ _ (sym digits ∙ e)) refl

        pub a_digit : (d ≡ 16 → ⊥) → after_digit room h d ≡ after_byte room h b
        unfolding after_byte
        a_digit ne = simp (ne_eqb _ _ within, ne_eqb _ _ other, p, ne_eqb _ _ (λ e. ne (digits ∙ e))) (ap (after_digit room h) digits)

-- A sign before the digits.
use mathlib.Core.Path.{◌≡◌, refl, sym, ap, ◌∙◌}
use mathlib.Core.Bool.{cond}
use mathlib.Core.List.{[], ◌∷◌}
use mathlib.Core.Option.{Option, none, some}
use Prim.Native.Nat.{ℕ, ◌-◌, ◌%◌, ◌≤◌, ◌<◌}
use native.Mathlib.Omega.{arith}
use native.Mathlib.Decide.{dec_lt, dec_le}
use borrow.Author.Tests.{le-leb, lt-leb, lt-ltb, le-ltb, eq-eqb, ne_eqb}
use lib.Dec.{eqb}
use lib.ListN.{length, drop, get_or}
use Rattle.model.specs.Choice.{given}
use Rattle.model.specs.Number.{Bytes, half, span}
use Rattle.model.specs.Lookup.{magnitude, positive, negative, read_i64, unless_negative}
use Rattle.laws.specs.Choice.{impossible}
use Rattle.lookup_rates.specs.Rates.{rate_in, rated, Below, less_rate}
use Rattle.lookup_rates.specs.declared.Rate.{Rate}
use Rattle.lookup_rates.specs.declared.Rate.TheVariants.{Is, None}

-- 1. No sign, or a plus

low_positive : (n : ℕ) → n < half 8 → given (positive n) none unless_negative ≡ some n
low_positive n h = rw (lt-ltb n (half 8) h, lt-leb (half 8) n h) refl

high_positive : (n : ℕ) → half 8 ≤ n → given (positive n) none unless_negative ≡ none
high_positive n h = rw (le-ltb n (half 8) h) refl

pub plus : (o : Option ℕ) (r : Rate) → Below o r → rated r ≡ given (given o none positive) none unless_negative
plus none (Is n) b = let q = b.0 in impossible cc
plus none None b = refl
plus (some m) (Is n) b = let q : m ≡ n = inside b.0 in rw q (sym (low_positive n b.1))
  where
    inside : some m ≡ some n → m ≡ n
    inside e = cc
plus (some m) None b = sym (high_positive m (b m refl))

-- 2. A minus

zero-negative : given (negative 0) none unless_negative ≡ some 0
zero-negative = refl

some-negative : (n : ℕ) → 0 < n → given (negative n) none unless_negative ≡ none
some-negative n h = elim (dec_le n (half 8)) [ yes p ↦ within p | no q ↦ past (omega arith) ]
  where
    past : half 8 < n → given (negative n) none unless_negative ≡ none
    past q = rw (lt-leb n (half 8) q) refl

    within : n ≤ half 8 → given (negative n) none unless_negative ≡ none
    within p =
        let m : (span 8 - n) % span 8 ≡ span 8 - n = omega arith in
        rw (le-leb n (half 8) p, m, le-leb (half 8) (span 8 - n) (omega arith)) refl

pub less_more : {rate : Rate} {n : ℕ} → rate ≡ Is n → (n ≡ 0 → ⊥) → None ≡ less_rate rate
less_more {rate} {n} e h = sym (ap less_rate e ∙ rw (ne_eqb n 0 h) refl)

pub minus : (o : Option ℕ) (r : Rate) → Below o r → rated (less_rate r) ≡ given (given o none negative) none unless_negative
minus none (Is n) b = let q = b.0 in impossible cc
minus none None b = refl
minus (some m) (Is n) b = let q : m ≡ n = inside b.0 in rw q (elim (dec_lt 0 n) [ yes p ↦ more p | no p ↦ nought (omega arith) ])
  where
    inside : some m ≡ some n → m ≡ n
    inside e = cc

    more : 0 < n → rated (cond (eqb n 0) (Is 0) None) ≡ given (negative n) none unless_negative
    more p = rw (ne_eqb n 0 (λ e. omega arith)) (sym (some-negative n p))

    nought : n ≡ 0 → rated (cond (eqb n 0) (Is 0) None) ≡ given (negative n) none unless_negative
    nought e = rw e (sym zero-negative)
minus (some m) None b = sym (some-negative m (omega (arith, b m refl)))

-- 3. By the first byte

pub no_rate : (v : Bytes) → length v ≡ 0 → none ≡ rate_in v
unfolding rate_in read_i64
no_rate [] e = refl
no_rate (x ∷ v) e = absurd (omega arith)

pub plus_rate : (v : Bytes) → 0 < length v → get_or v 0 0 ≡ 0x2b → (r : Rate) → Below (magnitude (drop 1 v)) r → rated r ≡ rate_in v
unfolding rate_in read_i64
plus_rate [] h e r b = absurd (omega arith)
plus_rate (x ∷ v) h e r b = plus (magnitude v) r b ∙ rw (eq-eqb x 0x2b e) refl

pub minus_rate : (v : Bytes) → 0 < length v → get_or v 0 0 ≡ 0x2d → (r : Rate) → Below (magnitude (drop 1 v)) r → rated (less_rate r) ≡ rate_in v
unfolding rate_in read_i64
minus_rate [] h e r b = absurd (omega arith)
minus_rate (x ∷ v) h e r b = minus (magnitude v) r b ∙ rw (ne_eqb x 0x2b (λ q. omega arith), eq-eqb x 0x2d e) refl

pub plain_rate : (v : Bytes) → 0 < length v → (get_or v 0 0 ≡ 0x2b → ⊥) → (get_or v 0 0 ≡ 0x2d → ⊥) → (r : Rate) → Below (magnitude (drop 0 v)) r → rated r ≡ rate_in v
unfolding rate_in read_i64
plain_rate [] h p m r b = absurd (omega arith)
plain_rate (x ∷ v) h p m r b = plus (magnitude (x ∷ v)) r b ∙ rw (ne_eqb x 0x2b p, ne_eqb x 0x2d m) refl

-- Decimal digits: what a number and the digits after it spell.
use mathlib.Core.Path.{◌≡◌, refl, sym, ap, ◌∙◌}
use mathlib.Core.Bool.{Bool, true, false, cond, ◌&&◌}
use mathlib.Core.List.{[], ◌∷◌}
use mathlib.Core.Option.{Option, none, some}
use Prim.Native.Nat.{ℕ, ◌+◌, ◌*◌, ◌-◌, ◌≤◌, ◌<◌}
use native.Mathlib.Omega.{arith}
use borrow.Author.Tests.{le-leb, lt-leb}
use lib.Dec.{leb}
use lib.ListN.{length, drop, get_or, drop_of_length-le}
use Rattle.model.specs.Number.{Bytes, half}
use Rattle.model.specs.Lookup.{digits, magnitude}
use Rattle.laws.specs.Choice.{impossible}
use Rattle.wire.proofs.Rest.{drop-step}
use Rattle.lookup_rates.specs.Rates.{Below}
use Rattle.lookup_rates.specs.declared.Rate.{Rate}
use Rattle.lookup_rates.specs.declared.Rate.TheVariants.{Is, None}

no_some : {m : ℕ} → ◌≡◌ {A = Option ℕ} none (some m) → {A : Type 0} → A
no_some e = impossible cc

-- more digits make no smaller number
pub digits_grow : (n : ℕ) (s : Bytes) (m : ℕ) → digits n s ≡ some m → n ≤ m
unfolding digits
digits_grow n [] m e = let q : n ≡ m = cc in omega arith
digits_grow n (d ∷ s) m e = go (leb 0x30 d && leb d 0x39) e (λ q. digits_grow (n * 10 + (d - 0x30)) s m q)
  where
    go : (b : Bool) → cond b (digits (n * 10 + (d - 0x30)) s) none ≡ some m → (digits (n * 10 + (d - 0x30)) s ≡ some m → n * 10 + (d - 0x30) ≤ m) → n ≤ m
    go true q f = omega (arith, f q)
    go false q f = no_some q

-- the walk is at `i`, after digits that spell `n`
pub record Spelt (s : Bytes) (from i n : ℕ) : Type 0 where
  pub same : digits 0 (drop from s) ≡ digits n (drop i s)
  pub within : i ≤ length s

pub spelt-start : (s : Bytes) (from : ℕ) → from ≤ length s → Spelt s from from 0
spelt-start s from h = record { same = refl; within = h }

module _ {s : Bytes} {from i n : ℕ} (h : Spelt s from i n) where
  pub spelt-end : length s ≤ i → digits 0 (drop from s) ≡ some n
  unfolding digits
  spelt-end past = h.same ∙ ap (digits n) (drop_of_length-le s past)

  pub is_end : length s ≤ i → n < half 8 → Below (digits 0 (drop from s)) (Is n)
  is_end past low = (spelt-end past, low)

  pub high_end : length s ≤ i → half 8 ≤ n → Below (digits 0 (drop from s)) None
  high_end past high m e = let q : some n ≡ some m = sym (spelt-end past) ∙ e in let p : n ≡ m = cc in omega arith

  module _ (more : i < length s) where
    split : digits 0 (drop from s) ≡ cond (leb 0x30 (get_or s i 0) && leb (get_or s i 0) 0x39) (digits (n * 10 + (get_or s i 0 - 0x30)) (drop (i + 1) s)) none
    unfolding digits
    split = h.same ∙ ap (digits n) (drop-step s i more)

    pub low_digit : get_or s i 0 < 0x30 → Below (digits 0 (drop from s)) None
    low_digit low m e = no_some (sym (split ∙ rw (lt-leb 0x30 (get_or s i 0) low) refl) ∙ e)

    module _ (first : 0x30 ≤ get_or s i 0) where
      pub high_digit : 0x39 < get_or s i 0 → Below (digits 0 (drop from s)) None
      high_digit high m e = no_some (sym (split ∙ rw (le-leb 0x30 (get_or s i 0) first, lt-leb (get_or s i 0) 0x39 high) refl) ∙ e)

      module _ (last : get_or s i 0 ≤ 0x39) where
        next : digits 0 (drop from s) ≡ digits (n * 10 + (get_or s i 0 - 0x30)) (drop (i + 1) s)
        next = split ∙ rw (le-leb 0x30 (get_or s i 0) first, le-leb (get_or s i 0) 0x39 last) refl

        pub too_high : 922337203685477580 < n → Below (digits 0 (drop from s)) None
        too_high high m e = let g = digits_grow (n * 10 + (get_or s i 0 - 0x30)) (drop (i + 1) s) m (sym next ∙ e) in omega arith

        pub spelt-more : {m : ℕ} → m ≡ n * 10 + (get_or s i 0 - 0x30) → Spelt s from (i + 1) m
        spelt-more em = record { same = next ∙ ap (λ x. digits x (drop (i + 1) s)) (sym em); within = omega arith }

-- at least one digit
pub no_digit : (s : Bytes) (from : ℕ) → length s ≤ from → Below (magnitude (drop from s)) None
unfolding magnitude
no_digit s from past m e = no_some (sym (ap magnitude (drop_of_length-le s past)) ∙ e)

pub some_digit : (s : Bytes) (from : ℕ) → from < length s → (r : Rate) → Below (digits 0 (drop from s)) r → Below (magnitude (drop from s)) r
unfolding magnitude
some_digit s from more r b = rw (drop-step s from more) (rw (drop-step s from more) at b)

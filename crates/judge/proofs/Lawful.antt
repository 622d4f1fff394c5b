-- Lawful names: a test of a byte, and of a name, by the exit that it takes; and the refusal of another name, before the stored topic's.
use mathlib.Core.Path.{◌≡◌, ap, ap₂, ◌∙◌}
use mathlib.Core.Bool.{Bool, true, false, not}
use mathlib.Core.List.{[], ◌∷◌}
use Prim.Native.Nat.{ℕ, ◌≤◌, ◌<◌}
use borrow.Author.Tests.{not-true, not-false, eq-eqb, ne_eqb, le-leb, lt-leb}
use lib.Dec.{eqb}
use lib.ListN.{length}
use Rattle.model.specs.Choice.{or_then, unless, every}
use Rattle.model.specs.Number.{Bytes}
use Rattle.model.specs.Text.{within, to}
use Rattle.model.specs.Order.{same_bytes}
use Rattle.model.specs.Validate.{is_name_byte, lawful_name}

-- 1. A byte

module _ (b : ℕ) {small : Bool} (es : small ≡ within (to 0x61 0x7a) b) where
  pub small_letter : small ≡ true → true ≡ is_name_byte b
  small_letter h = rw (← es, h)

  module _ (no-small : small ≡ false) {capital : Bool} (ec : capital ≡ within (to 0x41 0x5a) b) where
    pub capital_letter : capital ≡ true → true ≡ is_name_byte b
    capital_letter h = rw (← es, no-small, ← ec, h)

    module _ (no-capital : capital ≡ false) {digit : Bool} (ed : digit ≡ within (to 0x30 0x39) b) where
      pub digit_byte : digit ≡ true → true ≡ is_name_byte b
      digit_byte h = rw (← es, no-small, ← ec, no-capital, ← ed, h)

      module _ (no_digit : digit ≡ false) where
        pub dot_byte : b ≡ 0x2e → true ≡ is_name_byte b
        dot_byte h = rw (← es, no-small, ← ec, no-capital, ← ed, no_digit, eq-eqb b 0x2e h)

        module _ (no-dot : b ≡ 0x2e → ⊥) where
          pub underscore_byte : b ≡ 0x5f → true ≡ is_name_byte b
          underscore_byte h = rw (← es, no-small, ← ec, no-capital, ← ed, no_digit, ne_eqb b 0x2e no-dot, eq-eqb b 0x5f h)

          pub hyphen_byte : (b ≡ 0x5f → ⊥) → eqb b 0x2d ≡ is_name_byte b
          hyphen_byte h = rw (← es, no-small, ← ec, no-capital, ← ed, no_digit, ne_eqb b 0x2e no-dot, ne_eqb b 0x5f h)

-- 2. A name

module _ (n : Bytes) where
  pub empty_name_lem : length n < 1 → false ≡ lawful_name n
  unfolding lawful_name
  empty_name_lem h = rw (lt-leb 1 (length n) h)

  module _ (some : 1 ≤ length n) where
    pub long_name : 249 < length n → false ≡ lawful_name n
    unfolding lawful_name
    long_name h = rw (le-leb 1 (length n) some, lt-leb (length n) 249 h)

    module _ (few : length n ≤ 249) {named : Bool} (en : named ≡ every is_name_byte n) where
      pub other_bytes : not named ≡ true → false ≡ lawful_name n
      unfolding lawful_name
      other_bytes h = rw (le-leb 1 (length n) some, le-leb (length n) 249 few, ← en, not-true named h)

      module _ (all : not named ≡ false) {dot : Bool} (ed : dot ≡ same_bytes n (0x2e ∷ [])) where
        pub one_dot : dot ≡ true → false ≡ lawful_name n
        unfolding lawful_name
        one_dot h = rw (le-leb 1 (length n) some, le-leb (length n) 249 few, ← en, not-false named all, ← ed, h)

        pub two_dots : dot ≡ false → {dots : Bool} → dots ≡ same_bytes n (0x2e ∷ 0x2e ∷ []) → not dots ≡ lawful_name n
        unfolding lawful_name
        two_dots h {dots} e = rw (le-leb 1 (length n) some, le-leb (length n) 249 few, ← en, not-false named all, ← ed, h, ← e)

-- 3. The refusal

-- of the name that is lent, where the stored topic's is that of `stored`
pub name_first : {lent name : Bytes} → lent ≡ name → {lawful : Bool} → lawful ≡ lawful_name lent → {unlawful : ℕ} → unlawful ≡ unless lawful 24
    → {exists stored : ℕ} → exists ≡ stored → {r : ℕ} → r ≡ or_then unlawful exists → r ≡ or_then (unless (lawful_name name) 24) stored
name_first n l u s e = e ∙ ap₂ or_then (u ∙ ap (λ x. unless x 24) (l ∙ ap lawful_name n)) s

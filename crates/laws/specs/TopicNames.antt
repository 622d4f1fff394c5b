-- Names that Kafka allows. Whatever is stored, a topic with another name is refused by 24, and one with such a name is judged as before. Such a
-- name has no slash, which the other tool could not open, and Read takes it.
use Rattle.std.specs.Prelude.{◌≡◌, refl, Bool, true, false, ◌&&◌, not, List, [], ◌∷◌, ℕ, ◌≤◌, ◌<◌, eqb, leb, length}
use Rattle.std.proofs.Common.{ap, arith, leb-true, eqb-true, le-leb, ne_eqb}
use Rattle.std.proofs.Math.Decide.{dec_lt}
use Rattle.std.proofs.lemmas.Bool.{lt-leb}
use Rattle.model.specs.Choice.{every}
use Rattle.model.specs.Number.{Bytes}
use Rattle.model.specs.Text.{well_formed, following, text_after, is_text}
use Rattle.model.specs.Order.{same_bytes}
use Rattle.model.specs.Run.{Run, value}
use Rattle.model.specs.Shape.{string_limit}
use Rattle.model.specs.Record.{rec}
use Rattle.model.specs.Key.{topic_key}
use Rattle.model.specs.Map.{get}
use Rattle.model.specs.Contents.{Entry, key, partitions}
use Rattle.model.specs.Validate.{is_name_byte, most_name, lawful_name, topic_exists, alone, against, judge}
use Rattle.model.specs.declared.Kind.TheVariants.{Topic}
use Rattle.laws.specs.Choice.{impossible, and_left, and_right}
use Rattle.laws.specs.Lists.{all_imp, every_true, all-every}

-- 1. The verdict: "the rule sees the name alone"

module _ (f : Run) (l : List Entry) where
  pub unlawful_refused : lawful_name (value 1 f) ≡ false → judge (rec Topic f) l ≡ 24
  unfolding judge alone
  unlawful_refused h = rw h

  pub lawful_still : lawful_name (value 1 f) ≡ true → judge (rec Topic f) l ≡ topic_exists f (partitions (value 1 f) l) (get key (topic_key (value 1 f)) l)
  unfolding judge alone against
  lawful_still h = rw h

-- 2. The name

no_slash : (b : ℕ) → is_name_byte b ≡ true → not (eqb b 0x2f) ≡ true
no_slash b h = go (eqb b 0x2f) refl
  where
    go : (t : Bool) → eqb b 0x2f ≡ t → not t ≡ true
    go true e = let slash : is_name_byte b ≡ false = ap is_name_byte (eqb-true b 0x2f e) in impossible cc
    go false e = refl

ascii : (b : ℕ) → is_name_byte b ≡ true → b < 0x80
ascii b h = go (dec_lt b 0x80)
  where
    past : 0x80 ≤ b → is_name_byte b ≡ false
    past p =
        rw (
          lt-leb b 0x7a (omega arith),
          lt-leb b 0x5a (omega arith),
          lt-leb b 0x39 (omega arith),
          le-leb 0x61 b (omega arith),
          le-leb 0x41 b (omega arith),
          le-leb 0x30 b (omega arith),
          ne_eqb b 0x2e (λ e. omega arith),
          ne_eqb b 0x5f (λ e. omega arith),
          ne_eqb b 0x2d (λ e. omega arith),
        )

    go : Dec (b < 0x80) → b < 0x80
    go (yes l) = l
    go (no l) = let p : is_name_byte b ≡ false = past (omega arith) in impossible cc

name_text : (s : Bytes) → every is_name_byte s ≡ true → is_text s ≡ true
unfolding text_after following well_formed
name_text [] h = refl
name_text (b ∷ s) h =
    let l : b < 0x80 = ascii b (and_left (is_name_byte b) (every is_name_byte s) h) in
    rw (le-leb 0 b (omega arith), le-leb b 0x7f (omega arith)) (name_text s (and_right (is_name_byte b) (every is_name_byte s) h))

-- what a lawful name is beside
pub record Named (n : Bytes) : Type 0 where
  pub no_slashes : every (λ b. not (eqb b 0x2f)) n ≡ true
  pub text : is_text n ≡ true
  pub fits : length n ≤ string_limit

pub lawful_named : (n : Bytes) → lawful_name n ≡ true → Named n
unfolding lawful_name
lawful_named n h =
    let sized = leb 1 (length n) && leb (length n) most_name in
    let named = every is_name_byte n in
    let apart = not (same_bytes n (0x2e ∷ [])) in
    let both = and_left (sized && named && apart) (not (same_bytes n (0x2e ∷ 0x2e ∷ []))) h in
    let first = and_left (sized && named) apart both in
    let bytes = and_right sized named first in
    let few = leb-true (length n) most_name (and_right (leb 1 (length n)) (leb (length n) most_name) (and_left sized named first)) in
    record {
      no_slashes = all-every (λ b. not (eqb b 0x2f)) n (all_imp (λ b. is_name_byte b ≡ true) (λ b. not (eqb b 0x2f) ≡ true) no_slash n (every_true is_name_byte n bytes));
      text = name_text n bytes;
      fits = omega (arith, few);
    }

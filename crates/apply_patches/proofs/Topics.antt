-- A topic's bytes in an image: its count, factor and flag stand at places that are fixed from the end, and nothing else depends on them.
use mathlib.Core.Path.{◌≡◌, refl, sym, ap, ap₂, ◌∙◌}
use mathlib.Core.Bool.{Bool, true, false}
use mathlib.Core.List.{◌∷◌, ◌++◌, append_assoc}
use Prim.Native.Nat.{ℕ, ◌+◌, ◌-◌, ◌≤◌}
use native.Mathlib.Omega.{arith}
use lib.ListN.{length, take, drop, length-append}
use lib.Seq.{slice, take-append-add, drop-append-add}
use Rattle.model.specs.Number.{Bytes, bytes, number}
use Rattle.model.specs.Run.{Run, done, item, bytes_of}
use Rattle.model.specs.Kind.{kind_number}
use Rattle.model.specs.Record.{record_bytes}
use Rattle.model.specs.Contents.{topic, kept, topic_run, flag_bytes}
use Rattle.laws_records.specs.Runs.{item_append}

-- 1. A part of bytes that others stand before

put-behind : (a t e v x : Bytes) (at k m : ℕ) → e ≡ a ++ t → at ≡ length a + k → v ≡ take at e ++ x ++ drop (at + m) e
    → v ≡ a ++ (take k t ++ x ++ drop (k + m) t)
put-behind a t e v x at k m is place said =
    let far : length a + k + m ≡ length a + (k + m) = omega arith in
    said
    ∙ ap₂ (λ p s. take p s ++ x ++ drop (p + m) s) place is
    ∙ ap₂ (λ y z. y ++ x ++ z) (take-append-add a t k) (ap (λ n. drop n (a ++ t)) far ∙ drop-append-add a t (k + m))
    ∙ simp append_assoc

slice-behind : (a t e : Bytes) (at k m : ℕ) → e ≡ a ++ t → at ≡ length a + k → slice at (at + m) e ≡ slice k (k + m) t
slice-behind a t e at k m is place =
    let far : length a + k + m ≡ length a + (k + m) = omega arith in
    ap₂ (λ p s. slice p (p + m) s) place is
    ∙ ap (λ n. drop (length a + k) (take n (a ++ t))) far
    ∙ ap (drop (length a + k)) (take-append-add a t (k + m))
    ∙ drop-append-add a (take (k + m) t) k

-- 2. The parts of a topic's bytes

abbrev last_run : ℕ → ℕ → Bool → Run
last_run count factor named = item 3 (bytes 4 count) (item 4 (bytes 2 factor) (item 5 (flag_bytes named) done))

abbrev last : ℕ → ℕ → Bool → Bytes
last count factor named = bytes_of (last_run count factor named)

abbrev first : Bytes → Bytes → Bytes
first name id = bytes_of (item 1 name (item 2 id done))

abbrev front : Bytes → Bytes → Bytes
front name id = 1 ∷ bytes 2 (length (first name id) + 20) ++ first name id

length_last : (count factor : ℕ) (named : Bool) → length (last count factor named) ≡ 20
unfolding bytes_of
length_last count factor true = refl
length_last count factor false = refl

nothing_before : (x : Bytes) → x ≡ bytes_of done ++ x
unfolding bytes_of
nothing_before x = refl

module _ (name id : Bytes) (count factor : ℕ) (named : Bool) where
  body : bytes_of (topic_run name id count factor (item 5 (flag_bytes named) done)) ≡ first name id ++ last count factor named
  body = let x = last count factor named in item_append 1 name _ _ x (item_append 2 id done (last_run count factor named) x (nothing_before x))

  topic_bytes : record_bytes (kept (topic name id count factor named)) ≡ front name id ++ last count factor named
  unfolding record_bytes kept kind_number
  topic_bytes =
      let a = first name id in
      let x = last count factor named in
      ap (λ s. 1 ∷ bytes 2 (length s) ++ s) body
      ∙ ap (λ n. 1 ∷ bytes 2 n ++ (a ++ x)) (length-append a x ∙ ap (λ n. length a + n) (length_last count factor named))
      ∙ sym (append_assoc (1 ∷ bytes 2 (length a + 20)) a x)

  pub length_topic : length (record_bytes (kept (topic name id count factor named))) ≡ length (front name id) + 20
  length_topic =
      ap length topic_bytes ∙ length-append (front name id) (last count factor named)
      ∙ ap (λ n. length (front name id) + n) (length_last count factor named)

-- 3. Changes of a topic's bytes

flag-last : (count factor : ℕ) (named : Bool)
    → take 19 (last count factor named) ++ bytes 1 0 ++ drop 20 (last count factor named) ≡ last count factor false
unfolding bytes_of
flag-last count factor true = refl
flag-last count factor false = refl

count-last : (count factor c : ℕ) (named : Bool)
    → take 3 (last count factor named) ++ bytes 4 c ++ drop 7 (last count factor named) ≡ last c factor named
unfolding bytes_of
count-last count factor c named = refl

factor_last : (count factor f : ℕ) (named : Bool)
    → take 10 (last count factor named) ++ bytes 2 f ++ drop 12 (last count factor named) ≡ last count f named
unfolding bytes_of
factor_last count factor f named = refl

number-last : (count factor : ℕ) (named : Bool) → slice 3 7 (last count factor named) ≡ bytes 4 count
unfolding bytes_of
number-last count factor named = refl

module _ (name id : Bytes) (count factor : ℕ) (named : Bool) {e : Bytes} (is : e ≡ record_bytes (kept (topic name id count factor named))) where
  split : e ≡ front name id ++ last count factor named
  split = is ∙ topic_bytes name id count factor named

  long : length e ≡ length (front name id) + 20
  long = ap length is ∙ length_topic name id count factor named

  pub numbers_fit : 20 ≤ length e
  numbers_fit = omega (arith, long)

  pub flag_cleared : {v : Bytes} → v ≡ take (length e - 1) e ++ bytes 1 0 ++ drop (length e - 1 + 1) e
      → v ≡ record_bytes (kept (topic name id count factor false))
  flag_cleared {v} said =
      put-behind (front name id) (last count factor named) e v (bytes 1 0) (length e - 1) 19 1 split (omega (arith, long)) said
      ∙ ap (λ t. front name id ++ t) (flag-last count factor named)
      ∙ sym (topic_bytes name id count factor false)

  pub count_changed : (c : ℕ) {v : Bytes} → v ≡ take (length e - 17) e ++ bytes 4 c ++ drop (length e - 17 + 4) e
      → v ≡ record_bytes (kept (topic name id c factor named))
  count_changed c {v} said =
      put-behind (front name id) (last count factor named) e v (bytes 4 c) (length e - 17) 3 4 split (omega (arith, long)) said
      ∙ ap (λ t. front name id ++ t) (count-last count factor c named)
      ∙ sym (topic_bytes name id c factor named)

  pub factor_changed : (f : ℕ) {v : Bytes} → v ≡ take (length e - 10) e ++ bytes 2 f ++ drop (length e - 10 + 2) e
      → v ≡ record_bytes (kept (topic name id count f named))
  factor_changed f {v} said =
      put-behind (front name id) (last count factor named) e v (bytes 2 f) (length e - 10) 10 2 split (omega (arith, long)) said
      ∙ ap (λ t. front name id ++ t) (factor_last count factor f named)
      ∙ sym (topic_bytes name id count f named)

  pub count-read : {n : ℕ} → n ≡ number (slice (length e - 17) (length e - 17 + 4) e) → n ≡ number (bytes 4 count)
  count-read said =
      said
      ∙ ap number (slice-behind (front name id) (last count factor named) e (length e - 17) 3 4 split (omega (arith, long)) ∙ number-last count factor named)

-- Answers in one number, by their variants.
use mathlib.Core.Path.{◌≡◌, refl, sym, ap, ◌∙◌}
use mathlib.Core.Bool.{Bool, cond}
use mathlib.Core.List.{List, [], ◌∷◌}
use Prim.Native.Nat.{ℕ, ◌+◌, ◌*◌}
use native.Mathlib.Omega.{arith}
use Rattle.model.specs.Reply.{Reply}
use Rattle.model.specs.Answers.{number_reply, valued, rating, restore_reply, run_reply, separate_reply, compared_reply, count_reply}
use Rattle.model.specs.declared.answers.Value.{Value}
use Rattle.model.specs.declared.answers.Value.TheVariants.{Is, Refused}
use Rattle.model.specs.declared.answers.Rated.{Rated}
use Rattle.model.specs.declared.answers.Rated.TheVariants as rated
use Rattle.model.specs.declared.answers.Rated.TheVariants.{Rate, None}
use Rattle.model.specs.declared.answers.Restored.{Restored}
use Rattle.model.specs.declared.answers.Restored.TheVariants as end
use Rattle.model.specs.declared.answers.RunAnswer.{RunAnswer}
use Rattle.model.specs.declared.answers.RunAnswer.TheVariants as run
use Rattle.model.specs.declared.answers.Separated.{Separated}
use Rattle.model.specs.declared.answers.Separated.TheVariants as separation
use Rattle.model.specs.declared.answers.Compared.{Compared}
use Rattle.model.specs.declared.answers.Compared.TheVariants as compared
use Rattle.model.specs.declared.answers.Counted.{Counted}
use Rattle.model.specs.declared.answers.Counted.TheVariants as list
use Rattle.packing.specs.Packed.{packed, first_is, beside, filled, counted, widened}

-- a number alone
pub packed-number : {n x : ℕ} {r : Reply} → x ≡ n * 4294967296 → number_reply n ≡ r → x ≡ packed r
packed-number {n} {x} e q = let k : x ≡ packed (number_reply n) = omega (arith, e) in k ∙ ap packed q

pub one-zero : {a b : Bool} (x : Bool) → a ≡ b → a ≡ x → ◌≡◌ {A = ℕ} (cond x 1 0) (cond b 1 0)
one-zero x e h = ap {B = ℕ} (λ t. cond t 1 0) (sym h ∙ e)

-- a value, or a refusal's number
module _ {v : Value} {r : Reply} (e : valued v ≡ r) where
  pub packed-value : {n : ℕ} → v ≡ Is n → n ≡ packed r
  packed-value {n} h = let k : n ≡ packed (valued (Is n)) = omega arith in k ∙ ap packed (ap valued (sym h) ∙ e)

  pub packed-refused : {n x : ℕ} → v ≡ Refused n → x ≡ n * 4294967296 → x ≡ packed r
  packed-refused {n} {x} h q = let k : x ≡ packed (valued (Refused n)) = omega (arith, q) in k ∙ ap packed (ap valued (sym h) ∙ e)

  -- a wide value
  is_value : {n : ℕ} → v ≡ Is n → valued (Is n) ≡ r
  is_value h = ap valued (sym h) ∙ e

  pub wide_value : {n : ℕ} {m : List ℕ} → v ≡ Is n → (l : List ℕ) → m ≡ first_is (n ∷ []) l → (0 ≡ r.number * 4294967296) × (m ≡ widened r l)
  wide_value h l q = rw (← is_value h) (refl, q)

  pub wide_refused : {n x : ℕ} → v ≡ Refused n → x ≡ n * 4294967296 → (l : List ℕ) → (x ≡ r.number * 4294967296) × (l ≡ widened r l)
  wide_refused h q l = rw (← (ap valued (sym h) ∙ e)) (q, refl)

-- a wide value that may be none
module _ {v : Rated} {r : Reply} (e : rating v ≡ r) where
  rated_as_lem : (w : Rated) → v ≡ w → rating w ≡ r
  rated_as_lem w h = ap rating (sym h) ∙ e

  pub rate_value : {n : ℕ} {m : List ℕ} → v ≡ Rate n → (l : List ℕ) → m ≡ first_is (n ∷ []) l → (1 ≡ counted r) × (m ≡ widened r l)
  rate_value {n} h l q = rw (← rated_as_lem (Rate n) h) (refl, q)

  pub rate_none : v ≡ None → (l : List ℕ) → (0 ≡ counted r) × (l ≡ widened r l)
  rate_none h l = rw (← rated_as_lem None h) (refl, refl)

  pub rate_refused : {n x : ℕ} → v ≡ rated.Refused n → x ≡ n * 4294967296 → (l : List ℕ) → (x ≡ counted r) × (l ≡ widened r l)
  rate_refused {n} {x} h q l =
      let k : x ≡ n * 4294967296 + 0 = omega (arith, q) in
      rw (← rated_as_lem (rated.Refused n) h) (k, refl)

-- a restore's end: its number, and a record's place
module _ {v : Restored} {r : Reply} (e : restore_reply v ≡ r) where
  ended_as : (w : Restored) → v ≡ w → restore_reply w ≡ r
  ended_as w h = ap restore_reply (sym h) ∙ e

  pub restore_done : v ≡ end.Done → (l : List ℕ) → (0 ≡ r.number * 4294967296) × (l ≡ widened r l)
  restore_done h l = rw (← ended_as end.Done h) (refl, refl)

  pub restore_refused : {n x : ℕ} → v ≡ end.Refused n → x ≡ n * 4294967296 → (l : List ℕ) → (x ≡ r.number * 4294967296) × (l ≡ widened r l)
  restore_refused {n} h q l = rw (← ended_as (end.Refused n) h) (q, refl)

  pub restore_stopped : {n at x : ℕ} {m : List ℕ} → v ≡ end.Stopped n at → x ≡ n * 4294967296 → (l : List ℕ) → m ≡ first_is (at ∷ []) l → (x ≡ r.number * 4294967296) × (m ≡ widened r l)
  restore_stopped {n} {at} h q l p = rw (← ended_as (end.Stopped n at) h) (q, p)

-- a conversion's end: its number, and the bytes written or a record's place
module _ {v : RunAnswer} {r : Reply} (e : run_reply v ≡ r) where
  answered_as : (w : RunAnswer) → v ≡ w → run_reply w ≡ r
  answered_as w h = ap run_reply (sym h) ∙ e

  pub run-written : {n : ℕ} {m : List ℕ} → v ≡ run.Written n → (l : List ℕ) → m ≡ first_is (n ∷ []) l → (0 ≡ r.number * 4294967296) × (m ≡ widened r l)
  run-written {n} h l p = rw (← answered_as (run.Written n) h) (refl, p)

  pub run-refused : {n x : ℕ} → v ≡ run.Refused n → x ≡ n * 4294967296 → (l : List ℕ) → (x ≡ r.number * 4294967296) × (l ≡ widened r l)
  run-refused {n} h q l = rw (← answered_as (run.Refused n) h) (q, refl)

  pub run-stopped : {n at x : ℕ} {m : List ℕ} → v ≡ run.Stopped n at → x ≡ n * 4294967296 → (l : List ℕ) → m ≡ first_is (at ∷ []) l
      → (x ≡ r.number * 4294967296) × (m ≡ widened r l)
  run-stopped {n} {at} h q l p = rw (← answered_as (run.Stopped n at) h) (q, p)

-- one value fills as it stands first
one-filled : (n : ℕ) (l : List ℕ) → first_is (n ∷ []) l ≡ filled (n ∷ []) l
one-filled n [] = refl
one-filled n (x ∷ l) = refl

-- the same with two values
module _ {v : Separated} {r : Reply} (e : separate_reply v ≡ r) where
  separated_as : (w : Separated) → v ≡ w → separate_reply w ≡ r
  separated_as w h = ap separate_reply (sym h) ∙ e

  pub separate_written : {n o : ℕ} {m : List ℕ} → v ≡ separation.Written n o → (l : List ℕ) → m ≡ filled (n ∷ o ∷ []) l
      → (0 ≡ r.number * 4294967296) × (m ≡ filled r.values l)
  separate_written {n} {o} h l p = rw (← separated_as (separation.Written n o) h) (refl, p)

  pub separate_refused : {n x : ℕ} → v ≡ separation.Refused n → x ≡ n * 4294967296 → (l : List ℕ) → (x ≡ r.number * 4294967296) × (l ≡ filled r.values l)
  separate_refused {n} h q l = rw (← separated_as (separation.Refused n) h) (q, refl)

  pub separate_stopped : {n at x : ℕ} {m : List ℕ} → v ≡ separation.Stopped n at → x ≡ n * 4294967296 → (l : List ℕ) → m ≡ first_is (at ∷ []) l
      → (x ≡ r.number * 4294967296) × (m ≡ filled r.values l)
  separate_stopped {n} {at} h q l p = rw (← separated_as (separation.Stopped n at) h) (q, p ∙ one-filled at l)

-- the bytes written for a list, and the freezes read beside them
module _ {v : Counted} {r : Reply} (e : count_reply v ≡ r) where
  counted_as : (w : Counted) → v ≡ w → count_reply w ≡ r
  counted_as w h = ap count_reply (sym h) ∙ e

  pub list_written : {n read : ℕ} {m : List ℕ} → v ≡ list.Written n read → (l : List ℕ) → m ≡ first_is (read ∷ []) l → (n ≡ packed r) × (m ≡ beside r l)
  list_written {n} {read} h l p =
      let k : n ≡ 0 * 4294967296 + n = omega arith in
      rw (← counted_as (list.Written n read) h) (k, p)

  pub list_refused : {n x : ℕ} → v ≡ list.Refused n → x ≡ n * 4294967296 → (l : List ℕ) → (x ≡ packed r) × (l ≡ beside r l)
  list_refused {n} {x} h q l =
      let k : x ≡ n * 4294967296 + 0 = omega (arith, q) in
      rw (← counted_as (list.Refused n) h) (k, refl)

-- whether two recordings part, and the count beside it
module _ {v : Compared} {r : Reply} (e : compared_reply v ≡ r) where
  compared_as_lem : (w : Compared) → v ≡ w → compared_reply w ≡ r
  compared_as_lem w h = ap compared_reply (sym h) ∙ e

  pub compare_parted : {k : ℕ} {m : List ℕ} → v ≡ compared.Parted k → (l : List ℕ) → m ≡ first_is (k ∷ []) l → (1 ≡ packed r) × (m ≡ beside r l)
  compare_parted {k} h l p = rw (← compared_as_lem (compared.Parted k) h) (refl, p)

  pub compare_agree : {k : ℕ} {m : List ℕ} → v ≡ compared.Agree k → (l : List ℕ) → m ≡ first_is (k ∷ []) l → (0 ≡ packed r) × (m ≡ beside r l)
  compare_agree {k} h l p = rw (← compared_as_lem (compared.Agree k) h) (refl, p)

  pub compare-refused : {n x : ℕ} → v ≡ compared.Refused n → x ≡ n * 4294967296 → (l : List ℕ) → (x ≡ packed r) × (l ≡ beside r l)
  compare-refused {n} {x} h q l =
      let k : x ≡ n * 4294967296 + 0 = omega (arith, q) in
      rw (← compared_as_lem (compared.Refused n) h) (k, refl)

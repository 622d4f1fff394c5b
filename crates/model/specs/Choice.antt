-- Choices that the rules are written with.
use Prim.Native.Nat.{ℕ, zero, suc, ◌+◌, Ordering}
use Rattle.std.specs.Prelude.{Bool, true, false, cond, ◌&&◌, List, [], ◌∷◌, ◌++◌}
use Rattle.std.proofs.Math.Option.{Option, none, some}

-- the first refusal of two; 0 is none
abbrev pub or_then : ℕ → ℕ → ℕ
or_then zero b = b
or_then (suc a) b = suc a

-- a refusal where the test fails
abbrev pub unless : Bool → ℕ → ℕ
unless true refusal = 0
unless false refusal = refusal

-- one of three, by a comparison
abbrev pub choose : {A : Type 0} → Ordering → A → A → A → A
choose Ordering.lt a b c = a
choose Ordering.eq a b c = b
choose Ordering.gt a b c = c

-- one of two, by whether there is a value
abbrev pub given : {A B : Type 0} → Option A → B → (A → B) → B
given none b f = b
given (some a) b f = f a

abbrev pub is_some : {A : Type 0} → Option A → Bool
is_some none = false
is_some (some a) = true

abbrev pub or_else : {A : Type 0} → Option A → Option A → Option A
or_else none b = b
or_else (some a) b = some a

-- every element passes a test
abbrev pub every : {A : Type 0} → (A → Bool) → List A → Bool
every test [] = true
every test (x ∷ xs) = test x && every test xs

-- the results of each element, joined
abbrev pub joined : {A B : Type 0} → (A → List B) → List A → List B
joined f [] = []
joined f (x ∷ xs) = f x ++ joined f xs

abbrev pub is_empty : {A : Type 0} → List A → Bool
is_empty [] = true
is_empty (x ∷ xs) = false

-- the sum of each element's number
unfoldable pub total : {A : Type 0} → (A → ℕ) → List A → ℕ
total f [] = 0
total f (x ∷ l) = f x + total f l

-- the value after the last element
unfoldable pub folded : {A B : Type 0} → (B → A → B) → B → List A → B
folded f b [] = b
folded f b (x ∷ l) = folded f (f b x) l

-- the last element that passes a test
unfoldable pub last_of : {A : Type 0} → (A → Bool) → List A → Option A
last_of test [] = none
last_of test (x ∷ l) = or_else (last_of test l) (cond (test x) (some x) none)

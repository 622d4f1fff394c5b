-- Choices and optional values: what the result of a test or of a first refusal says of its parts.
use Rattle.std.specs.Prelude.{◌≡◌, refl, Bool, true, false, cond, ◌&&◌, ◌||◌, ℕ, zero, suc, ◌<◌}
use Rattle.std.proofs.Math.Option.{Option, none, some}
use Rattle.std.proofs.Common.{arith}
use Rattle.model.specs.Choice.{or_then, unless, given, is_some}

-- from an equation that cannot be, anything; `impossible cc` where the hypotheses equate two constructors
pub impossible : {A : Type 0} → ◌≡◌ {A = ℕ} 0 1 → A
impossible h = absurd (omega arith)

-- a test has one result
pub true_false : {b : Bool} → b ≡ true → b ≡ false → ⊥
true_false p q = impossible cc

pub not_true_false : (b : Bool) → (b ≡ true → ⊥) → b ≡ false
not_true_false true h = absurd (h refl)
not_true_false false h = refl

-- both of two tests
pub and_left : (a b : Bool) → a && b ≡ true → a ≡ true
and_left true b h = refl
and_left false b h = h

pub and_right : (a b : Bool) → a && b ≡ true → b ≡ true
and_right true b h = h
and_right false b h = impossible cc

pub and_both : (a b : Bool) → a ≡ true → b ≡ true → a && b ≡ true
and_both true b p q = q
and_both false b p q = p

-- neither of two tests
pub or_left : (a b : Bool) → a || b ≡ false → a ≡ false
or_left true b h = h
or_left false b h = refl

pub or_right : (a b : Bool) → a || b ≡ false → b ≡ false
or_right true b h = impossible cc
or_right false b h = h

-- a choice between equals
pub cond_same : {A : Type 0} (b : Bool) (x : A) → cond b x x ≡ x
cond_same true x = refl
cond_same false x = refl

-- no refusal: no part refuses
pub or_then-left : (a b : ℕ) → or_then a b ≡ 0 → a ≡ 0
or_then-left zero b h = refl
or_then-left (suc a) b h = h

pub or_then_right : (a b : ℕ) → or_then a b ≡ 0 → b ≡ 0
or_then_right zero b h = h
or_then_right (suc a) b h = absurd (omega arith)

-- a refusal stands before a later one
pub or_then-first : (a b : ℕ) → (a ≡ 0 → ⊥) → a ≡ or_then a b
or_then-first zero b h = absurd (h refl)
or_then-first (suc a) b h = refl

pub unless_true : (b : Bool) (n : ℕ) → 0 < n → unless b n ≡ 0 → b ≡ true
unless_true true n p h = refl
unless_true false n p h = absurd (omega arith)

-- a value is there where its absence is refused
pub given-some : {A : Type 0} (o : Option A) (n : ℕ) (f : A → ℕ) → 0 < n → given o n f ≡ 0 → (a : A) × (o ≡ some a) × (f a ≡ 0)
given-some none n f p h = absurd (omega arith)
given-some (some a) n f p h = (a, refl, h)

-- an optional value, changed where there is one
abbrev pub over : {A B : Type 0} → (A → B) → Option A → Option B
over f none = none
over f (some x) = some (f x)

-- how many values there are, and how many are missing
abbrev pub present : {A : Type 0} → Option A → ℕ
present none = 0
present (some x) = 1

abbrev pub missing : {A : Type 0} → Option A → ℕ
missing none = 1
missing (some x) = 0

pub over-same : {A : Type 0} (f : A → A) → ((x : A) → f x ≡ x) → (o : Option A) → over f o ≡ o
over-same f h none = refl
over-same f h (some x) = cc (h x)

pub over-over : {A B C : Type 0} (f : B → C) (g : A → B) (o : Option A) → over f (over g o) ≡ over (λ x. f (g x)) o
over-over f g none = refl
over-over f g (some x) = refl

pub is_some-over : {A B : Type 0} (f : A → B) (o : Option A) → is_some (over f o) ≡ is_some o
is_some-over f none = refl
is_some-over f (some x) = refl

pub present-over : {A B : Type 0} (f : A → B) (o : Option A) → present (over f o) ≡ present o
present-over f none = refl
present-over f (some x) = refl

pub missing-over : {A B : Type 0} (f : A → B) (o : Option A) → missing (over f o) ≡ missing o
missing-over f none = refl
missing-over f (some x) = refl

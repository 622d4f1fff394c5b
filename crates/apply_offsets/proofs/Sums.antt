-- A sum of two signed numbers by their places: whether it leaves them, and the bytes of it.
use mathlib.Core.Path.{◌≡◌, ap, ◌∙◌}
use mathlib.Core.Bool.{Bool, true, false}
use Prim.Native.Nat.{ℕ, ◌+◌, ◌-◌, ◌%◌, ◌≤◌, ◌<◌}
use native.Mathlib.Omega.{arith}
use native.Mathlib.Nat.{mod-add-mod}
use borrow.Author.Tests.{lt-ltb, le-ltb, le-leb, lt-leb}
use Rattle.model.specs.Number.{Bytes, number, span, half, place, bytes}
use Rattle.model.specs.Move.{offset_sum, sum_leaves, sum_bytes}
use Rattle.apply_offsets.specs.Advances.{IsSum}

-- 1. Whether it leaves them

pub leaves_below : (s : ℕ) → s < half 8 → true ≡ sum_leaves s
leaves_below s h = rw (lt-ltb s (half 8) h)

pub leaves_above : (s : ℕ) → half 8 + span 8 ≤ s → true ≡ sum_leaves s
leaves_above s h = rw (le-ltb s (half 8) (omega arith), le-leb (half 8 + span 8) s h)

pub stays : (s : ℕ) → half 8 ≤ s → s < half 8 + span 8 → false ≡ sum_leaves s
stays s h k = rw (le-ltb s (half 8) h, lt-leb (half 8 + span 8) s k)

-- 2. As the code has it

pub sum_is : {a b : ℕ} (u v : Bytes) → a ≡ place 8 (number u) → b ≡ place 8 (number v) → {n : ℕ} {leaves : Bool}
    → IsSum (a + b) n leaves → IsSum (offset_sum u v) n leaves
sum_is u v ea eb h = rw (← ea, ← eb) h

-- 3. Its bytes

pub sum_bytes_lem : (s n : ℕ) → n ≡ (s - half 8) % span 8 → bytes 8 (place 8 n) ≡ sum_bytes s
sum_bytes_lem s n e = ap (λ x. bytes 8 (place 8 x)) e ∙ ap (bytes 8) (mod-add-mod (s - half 8) (span 8) (half 8))

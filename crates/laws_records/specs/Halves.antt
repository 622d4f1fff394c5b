-- A length of two bytes is split into halves and joined again.
use Rattle.std.specs.Prelude.{◌≡◌, [], ◌∷◌, ℕ, suc, ◌+◌, ◌*◌, ◌/◌, ◌%◌, ◌<◌}
use Rattle.std.proofs.Common.{arith}
use Rattle.model.specs.Number.{bytes}

pub join_halves : (n : ℕ) → n < 65536 → (n / 256) % 256 * 256 + n % 256 ≡ n
join_halves n h = omega arith

pub split_halves : (h l : ℕ) → h < 256 → l < 256 → bytes 2 (h * 256 + l) ≡ h ∷ l ∷ []
split_halves h l p q =
    let a : (h * 256 + l) / 256 % 256 ≡ h = omega arith in
    let b : (h * 256 + l) % 256 ≡ l = omega arith in
    rw (a, b)

-- a head of three bytes
pub three_add : (n : ℕ) → 3 + n ≡ suc (suc (suc n))
three_add n = omega arith

-- What a `match` on a number tells its last arm: the number is none of those that the arms before it name, `n` of them from `from` on.
use Rattle.std.specs.Prelude.{ℕ, zero, suc, ◌+◌, ◌≤◌, ◌≡◌}
use Rattle.std.proofs.Common.{arith}

-- nested as a match's `rest` is; `B` is what it tells before
abbrev pub Refused : Type 0 → ℕ → ℕ → ℕ → Type 0
Refused B x from zero = B
Refused B x from (suc n) = Refused B x from n × (x ≡ from + n → ⊥)

pub refused : (B : Type 0) (x from n : ℕ) → from ≤ x → Refused B x from n → from + n ≤ x
refused B x from zero h r = omega arith
refused B x from (suc n) h r =
    let l = refused B x from n h r.0 in
    let d = r.1 in
    omega arith

-- a number where the arms are 1 to n and then 0
pub past_arms : (B : Type 0) (n x : ℕ) → Refused B x 1 n × (x ≡ 0 → ⊥) → 1 + n ≤ x
past_arms B n x r =
    let d = r.1 in
    refused B x 1 n (omega arith) r.0

-- a kind's number, where the arms are the 25 kinds that move an image
pub no_kind : (B : Type 0) (x : ℕ) → Refused B x 1 25 × (x ≡ 0 → ⊥) → 26 ≤ x
no_kind B x r = past_arms B 25 x r

-- What the reading of a rate says.
use Rattle.std.specs.Prelude.{◌≡◌, cond, ℕ, ◌≤◌, ◌<◌, eqb, drop}
use Rattle.std.proofs.Math.Option.{Option, none, some}
use Rattle.model.specs.Choice.{given}
use Rattle.model.specs.Number.{Bytes, half}
use Rattle.model.specs.Lookup.{digits, magnitude, read_i64, unless_negative}
use Rattle.lookup_rates.specs.declared.Rate.{Rate}
use Rattle.lookup_rates.specs.declared.Rate.TheVariants.{Is, None}

-- a value that is not negative, as Rust reads an i64
unfoldable pub rate_in : Bytes → Option ℕ
rate_in v = given (read_i64 v) none unless_negative

abbrev pub rated : Rate → Option ℕ
rated (Is n) = some n
rated None = none

-- a number below 2^63, or none that is
abbrev pub Below : Option ℕ → Rate → Type 0
Below o (Is n) = (o ≡ some n) × (n < half 8)
Below o None = (m : ℕ) → o ≡ some m → half 8 ≤ m

abbrev pub DigitsAre : Bytes → ℕ → Rate → Type 0
DigitsAre s from r = Below (digits 0 (drop from s)) r

abbrev pub MagnitudeIs : Bytes → ℕ → Rate → Type 0
MagnitudeIs s from r = Below (magnitude (drop from s)) r

-- after a minus sign
abbrev pub less_rate : Rate → Rate
less_rate (Is n) = cond (eqb n 0) (Is 0) None
less_rate None = None

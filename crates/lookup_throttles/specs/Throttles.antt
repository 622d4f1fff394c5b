-- The rate by a config's value, if there is one.
use Rattle.std.proofs.Math.Option.{Option, none}
use Rattle.std.specs.Prelude.{ℕ}
use Rattle.model.specs.Choice.{given}
use Rattle.model.specs.Number.{Bytes}
use Rattle.lookup_rates.specs.Rates.{rate_in}

abbrev pub rate_by : Option Bytes → Option ℕ
rate_by o = given o none rate_in

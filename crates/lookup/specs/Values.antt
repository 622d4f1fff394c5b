-- What the throttle's lookup answers with.
use Rattle.std.proofs.Math.Option.{Option, none, some}
use Rattle.std.specs.Prelude.{ℕ}
use Rattle.model.specs.declared.answers.Rated.{Rated}
use Rattle.model.specs.declared.answers.Rated.TheVariants.{Rate, None}

-- a rate, which none is not
abbrev pub rated_as : Option ℕ → Rated
rated_as none = None
rated_as (some n) = Rate n

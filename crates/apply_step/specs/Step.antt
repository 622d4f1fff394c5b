-- The state of a work array, and what a record's step makes of it.
use Rattle.std.specs.Prelude.{◌≡◌, Bool, true, ℕ, ◌+◌, ◌≤◌, leb}
use Rattle.model.specs.Number.{Bytes}
use Rattle.model.specs.Contents.{Fixed, weight}
use Rattle.model.specs.Image.{is_capacity, head_size}
use Rattle.model.specs.Apply.{Applied, stays, becomes}
use Rattle.laws_apply.specs.Moves.{Holds}
use Rattle.apply_work.specs.Work.{Good, contents_in, state_in}
use Rattle.apply_work.specs.declared.Bounds.{Bounds}
use Rattle.apply_work.specs.declared.State.{State}
use Rattle.apply_work.specs.declared.Tried.{Tried}
use Rattle.apply_work.specs.declared.Tried.TheVariants.{Refused, Moved}

-- the length of a work array: the entries of a full image, and three records
abbrev pub work_room : ℕ
work_room = 167936

-- a state such as an image of a capacity holds
pub record Holding (w : Bytes) (s : State) (capacity : ℕ) : Type 0 where
  pub good : Good w s.bounds
  pub holds : Holds (state_in w s)
  pub within : is_capacity capacity ≡ true
  pub light : weight (state_in w s) ≤ capacity
  pub fits : head_size + s.bounds.used ≤ capacity

-- what a step says, with the work array after it
abbrev pub outcome : Bytes → Tried → Applied
outcome w (Refused n) = stays n
outcome w (Moved s) = becomes (state_in w s)

abbrev pub StillHolding : Bytes → ℕ → Tried → Type 0
StillHolding w capacity (Refused n) = Unit {0}
StillHolding w capacity (Moved s) = Holding w s capacity

-- whether contents weigh no more than a capacity, whatever the fixed parts are
abbrev pub IsLight : Bytes → Bounds → ℕ → Bool → Type 0
IsLight w bounds capacity b = (f : Fixed) → b ≡ leb (weight (contents_in w bounds f)) capacity

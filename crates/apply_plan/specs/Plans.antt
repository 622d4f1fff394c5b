-- A work array that a record's moves can be made on, and what they make of its state.
use Rattle.std.specs.Prelude.{◌≡◌, Bool, true, false, List, ◌+◌, ◌*◌, ◌≤◌, length}
use Rattle.model.specs.Number.{Bytes}
use Rattle.model.specs.Run.{Run, value}
use Rattle.model.specs.Record.{Rec}
use Rattle.model.specs.Contents.{Entry, key}
use Rattle.model.specs.Move.{offset_sum, sum_leaves, stored_offset, plan, moved, overflows}
use Rattle.model.specs.declared.Kind.TheVariants.{PartitionOffsetAdvance}
use Rattle.laws.specs.Lists.{All}
use Rattle.laws.specs.Map.{Asc}
use Rattle.laws_apply.specs.Entries.{Stored}
use Rattle.find.specs.Logged.{IsLogged}
use Rattle.apply_patches.specs.Patches.{CountFits}
use Rattle.apply_work.specs.Work.{Good, held_in, fixed_parts, state_in, most_record, Made}
use Rattle.apply_work.specs.declared.Bounds.{Bounds}
use Rattle.apply_work.specs.declared.State.{State}
use Rattle.apply_work.specs.declared.Tried.{Tried}
use Rattle.apply_work.specs.declared.Tried.TheVariants.{Refused, Moved}

-- entries in order such as Apply stores, whose topics can count one more, with room for three records; and a record that Read accepts
pub record Ready (w : Bytes) (bounds : Bounds) (rec : Bytes) : Type 0 where
  pub good : Good w bounds
  pub logged : IsLogged rec
  pub ascends : Asc key (held_in w bounds)
  pub stored : All Stored (held_in w bounds)
  pub counts : All CountFits (held_in w bounds)
  pub space : bounds.used + 3 * most_record ≤ length w

-- what a record's moves make of a state: 17 where an offset's sum leaves i64, else the entries and the fixed parts that the moves make
abbrev pub Planned : Rec → Bytes → State → Bytes → Tried → Type 0
Planned r w s v (Refused n) = (n ≡ 17) × (overflows r (held_in w s.bounds) ≡ true)
Planned r w s v (Moved t) =
    (overflows r (held_in w s.bounds) ≡ false) × Made (plan r.kind r.run (held_in w s.bounds)) w s.bounds v t.bounds ×
    (fixed_parts t ≡ (moved r (state_in w s)).fixed)

-- the same of an advance
abbrev pub leaves_by : Run → List Entry → Bool
leaves_by f l = sum_leaves (offset_sum (stored_offset f l) (value 3 f))

abbrev pub Added : Run → Bytes → State → Bytes → Tried → Type 0
Added f w s v (Refused n) = (n ≡ 17) × (leaves_by f (held_in w s.bounds) ≡ true)
Added f w s v (Moved t) =
    (leaves_by f (held_in w s.bounds) ≡ false) × Made (plan PartitionOffsetAdvance f (held_in w s.bounds)) w s.bounds v t.bounds × (fixed_parts t ≡ fixed_parts s)

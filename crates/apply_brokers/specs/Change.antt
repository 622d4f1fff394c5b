-- A broker's record in a buffer while it is changed, and the steps of a change.
use Rattle.std.specs.Prelude.{◌≡◌, true, false, cond, [], ◌∷◌, ℕ, ◌≤◌, ◌<◌, eqb, length, take}
use Rattle.std.proofs.Math.Option.{Option, none, some}
use Rattle.model.specs.Choice.{given, is_empty}
use Rattle.model.specs.Number.{Bytes, number}
use Rattle.model.specs.Run.{Run, field, value, set_field}
use Rattle.model.specs.Shape.{Row, rows_of, row_at, repeats, stored, shape_of, fault}
use Rattle.model.specs.Record.{rec, record_bytes}
use Rattle.model.specs.Move.{fenced_after, at_epoch, or_done}
use Rattle.model.specs.declared.Kind.TheVariants.{BrokerRegistration, BrokerRegistrationChange}
use Rattle.laws_records.specs.Forms.{ValueFits}
use Rattle.entries.specs.Entries.{IsRecord, record_in}
use Rattle.apply_drafts.specs.Drafts.{draft_room}

-- the record of a change
pub record IsChange (s : Bytes) : Type 0 where
  pub is : IsRecord s
  pub kind : (record_in s).kind ≡ BrokerRegistrationChange

-- a buffer that begins with a broker's record
pub record BrokerIn (b : Bytes) (n : ℕ) (run : Run) : Type 0 where
  pub bytes : take n b ≡ record_bytes (rec BrokerRegistration run)
  pub passes : fault stored BrokerRegistration run ≡ 0
  pub fits : n ≤ length b
  pub room : draft_room ≤ length b

-- a value that a broker's field may have
pub record Suits (tag : ℕ) (v : Bytes) : Type 0 where
  pub row : Row
  pub found : row_at (rows_of (shape_of stored BrokerRegistration)) tag ≡ some row
  pub once : repeats row.presence ≡ false
  pub fits : ValueFits none row.form v
  pub few : length v ≤ 1024

-- a buffer after the broker at an epoch was copied to its start: nothing where there is none
pub record Copied (epoch : Bytes) (o : Option Run) (b : Bytes) (n : ℕ) : Type 0 where
  pub none : n ≡ 0 → at_epoch epoch o ≡ false
  pub there : 0 < n → (at_epoch epoch o ≡ true) × BrokerIn b n (or_done o)

-- the steps of a change, each of one field: fenced, in controlled shutdown, log directories, cordoned ones
unfoldable pub fenced_by : Run → Run → Run
fenced_by change b = set_field 9 (fenced_after (number (value 3 change)) (value 9 b)) b

unfoldable pub shut_by : Run → Run → Run
shut_by change b = set_field 10 (cond (eqb (number (value 4 change)) 1) (1 ∷ []) (value 10 b)) b

unfoldable pub with_dirs : Run → Run → Run
with_dirs change b = cond (is_empty (value 5 change)) b (set_field 8 (value 5 change) b)

unfoldable pub with_cordoned : Run → Run → Run
with_cordoned change b = given (field 6 change) b (λ cordoned. set_field 11 cordoned b)

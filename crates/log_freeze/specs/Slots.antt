-- The freezes that a name can have, each in a slot: of each of its prefixes, by the prefix's length, and of itself as a literal scope. What a pass
-- over a run's records leaves in them.
use Rattle.std.specs.Prelude.{◌≡◌, cond, List, ℕ, zero, suc, ◌+◌, ◌≤◌, ◌<◌, eqb, length, take, drop, get_or, set}
use Rattle.std.proofs.Math.Option.{Option, none, some}
use Rattle.model.specs.Choice.{given, last_of}
use Rattle.model.specs.Number.{Bytes, number}
use Rattle.model.specs.Order.{same_bytes}
use Rattle.model.specs.Run.{Run, value}
use Rattle.model.specs.Shape.{framed}
use Rattle.model.specs.Record.{Rec, got, read, on_got}
use Rattle.model.specs.Items.{Items, item, items_from, items_of, records}
use Rattle.model.specs.Reply.{Ended}
use Rattle.model.specs.Snapshot.{emit}
use Rattle.model.specs.Lookup.{literal, prefixed, freeze_by, as_list}
use Rattle.model.specs.Convert.{Checked, passes, fails, run_checked}
use Rattle.model.specs.LogFreeze.{is_freeze_of, in_force, last_freeze, log_checked}
use Rattle.model.specs.declared.answers.Answer.{Answer}
use Rattle.model.specs.declared.answers.Answer.TheVariants.{Used, Refused}
use Rattle.keys.specs.Keys.{kind_in, run_in}
use Rattle.log_freeze.specs.declared.Pass.{Pass}
use Rattle.log_freeze.specs.declared.Pass.TheVariants.{Done, Stopped}

-- 1. The slot of a freeze record, and what it then holds

-- how many slots there are; as a slot, none
abbrev pub slot_count : ℕ
slot_count = 257

abbrev pub literal_slot : ℕ
literal_slot = 256

-- of a scope that the name begins with, by the pattern and both lengths
unfoldable pub pattern_slot : Bytes → ℕ → ℕ → ℕ
pattern_slot pattern scope name =
    cond (same_bytes pattern prefixed) scope (cond (same_bytes pattern literal) (cond (eqb scope name) literal_slot slot_count) slot_count)

abbrev pub slot_of : Run → Bytes → ℕ
slot_of f name =
    let scope = value 1 f in
    cond (same_bytes scope (take (length scope) name)) (pattern_slot (value 2 f) (length scope) (length name)) slot_count

-- the record's place and 1 more, or 0 where it is a thaw
abbrev pub slot_value : Run → ℕ → ℕ
slot_value f at = cond (eqb (number (value 3 f)) 1) (at + 1) 0

unfoldable pub noted : List ℕ → Bytes → Bytes → ℕ → List ℕ
noted slots name e at = cond (eqb (kind_in e) 18) (set slots (slot_of (run_in e) name) (slot_value (run_in e) at)) slots

-- 2. What a slot holds

unfoldable pub frozen_at : Bytes → ℕ → Option Rec
frozen_at run zero = none
frozen_at run (suc at) = on_got (read framed (drop at run)) (λ n. none) (λ r n. some r)

-- nothing, or the place of a record
abbrev pub Holds : Bytes → ℕ → Type 0
Holds run zero = Unit {0}
Holds run (suc at) = (r : Rec) × (n : ℕ) × (read framed (drop at run) ≡ got r n)

-- of the prefixes of less than n bytes, the longest that holds something
unfoldable pub longest_slot : List ℕ → ℕ → ℕ
longest_slot slots zero = 0
longest_slot slots (suc n) = cond (eqb (get_or slots n 0) 0) (longest_slot slots n) (get_or slots n 0)

abbrev pub chosen_slot : List ℕ → ℕ → ℕ
chosen_slot slots n = cond (eqb (get_or slots literal_slot 0) 0) (longest_slot slots (suc n)) (get_or slots literal_slot 0)

-- 3. The pass

abbrev pub all_records : Bytes → List Rec
all_records run = records (items_of framed run)

abbrev pub items_at : Bytes → ℕ → Items
items_at run at = items_from framed 0 at (drop at run)

-- the checks of the records from a place on: kind 26 may stand at the first place
abbrev pub checked_from : ℕ → Items → Checked
checked_from zero is = log_checked is
checked_from (suc at) is = run_checked is

-- the record at a place is right, or it is the first at fault
abbrev pub ReadAs : Bytes → ℕ → Answer → Type 0
ReadAs run at (Used n) = (r : Rec) × (read framed (drop at run) ≡ got r n) × ((rest : Items) → checked_from at (item at r rest) ≡ run_checked rest)
ReadAs run at (Refused n) = checked_from at (items_at run at) ≡ fails n at

-- a freeze by the records from a place on, and where these have none by the slot
abbrev pub frozen_from : Bytes → ℕ → ℕ → Bytes → Bytes → Option Rec
frozen_from run at v pattern scope = given (last_of (is_freeze_of pattern scope) (records (items_at run at))) (frozen_at run v) in_force

-- the records before a place are right and noted
pub record Reached (run name : Bytes) (at : ℕ) (slots : List ℕ) : Type 0 where
  pub within : at ≤ length run
  pub checks : log_checked (items_of framed run) ≡ checked_from at (items_at run at)
  pub prefixes : (i : ℕ) → i ≤ length name → last_freeze (all_records run) prefixed (take i name) ≡ frozen_from run at (get_or slots i 0) prefixed (take i name)
  pub literals : last_freeze (all_records run) literal name ≡ frozen_from run at (get_or slots literal_slot 0) literal name
  pub holds : (i : ℕ) → i < slot_count → Holds run (get_or slots i 0)

-- all of them are
pub record Noted (run name : Bytes) (slots : List ℕ) : Type 0 where
  pub checks : log_checked (items_of framed run) ≡ passes
  pub prefixes : (i : ℕ) → i ≤ length name → last_freeze (all_records run) prefixed (take i name) ≡ frozen_at run (get_or slots i 0)
  pub literals : last_freeze (all_records run) literal name ≡ frozen_at run (get_or slots literal_slot 0)
  pub holds : (i : ℕ) → i < slot_count → Holds run (get_or slots i 0)

abbrev pub PassAs : Bytes → Bytes → List ℕ → Pass → Type 0
PassAs run name slots Done = Noted run name slots
PassAs run name slots (Stopped n at) = log_checked (items_of framed run) ≡ fails n at

-- 4. What is written of a run's last freezes

abbrev pub written : Bytes → Bytes → Bytes → Ended
written run name out = emit (as_list (freeze_by (last_freeze (all_records run)) name)) out

-- A name's freeze from a run of encoded records: 02's request 14, "The freeze, from the log alone", and what it claims of the restored image.
-- `crates/laws_log` proves the claim.
use Rattle.std.specs.Prelude.{ℕ, zero, suc, Bool, true, false, cond, ◌&&◌, List, [], ◌++◌, ◌≡◌, eqb}
use Rattle.std.proofs.Math.Option.{Option, none, some}
use Rattle.model.specs.Choice.{given, last_of}
use Rattle.model.specs.Number.{Bytes, AreBytes, number, is_offset}
use Rattle.model.specs.Order.{same_bytes}
use Rattle.model.specs.Run.{value}
use Rattle.model.specs.Kind.{kind_number}
use Rattle.model.specs.Shape.{framed, string_limit, text_fault}
use Rattle.model.specs.Record.{Rec, record_bytes}
use Rattle.model.specs.Items.{Items, end, bad, item, items_of, records}
use Rattle.model.specs.Snapshot.{emit, offset_rec, is_offset_rec, restore_of}
use Rattle.model.specs.Lookup.{freeze_by, as_list, freeze_of}
use Rattle.model.specs.Convert.{Checked, passes, fails, run_checked, checked}
use Rattle.model.specs.Reply.{accepted, Ended, unchanged}
use Rattle.model.specs.declared.Kind.TheVariants.{TopicFreeze}

-- 1. "Answer a name's freeze from an encoded record run .. by looking back for the last freeze record of each pattern and scope"

abbrev pub is_freeze : Rec → Bool
is_freeze r = eqb (kind_number r.kind) (kind_number TopicFreeze)

unfoldable pub is_freeze_of : Bytes → Bytes → Rec → Bool
is_freeze_of pattern scope r = is_freeze r && same_bytes (value 2 r.run) pattern && same_bytes (value 1 r.run) scope

-- what a freeze record leaves in force: itself, or nothing where it is a thaw
abbrev pub in_force : Rec → Option Rec
in_force r = cond (eqb (number (value 3 r.run)) 1) (some r) none

unfoldable pub last_freeze : List Rec → Bytes → Bytes → Option Rec
last_freeze rs pattern scope = given (last_of (is_freeze_of pattern scope) rs) none in_force

-- 2. "Checks: the name's 4, then 5; Read's, then 22 for a kind 26 that stands later, with the place of the first record at fault; then 19"

-- "kind 26 first or not"
unfoldable pub log_checked : Items → Checked
log_checked end = passes
log_checked (bad n place) = fails n place
log_checked (item place r rest) = run_checked rest

-- what comes of a name that is all right
abbrev pub name_checked : ℕ → Ended → Bytes → Ended
name_checked zero e out = e
name_checked (suc n) e out = unchanged (suc n) out

-- the records are checked whatever the name, an internal one too
unfoldable pub log_freeze_of : Bytes → Bytes → Bytes → Ended
log_freeze_of run name out =
    let is = items_of framed run in
    name_checked (text_fault string_limit name) (checked (log_checked is) (emit (as_list (freeze_by (last_freeze (records is)) name)) out) out) out

-- 3. "For every run that restores without refusal at some capacity, kind 26 put before one that lacks it, the answer is the restored image's."

unfoldable pub starts_dated : Items → Bool
starts_dated end = false
starts_dated (bad n place) = false
starts_dated (item place r rest) = is_offset_rec r

-- a run, or kind 26 at an offset and the run
abbrev pub started : ℕ → Bytes → Bytes
started n run = cond (starts_dated (items_of framed run)) run (record_bytes (offset_rec n) ++ run)

-- at any capacity, that of `b`, and at any offset: the number, the bytes written and the rest of the output
abbrev pub FreezeFromLog : Type 0
FreezeFromLog =
    (run name out b : Bytes) (n : ℕ) → AreBytes run → is_offset n ≡ true → (restore_of (started n run) b).reply ≡ accepted [] →
    log_freeze_of run name out ≡ freeze_of (restore_of (started n run) b).buffer name out

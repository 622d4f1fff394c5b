-- Snapshots from before kind 26: 02's request 6, "Snapshots from last season". The old form has the records alone, the new form kind 26 before them.
use Rattle.std.specs.Prelude.{ℕ, true, cond, [], ◌∷◌, ◌++◌, ◌≡◌, eqb, drop}
use Rattle.model.specs.Number.{Bytes, AreBytes, number, is_offset}
use Rattle.model.specs.Run.{value}
use Rattle.model.specs.Shape.{logged, framed}
use Rattle.model.specs.Record.{record_bytes}
use Rattle.model.specs.Items.{Items, end, bad, item, items_of}
use Rattle.model.specs.Snapshot.{offset_rec, offset_size, is_offset_rec}
use Rattle.model.specs.Reply.{Ended, unchanged, emit_bytes, also_says}
use Rattle.model.specs.History.{first_value, written}

-- 1. "Records are read, not applied"

-- whether a form's records are all right, or the number and the place of the first that is not
pub data Checked : Type 0 where
  passes : Checked
  fails : ℕ → ℕ → Checked

-- records that kind 26 is not among: "Read's, for the new form also 22, with the place as in Restore". In the old form, which "still knows 25
-- kinds", kind 26 is Read's 3
unfoldable pub run_checked : Items → Checked
run_checked end = passes
run_checked (bad n place) = fails n place
run_checked (item place r rest) = cond (is_offset_rec r) (fails 22 place) (run_checked rest)

-- kind 26, and then such records; where there are none, 22 at place 0
unfoldable pub start_checked : Items → Checked
start_checked end = fails 22 0
start_checked (bad n place) = fails n place
start_checked (item place r rest) = cond (is_offset_rec r) (run_checked rest) (fails 22 place)

-- the offset in the first record, where that is of kind 26
unfoldable pub start_offset : Items → ℕ
start_offset end = 0
start_offset (bad n place) = 0
start_offset (item place r rest) = number (value 1 r.run)

-- what comes of records that are all right; else the refusal with its place, and the output as it was
abbrev pub checked : Checked → Ended → Bytes → Ended
checked passes e out = e
checked (fails n place) e out = record { reply = record { number = n; values = place ∷ [] }; buffer = out }

-- 2. The two operations

-- "One operation takes such a run and an offset and writes the new form, kind 26 and then the run's bytes unchanged"; "23, given offset below -1,
-- first; then Read's ..; 19 last"
unfoldable pub with_offset_of : Bytes → ℕ → Bytes → Ended
with_offset_of run n out =
    cond (is_offset n) (checked (run_checked (items_of logged run)) (emit_bytes (record_bytes (offset_rec n) ++ run) out) out) (unchanged 23 out)

-- "another takes the new form and writes the old one with the offset beside it": the bytes written, and the offset
abbrev pub beside : ℕ → Ended → Ended
beside n e = also_says (n ∷ []) e

unfoldable pub without_offset_of : Bytes → Bytes → Ended
without_offset_of run out =
    let is = items_of framed run in
    checked (start_checked is) (beside (start_offset is) (emit_bytes (drop offset_size run) out)) out

-- 3. "Old to new to old is the same bytes, and new to old to new with that offset likewise"

abbrev pub Succeeds : Ended → Type 0
Succeeds e = eqb e.reply.number 0 ≡ true

-- what the first operation wrote, given to the second, is the run and the offset again, at every output
abbrev pub OldNewOld : Type 0
OldNewOld =
    (run : Bytes) (n : ℕ) (out own : Bytes) → AreBytes run → Succeeds (with_offset_of run n out) →
    without_offset_of (written (with_offset_of run n out)) own ≡ beside n (emit_bytes run own)

-- the second value of an answer
abbrev pub offset_beside : Ended → ℕ
offset_beside e = first_value (drop 1 e.reply.values)

abbrev pub NewOldNew : Type 0
NewOldNew =
    (run out own : Bytes) → AreBytes run → Succeeds (without_offset_of run out) →
    with_offset_of (written (without_offset_of run out)) (offset_beside (without_offset_of run out)) own ≡ emit_bytes run own

-- Records that are all right: they are whole, kind 26 is not among them, and an operation that succeeds had such.
use Rattle.std.specs.Prelude.{◌≡◌, refl, Bool, true, false, cond, List, [], ◌∷◌, ◌++◌, ℕ, zero, suc, ◌+◌, ◌-◌, ◌<◌, leb, length, drop}
use Rattle.std.proofs.Common.{◌∙◌, add-zero, arith, eqb-true, length-append}
use Rattle.std.proofs.Math.Seq.{take-append_seam}
use Rattle.model.specs.Choice.{joined}
use Rattle.model.specs.Number.{Bytes}
use Rattle.model.specs.Shape.{Source}
use Rattle.model.specs.Record.{Rec, record_bytes, Got, bad as unread, got, read, on_got}
use Rattle.model.specs.Items.{Items, end, bad, item, items_from, records, is_whole}
use Rattle.model.specs.Reply.{accepted, Ended, unchanged, emit_bytes}
use Rattle.model.specs.Snapshot.{is_offset_rec}
use Rattle.model.specs.History.{written}
use Rattle.model.specs.Convert.{Checked, passes, fails, run_checked, start_checked, checked, beside, offset_beside, Succeeds}
use Rattle.laws.specs.Choice.{impossible, true_false}
use Rattle.laws.specs.Lists.{All}
use Rattle.laws_records.specs.Records.{refusal_positive}
use Rattle.laws_records.specs.Items.{placed}

abbrev pub Undated : Rec → Type 0
Undated r = is_offset_rec r ≡ false

-- 1. Records that pass

pub record Passes (i : Items) : Type 0 where
  pub whole : is_whole i ≡ true
  pub undated : All Undated (records i)

pub run_passes : (i : Items) → run_checked i ≡ passes → Passes i
unfolding run_checked is_whole records
run_passes end e = record { whole = refl; undated = tt }
run_passes (bad n place) e = impossible cc
run_passes (item place r rest) e = go (is_offset_rec r) refl e (run_passes rest)
  where
    go : (b : Bool) → is_offset_rec r ≡ b → cond b (fails 22 place) (run_checked rest) ≡ passes → (run_checked rest ≡ passes → Passes rest)
        → Passes (item place r rest)
    go true q h i = impossible cc
    go false q h i = let j = i h in record { whole = j.whole; undated = (q, j.undated) }

-- records without kind 26, and what stands behind them
pub run-placed : (place : ℕ) (rs : List Rec) (rest : ℕ → Items) → All Undated rs
    → run_checked (placed place rs rest) ≡ run_checked (rest (place + length (joined record_bytes rs)))
unfolding run_checked
run-placed place [] rest u = rw add-zero
run-placed place (r ∷ rs) rest u = rw u.0 (run-placed (place + length (record_bytes r)) rs rest u.1 ∙ rw ends)
  where
    ends : place + length (record_bytes r) + length (joined record_bytes rs) ≡ place + length (record_bytes r ++ joined record_bytes rs)
    ends = simp length-append (omega arith)

pub run-whole : (place : ℕ) (rs : List Rec) → All Undated rs → run_checked (placed place rs (λ p. end)) ≡ passes
unfolding run_checked
run-whole place rs u = run-placed place rs (λ p. end) u

-- 2. A refusal's number is not 0

abbrev Numbered : Items → Type 0
Numbered end = Unit {0}
Numbered (bad n place) = 0 < n
Numbered (item place r rest) = Numbered rest

pub items-numbered : (source : Source) (skip place : ℕ) (s : Bytes) → Numbered (items_from source skip place s)
unfolding items_from
items-numbered source zero place [] = tt
items-numbered source (suc skip) place [] = tt
items-numbered source (suc skip) place (b ∷ s) = items-numbered source skip (place + 1) s
items-numbered source zero place (b ∷ s) = go (read source (b ∷ s)) refl (λ n. items-numbered source n (place + 1) s)
  where
    go : (g : Got) → read source (b ∷ s) ≡ g → ((n : ℕ) → Numbered (items_from source n (place + 1) s))
        → Numbered (on_got g (λ number. bad number place) (λ r used. item place r (items_from source (used - 1) (place + 1) s)))
    go (unread n) e i = refusal_positive source (b ∷ s) n e
    go (got r used) e i = i (used - 1)

abbrev Positive : Checked → Type 0
Positive passes = Unit {0}
Positive (fails n place) = 0 < n

pub run-positive : (i : Items) → Numbered i → Positive (run_checked i)
unfolding run_checked
run-positive end h = tt
run-positive (bad n place) h = h
run-positive (item place r rest) h = go (is_offset_rec r) (run-positive rest h)
  where
    go : (b : Bool) → Positive (run_checked rest) → Positive (cond b (fails 22 place) (run_checked rest))
    go true i = omega arith
    go false i = i

pub start-positive : (i : Items) → Numbered i → Positive (start_checked i)
unfolding start_checked
start-positive end h = omega arith
start-positive (bad n place) h = h
start-positive (item place r rest) h = go (is_offset_rec r) (run-positive rest h)
  where
    go : (b : Bool) → Positive (run_checked rest) → Positive (cond b (run_checked rest) (fails 22 place))
    go true i = i
    go false i = omega arith

-- so that what succeeds has passed
pub succeeds_passes : (c : Checked) (e : Ended) (out : Bytes) → Positive c → Succeeds (checked c e out) → (c ≡ passes) × Succeeds e
succeeds_passes passes e out h q = (refl, q)
succeeds_passes (fails n place) e out h q = absurd (omega (arith, h, eqb-true n 0 q))

-- 3. What is emitted and succeeds is written

abbrev emit-end : Bytes → Bytes → Bool → Ended
emit-end s out b = cond b (record { reply = accepted (length s ∷ []); buffer = s ++ drop (length s) out }) (unchanged 19 out)

pub emit-written : (s out : Bytes) → Succeeds (emit_bytes s out) → written (emit_bytes s out) ≡ s
unfolding emit_bytes
emit-written s out h = go (leb (length s) (length out)) h
  where
    go : (b : Bool) → Succeeds (emit-end s out b) → written (emit-end s out b) ≡ s
    go true q = take-append_seam s (drop (length s) out)
    go false q = absurd (true_false q refl)

-- with a number beside it
pub beside-written : (n : ℕ) (s out : Bytes) → Succeeds (beside n (emit_bytes s out))
    → (written (beside n (emit_bytes s out)) ≡ s) × (offset_beside (beside n (emit_bytes s out)) ≡ n)
unfolding emit_bytes
beside-written n s out h = go (leb (length s) (length out)) h
  where
    go : (b : Bool) → Succeeds (beside n (emit-end s out b)) → (written (beside n (emit-end s out b)) ≡ s) × (offset_beside (beside n (emit-end s out b)) ≡ n)
    go true q = (take-append_seam s (drop (length s) out), refl)
    go false q = absurd (true_false q refl)

-- A walk over entries that writes a piece for each, over any pieces: how long those to come are, what is written of those that are passed, and what
-- is answered then.
use mathlib.Core.Path.{◌≡◌, refl, sym, ap, ap₂, ◌∙◌, subst}
use mathlib.Core.List.{List, [], ◌∷◌, ◌++◌}
use Prim.Native.Nat.{ℕ, ◌+◌, ◌-◌, ◌*◌, ◌≤◌, ◌<◌}
use native.Mathlib.Omega.{arith}
use lib.ListN.{length, take, drop, length-append}
use lib.Seq.{length-slice}
use Rattle.model.specs.Choice.{joined}
use Rattle.model.specs.Number.{Bytes}
use Rattle.model.specs.Record.{Rec, record_bytes}
use Rattle.model.specs.Reply.{accepted, refused, emit_bytes}
use Rattle.model.specs.Snapshot.{emit}
use Rattle.laws_records.specs.Emits.{emit_fits, emit-short}
use Rattle.entries.specs.Entries.{records_in, Entries, record_in}
use Rattle.entries.specs.declared.Cursor.{Cursor}
use Rattle.entries.proofs.Turns.{Stands}
use Rattle.image_entries.proofs.Turns.{forward, inside, entry_is, next-at, past_end}
use Rattle.keys.proofs.Found.{lent_slice}
use Rattle.records.specs.Answers.{put_at}
use Rattle.records.proofs.Growing.{Growing, grow_start, part_fits, grow, grown}

-- 1. The entries to come

abbrev pub pieces : (Rec → Bytes) → Bytes → Bytes
pieces piece s = joined piece (records_in s)

none-to_come : (piece : Rec → Bytes) (s : Bytes) (at : ℕ) → length s ≤ at → pieces piece (drop at s) ≡ []
none-to_come piece s at past = ap (joined piece) (past_end s at past)

module _ (piece : Rec → Bytes) {s : Bytes} {at start end : ℕ} {next : Cursor} (t : Stands s at start end next) where
  one-to_come : pieces piece (drop at s) ≡ piece (record_in (take (end - start) (drop start s))) ++ pieces piece (drop next.at s)
  one-to_come =
      ap (joined piece) t.entry.list
      ∙ ap₂ (λ r n. piece r ++ pieces piece (drop n s)) (sym (entry_is t)) (sym (next-at t))

  rest-entries : Entries (drop next.at s)
  rest-entries = subst (λ n. Entries (drop n s)) (sym (next-at t)) t.entry.rest

-- 2. Their length. No piece is more than 19 times as long as its entry: a downgrade's assignments need as much.

pub record Counted (piece : Rec → Bytes) (s : Bytes) (at n : ℕ) : Type 0 where
  pub entries : Entries (drop at s)
  pub sum : n + length (pieces piece (drop at s)) ≡ length (pieces piece s)
  pub few : n ≤ 19 * at
  pub short : length s ≤ 65536

pub count-start : (piece : Rec → Bytes) (s : Bytes) → Entries s → length s ≤ 65536 → Counted piece s 0 0
count-start piece s e short = record { entries = e; sum = omega arith; few = omega arith; short = short }

module _ {piece : Rec → Bytes} {s : Bytes} {at n : ℕ} (h : Counted piece s at n) where
  pub counted : length s ≤ at → n ≡ length (pieces piece s)
  counted past = omega (arith, h.sum, ap length (none-to_come piece s at past))

  module _ {start end : ℕ} {next : Cursor} (t : Stands s at start end next) {m : ℕ}
      (em : (m ≡ length (piece (record_in (take (end - start) (drop start s))))) × (m ≤ 19 * length (take (end - start) (drop start s)))) where
    lent_length : length (take (end - start) (drop start s)) ≡ end - start
    lent_length = ap length (lent_slice s start end (forward t)) ∙ length-slice start end s (inside t)

    low : n + m ≤ 19 * next.at
    low = omega (arith, h.few, em.1, lent_length, next-at t, t.first, t.last)

    pub count_fits_lem : n + m ≤ 19 * 65536
    count_fits_lem = omega (arith, low, next-at t, t.last, inside t, h.short)

    pub count_turn : Counted piece s next.at (n + m)
    count_turn =
        let here = piece (record_in (take (end - start) (drop start s))) in
        record {
          entries = rest-entries piece t;
          sum = omega (arith, h.sum, em.0, ap length (one-to_come piece t), length-append here (pieces piece (drop next.at s)));
          few = low;
          short = h.short;
        }

-- 3. What is written

pub record Wrote (piece : Rec → Bytes) (s out w : Bytes) (at n : ℕ) : Type 0 where
  pub entries : Entries (drop at s)
  pub grows : Growing out w 0 n (pieces piece s) (pieces piece (drop at s))

pub write_start : (piece : Rec → Bytes) (s out : Bytes) → Entries s → length (pieces piece s) ≤ length out → Wrote piece s out out 0 0
write_start piece s out e fits = record { entries = e; grows = grow_start out 0 (pieces piece s) (omega arith) }

module _ {piece : Rec → Bytes} {s out w : Bytes} {at n : ℕ} (h : Wrote piece s out w at n) where
  pub wrote : length s ≤ at → (n ≡ length (pieces piece s)) × (w ≡ put_at out 0 (pieces piece s))
  wrote past = let all = grown h.grows (none-to_come piece s at past) in (omega (arith, all.0), all.1)

  module _ {start end : ℕ} {next : Cursor} (t : Stands s at start end next) where
    abbrev here : Bytes
    here = piece (record_in (take (end - start) (drop start s)))

    pub entry_fits : n + length here ≤ length w
    entry_fits = part_fits h.grows here (pieces piece (drop next.at s)) (one-to_come piece t)

    pub write_turn : {v : Bytes} {m : ℕ} → (m ≡ n + length here) × (v ≡ put_at w n here) → Wrote piece s out v next.at m
    write_turn q = record { entries = rest-entries piece t; grows = grow h.grows here (pieces piece (drop next.at s)) (one-to_come piece t) q }

-- 4. The answer, where the pieces are the bytes of some records

module _ (rs : List Rec) (b : Bytes) (all : joined record_bytes rs ≡ b) (out : Bytes) {n : ℕ} (en : n ≡ length b) where
  emits : emit rs out ≡ emit_bytes b out
  unfolding emit
  emits = ap (λ s. emit_bytes s out) all

  pub too_short : length out < n → (refused 19 ≡ (emit rs out).reply) × (out ≡ (emit rs out).buffer)
  too_short h = rw (emits, emit-short b out (omega arith)) (refl, refl)

  pub emitted : n ≤ length out → {k : ℕ} {w : Bytes} → (k ≡ length b) × (w ≡ put_at out 0 b)
      → (accepted (k ∷ []) ≡ (emit rs out).reply) × (w ≡ (emit rs out).buffer)
  emitted h q =
      let zero-on : 0 + length b ≡ length b = omega arith in
      rw (emits, emit_fits b out (omega arith)) (ap (λ x. accepted (x ∷ [])) q.0, q.1 ∙ ap (λ x. b ++ drop x out) zero-on)

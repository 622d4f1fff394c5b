-- A walk over entries: how long the records of those to come are, and what is written of those that are passed.
use mathlib.Core.Path.{◌≡◌, refl, sym, ap, ap₂, ◌∙◌, subst}
use mathlib.Core.List.{[], ◌∷◌, ◌++◌}
use Prim.Native.Nat.{ℕ, ◌+◌, ◌-◌, ◌≤◌}
use native.Mathlib.Omega.{arith}
use lib.ListN.{length, take, drop, length-append}
use lib.Seq.{length-slice}
use Rattle.model.specs.Choice.{joined, total}
use Rattle.model.specs.Number.{Bytes, AreBytes}
use Rattle.model.specs.Record.{Rec, record_bytes}
use Rattle.model.specs.Contents.{returned}
use Rattle.model.specs.Items.{items_from, records, is_whole}
use Rattle.model.specs.Image.{entry_of}
use Rattle.records.specs.Answers.{put_at}
use Rattle.keys.proofs.Found.{lent_slice}
use Rattle.entries.specs.Entries.{records_in, record_in, Entries, size_at}
use Rattle.entries.specs.declared.Cursor.{Cursor}
use Rattle.entries.proofs.Turns.{Stands, lent}
use Rattle.entries.proofs.Before.{up_to}
use Rattle.image_entries.proofs.Turns.{forward, inside, next-at, past_end, is_record, entry_is}
use Rattle.find.specs.Returned.{Entire, returned_size, returned_bytes}
use Rattle.find.proofs.Puts.{length-returned}
use Rattle.find.proofs.Records.{record-returned}
use Rattle.find.specs.Found.{AllKept}
use Rattle.find.proofs.Finds.{entire}
use Rattle.model.specs.Snapshot.{offset_size, lengths}
use Rattle.snapshot.specs.Returned.{returned_records, returned_in, returned_at, Behind}
use Rattle.snapshot.proofs.Totals.{lengths-returned, size_low, here-bytes}
use Rattle.records.proofs.Growing.{Growing, grow_start, part_fits, grow, grown}

-- 1. The entries to come

pub record Ahead (s : Bytes) (at : ℕ) : Type 0 where
  pub entries : Entries (drop at s)
  pub keeps : AllKept (records_in (drop at s))

none-to_come : (s : Bytes) (at : ℕ) → length s ≤ at → returned_in (drop at s) ≡ []
none-to_come s at past = ap (joined (λ (r : Rec). record_bytes (returned (entry_of r)))) (past_end s at past)

module _ {s : Bytes} {at start end : ℕ} {next : Cursor} (t : Stands s at start end next) where
  pub here_entire : Entire (take (end - start) (drop start s))
  here_entire = entire (take (end - start) (drop start s)) (is_record t)

  here-size : length (returned_bytes (take (end - start) (drop start s))) ≡ returned_size (take (end - start) (drop start s))
  here-size = length-returned (take (end - start) (drop start s)) here_entire

  module _ (h : Ahead s at) where
    one-to_come : returned_in (drop at s) ≡ returned_bytes (take (end - start) (drop start s)) ++ returned_in (drop next.at s)
    one-to_come =
        let here = record-returned t.entry.entry (subst AllKept t.entry.list h.keeps).0 ∙ ap returned_bytes (sym (lent s at start end next t)) in
        ap (joined (λ (r : Rec). record_bytes (returned (entry_of r)))) t.entry.list
        ∙ ap₂ (λ x n. x ++ returned_in (drop n s)) here (sym (next-at t))

    one_further : Ahead s next.at
    one_further =
        let p : Ahead s (at + size_at s at) = record { entries = t.entry.rest; keeps = (subst AllKept t.entry.list h.keeps).1 } in
        subst (λ n. Ahead s n) (sym (next-at t)) p

-- 2. Their length

pub record Counted (s : Bytes) (at n : ℕ) : Type 0 where
  pub ahead : Ahead s at
  pub sum : n + length (returned_in (drop at s)) ≡ length (returned_in s)
  pub few : n ≤ at
  pub within : at ≤ length s

pub count-start : (s : Bytes) → Entries s → AllKept (records_in s) → Counted s 0 0
count-start s e k = record { ahead = record { entries = e; keeps = k }; sum = omega arith; few = omega arith; within = omega arith }

module _ {s : Bytes} {at n : ℕ} (h : Counted s at n) where
  pub counted : length s ≤ at → (n ≡ length (returned_in s)) × (n ≤ length s)
  counted past = (omega (arith, h.sum, ap length (none-to_come s at past)), omega (arith, h.few, h.within))

  module _ {start end : ℕ} {next : Cursor} (t : Stands s at start end next) {m : ℕ} (em : m ≡ returned_size (take (end - start) (drop start s))) where
    low : n + m ≤ next.at
    low =
        let long = ap length (lent_slice s start end (forward t)) ∙ length-slice start end s (inside t) in
        omega (arith, h.few, em, size_low (take (end - start) (drop start s)), long, next-at t, t.first, t.last)

    pub count_fits_lem : n + m ≤ length s
    count_fits_lem = omega (arith, low, next-at t, t.entry.fits)

    pub count_turn : Counted s next.at (n + m)
    count_turn =
        let here = returned_bytes (take (end - start) (drop start s)) in
        record {
          ahead = one_further t h.ahead;
          sum = omega (arith, h.sum, em, here-size t, ap length (one-to_come t h.ahead), length-append here (returned_in (drop next.at s)));
          few = low;
          within = omega (arith, next-at t, t.entry.fits);
        }

-- 3. What is written

-- the total is the sum of the lengths of the records that are placed
pub record Wrote (s out w : Bytes) (at n : ℕ) : Type 0 where
  pub ahead : Ahead s at
  pub passed : Entries (take at s)
  pub sum : n ≡ offset_size + lengths (returned_records (take at s))
  pub grows : Growing out w offset_size n (returned_in s) (returned_in (drop at s))

pub write_start : (s out : Bytes) → Entries s → AllKept (records_in s) → {n : ℕ} → n ≡ offset_size → n + length (returned_in s) ≤ length out → Wrote s out out 0 n
unfolding items_from records is_whole total
write_start s out e k en fits = record {
  ahead = record { entries = e; keeps = k };
  passed = refl;
  sum = en;
  grows = rw en (grow_start out offset_size (returned_in s) (omega (arith, en)));
}

module _ {s out w : Bytes} {at n : ℕ} (h : Wrote s out w at n) where
  pub wrote : length s ≤ at → (n ≡ offset_size + lengths (returned_records s)) × (w ≡ put_at out offset_size (returned_in s))
  wrote past = let all = grown h.grows (none-to_come s at past) in (omega (arith, all.0, lengths-returned s), all.1)

  module _ {start end : ℕ} {next : Cursor} (t : Stands s at start end next) (are_bytes : AreBytes s) where
    abbrev here : Bytes
    here = take (end - start) (drop start s)

    pub behind : Behind s start end
    behind =
        let up = up_to t are_bytes h.passed in
        let one : record_in here ≡ t.entry.entry = entry_is t in
        record {
          order = omega (arith, forward t);
          fits = omega (arith, inside t);
          is = is_record t;
          keeps = rw one (subst AllKept t.entry.list h.ahead.keeps).0;
          joins = up.0 ∙ ap₂ (λ x r. records_in (take x s) ++ r ∷ []) (sym t.first) (sym one);
        }

    pub sum-before : n ≡ offset_size + lengths (returned_records (take start s))
    sum-before = h.sum ∙ ap (λ x. offset_size + lengths (returned_records (take x s))) (sym t.first)

    pub entry_fits : n + length (record_bytes (returned_at s start end)) ≤ length w
    entry_fits =
        omega (arith, part_fits h.grows (returned_bytes here) (returned_in (drop next.at s)) (one-to_come t h.ahead), ap length (here-bytes behind))

    pub write_turn : {v : Bytes} {m : ℕ} → (m ≡ n + length (record_bytes (returned_at s start end))) × (m ≡ offset_size + lengths (returned_records (take end s)))
        → v ≡ put_at w n (record_bytes (returned_at s start end)) → Wrote s out v next.at m
    write_turn em ev =
        let end_is : end ≡ next.at = sym (ap (λ c. c.at) t.after) in
        record {
          ahead = one_further t h.ahead;
          passed = subst (λ x. Entries (take x s)) end_is (up_to t are_bytes h.passed).1;
          sum = em.1 ∙ ap (λ x. offset_size + lengths (returned_records (take x s))) end_is;
          grows =
              grow h.grows (returned_bytes here) (returned_in (drop next.at s)) (one-to_come t h.ahead)
              (em.0 ∙ ap (λ b. n + length b) (here-bytes behind), ev ∙ ap (put_at w n) (here-bytes behind));
        }

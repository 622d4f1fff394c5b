-- Counting a topic's partitions: what has been counted and what the rest has is what all have.
use mathlib.Core.Path.{◌≡◌, refl, sym, ap, ◌∙◌, subst}
use mathlib.Core.List.{List, [], ◌∷◌}
use mathlib.Core.Bool.{true}
use Prim.Native.Nat.{Ordering}
use Prim.Native.Nat.{ℕ, ◌+◌, ◌-◌, ◌≤◌}
use native.Mathlib.Omega.{arith}
use lib.ListN.{length, take, drop, drop_of_length-le}
use Rattle.model.specs.Number.{Bytes}
use Rattle.model.specs.Order.{compare_bytes, ordering}
use Rattle.model.specs.Record.{Rec}
use Rattle.model.specs.Map.{count, ascending}
use Rattle.model.specs.Contents.{record_key, of_topic}
use Rattle.std.specs.declared.cmp.Ordering.{Ordering as Order}
use Rattle.std.specs.declared.cmp.Ordering.TheVariants.{Less, Equal, Greater}
use Rattle.laws.specs.Order.{lt≢gt, eq≢gt}
use Rattle.laws.specs.Map.{Asc, ascending_asc, asc_ascending}
use Rattle.keys.specs.Keys.{key_in}
use Rattle.entries.specs.Entries.{records_in, Entries}
use Rattle.entries.specs.declared.Cursor.{Cursor}
use Rattle.entries.proofs.Records.{record-key}
use Rattle.entries.proofs.Seeks.{no_records}
use Rattle.entries.proofs.Turns.{Stands, lent}
use Rattle.image_counts.specs.Counts.{beside_topic, Counted}
use Rattle.image_counts.proofs.Sides.{count_before_lem, count_among, count-after, count-later}

-- 1. An entry and those after it

module _ {s : Bytes} {at start end : ℕ} {next : Cursor} (t : Stands s at start end next) where
  pub bounds : (start ≡ at) × (start ≤ end) × (end ≤ length s)
  bounds = (t.first, omega (arith, t.first, t.last), omega (arith, t.last, t.entry.fits))

  pub next-end : next.at ≡ end
  next-end = ap (λ c. c.at) t.after

  pub lent_key : key_in (take (end - start) (drop start s)) ≡ record_key t.entry.entry
  lent_key = ap key_in (lent s at start end next t) ∙ record-key t.entry.entry t.entry.passes

  pub list : records_in (drop at s) ≡ t.entry.entry ∷ records_in (drop end s)
  list = t.entry.list ∙ ap (λ x. t.entry.entry ∷ records_in (drop x s)) (sym t.last)

  pub rest : Entries (drop end s)
  rest = rw t.last t.entry.rest

-- 2. The walk

-- the walk is at `at`, and `n` partitions stand before it
pub record Passed (s name : Bytes) (at n : ℕ) : Type 0 where
  pub low : n ≤ at
  pub most : at ≤ length s
  pub entries : Entries (drop at s)
  pub ascends : Asc record_key (records_in (drop at s))
  pub number : n + count record_key (of_topic name) (records_in (drop at s)) ≡ count record_key (of_topic name) (records_in s)
  pub later : (other : Bytes) → compare_bytes name other ≡ Ordering.lt
      → count record_key (of_topic other) (records_in (drop at s)) ≡ count record_key (of_topic other) (records_in s)

pub passed_start : (s name : Bytes) → Entries s → ascending record_key (records_in s) ≡ true → Passed s name 0 0
passed_start s name e up = record {
  low = omega arith;
  most = omega arith;
  entries = e;
  ascends = ascending_asc record_key (records_in s) up;
  number = omega arith;
  later = λ other h. refl;
}

-- where the rest has none, all are counted
counted : {s name : Bytes} {at n : ℕ} → Passed s name at n → count record_key (of_topic name) (records_in (drop at s)) ≡ 0 → Counted s name n at
counted {s} {name} {at} {n} h none = record {
  number = let m = h.number in omega arith;
  later = h.later;
  most = h.most;
  entries = h.entries;
  ascends = asc_ascending record_key (records_in (drop at s)) h.ascends;
}

pub counted_as : {s name other : Bytes} {at n : ℕ} → name ≡ other → Counted s name n at → Counted s other n at
counted_as {s} {name} {other} {at} {n} e c = subst (λ x. Counted s x n at) e c

count-nil : (name : Bytes) (l : List Rec) → l ≡ [] → count record_key (of_topic name) l ≡ 0
unfolding count
count-nil name l e = rw e

pub passed-end : {s name : Bytes} {at n : ℕ} → Passed s name at n → length s ≤ at → Counted s name n (length s)
passed-end {s} {name} {at} {n} h past =
    let e : at ≡ length s = let m = h.most in omega arith in
    subst (λ x. Counted s name n x) e (counted h (count-nil name (records_in (drop at s)) (no_records (drop at s) (drop_of_length-le s past))))

-- 3. A turn: the step from the walk's place found an entry

module _ {s name : Bytes} {at n start end : ℕ} {next : Cursor} (h : Passed s name at n) (t : Stands s at start end next) where
  asc : Asc record_key (t.entry.entry ∷ records_in (drop end s))
  asc = subst (λ l. Asc record_key l) (list t) h.ascends

  -- one entry further
  moved : (m : ℕ) → m ≤ n + 1
      → m + count record_key (of_topic name) (records_in (drop end s)) ≡ n + count record_key (of_topic name) (t.entry.entry ∷ records_in (drop end s))
      → (beside_topic name (record_key t.entry.entry) ≡ Ordering.gt → ⊥) → Passed s name next.at m
  moved m few same below =
      let p : Passed s name end m = record {
        low = omega (arith, h.low, t.last);
        most = (bounds t).2;
        entries = rest t;
        ascends = asc.1;
        number = same ∙ ap (λ l. n + count record_key (of_topic name) l) (sym (list t)) ∙ h.number;
        later = λ other up.
            sym (count-later name t.entry.entry (records_in (drop end s)) other up below)
            ∙ ap (count record_key (of_topic other)) (sym (list t))
            ∙ h.later other up;
      } in
      subst (λ x. Passed s name x m) (sym (next-end t)) p

  module _ (o : Order) (e : ordering o ≡ beside_topic name (key_in (take (end - start) (drop start s)))) where
    stands_so : {x : Order} → o ≡ x → beside_topic name (record_key t.entry.entry) ≡ ordering x
    stands_so is = ap (beside_topic name) (sym (lent_key t)) ∙ sym e ∙ ap ordering is

    pub passed_less : o ≡ Less → Passed s name next.at n
    passed_less is =
        let b = stands_so is in
        let c = count_before_lem name t.entry.entry (records_in (drop end s)) b in
        moved n (omega arith) (omega arith) (λ g. lt≢gt (sym b ∙ g))

    pub passed_equal : o ≡ Equal → Passed s name next.at (n + 1)
    passed_equal is =
        let b = stands_so is in
        let c = count_among name t.entry.entry (records_in (drop end s)) b in
        moved (n + 1) (omega arith) (omega arith) (λ g. eq≢gt (sym b ∙ g))

    pub passed_greater : o ≡ Greater → Counted s name n start
    passed_greater is =
        let none = ap (count record_key (of_topic name)) (list t) ∙ count-after name t.entry.entry (records_in (drop end s)) (stands_so is) asc.0 in
        subst (λ x. Counted s name n x) (sym t.first) (counted h none)

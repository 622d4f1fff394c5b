-- Seeking a key among entries: what has been passed and what is found in the rest is what is found in all.
use mathlib.Core.Path.{◌≡◌, refl, sym, ap, ap₂, ◌∙◌, subst}
use mathlib.Core.List.{List, [], ◌∷◌, ◌++◌, append_assoc, append-nil}
use Prim.Native.Nat.{Ordering}
use Prim.Native.Nat.{ℕ, ◌+◌, ◌-◌, ◌≤◌, ◌<◌}
use native.Mathlib.Omega.{arith}
use lib.ListN.{length, take, drop, length-append, length-drop}
use lib.Seq.{slice, drop-length, drop-drop, take-append_seam, drop-append_seam, take-add, slice_empty}
use Rattle.model.specs.Choice.{joined}
use Rattle.model.specs.Number.{Bytes, AreBytes, number}
use Rattle.model.specs.Order.{Key, compare_keys}
use Rattle.model.specs.Run.{bytes_of}
use Rattle.model.specs.Shape.{stored, fault}
use Rattle.model.specs.Record.{Rec, record_bytes}
use Rattle.model.specs.Items.{items_from, records}
use Rattle.model.specs.Map.{get}
use Rattle.model.specs.Contents.{record_key}
use Rattle.laws.specs.Numbers.{drop_are_bytes}
use Rattle.laws.specs.Order.{keys_total}
use Rattle.laws.specs.Split.{below, here, above}
use Rattle.laws_records.specs.Lengths.{longest_body}
use Rattle.laws_records.specs.Faults.{fault-length}
use Rattle.laws_records.specs.Items.{AllPass, Spells, records-items, spells-items}
use Rattle.fields.proofs.Parse.{take-drop}
use Rattle.entries.specs.Entries.{records_in, spelt, Entries, size_at, Placed}

-- 1. The entry at a place

pub record At (s : Bytes) (at : ℕ) : Type 0 where
  pub entry : Rec
  pub passes : fault stored entry.kind entry.run ≡ 0
  pub size : size_at s at ≡ length (record_bytes entry)
  pub fits : at + size_at s at ≤ length s
  pub bytes_are : slice at (at + size_at s at) s ≡ record_bytes entry
  pub list : records_in (drop at s) ≡ entry ∷ records_in (drop (at + size_at s at) s)
  pub rest : Entries (drop (at + size_at s at) s)

-- the two bytes of a record's length
length_in : (r : Rec) (t : Bytes) → fault stored r.kind r.run ≡ 0 → 3 + number (take 2 (drop 1 (record_bytes r ++ t))) ≡ length (record_bytes r)
unfolding record_bytes
length_in r t ok = let short : length (bytes_of r.run) ≤ longest_body = fault-length stored r.kind r.run ok in omega arith

module _ (s : Bytes) (at : ℕ) (inside : at < length s) where
  located : (r : Rec) (l : List Rec) → fault stored r.kind r.run ≡ 0 → AllPass stored l → record_bytes r ++ spelt l ≡ drop at s
      → records_in (drop at s) ≡ r ∷ l → At s at
  located r l ok pass e list =
      let n = length (record_bytes r) in
      let whole : length (drop at s) ≡ n + length (spelt l) = sym (ap length e) ∙ length-append (record_bytes r) (spelt l) in
      let left : length (drop at s) ≡ length s - at = length-drop at s in
      let head : slice (at + 1) (at + 1 + 2) s ≡ take 2 (drop 1 (record_bytes r ++ spelt l)) =
      sym (take-drop (at + 1) 2 s) ∙ ap (take 2) (sym (drop-drop 1 at s) ∙ ap (drop 1) (sym e)) in
      let size : size_at s at ≡ n = ap (λ x. 3 + number x) head ∙ length_in r (spelt l) ok in
      let tail : drop (at + size_at s at) s ≡ spelt l = ap (λ x. drop (at + x) s) size ∙ sym (drop-drop n at s) ∙ ap (drop n) (sym e) ∙ drop-append_seam (record_bytes r) (spelt l) in
      let again = records-items stored l pass in
      record {
        entry = r;
        passes = ok;
        size = size;
        fits = omega arith;
        bytes_are = sym (take-drop at (size_at s at) s) ∙ ap₂ take size (sym e) ∙ take-append_seam (record_bytes r) (spelt l);
        list = list ∙ ap (λ t. r ∷ t) (sym again.0 ∙ ap records_in (sym tail));
        rest = rw tail again.1;
      }

  pub entry_at : AreBytes s → Entries (drop at s) → At s at
  entry_at are_bytes whole = go (records_in (drop at s)) refl
    where
      sp : Spells stored (records_in (drop at s)) (drop at s)
      sp = spells-items stored (drop at s) (drop_are_bytes at s are_bytes) whole

      go : (l : List Rec) → records_in (drop at s) ≡ l → At s at
      go [] e =
          let z : length (drop at s) ≡ 0 = sym (ap length (sym (ap (joined record_bytes) e) ∙ sp.spelt)) in
          absurd (omega (arith, length-drop at s))
      go (r ∷ l) e =
          let p : AllPass stored (r ∷ l) = subst (λ rs. AllPass stored rs) e sp.pass in
          located r l p.0 p.1 (sym (ap (joined record_bytes) e) ∙ sp.spelt) e

-- 2. The walk

pub record Here (s : Bytes) (k : Key) (at : ℕ) : Type 0 where
  pub most : at ≤ length s
  pub entries : Entries (drop at s)
  pub passed : spelt (below record_key k (records_in s)) ≡ take at s ++ spelt (below record_key k (records_in (drop at s)))
  pub same_here : here record_key k (records_in s) ≡ here record_key k (records_in (drop at s))
  pub same_above : above record_key k (records_in s) ≡ above record_key k (records_in (drop at s))

pub here-start : (s : Bytes) (k : Key) → Entries s → Here s k 0
here-start s k e = record { most = omega arith; entries = e; passed = refl; same_here = refl; same_above = refl }

-- how a key splits a list at its first element
module _ (k : Key) (r : Rec) (l : List Rec) where
  below_less : compare_keys (record_key r) k ≡ Ordering.lt → below record_key k (r ∷ l) ≡ r ∷ below record_key k l
  unfolding below
  below_less h = rw (keys_total.flip (record_key r) k, h)

  here_less : compare_keys (record_key r) k ≡ Ordering.lt → here record_key k (r ∷ l) ≡ here record_key k l
  unfolding get
  here_less h = rw (keys_total.flip (record_key r) k, h)

  above_less : compare_keys (record_key r) k ≡ Ordering.lt → above record_key k (r ∷ l) ≡ above record_key k l
  unfolding above
  above_less h = rw (keys_total.flip (record_key r) k, h)

  split_equal : compare_keys (record_key r) k ≡ Ordering.eq
      → (below record_key k (r ∷ l) ≡ []) × (here record_key k (r ∷ l) ≡ r ∷ []) × (above record_key k (r ∷ l) ≡ l)
  unfolding below above get
  split_equal h = rw (keys_total.flip (record_key r) k, h) (refl, refl, refl)

  split_greater : compare_keys (record_key r) k ≡ Ordering.gt
      → (below record_key k (r ∷ l) ≡ []) × (here record_key k (r ∷ l) ≡ []) × (above record_key k (r ∷ l) ≡ r ∷ l)
  unfolding below above get
  split_greater h = rw (keys_total.flip (record_key r) k, h) (refl, refl, refl)

-- entries spell their bytes
pub entries-spelt : (t : Bytes) → AreBytes t → Entries t → spelt (records_in t) ≡ t
entries-spelt t are_bytes e = (spells-items stored t are_bytes e).spelt

split_none : (k : Key) (l : List Rec) → l ≡ [] → (below record_key k l ≡ []) × (here record_key k l ≡ []) × (above record_key k l ≡ [])
unfolding below above get
split_none k l e = rw e (refl, refl, refl)

pub no_records : (t : Bytes) → t ≡ [] → records_in t ≡ []
unfolding items_from records
no_records t e = rw e

module _ (s : Bytes) (are_bytes : AreBytes s) (k : Key) (at : ℕ) (h : Here s k at) where
  -- where no key below is left, what was passed stands before the place
  stands-before : below record_key k (records_in (drop at s)) ≡ [] → take at s ≡ spelt (below record_key k (records_in s))
  stands-before e = sym (h.passed ∙ ap (λ l. take at s ++ spelt l) e ∙ append-nil (take at s))

  pub found-end : length s ≤ at → Placed s k (length s) (length s)
  found-end past =
      let e : at ≡ length s = let m = h.most in omega arith in
      let p = split_none k (records_in (drop at s)) (no_records (drop at s) (ap (λ n. drop n s) e ∙ drop-length s)) in
      record {
        before = ap (λ n. take n s) (sym e) ∙ stands-before p.0;
        found = slice_empty (length s) s ∙ sym (ap spelt (h.same_here ∙ p.1));
        after = drop-length s ∙ sym (ap spelt (h.same_above ∙ p.2));
        order = omega arith;
        most = omega arith;
      }

  module _ (a : At s at) where
    -- the entry's bytes, and the rest's
    entry_bytes_lem : take (size_at s at) (drop at s) ≡ record_bytes a.entry
    entry_bytes_lem = take-drop at (size_at s at) s ∙ a.bytes_are

    rest-spelt : spelt (records_in (drop (at + size_at s at) s)) ≡ drop (at + size_at s at) s
    rest-spelt = entries-spelt (drop (at + size_at s at) s) (drop_are_bytes (at + size_at s at) s are_bytes) a.rest

    pub pass_less : compare_keys (record_key a.entry) k ≡ Ordering.lt → Here s k (at + size_at s at)
    pass_less less =
        let l = records_in (drop (at + size_at s at) s) in
        record {
          most = a.fits;
          entries = a.rest;
          passed =
              h.passed
              ∙ ap (λ x. take at s ++ spelt x) (ap (below record_key k) a.list ∙ below_less k a.entry l less)
              ∙ sym (append_assoc (take at s) (record_bytes a.entry) (spelt (below record_key k l)))
              ∙ ap (λ x. x ++ spelt (below record_key k l)) (sym (take-add at (size_at s at) s ∙ ap (λ x. take at s ++ x) entry_bytes_lem));
          same_here = h.same_here ∙ ap (here record_key k) a.list ∙ here_less k a.entry l less;
          same_above = h.same_above ∙ ap (above record_key k) a.list ∙ above_less k a.entry l less;
        }

    pub found_equal : compare_keys (record_key a.entry) k ≡ Ordering.eq → Placed s k at (at + size_at s at)
    found_equal equal =
        let p = split_equal k a.entry (records_in (drop (at + size_at s at) s)) equal in
        record {
          before = stands-before (ap (below record_key k) a.list ∙ p.0);
          found = a.bytes_are ∙ sym (ap spelt (h.same_here ∙ ap (here record_key k) a.list ∙ p.1) ∙ append-nil (record_bytes a.entry));
          after = sym (ap spelt (h.same_above ∙ ap (above record_key k) a.list ∙ p.2) ∙ rest-spelt);
          order = omega arith;
          most = a.fits;
        }

    pub found_greater : compare_keys (record_key a.entry) k ≡ Ordering.gt → Placed s k at at
    found_greater greater =
        let p = split_greater k a.entry (records_in (drop (at + size_at s at) s)) greater in
        record {
          before = stands-before (ap (below record_key k) a.list ∙ p.0);
          found = slice_empty at s ∙ sym (ap spelt (h.same_here ∙ ap (here record_key k) a.list ∙ p.1));
          after =
              sym (ap spelt (h.same_above ∙ ap (above record_key k) a.list ∙ p.2 ∙ sym a.list)
              ∙ entries-spelt (drop at s) (drop_are_bytes at s are_bytes) h.entries);
          order = omega arith;
          most = h.most;
        }

-- The parts of a buffer whose entries have changed, for the callers of `put`, `remove` and `remove_topic`.
use mathlib.Core.Path.{◌≡◌, sym, ap, ap₂, ◌∙◌, subst}
use mathlib.Core.Bool.{Bool}
use mathlib.Core.List.{List, ◌++◌}
use Prim.Native.Nat.{ℕ, ◌+◌, ◌-◌}
use native.Mathlib.Omega.{arith}
use lib.ListN.{length, take, drop, length-append, length-take, length-drop}
use lib.Seq.{slice, length-take-le, take-take, take_at, drop_at}
use Rattle.model.specs.Number.{Bytes, AreBytes}
use Rattle.model.specs.Order.{Key}
use Rattle.model.specs.Shape.{stored, fault}
use Rattle.model.specs.Record.{Rec}
use Rattle.model.specs.Map.{put, remove, keep}
use Rattle.model.specs.Contents.{record_key}
use Rattle.laws.specs.Map.{all-put, all_remove, all_keep}
use Rattle.laws_records.specs.Items.{AllPass, records-items, spells-items}
use Rattle.entries.specs.Entries.{records_in, spelt, Entries, IsRecord, record_in, Changed}
use Rattle.entries.proofs.Changes.{record-in}

-- 1. Entries pass, and so do those after a change. Records that pass are entries: `records-items` of `laws_records`

pub entries_pass : (s : Bytes) → AreBytes s → Entries s → AllPass stored (records_in s)
entries_pass s are_bytes e = (spells-items stored s are_bytes e).pass

pub put_pass : (s new : Bytes) → AreBytes s → Entries s → IsRecord new → AllPass stored (put record_key (record_in new) (records_in s))
put_pass s new are_bytes e i =
    all-put record_key (λ r. fault stored r.kind r.run ≡ 0) (record_in new) (records_in s) (entries_pass s are_bytes e)
    (rw (record-in new i) i.passes)

pub remove_pass : (s : Bytes) (k : Key) → AreBytes s → Entries s → AllPass stored (remove record_key k (records_in s))
remove_pass s k are_bytes e = all_remove record_key (λ r. fault stored r.kind r.run ≡ 0) k (records_in s) (entries_pass s are_bytes e)

pub keep_pass : (s : Bytes) (test : Key → Bool) → AreBytes s → Entries s → AllPass stored (keep record_key test (records_in s))
keep_pass s test are_bytes e = all_keep record_key (λ r. fault stored r.kind r.run ≡ 0) test (records_in s) (entries_pass s are_bytes e)

-- 2. The bytes before the entries, the entries, and the bytes after them

module _ (w v : Bytes) (from to used r : ℕ) (l : List Rec) (c : Changed w v from to used r l) where
  -- no byte before the entries is missing
  whole_before : length (take from w) ≡ from
  whole_before =
      let all : r ≡ length (take from w) + length (spelt l) + length (slice to used w) =
      sym (length-take-le r v c.fits) ∙ ap length c.holds ∙ simp length-append in
      let before = length-take from w in
      let after : length (slice to used w) ≡ length (take used w) - to = length-drop to (take used w) in
      let most = length-take used w in
      let size = c.size in
      omega arith

  begins : take (from + length (spelt l)) v ≡ take from w ++ spelt l
  begins =
      sym (take-take (from + length (spelt l)) r v (omega (arith, c.size)))
      ∙ ap (take (from + length (spelt l))) c.holds
      ∙ take_at (take from w ++ spelt l) (slice to used w) (from + length (spelt l)) (simp (length-append, whole_before))

  pub before-kept : take from v ≡ take from w
  before-kept =
      sym (take-take from (from + length (spelt l)) v (omega arith)) ∙ ap (take from) begins ∙ take_at (take from w) (spelt l) from whole_before

  -- where the entries end, by how many bytes come after them
  pub part_end : (upto : ℕ) → upto + (used - to) ≡ r → upto ≡ from + length (spelt l)
  part_end upto e = omega (arith, c.size)

  module _ (upto : ℕ) (ends : upto ≡ from + length (spelt l)) where
    pub part-spelt : slice from upto v ≡ spelt l
    part-spelt = ap (λ n. slice from n v) ends ∙ ap (drop from) begins ∙ drop_at (take from w) (spelt l) from whole_before

    pub after_kept : slice upto r v ≡ slice to used w
    after_kept =
        ap (drop upto) c.holds
        ∙ drop_at (take from w ++ spelt l) (slice to used w) upto (simp (length-append, whole_before) (sym ends))

    pub part-entries : AllPass stored l → Entries (slice from upto v)
    part-entries pass = rw part-spelt (records-items stored l pass).1

    pub part-records : AllPass stored l → records_in (slice from upto v) ≡ l
    part-records pass = rw part-spelt (records-items stored l pass).0

    -- two changes are one
    pub changed_again : (x : Bytes) (n : ℕ) (m : List Rec) → Changed v x from upto r n m → Changed w x from to used n m
    changed_again x n m d = record {
      holds = d.holds ∙ ap₂ (λ a b. a ++ spelt m ++ b) before-kept after_kept;
      size = omega (arith, c.size, d.size);
      fits = d.fits;
    }

    pub changed_by : (x : Bytes) (n : ℕ) (f : List Rec → List Rec) → AllPass stored l → Changed v x from upto r n (f (records_in (slice from upto v)))
        → Changed w x from to used n (f l)
    changed_by x n f pass d = subst (λ m. Changed w x from to used n (f m)) (part-records pass) (changed_again x n (f (records_in (slice from upto v))) d)

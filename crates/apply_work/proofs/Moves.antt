-- A work array after a change of one of its two parts: the part has its new list, and the other is as it was.
use mathlib.Core.Path.{◌≡◌, ap}
use mathlib.Core.Bool.{Bool}
use mathlib.Core.List.{List}
use Prim.Native.Nat.{ℕ, ◌+◌, ◌-◌, ◌≤◌}
use native.Mathlib.Omega.{arith}
use lib.ListN.{length, take}
use lib.Seq.{slice}
use Rattle.model.specs.Number.{Bytes, AreBytes}
use Rattle.model.specs.Order.{Key}
use Rattle.model.specs.Record.{Rec}
use Rattle.model.specs.Shape.{stored}
use Rattle.model.specs.Map.{put, remove, keep}
use Rattle.model.specs.Contents.{kept, record_key}
use Rattle.model.specs.Image.{entry_of}
use Rattle.laws.specs.Numbers.{slice_are_bytes}
use Rattle.laws.specs.Map.{all-put, all_remove, all_keep}
use Rattle.laws_records.specs.Items.{AllPass}
use Rattle.entries.specs.Entries.{records_in, spelt, Entries, IsRecord, record_in, Changed}
use Rattle.entries.proofs.Parts.{put_pass, remove_pass, keep_pass, before-kept, after_kept, part-entries, part-records}
use Rattle.find.specs.Found.{AllKept}
use Rattle.apply_work.specs.Work.{reals_in, groups_in, Good}
use Rattle.apply_work.specs.declared.Bounds.{Bounds}

-- 1. The part of a buffer whose entries changed, and what stands before and after it

module _ {w v : Bytes} {from to used n : ℕ} {l : List Rec} (c : Changed w v from to used n l) (pass : AllPass stored l) where
  -- it ends at `upto` now
  record Part (upto : ℕ) : Type 0 where
    order : from ≤ upto
    within : upto ≤ n
    fits : n ≤ length v
    entries : Entries (slice from upto v)
    list : records_in (slice from upto v) ≡ l
    before : take from v ≡ take from w
    after : slice upto n v ≡ slice to used w

  part : (upto : ℕ) → upto ≡ n - (used - to) → Part upto
  part upto e =
      let ends : upto ≡ from + length (spelt l) = omega (arith, c.size) in
      record {
        order = omega arith;
        within = omega arith;
        fits = c.fits;
        entries = part-entries w v from to used n l c upto ends pass;
        list = part-records w v from to used n l c upto ends pass;
        before = before-kept w v from to used n l c;
        after = after_kept w v from to used n l c upto ends;
      }

abbrev at_bounds : ℕ → ℕ → Bounds
at_bounds mid used = record { mid = mid; used = used }

-- 2. The real entries changed, or the empty groups

module _ {w v : Bytes} {bounds : Bounds} {n : ℕ} {l : List Rec} (good : Good w bounds) (pass : AllPass stored l) where
  reals_changed : {upto : ℕ} → upto ≡ n - (bounds.used - bounds.mid) → AllKept l → Changed w v 0 bounds.mid bounds.used n l
      → Good v (at_bounds upto n) × (reals_in v (at_bounds upto n) ≡ l) × (groups_in v (at_bounds upto n) ≡ groups_in w bounds)
  reals_changed {upto} e keeps c =
      let p = part c pass upto e in (
        record {
          order = p.within;
          fits = p.fits;
          reals = p.entries;
          groups = rw p.after good.groups;
          keeps = rw p.list keeps;
        },
        p.list,
        ap records_in p.after,
      )

  groups_changed : Changed w v bounds.mid bounds.used bounds.used n l
      → Good v (at_bounds bounds.mid n) × (reals_in v (at_bounds bounds.mid n) ≡ reals_in w bounds) × (groups_in v (at_bounds bounds.mid n) ≡ l)
  groups_changed c =
      let p = part c pass n (omega arith) in (
        record {
          order = p.order;
          fits = p.fits;
          reals = rw p.before good.reals;
          groups = p.entries;
          keeps = rw p.before good.keeps;
        },
        ap records_in p.before,
        p.list,
      )

-- 3. The five moves

module _ {w v : Bytes} {bounds : Bounds} {n : ℕ} (are_bytes : AreBytes w) (good : Good w bounds) where
  pub put_reals : {new : Bytes} {upto : ℕ} → IsRecord new → kept (entry_of (record_in new)) ≡ record_in new → upto ≡ n - (bounds.used - bounds.mid)
      → Changed w v 0 bounds.mid bounds.used n (put record_key (record_in new) (reals_in w bounds)) × (n ≤ bounds.used + length new)
      → Good v (at_bounds upto n) × (reals_in v (at_bounds upto n) ≡ put record_key (record_in new) (reals_in w bounds)) ×
      (groups_in v (at_bounds upto n) ≡ groups_in w bounds) × (n ≤ bounds.used + length new)
  put_reals {new} i stands e c =
      let q =
      reals_changed good (put_pass (slice 0 bounds.mid w) new (slice_are_bytes 0 bounds.mid w are_bytes) good.reals i) e
      (all-put record_key (λ r. kept (entry_of r) ≡ r) (record_in new) (reals_in w bounds) good.keeps stands) c.0 in
      (q.0, q.1, q.2, c.1)

  pub drop_reals : (k : Key) {upto : ℕ} → upto ≡ n - (bounds.used - bounds.mid)
      → Changed w v 0 bounds.mid bounds.used n (remove record_key k (reals_in w bounds)) × (n ≤ bounds.used)
      → Good v (at_bounds upto n) × (reals_in v (at_bounds upto n) ≡ remove record_key k (reals_in w bounds)) × (groups_in v (at_bounds upto n) ≡ groups_in w bounds) ×
      (n ≤ bounds.used)
  drop_reals k e c =
      let q =
      reals_changed good (remove_pass (slice 0 bounds.mid w) k (slice_are_bytes 0 bounds.mid w are_bytes) good.reals) e
      (all_remove record_key (λ r. kept (entry_of r) ≡ r) k (reals_in w bounds) good.keeps) c.0 in
      (q.0, q.1, q.2, c.1)

  pub keep_reals : (test : Key → Bool) {upto : ℕ} → upto ≡ n - (bounds.used - bounds.mid)
      → Changed w v 0 bounds.mid bounds.used n (keep record_key test (reals_in w bounds)) × (n ≤ bounds.used)
      → Good v (at_bounds upto n) × (reals_in v (at_bounds upto n) ≡ keep record_key test (reals_in w bounds)) × (groups_in v (at_bounds upto n) ≡ groups_in w bounds) ×
      (n ≤ bounds.used)
  keep_reals test e c =
      let q =
      reals_changed good (keep_pass (slice 0 bounds.mid w) test (slice_are_bytes 0 bounds.mid w are_bytes) good.reals) e
      (all_keep record_key (λ r. kept (entry_of r) ≡ r) test (reals_in w bounds) good.keeps) c.0 in
      (q.0, q.1, q.2, c.1)

  pub put_groups : {new : Bytes} → IsRecord new
      → Changed w v bounds.mid bounds.used bounds.used n (put record_key (record_in new) (groups_in w bounds)) × (n ≤ bounds.used + length new)
      → Good v (at_bounds bounds.mid n) × (reals_in v (at_bounds bounds.mid n) ≡ reals_in w bounds) ×
      (groups_in v (at_bounds bounds.mid n) ≡ put record_key (record_in new) (groups_in w bounds)) × (n ≤ bounds.used + length new)
  put_groups {new} i c =
      let s = slice bounds.mid bounds.used w in
      let q = groups_changed good (put_pass s new (slice_are_bytes bounds.mid bounds.used w are_bytes) good.groups i) c.0 in
      (q.0, q.1, q.2, c.1)

  pub drop_groups : (k : Key) → Changed w v bounds.mid bounds.used bounds.used n (remove record_key k (groups_in w bounds)) × (n ≤ bounds.used)
      → Good v (at_bounds bounds.mid n) × (reals_in v (at_bounds bounds.mid n) ≡ reals_in w bounds) ×
      (groups_in v (at_bounds bounds.mid n) ≡ remove record_key k (groups_in w bounds)) × (n ≤ bounds.used)
  drop_groups k c =
      let s = slice bounds.mid bounds.used w in
      let q = groups_changed good (remove_pass s k (slice_are_bytes bounds.mid bounds.used w are_bytes) good.groups) c.0 in
      (q.0, q.1, q.2, c.1)

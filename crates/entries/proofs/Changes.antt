-- A record put among the entries of a part of a buffer, or taken out of them: where it is sought, and what a splice there leaves.
use mathlib.Core.Path.{◌≡◌, sym, ap, ap₂, ◌∙◌, subst}
use mathlib.Core.List.{List, [], ◌++◌, append_assoc, append-nil}
use Prim.Native.Nat.{ℕ, ◌+◌, ◌-◌, ◌≤◌}
use native.Mathlib.Omega.{arith}
use lib.ListN.{length, take, drop, length-append, length-drop, take-append-drop}
use lib.Seq.{slice, length-take-le, length-slice, take-take, take-add, drop-drop, drop-append-le}
use Rattle.model.specs.Number.{Bytes}
use Rattle.model.specs.Order.{Key}
use Rattle.model.specs.Run.{done}
use Rattle.model.specs.Shape.{stored}
use Rattle.model.specs.Record.{Rec, rec, record_bytes, read, on_got}
use Rattle.model.specs.Map.{put, remove}
use Rattle.model.specs.Contents.{record_key}
use Rattle.model.specs.declared.Kind.TheVariants.{Topic}
use Rattle.laws.specs.Split.{below, above, joined-put, joined-remove}
use Rattle.laws_records.specs.Records.{read_record}
use Rattle.fields.proofs.Parse.{take-drop, take-slice}
use Rattle.keys.specs.Keys.{key_in, Keyed}
use Rattle.keys.proofs.Found.{lent_slice}
use Rattle.entries.specs.Entries.{records_in, spelt, Entries, Placed, IsRecord, record_in, Changed}
use Rattle.entries.proofs.Records.{record-keyed, record-key}

-- 1. A record, by its bytes

pub record-in : (s : Bytes) (i : IsRecord s) → record_in s ≡ i.value
record-in s i =
    ap (λ g. on_got g (λ n. rec Topic done) (λ r n. r))
    (ap (read stored) (i.bytes ∙ sym (append-nil (record_bytes i.value))) ∙ read_record stored i.value [] i.passes)

pub key_in_lem : (s : Bytes) (i : IsRecord s) → key_in s ≡ record_key i.value
key_in_lem s i = ap key_in i.bytes ∙ record-key i.value i.passes

pub is_keyed : (s : Bytes) → IsRecord s → Keyed s
is_keyed s i = rw i.bytes (record-keyed i.value i.passes)

-- 2. The part that is lent to be sought in

pub lent-entries : (w : Bytes) (from to : ℕ) → from ≤ to → Entries (slice from to w) → Entries (take (to - from) (drop from w))
lent-entries w from to ordered e = rw (lent_slice w from to ordered) e

-- 3. What a splice at a place of the part leaves

module _ (w : Bytes) (from to used : ℕ) (ordered : from ≤ to) (within : to ≤ used) where
  -- the bytes up to a place of the part
  up_to : (n : ℕ) → from + n ≤ to → take (from + n) w ≡ take from w ++ take n (slice from to w)
  up_to n h = take-add from n w ∙ ap (λ x. take from w ++ x) (take-drop from n w ∙ sym (take-slice w from n to h))

  -- the used bytes from a place of the part on
  from_on : (n : ℕ) → from + n ≤ to → used ≤ length w → slice (from + n) used w ≡ drop n (slice from to w) ++ slice to used w
  from_on n h fits =
      let whole : take used w ≡ take to w ++ slice to used w =
      sym (take-append-drop to (take used w)) ∙ ap (λ x. x ++ slice to used w) (take-take to used w within) in
      let most : from + n ≤ length (take to w) = rw (length-take-le to w (omega arith)) h in
      ap (drop (from + n)) whole
      ∙ drop-append-le (from + n) (take to w) (slice to used w) most
      ∙ ap (λ x. x ++ slice to used w) (sym (drop-drop n from (take to w)))

  regroup : (t b n a z : Bytes) → t ++ b ++ n ++ (a ++ z) ≡ t ++ (b ++ n ++ a) ++ z
  regroup t b n a z = simp append_assoc

  module _ (v new : Bytes) (k : Key) (at end r : ℕ) (fits : used + length new ≤ length w) (same : length v ≡ length w)
      (place : Placed (take (to - from) (drop from w)) k at end)
      (said : (r ≡ from + at + length new + (used - (from + end))) × (take r v ≡ take (from + at) w ++ new ++ slice (from + end) used w)) where
    placed : Placed (slice from to w) k at end
    placed = subst (λ s. Placed s k at end) (lent_slice w from to ordered) place

    most : from + end ≤ to
    most = omega (arith, placed.most, length-slice from to w (omega arith))

    -- how many bytes stand before the place and after it
    size-before : length (spelt (below record_key k (records_in (slice from to w)))) ≡ at
    size-before = sym (ap length placed.before) ∙ length-take-le at (slice from to w) (omega (arith, placed.most, placed.order))

    size-after : length (spelt (above record_key k (records_in (slice from to w)))) ≡ to - from - end
    size-after = sym (ap length placed.after) ∙ length-drop end (slice from to w) ∙ ap (λ n. n - end) (length-slice from to w (omega arith))

    pub no_larger : r ≤ used + length new
    no_larger = omega (arith, said.0, placed.order, most)

    pub changed : (l : List Rec)
        → spelt l ≡ spelt (below record_key k (records_in (slice from to w))) ++ new ++ spelt (above record_key k (records_in (slice from to w)))
        → Changed w v from to used r l
    changed l e =
        let b = spelt (below record_key k (records_in (slice from to w))) in
        let a = spelt (above record_key k (records_in (slice from to w))) in
        let first : take (from + at) w ≡ take from w ++ b =
        up_to at (omega (arith, placed.order, most)) ∙ ap (λ x. take from w ++ x) placed.before in
        let last : slice (from + end) used w ≡ a ++ slice to used w =
        from_on end most (omega arith) ∙ ap (λ x. x ++ slice to used w) placed.after in
        let long : length (spelt l) ≡ at + length new + (to - from - end) =
        ap length e ∙ simp (length-append, size-before, size-after) in
        record {
          holds =
              said.1
              ∙ ap₂ (λ x y. x ++ new ++ y) first last
              ∙ regroup (take from w) b new a (slice to used w)
              ∙ ap (λ x. take from w ++ x ++ slice to used w) (sym e);
          size = omega (arith, said.0, placed.order, most, long);
          fits = omega (arith, no_larger, same, fits);
        }

-- 4. The record put, and an entry taken out

pub put_changed : (w v new : Bytes) (from to used at end r : ℕ) → from ≤ to → to ≤ used → used + length new ≤ length w → length v ≡ length w
    → IsRecord new → Placed (take (to - from) (drop from w)) (key_in new) at end
    → (r ≡ from + at + length new + (used - (from + end))) × (take r v ≡ take (from + at) w ++ new ++ slice (from + end) used w)
    → Changed w v from to used r (put record_key (record_in new) (records_in (slice from to w))) × (r ≤ used + length new)
put_changed w v new from to used at end r ordered within fits same i place said =
    let l = records_in (slice from to w) in
    let e : spelt (put record_key (record_in new) l) ≡ spelt (below record_key (key_in new) l) ++ new ++ spelt (above record_key (key_in new) l) =
    ap (λ x. spelt (put record_key x l)) (record-in new i)
    ∙ joined-put record_key record_bytes i.value l
    ∙ ap₂ (λ k b. spelt (below record_key k l) ++ b ++ spelt (above record_key k l)) (sym (key_in_lem new i)) (sym i.bytes) in (
      changed w from to used ordered within v new (key_in new) at end r fits same place said (put record_key (record_in new) l) e,
      no_larger w from to used ordered within v new (key_in new) at end r fits same place said,
    )

pub remove_changed : (w v none : Bytes) (k : Key) (from to used at end r : ℕ) → from ≤ to → to ≤ used → used ≤ length w → length v ≡ length w
    → none ≡ [] → Placed (take (to - from) (drop from w)) k at end
    → (r ≡ from + at + length none + (used - (from + end))) × (take r v ≡ take (from + at) w ++ none ++ slice (from + end) used w)
    → Changed w v from to used r (remove record_key k (records_in (slice from to w))) × (r ≤ used)
remove_changed w v none k from to used at end r ordered within fits same empty place said =
    let l = records_in (slice from to w) in
    let b = spelt (below record_key k l) in
    let e : spelt (remove record_key k l) ≡ b ++ none ++ spelt (above record_key k l) =
    joined-remove record_key record_bytes k l
    ∙ ap (λ x. x ++ spelt (above record_key k l)) (sym (append-nil b))
    ∙ ap (λ x. b ++ x ++ spelt (above record_key k l)) (sym empty) in
    let z : length none ≡ 0 = ap length empty in
    let room : used + length none ≤ length w = omega arith in
    let most = no_larger w from to used ordered within v none k at end r room same place said in
    (changed w from to used ordered within v none k at end r room same place said (remove record_key k l) e, omega arith)

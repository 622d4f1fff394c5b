-- The record at a position: those before it are passed by their headers.
use mathlib.Core.Path.{◌≡◌, refl, sym, ap, ◌∙◌}
use mathlib.Core.List.{List, [], ◌∷◌}
use mathlib.Core.Option.{some}
use Prim.Native.Nat.{ℕ, zero, suc, ◌+◌, ◌-◌, ◌≤◌, ◌<◌}
use native.Mathlib.Omega.{arith}
use lib.ListN.{length, take, drop, get_elem?, length-drop}
use lib.Seq.{slice, drop-drop}
use Rattle.model.specs.Choice.{given}
use Rattle.model.specs.Number.{Bytes, AreBytes, number}
use Rattle.model.specs.Shape.{framed}
use Rattle.model.specs.Record.{Rec, record_bytes, Got, bad, got, read, on_got}
use Rattle.model.specs.Items as Items
use Rattle.model.specs.Items.{item, items_from, items_of, records}
use Rattle.model.specs.ShortHistory.{bytes_at}
use Rattle.laws.specs.Numbers.{drop_are_bytes}
use Rattle.laws_records.specs.Records.{reads, head_of}
use Rattle.laws_records.specs.Items.{items_got}
use Rattle.fields.proofs.Parse.{take-drop}
use Rattle.short_histories.specs.Histories.{items_at, records_in, PartAs}

-- 1. A record that is read has its length in its header

used-size : (s : Bytes) (r : Rec) (n : ℕ) → read framed s ≡ got r n → n ≡ 3 + number (slice 1 3 s)
used-size [] r n e = let d = reads framed [] r n e in absurd (omega (arith, d.fits, d.head))
used-size (k ∷ []) r n e = let d = reads framed (k ∷ []) r n e in absurd (omega (arith, d.fits, d.head))
used-size (k ∷ h ∷ []) r n e = let d = reads framed (k ∷ h ∷ []) r n e in absurd (omega (arith, d.fits, d.head))
used-size (k ∷ h ∷ l ∷ s) r n e = let u = (head_of framed k h l s r n e).used in omega arith

abbrev ReadAt : Bytes → ℕ → Type 0
ReadAt s at = (r : Rec) × (n : ℕ) × (read framed (drop at s) ≡ got r n)

-- where there is a record from a place on, it is read there
read-there : (s : Bytes) (at : ℕ) → 0 < length (records (items_at s at)) → ReadAt s at
unfolding items_from records
read-there s at h = go (drop at s) h
  where
    go : (t : Bytes) → 0 < length (records (items_from framed 0 at t)) → (r : Rec) × (n : ℕ) × (read framed t ≡ got r n)
    go [] k = absurd (omega arith)
    go (b ∷ t) k = by (read framed (b ∷ t)) refl k
      where
        by : (g : Got) → read framed (b ∷ t) ≡ g
            → 0 < length (records (on_got g (λ m. Items.bad m at) (λ r used. item at r (items_from framed (used - 1) (at + 1) t))))
            → (r : Rec) × (n : ℕ) × (read framed (b ∷ t) ≡ got r n)
        by (bad m) e p = absurd (omega arith)
        by (got r n) e p = (r, n, e)

-- 2. The walk

pub record Stands (s : Bytes) (position at left : ℕ) : Type 0 where
  pub inside : left < length (records (items_at s at))
  pub same : get_elem? (records (items_at s at)) left ≡ get_elem? (records_in s) position

pub stands-start : (s : Bytes) (position : ℕ) → position < length (records_in s) → Stands s position 0 position
stands-start s position h = record { inside = h; same = refl }

module _ (s : Bytes) (position : ℕ) {at left : ℕ} (h : Stands s position at left) where
  there : ReadAt s at
  there = read-there s at (omega (arith, h.inside))

  header-there : slice (at + 1) (at + 1 + 2) s ≡ slice 1 3 (drop at s)
  header-there =
      let to : at + 1 + 2 ≡ at + 3 = omega arith in
      ap (λ n. drop (at + 1) (take n s)) to ∙ sym (drop-drop 1 at (take (at + 3) s)) ∙ ap (drop 1) (sym (take-drop at 3 s))

  pub header_fits : at + 1 + 2 ≤ length s
  header_fits = let d = reads framed (drop at s) there.0 there.1 there.2 in omega (arith, d.fits, d.head, length-drop at s)

  module _ {m : ℕ} (e : m ≡ number (slice (at + 1) (at + 1 + 2) s)) where
    size-there : there.1 ≡ 3 + m
    size-there =
        let u = used-size (drop at s) there.0 there.1 there.2 in
        let same : m ≡ number (slice 1 3 (drop at s)) = e ∙ ap number header-there in
        omega (arith, u, same)

    pub record-fits : at + 3 + m ≤ length s
    record-fits = let d = reads framed (drop at s) there.0 there.1 there.2 in omega (arith, d.fits, d.head, length-drop at s, size-there)

    records-here : records (items_at s at) ≡ there.0 ∷ records (items_at s (at + 3 + m))
    unfolding records
    records-here =
        let next : at + there.1 ≡ at + 3 + m = omega (arith, size-there) in
        ap records (items_got framed at (drop at s) there.0 there.1 there.2)
        ∙ ap (λ t. there.0 ∷ records (items_from framed 0 (at + there.1) t)) (drop-drop there.1 at s)
        ∙ ap (λ k. there.0 ∷ records (items_at s k)) next

    pub passed : 0 < left → Stands s position (at + 3 + m) (left - 1)
    passed k =
        let next : left ≡ suc (left - 1) = omega arith in
        record {
          inside = omega (arith, h.inside, ap length records-here);
          same = sym (ap (λ l. get_elem? l (suc (left - 1))) records-here) ∙ sym (ap (get_elem? (records (items_at s at))) next) ∙ h.same;
        }

    pub stands-there : AreBytes s → m < 65536 → left ≤ 0 → PartAs s position at (at + 3 + m)
    stands-there are short k =
        let none : left ≡ 0 = omega arith in
        let size : at + 3 + m - at ≡ there.1 = omega (arith, size-there) in
        let here : get_elem? (records_in s) position ≡ some there.0 =
        sym h.same ∙ ap (get_elem? (records (items_at s at))) none ∙ ap (λ l. get_elem? l 0) records-here in
        record {
          spelt =
              ap (λ n. take n (drop at s)) size
              ∙ (reads framed (drop at s) there.0 there.1 there.2).spelt (drop_are_bytes at s are)
              ∙ sym (ap (λ o. given o [] record_bytes) here);
          ordered = omega arith;
          within = record-fits;
          short = omega arith;
        }

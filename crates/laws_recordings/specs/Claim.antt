-- The count where two recordings part is the least one at which they are not alike, or at which both are over; and there is one such count.
use Rattle.std.specs.Prelude.{◌≡◌, Bool, ◌&&◌, not, ltb, length}
use Rattle.std.proofs.Math.Path.{refl}
use Rattle.std.proofs.Common.{ap, ◌∙◌, subst, ltb-true, ltb-false, eq-eqb}
use Rattle.std.proofs.Math.Bool.{true, false}
use Prim.Native.Nat.{ℕ, zero, suc, ◌+◌, ◌<◌}
use native.Mathlib.Omega.{arith}
use Rattle.model.specs.Number.{Bytes}
use Rattle.model.specs.Shape.{logged}
use Rattle.model.specs.Record.{Rec}
use Rattle.model.specs.Items.{Items, end, bad, item, items_of}
use Rattle.model.specs.Contents.{Contents, fresh}
use Rattle.model.specs.Apply.{Applied, stays, becomes, apply_at}
use Rattle.model.specs.Snapshot.{body}
use Rattle.model.specs.Recordings.{Standing, goes_on, ended, refused_by, standing, same_standing, same_snapshots, Parting, closing, parting_from, parting_of, compared_as, compare_of}
use Rattle.model.specs.Recordings.{after, course_of, stands, alike, is_over, Least, parting_at, PartingIsLeast, OffsetApart, LeastIsOne}
use Rattle.laws_recordings.specs.Turns.{on_over, parting_on, parting_over, parting_apart, parting_unlike}
use Rattle.laws.specs.Choice.{true_false, and_right}

-- 1. From any count on: two runs under way, whose next records have the offset k

-- what stands `count` records further on, where the offset is j
record Further (capacity k : ℕ) (ia : Items) (a : Contents) (ib : Items) (b : Contents) (count j : ℕ) (parts : Bool) : Type 0 where
  before : (i m : ℕ) → m ≡ k + i → i < count → alike capacity m (after i capacity k ia a) (after i capacity k ib b) ≡ true
  onward : (i m : ℕ) → m ≡ k + i → i < count
      → (stands capacity m (after i capacity k ia a) ≡ goes_on) × (stands capacity m (after i capacity k ib b) ≡ goes_on)
  there : alike capacity j (after count capacity k ia a) (after count capacity k ib b) ≡ not parts
  over : parts ≡ false
      → (is_over (stands capacity j (after count capacity k ia a)) ≡ true) × (is_over (stands capacity j (after count capacity k ib b)) ≡ true)

-- a parting is the one some records further on
record Found (capacity k : ℕ) (ia : Items) (a : Contents) (ib : Items) (b : Contents) (o : Parting) : Type 0 where
  count : ℕ
  place : ℕ
  parts : Bool
  sums : place ≡ k + count
  further : Further capacity k ia a ib b count place parts
  is : o ≡ closing (not parts) place (after count capacity k ia a).made (after count capacity k ib b).made

over-alike : (s t : Standing) → same_standing s t ≡ true → is_over s ≡ true → is_over t ≡ true
unfolding same_standing
over-alike goes_on t h o = absurd (true_false o refl)
over-alike ended goes_on h o = absurd (true_false h refl)
over-alike ended ended h o = refl
over-alike ended (refused_by m) h o = refl
over-alike (refused_by n) goes_on h o = absurd (true_false h refl)
over-alike (refused_by n) ended h o = refl
over-alike (refused_by n) (refused_by m) h o = refl

and-false : (t s : Bool) → s ≡ false → t && s ≡ false
and-false false s e = refl
and-false true s e = e

module _ (capacity k : ℕ) where
  -- no record further: the runs are not alike, or they are over
  module _ (ia : Items) (a : Contents) (ib : Items) (b : Contents) where
    at_once : (t : Bool) → same_snapshots a b && same_standing (standing capacity k ia a) (standing capacity k ib b) ≡ t
        → (t ≡ true → (is_over (standing capacity k ia a) ≡ true) × (is_over (standing capacity k ib b) ≡ true))
        → {o : Parting} → o ≡ closing t k a b → Found capacity k ia a ib b o
    unfolding after
    at_once true e s q = record {
      count = 0;
      place = k;
      parts = false;
      sums = omega arith;
      further = record { before = λ i m g h. absurd (omega arith); onward = λ i m g h. absurd (omega arith); there = e; over = λ h. s refl };
      is = q;
    }
    at_once false e s q = record {
      count = 0;
      place = k;
      parts = true;
      sums = omega arith;
      further = record {
        before = λ i m g h. absurd (omega arith);
        onward = λ i m g h. absurd (omega arith);
        there = e;
        over = λ h. absurd (true_false refl h);
      };
      is = q;
    }

    found-over : is_over (standing capacity k ia a) ≡ true → Found capacity k ia a ib b (parting_from capacity k ia a ib b)
    found-over h =
        at_once (same_snapshots a b && same_standing (standing capacity k ia a) (standing capacity k ib b)) refl
        (λ e. (h, over-alike (standing capacity k ia a) (standing capacity k ib b) (and_right (same_snapshots a b) (same_standing (standing capacity k ia a) (standing capacity k ib b)) e) h))
        (parting_over capacity k ia a ib b h)

    found_apart : standing capacity k ia a ≡ goes_on → is_over (standing capacity k ib b) ≡ true → Found capacity k ia a ib b (parting_from capacity k ia a ib b)
    found_apart e h =
        at_once false (and-false (same_snapshots a b) (same_standing (standing capacity k ia a) (standing capacity k ib b)) (on_over capacity k (standing capacity k ia a) (standing capacity k ib b) e h))
        (λ f. absurd (true_false f refl)) (parting_apart capacity k ia a ib b e h)

    found_unlike : same_snapshots a b ≡ false → Found capacity k ia a ib b (parting_from capacity k ia a ib b)
    found_unlike h = at_once false (rw h refl) (λ f. absurd (true_false f refl)) (parting_unlike capacity k ia a ib b h)

  -- both go on: what is found from the next record on
  module _ (p q : ℕ) (r s : Rec) (ia ib : Items) (a b x y : Contents) (e : apply_at capacity k r a ≡ becomes x) (f : apply_at capacity k s b ≡ becomes y)
      (same : same_snapshots a b ≡ true) where
    found-later : {o : Parting} → Found capacity (suc k) ia x ib y o → {z : Parting} → z ≡ o → Found capacity k (item p r ia) a (item q s ib) b z
    unfolding after standing same_standing
    found-later {o} l {z} w = record {
      count = suc l.count;
      place = l.place;
      parts = l.parts;
      sums = omega (arith, l.sums);
      further = record { before = before; onward = onward; there = rw (e, f) l.further.there; over = rw (e, f) l.further.over };
      is = rw (e, f) (w ∙ l.is);
    }
      where
        before : (i m : ℕ) → m ≡ k + i → i < suc l.count → alike capacity m (after i capacity k (item p r ia) a) (after i capacity k (item q s ib) b) ≡ true
        before zero m g h = let n : m ≡ k = omega arith in rw (n, e, f, same) refl
        before (suc i) m g h = rw (e, f) (l.further.before i m (omega arith) (omega arith))

        onward : (i m : ℕ) → m ≡ k + i → i < suc l.count
            → (stands capacity m (after i capacity k (item p r ia) a) ≡ goes_on) × (stands capacity m (after i capacity k (item q s ib) b) ≡ goes_on)
        onward zero m g h = let n : m ≡ k = omega arith in rw (n, e, f) (refl, refl)
        onward (suc i) m g h = rw (e, f) (l.further.onward i m (omega arith) (omega arith))

  -- one of two records, and a run that is over
  item_over : (p : ℕ) (r : Rec) (ia : Items) (a : Contents) (ib : Items) (b : Contents) → is_over (standing capacity k ib b) ≡ true
      → (m : Applied) → apply_at capacity k r a ≡ m → Found capacity k (item p r ia) a ib b (parting_from capacity k (item p r ia) a ib b)
  unfolding standing
  item_over p r ia a ib b h (stays n) e = found-over (item p r ia) a ib b (rw e refl)
  item_over p r ia a ib b h (becomes x) e = found_apart (item p r ia) a ib b (rw e refl) h

  -- two records
  items_both : (p q : ℕ) (r s : Rec) (ia ib : Items) (a b : Contents)
      → ((x y : Contents) → Found capacity (suc k) ia x ib y (parting_from capacity (suc k) ia x ib y))
      → (t : Bool) → same_snapshots a b ≡ t → (m n : Applied) → apply_at capacity k r a ≡ m → apply_at capacity k s b ≡ n
      → Found capacity k (item p r ia) a (item q s ib) b (parting_from capacity k (item p r ia) a (item q s ib) b)
  unfolding standing
  items_both p q r s ia ib a b next t h (stays i) n e f = found-over (item p r ia) a (item q s ib) b (rw e refl)
  items_both p q r s ia ib a b next t h (becomes x) (stays i) e f = found_apart (item p r ia) a (item q s ib) b (rw e refl) (rw f refl)
  items_both p q r s ia ib a b next false h (becomes x) (becomes y) e f = found_unlike (item p r ia) a (item q s ib) b h
  items_both p q r s ia ib a b next true h (becomes x) (becomes y) e f =
      found-later p q r s ia ib a b x y e f h (next x y) (parting_on capacity k p q r s ia ib a b x y e f h)

found : (capacity k : ℕ) (ia : Items) (a : Contents) (ib : Items) (b : Contents) → Found capacity k ia a ib b (parting_from capacity k ia a ib b)
unfolding standing
found capacity k end a ib b = found-over capacity k end a ib b refl
found capacity k (bad n p) a ib b = found-over capacity k (bad n p) a ib b refl
found capacity k (item p r ia) a end b = item_over capacity k p r ia a end b refl (apply_at capacity k r a) refl
found capacity k (item p r ia) a (bad m q) b = item_over capacity k p r ia a (bad m q) b refl (apply_at capacity k r a) refl
found capacity k (item p r ia) a (item q s ib) b =
    items_both capacity k p q r s ia ib a b (λ x y. found capacity (suc k) ia x ib y) (same_snapshots a b) refl
    (apply_at capacity k r a) (apply_at capacity k s b) refl refl

-- 2. From the start

least_at : (capacity : ℕ) (one other : Bytes) (count : ℕ) (parts : Bool)
    → Further capacity 0 (items_of logged one) fresh (items_of logged other) fresh count count parts → Least capacity one other count parts
least_at capacity one other count parts l = record {
  before = λ i g. l.before i i (omega arith) g;
  onward = λ i g. l.onward i i (omega arith) g;
  there = l.there;
  over = l.over;
}

module _ (capacity : ℕ) (one other : Bytes) {o : Parting} (l : Found capacity 0 (items_of logged one) fresh (items_of logged other) fresh o) where
  counted : l.place ≡ l.count
  counted = omega (arith, l.sums)

  found-least : Least capacity one other l.count l.parts
  found-least =
      least_at capacity one other l.count l.parts
      (subst (λ m. Further capacity 0 (items_of logged one) fresh (items_of logged other) fresh l.count m l.parts) counted l.further)

  found-there : o ≡ parting_at capacity one other l.count l.parts
  found-there =
      l.is
      ∙ ap (λ m. closing (not l.parts) m (course_of capacity one l.count).made (course_of capacity other l.count).made) counted

pub parting_is_least : PartingIsLeast
unfolding compare_of parting_of
parting_is_least first second one other h e =
    let l = found (length first) 0 (items_of logged one) fresh (items_of logged other) fresh in (
      l.count,
      l.parts,
      found-least (length first) one other l,
      rw (h, eq-eqb (length first) (length second) e) (ap (compared_as (length first)) (found-there (length first) one other l)),
    )

-- 3. The offset does not count

pub offset_apart : OffsetApart
unfolding same_snapshots body
offset_apart a b n m = refl

-- 4. There is one such count

module _ (capacity : ℕ) (one other : Bytes) where
  not_less : (k j : ℕ) (parts others : Bool) → Least capacity one other k parts → Least capacity one other j others → k < j → ⊥
  not_less k j true others l m h = true_false (m.before k h) l.there
  not_less k j false others l m h = true_false (l.over refl).0 (ap is_over (m.onward k h).0)

pub least_is_one : LeastIsOne
least_is_one capacity one other k j parts others l m = go (ltb k j) refl (ltb j k) refl
  where
    go : (s : Bool) → ltb k j ≡ s → (t : Bool) → ltb j k ≡ t → k ≡ j
    go true e t f = absurd (not_less capacity one other k j parts others l m (ltb-true k j e))
    go false e true f = absurd (not_less capacity one other j k others parts m l (ltb-true j k f))
    go false e false f = omega (arith, ltb-false k j e, ltb-false j k f)

-- Two controllers' recordings: 02's request 11, and what it claims of the count. `crates/laws_recordings` proves the claims.
use Rattle.std.specs.Prelude.{ℕ, zero, suc, ◌<◌, ◌≡◌, Bool, true, false, cond, ◌&&◌, not, [], ◌∷◌, eqb, length}
use Rattle.model.specs.Choice.{joined}
use Rattle.model.specs.Number.{Bytes}
use Rattle.model.specs.Order.{same_bytes}
use Rattle.model.specs.Shape.{logged}
use Rattle.model.specs.Record.{record_bytes}
use Rattle.model.specs.Items.{Items, end, bad, item, items_of}
use Rattle.model.specs.Contents.{Contents, fresh, dated}
use Rattle.model.specs.Image.{is_capacity, image_of}
use Rattle.model.specs.Apply.{apply_at}
use Rattle.model.specs.Snapshot.{body, on_applied}
use Rattle.model.specs.Reply.{Reply, accepted, refused}

-- 1. How two runs stand after equally many records

-- "a run goes on, has ended, or is refused by Apply at its next record with some number"
pub data Standing : Type 0 where
  goes_on : Standing
  ended : Standing
  refused_by : ℕ → Standing

-- "Records are numbered 0, 1, .. as offsets": the next one's offset is the count `k` of those before it. A record that Read refuses is refused by
-- Apply with Read's number
unfoldable pub standing : ℕ → ℕ → Items → Contents → Standing
standing capacity k end c = ended
standing capacity k (bad n place) c = refused_by n
standing capacity k (item place r rest) c = on_applied (apply_at capacity k r c) refused_by (λ d. goes_on)

unfoldable pub same_standing : Standing → Standing → Bool
same_standing goes_on goes_on = true
same_standing ended ended = true
same_standing (refused_by n) (refused_by m) = eqb n m
same_standing goes_on ended = false
same_standing goes_on (refused_by m) = false
same_standing ended goes_on = false
same_standing ended (refused_by m) = false
same_standing (refused_by n) goes_on = false
same_standing (refused_by n) ended = false

-- whether "the snapshots .. differ apart from the offset": the bytes behind its record
unfoldable pub same_snapshots : Contents → Contents → Bool
same_snapshots a b = same_bytes (joined record_bytes (body a)) (joined record_bytes (body b))

-- 2. Where they part

-- the count where two runs part, or that they agree up to, with the contents of both after so many records
pub data Parting : Type 0 where
  parted : ℕ → Contents → Contents → Parting
  agree : ℕ → Contents → Contents → Parting

-- runs that do not both go on: "If both end, or are refused alike .. the result is "agree" and the count reached"
abbrev pub closing : Bool → ℕ → Contents → Contents → Parting
closing true k a b = agree k a b
closing false k a b = parted k a b

abbrev pub at_end : ℕ → ℕ → Items → Contents → Items → Contents → Parting
at_end capacity k ia a ib b = closing (same_snapshots a b && same_standing (standing capacity k ia a) (standing capacity k ib b)) k a b

-- from a count on: "the least count k where .."
unfoldable pub parting_from : ℕ → ℕ → Items → Contents → Items → Contents → Parting
parting_from capacity k (item p r ia) a (item q s ib) b =
    cond (same_snapshots a b)
    (on_applied (apply_at capacity k r a)
    (λ n. closing (same_standing (refused_by n) (on_applied (apply_at capacity k s b) refused_by (λ y. goes_on))) k a b)
    (λ x. on_applied (apply_at capacity k s b) (λ m. parted k a b) (λ y. parting_from capacity (suc k) ia x ib y)))
    (parted k a b)
parting_from capacity k (item p r ia) a end b = at_end capacity k (item p r ia) a end b
parting_from capacity k (item p r ia) a (bad m q) b = at_end capacity k (item p r ia) a (bad m q) b
parting_from capacity k end a ib b = at_end capacity k end a ib b
parting_from capacity k (bad n p) a ib b = at_end capacity k (bad n p) a ib b

-- "Starting from fresh images of equal capacity"
unfoldable pub parting_of : ℕ → Bytes → Bytes → Parting
parting_of capacity one other = parting_from capacity 0 (items_of logged one) fresh (items_of logged other) fresh

-- 3. The operation

pub record Compared : Type 0 where
  pub reply : Reply
  pub first : Bytes
  pub second : Bytes

-- "Both buffers end as the images after that count". It says 1 where the runs part and 0 where they agree, and the count
abbrev pub compared_as : ℕ → Parting → Compared
compared_as capacity (parted k a b) = record { reply = accepted (1 ∷ k ∷ []); first = image_of capacity a; second = image_of capacity b }
compared_as capacity (agree k a b) = record { reply = accepted (0 ∷ k ∷ []); first = image_of capacity a; second = image_of capacity b }

-- "Checks: 1 on either capacity or on unequal ones; no other"
unfoldable pub compare_of : Bytes → Bytes → Bytes → Bytes → Compared
compare_of first second one other =
    cond (is_capacity (length first) && eqb (length first) (length second))
    (compared_as (length first) (parting_of (length first) one other))
    (record { reply = refused 1; first = first; second = second })

-- 4. What the count is: each run by itself is followed, and the two are held against each other after equally many records

-- a run under way: what is left of it, and what it made
pub record Course : Type 0 where
  pub left : Items
  pub made : Contents

-- after so many records more, the first of which has the offset k; a record that is refused is not passed
unfoldable pub after : ℕ → ℕ → ℕ → Items → Contents → Course
after zero capacity k i c = record { left = i; made = c }
after (suc n) capacity k end c = record { left = end; made = c }
after (suc n) capacity k (bad m p) c = record { left = bad m p; made = c }
after (suc n) capacity k (item p r rest) c =
    on_applied (apply_at capacity k r c) (λ m. record { left = item p r rest; made = c }) (after n capacity (suc k) rest)

-- "after k applied records"
abbrev pub course_of : ℕ → Bytes → ℕ → Course
course_of capacity run k = after k capacity 0 (items_of logged run) fresh

abbrev pub stands : ℕ → ℕ → Course → Standing
stands capacity k x = standing capacity k x.left x.made

-- the snapshots are the same apart from the offset, and the runs stand alike
abbrev pub alike : ℕ → ℕ → Course → Course → Bool
alike capacity k x y = same_snapshots x.made y.made && same_standing (stands capacity k x) (stands capacity k y)

-- whether a run has ended or is refused
abbrev pub is_over : Standing → Bool
is_over goes_on = false
is_over ended = true
is_over (refused_by n) = true

-- "the least count k": at every smaller count the runs are alike and both go on; at k they are not alike; or they are, and both are over
pub record Least (capacity : ℕ) (one other : Bytes) (k : ℕ) (parts : Bool) : Type 0 where
  pub before : (i : ℕ) → i < k → alike capacity i (course_of capacity one i) (course_of capacity other i) ≡ true
  pub onward : (i : ℕ) → i < k
      → (stands capacity i (course_of capacity one i) ≡ goes_on) × (stands capacity i (course_of capacity other i) ≡ goes_on)
  pub there : alike capacity k (course_of capacity one k) (course_of capacity other k) ≡ not parts
  pub over : parts ≡ false
      → (is_over (stands capacity k (course_of capacity one k)) ≡ true) × (is_over (stands capacity k (course_of capacity other k)) ≡ true)

-- the parting at a count, with what both runs made up to it
abbrev pub parting_at : ℕ → Bytes → Bytes → ℕ → Bool → Parting
parting_at capacity one other k parts = closing (not parts) k (course_of capacity one k).made (course_of capacity other k).made

-- the operation says such a count, and both buffers are the images after it
abbrev pub PartingIsLeast : Type 0
PartingIsLeast =
    (first second one other : Bytes) → is_capacity (length first) ≡ true → length first ≡ length second →
    (k : ℕ) × (parts : Bool) × Least (length first) one other k parts ×
    (compare_of first second one other ≡ compared_as (length first) (parting_at (length first) one other k parts))

-- "apart from the offset": at whatever offsets the two stand
abbrev pub OffsetApart : Type 0
OffsetApart = (a b : Contents) (n m : ℕ) → same_snapshots (dated n a) (dated m b) ≡ same_snapshots a b

-- no other count is such a one, of "agree" neither
abbrev pub LeastIsOne : Type 0
LeastIsOne =
    (capacity : ℕ) (one other : Bytes) (k j : ℕ) (parts others : Bool) → Least capacity one other k parts → Least capacity one other j others → k ≡ j

-- Fields' bytes: how long they are, and the fields of three lists written one after another.
use mathlib.Core.Path.{◌≡◌, refl, sym, ap, ◌∙◌}
use mathlib.Core.List.{List, [], ◌∷◌, ◌++◌}
use mathlib.Core.Bool.{Bool, true, false}
use Prim.Native.Nat.{ℕ, ◌+◌, ◌-◌, ◌≤◌, ◌<◌}
use native.Mathlib.Omega.{arith}
use borrow.Author.Tests.{ltb-true, ltb-false, leb-true, leb-false}
use lib.Dec.{leb, ltb}
use lib.ListN.{length, get_or, take, drop, drop_of_length-le}
use lib.Seq.{slice, length-slice}
use Rattle.model.specs.Number.{Bytes}
use Rattle.model.specs.Run.{Run, done, torn, item, bytes_of, lengths_of}
use Rattle.model.specs.Record.{gathered}
use Rattle.laws_records.specs.Runs.{Whole, length_item}
use Rattle.laws_records.specs.Writes.{fields-gathered}
use Rattle.wire.proofs.Rest.{drop-step}
use Rattle.shape_faults.proofs.Parts.{part_slice}
use Rattle.shape_faults.proofs.Gathered.{gathered_from, no_length, value_cut, next_field}
use Rattle.records.specs.Answers.{body_length, put_at, head}
use Rattle.records.proofs.Written.{put_at_nothing, put_at-append}

-- 1. Lengths

lengths-body : (r : Run) → length (bytes_of r) ≡ body_length (lengths_of r)
unfolding bytes_of body_length lengths_of
lengths-body done = refl
lengths-body torn = refl
lengths-body (item t v r) = let i = lengths-body r in omega (arith, length_item t v r)

pub gathered-body : (tags : Bytes) (lengths : List ℕ) (values : Bytes) → Whole (gathered tags lengths values)
    → length (bytes_of (gathered tags lengths values)) ≡ body_length lengths
gathered-body tags lengths values w =
    lengths-body (gathered tags lengths values) ∙ ap body_length (fields-gathered tags lengths values w).of_lengths

module _ (lengths : List ℕ) (i : ℕ) where
  pub body-step : i < length lengths → body_length (drop i lengths) ≡ 3 + get_or lengths i 0 + body_length (drop (i + 1) lengths)
  unfolding body_length
  body-step h = rw (drop-step lengths i h)

  pub body_end : length lengths ≤ i → body_length (drop i lengths) ≡ 0
  unfolding body_length
  body_end h = rw (drop_of_length-le lengths h)

-- 2. A field written

module _ {p : Run} (t : ℕ) (v : Bytes) (r : Run) (e : p ≡ item t v r) (out : Bytes) (to : ℕ) (fits : to + length (bytes_of p) ≤ length out) where
  body : length (bytes_of p) ≡ 3 + (length v + length (bytes_of r))
  body = rw e (length_item t v r)

  rest-written : (next : Bytes) → next ≡ put_at out to (head t (length v) ++ v)
      → put_at next (to + 3 + length v) (bytes_of r) ≡ put_at out to (bytes_of p)
  unfolding bytes_of
  rest-written next en =
      let s = head t (length v) ++ v in
      let l : to + length s ≡ to + 3 + length v = omega arith in
      let k : to + length s ≤ length out = omega (arith, body) in
      rw (en, ← l, e) (put_at-append out to s k (bytes_of r))

-- 3. The fields of three lists, one after another

-- fields still to be written at a place: they are whole, and have room
pub record Left (tags : Bytes) (lengths : List ℕ) (values : Bytes) (i from : ℕ) (out : Bytes) (to : ℕ) : Type 0 where
  pub within : from ≤ length values
  pub whole : Whole (gathered_from tags lengths values i from)
  pub fits : to + length (bytes_of (gathered_from tags lengths values i from)) ≤ length out

-- a value as it is lent
abbrev lent : Bytes → ℕ → ℕ → Bytes
lent values from n = take (from + n - from) (drop from values)

not_torn : {r : Run} → Whole r → r ≡ torn → ⊥
not_torn w e = rw e at w

module _ {tags : Bytes} {lengths : List ℕ} {values : Bytes} {i from : ℕ} {out : Bytes} {to : ℕ} (left : Left tags lengths values i from out to)
    (more : i < length tags) where
  pub length-there : i < length lengths
  length-there = go (ltb i (length lengths)) refl
    where
      go : (b : Bool) → ltb i (length lengths) ≡ b → i < length lengths
      go true e = ltb-true i (length lengths) e
      go false e = absurd (not_torn left.whole (no_length tags lengths values i from more (ltb-false i (length lengths) e)))

  abbrev n : ℕ
  n = get_or lengths i 0

  value-given : n ≤ length values - from
  value-given = go (leb n (length values - from)) refl
    where
      go : (b : Bool) → leb n (length values - from) ≡ b → n ≤ length values - from
      go true e = leb-true n (length values - from) e
      go false e =
          absurd (not_torn left.whole (value_cut tags lengths values i from more length-there n refl (leb-false n (length values - from) e)))

  pub value_there : from + n ≤ length values
  value_there = omega (arith, left.within, value-given)

  abbrev v : Bytes
  v = lent values from n

  abbrev rest : Run
  rest = gathered_from tags lengths values (i + 1) (from + n)

  lent_slice : v ≡ slice from (from + n) values
  lent_slice = part_slice values from (from + n) (omega arith) value_there

  value-length : length v ≡ n
  value-length = rw lent_slice (length-slice from (from + n) values value_there ∙ omega arith)

  next : gathered_from tags lengths values i from ≡ item (get_or tags i 0) v rest
  next = rw lent_slice (next_field tags lengths values i from more length-there n refl (get_or tags i 0) refl left.within value-given)

  body-left : length (bytes_of (gathered_from tags lengths values i from)) ≡ 3 + (length v + length (bytes_of rest))
  body-left = body (get_or tags i 0) v rest next out to left.fits

  pub field_fits : to + 3 + length v ≤ length out
  field_fits = omega (arith, left.fits, body-left)

  pub rest_fits : to + 3 + n + length (bytes_of rest) ≤ length out
  rest_fits = omega (arith, left.fits, value-length, body-left)

  pub left_after : {written-to : Bytes} → length written-to ≡ length out → Left tags lengths values (i + 1) (from + n) written-to (to + 3 + n)
  left_after e = record { within = value_there; whole = rw next at left.whole; fits = omega (arith, rest_fits) }

  pub field-written : {written-to : Bytes} → written-to ≡ put_at out to (head (get_or tags i 0) (length v) ++ v)
      → put_at written-to (to + 3 + n) (bytes_of rest) ≡ put_at out to (bytes_of (gathered_from tags lengths values i from))
  field-written {written-to} e =
      ap (λ (k : ℕ). put_at written-to (to + 3 + k) (bytes_of rest)) (sym value-length)
      ∙ rest-written (get_or tags i 0) v rest next out to left.fits written-to e

-- no tag is left, and so no byte
no_bytes : (lengths : List ℕ) (values : Bytes) → bytes_of (gathered [] lengths values) ≡ []
unfolding bytes_of gathered
no_bytes [] [] = refl
no_bytes [] (x ∷ s) = refl
no_bytes (n ∷ ns) s = refl

pub all-written : (tags : Bytes) (lengths : List ℕ) (values : Bytes) (i from : ℕ) → length tags ≤ i → (out : Bytes) (to : ℕ)
    → put_at out to (bytes_of (gathered_from tags lengths values i from)) ≡ out
all-written tags lengths values i from h out to =
    rw (drop_of_length-le tags h, no_bytes (drop i lengths) (drop from values)) (put_at_nothing out to)

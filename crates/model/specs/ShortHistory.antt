-- All short histories of a few records: 02's request 12, and what it claims of their numbers. `crates/laws_short` proves the claims.
use Prim.Native.Nat.{ℕ, zero, suc, ◌+◌, ◌-◌, ◌/◌, ◌%◌, ◌^◌, ◌≤◌, ◌<◌, compare}
use Rattle.std.specs.Prelude.{cond, List, [], ◌∷◌, ◌≡◌, ltb, length}
use Rattle.std.proofs.Math.Option.{Option, none, some}
use Rattle.std.proofs.Math.ListN.{get_elem?}
use Rattle.model.specs.Choice.{given, joined}
use Rattle.model.specs.Number.{Bytes}
use Rattle.model.specs.Order.{then_by, lexicographic}
use Rattle.model.specs.Shape.{framed}
use Rattle.model.specs.Record.{Rec, record_bytes}
use Rattle.model.specs.Items.{Items, end, bad, item, items_of, records}
use Rattle.model.specs.Reply.{Ended, unchanged, emit_bytes}

-- 1. "Given 1 to 8 encoded records, the histories of length 0 to 4 are numbered from 0: shorter first, then by the records' positions, leftmost first."

abbrev pub record_limit : ℕ
record_limit = 8

abbrev pub length_limit : ℕ
length_limit = 4

-- A history is the positions of its records among the n given, so that "equal records at two positions count as two". Of those of one length it is
-- named by a number: its positions are that number's digits to the base n, the leftmost first
unfoldable pub positions : ℕ → ℕ → ℕ → List ℕ
positions n zero i = []
positions n (suc len) i = i / n ^ len ∷ positions n len (i % n ^ len)

-- the history under a number that is counted from those of a length on, as many lengths being left
unfoldable pub history_from : ℕ → ℕ → ℕ → ℕ → Option (List ℕ)
history_from n zero len i = none
history_from n (suc left) len i = cond (ltb i (n ^ len)) (some (positions n len i)) (history_from n left (suc len) (i - n ^ len))

unfoldable pub history_at : ℕ → ℕ → Option (List ℕ)
history_at n i = history_from n (suc length_limit) 0 i

-- how many there are that are shorter than a length, and how many in all
unfoldable pub shorter_than : ℕ → ℕ → ℕ
shorter_than n zero = 0
shorter_than n (suc len) = shorter_than n len + n ^ len

abbrev pub history_count : ℕ → ℕ
history_count n = shorter_than n (suc length_limit)

-- 2. "Checks: Read's for each record, none, or a ninth unread, being 5; 26, number past the last; 19."

-- the first fault of records of which there may be some number; 0 is none. One more is 5, and is not read
unfoldable pub few_fault : ℕ → Items → ℕ
few_fault most end = 0
few_fault zero (bad n place) = 5
few_fault zero (item place r rest) = 5
few_fault (suc most) (bad n place) = n
few_fault (suc most) (item place r rest) = few_fault most rest

-- "A number writes its history's bytes"
abbrev pub bytes_at : List Rec → ℕ → Bytes
bytes_at rs p = given (get_elem? rs p) [] record_bytes

abbrev pub history_bytes : List Rec → List ℕ → Bytes
history_bytes rs ps = joined (bytes_at rs) ps

abbrev pub numbered : List Rec → ℕ → Bytes → Ended
numbered [] number out = unchanged 5 out
numbered (r ∷ rs) number out =
    given (history_at (length (r ∷ rs)) number) (unchanged 26 out) (λ ps. emit_bytes (history_bytes (r ∷ rs) ps) out)

-- what comes of records without a fault
abbrev pub faultless : ℕ → Ended → Bytes → Ended
faultless zero e out = e
faultless (suc n) e out = unchanged (suc n) out

unfoldable pub history_of : Bytes → ℕ → Bytes → Ended
history_of input number out =
    let is = items_of framed input in
    faultless (few_fault record_limit is) (numbered (records is) number out) out

-- 3. What it claims

-- every position is among n records
abbrev pub Among : ℕ → List ℕ → Type 0
Among n [] = Unit {0}
Among n (p ∷ ps) = (p < n) × Among n ps

abbrev pub IsHistory : ℕ → List ℕ → Type 0
IsHistory n ps = (length ps ≤ length_limit) × Among n ps

-- "every history stands under exactly one number"
abbrev pub UnderOneNumber : Type 0
UnderOneNumber =
    (n : ℕ) → 0 < n → (ps : List ℕ) → IsHistory n ps → (i : ℕ) × (history_at n i ≡ some ps) × ((j : ℕ) → history_at n j ≡ some ps → j ≡ i)

-- and nothing else stands there
abbrev pub OnlyHistories : Type 0
OnlyHistories = (n : ℕ) → 0 < n → (i : ℕ) (ps : List ℕ) → history_at n i ≡ some ps → IsHistory n ps

-- "shorter first, then by the records' positions, leftmost first"
abbrev pub ShorterThenLeftmost : Type 0
ShorterThenLeftmost =
    (n : ℕ) → 0 < n → (i j : ℕ) (ps qs : List ℕ) → history_at n i ≡ some ps → history_at n j ≡ some qs →
    compare i j ≡ then_by (compare (length ps) (length qs)) (lexicographic ℕ compare ps qs)

-- "numbered from 0", and "number past the last": there is no history exactly from the count on
abbrev pub NoneFromTheCount : Type 0
NoneFromTheCount = (n : ℕ) → 0 < n → (i : ℕ) → (history_count n ≤ i → history_at n i ≡ none) × (history_at n i ≡ none → history_count n ≤ i)

-- "8 records give 4,681"
abbrev pub EightRecords : Type 0
EightRecords = history_count 8 ≡ 4681

-- of records without a fault, that 26 is said exactly from the count on
abbrev pub PastTheLast : Type 0
PastTheLast =
    (input : Bytes) (number : ℕ) (out : Bytes) → few_fault record_limit (items_of framed input) ≡ 0 → 0 < length (records (items_of framed input)) →
    (history_count (length (records (items_of framed input))) ≤ number → history_of input number out ≡ unchanged 26 out)
    × (number < history_count (length (records (items_of framed input))) →
    (ps : List ℕ)
    × (history_at (length (records (items_of framed input))) number ≡ some ps)
    × (history_of input number out ≡ emit_bytes (history_bytes (records (items_of framed input)) ps) out))

-- A record that is built a field at a time: what is asked before a field is set, and what stands then. Parts of a slice as they are lent.
use mathlib.Core.Path.{◌≡◌, ap, ◌∙◌}
use Prim.Native.Nat.{ℕ, ◌+◌, ◌-◌, ◌≤◌, ◌<◌}
use native.Mathlib.Omega.{arith}
use lib.ListN.{length, take, drop}
use lib.Seq.{slice}
use Rattle.model.specs.Number.{Bytes}
use Rattle.model.specs.Run.{Run, done, run_of, field, value, set_field}
use Rattle.fields.specs.Fields.{held, Within}
use Rattle.fields.specs.declared.Found.{Found}
use Rattle.fields.specs.declared.Found.TheVariants.{Part, Missing}
use Rattle.keys.specs.Keys.{kind_in, run_in}
use Rattle.keys.proofs.Found.{lent_slice, value-part, value-missing}
use Rattle.apply_drafts.specs.Drafts.{spells, IsDraft, Drafted}
use Rattle.apply_drafts.proofs.Drafts.{held_draft, set_drafted}
use Rattle.fields.proofs.Took.{within-part}
use Rattle.apply_updates.specs.Updates.{partition_of}

-- 1. Parts

-- a value that stands in a slice
abbrev pub Stands : Bytes → Bytes → ℕ → ℕ → Type 0
Stands s v start end = (slice start end s ≡ v) × (start ≤ end) × (end ≤ length s)

pub lent : (s v : Bytes) (start end : ℕ) → Stands s v start end → take (end - start) (drop start s) ≡ v
lent s v start end h = lent_slice s start end h.1 ∙ h.0

-- a field of a partition, found in the run that an update's first field is
inner : (s : Bytes) (start end tag : ℕ) → Stands s (value 1 (run_in s)) start end
    → value tag (run_of (slice start end s)) ≡ value tag (partition_of (run_in s))
inner s start end tag h = ap (λ v. value tag (run_of v)) h.0

module _ (s : Bytes) (start end : ℕ) (h : Stands s (value 1 (run_in s)) start end) (tag : ℕ) {r : Found}
    (f : (held s r ≡ field tag (run_of (slice start end s))) × Within end r) where
  pub nested_part : {at len : ℕ} → r ≡ Part at len → Stands s (value tag (partition_of (run_in s))) at (at + len)
  nested_part {at} {len} p =
      (value-part s tag (run_of (slice start end s)) f.0 p ∙ inner s start end tag h, omega arith, omega (arith, within-part p f.1, h.2))

  pub nested_none : r ≡ Missing → Stands s (value tag (partition_of (run_in s))) 0 0
  nested_none p = (value-missing s tag (run_of (slice start end s)) f.0 p ∙ inner s start end tag h, omega arith, omega arith)

-- 2. Fields that are set

-- a record in a buffer, of a length up to a bound
pub record Upto (most : ℕ) (b : Bytes) (n kind : ℕ) (run : Run) : Type 0 where
  pub held : Drafted b n kind run
  pub few : n ≤ most

pub begun : (b : Bytes) (n kind : ℕ) → (n ≡ 3) × (take n b ≡ spells kind done) → Upto 3 b n kind done
begun b n kind h = record { held = record { spelt = h.1; whole = tt; short = tt }; few = omega (arith, h.0) }

module _ {b : Bytes} {n kind : ℕ} {run : Run} {most : ℕ} (d : Upto most b n kind run) {v w : Bytes} (e : w ≡ v) (limit : ℕ) (low : length v ≤ limit) where
  -- the value is lent as it stands elsewhere
  pub step_asks : limit < 65536 → most + 3 + limit ≤ length b
      → (n + 3 + length w ≤ length b) × (length w < 65536) × IsDraft (take n b)
  step_asks small fits =
      let same : length w ≡ length v = ap length e in
      (omega (arith, d.few), omega arith, held_draft d.held)

  pub step_says : limit < 65536 → (tag : ℕ) (c : Bytes) (r : ℕ)
      → (take r c ≡ spells (kind_in b) (set_field tag w (run_in (take n b)))) × (r ≤ n + 3 + length w)
      → Upto (most + 3 + limit) c r kind (set_field tag v run)
  step_says small tag c r h =
      let same : length w ≡ length v = ap length e in
      record { held = set_drafted d.held tag e (omega arith) h.0; few = omega (arith, h.1, d.few) }

-- the same by a value that is copied from its part
module _ (s v : Bytes) (start end : ℕ) (h : Stands s v start end) (b : Bytes) (n : ℕ) where
  pub copy_asks : (n + 3 + length v ≤ length b) × (length v < 65536) × IsDraft (take n b)
      → (n + 3 + length (take (end - start) (drop start s)) ≤ length b) × (length (take (end - start) (drop start s)) < 65536) × IsDraft (take n b)
  copy_asks p = rw (lent s v start end h) p

  pub copy_says : (kind tag : ℕ) (run : Run) {x : Bytes} {r : ℕ}
      → (x ≡ spells kind (set_field tag (take (end - start) (drop start s)) run)) × (r ≤ n + 3 + length (take (end - start) (drop start s)))
      → (x ≡ spells kind (set_field tag v run)) × (r ≤ n + 3 + length v)
  copy_says kind tag run q = rw (lent s v start end h) at q

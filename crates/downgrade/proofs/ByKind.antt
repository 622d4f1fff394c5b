-- What an entry is listed as, by its kind: a broker as its projection, a partition as its assignments below the level of directories, any
-- other as nothing.
use mathlib.Core.Path.{◌≡◌, refl, sym, ap, ap₂, ◌∙◌}
use mathlib.Core.Bool.{Bool, true, false, cond, not}
use mathlib.Core.List.{List, []}
use Prim.Native.Nat.{ℕ, ◌+◌, ◌≤◌}
use native.Mathlib.Omega.{arith}
use borrow.Author.Tests.{ne_eqb, not-true, not-false}
use lib.Dec.{eqb}
use lib.ListN.{length}
use Rattle.model.specs.Choice.{joined}
use Rattle.model.specs.Number.{Bytes, number}
use Rattle.model.specs.Run.{Run, value}
use Rattle.model.specs.Kind.{kind_number}
use Rattle.model.specs.Record.{Rec, record_bytes}
use Rattle.model.specs.Contents.{topic, part, plain}
use Rattle.model.specs.Image.{entry_of}
use Rattle.model.specs.Move.{replicas, directories}
use Rattle.model.specs.Downgrade.{is_under, directories_level, projected, assignments, slots, listed}
use Rattle.laws.specs.Choice.{cond_same}
use Rattle.keys.specs.Keys.{kind_in, run_in}
use Rattle.entries.specs.Entries.{IsRecord, record_in}
use Rattle.image_entries.proofs.Records.{kind_in_lem, run_in_lem}
use Rattle.records.specs.Answers.{put_at}
use Rattle.records.proofs.Written.{put_at_nothing}
use Rattle.downgrade_brokers.specs.Known.{projected_bytes}
use Rattle.downgrade_slots.specs.Slots.{assignment_bytes}
use Rattle.downgrade.specs.Listed.{listed_bytes}

-- by the kind's number
abbrev by_number : ℕ → ℕ → Run → List Rec
by_number level k r =
    cond (eqb k 1) [] (cond (eqb k 2) (cond (is_under level directories_level) (assignments r (slots r) (replicas r) (directories r)) [])
    (cond (eqb k 3) (projected level r) []))

listed_by : (level : ℕ) (r : Rec) → listed level (entry_of r) ≡ by_number level (kind_number r.kind) r.run
unfolding listed entry_of kind_number
listed_by level r = go (eqb (kind_number r.kind) 1) (eqb (kind_number r.kind) 2)
  where
    go : (a b : Bool)
        → listed level (cond a (topic (value 1 r.run) (value 2 r.run) (number (value 3 r.run)) (number (value 4 r.run)) (eqb (number (value 5 r.run)) 1)) (cond b (part r.run) (plain r)))
        ≡ cond a [] (cond b (cond (is_under level directories_level) (assignments r.run (slots r.run) (replicas r.run) (directories r.run)) [])
        (cond (eqb (kind_number r.kind) 3) (projected level r.run) []))
    go true b = refl
    go false true = refl
    go false false = refl

module _ (s : Bytes) (i : IsRecord s) (level : ℕ) where
  listed_in_lem : (k : ℕ) → kind_in s ≡ k → listed_bytes level (record_in s) ≡ joined record_bytes (by_number level k (run_in s))
  listed_in_lem k e =
      ap (joined record_bytes)
      (listed_by level (record_in s) ∙ ap₂ (by_number level) (sym (kind_in_lem s i) ∙ e) (sym (run_in_lem s i)))

  pub of_broker : kind_in s ≡ 3 → listed_bytes level (record_in s) ≡ projected_bytes level (run_in s)
  of_broker is = listed_in_lem 3 is

  pub of_other : (kind_in s ≡ 3 → ⊥) → (kind_in s ≡ 2 → ⊥) → listed_bytes level (record_in s) ≡ []
  of_other broker partition =
      listed_in_lem (kind_in s) refl ∙ rw (ne_eqb (kind_in s) 3 broker, ne_eqb (kind_in s) 2 partition) (ap (joined record_bytes) (cond_same (eqb (kind_in s) 1) []))

  module _ (is : kind_in s ≡ 2) {u : Bool} (eu : u ≡ is_under level directories_level) where
    pub of_known : not u ≡ true → listed_bytes level (record_in s) ≡ []
    of_known h = listed_in_lem 2 is ∙ rw (sym eu ∙ not-true u h)

    pub of_partition : not u ≡ false → listed_bytes level (record_in s) ≡ assignment_bytes (run_in s)
    of_partition h = listed_in_lem 2 is ∙ rw (sym eu ∙ not-false u h)

-- what is counted and written of an entry, by the bytes that it is listed as
module _ (level : ℕ) (r : Rec) {b : Bytes} (e : listed_bytes level r ≡ b) where
  pub listed-size : {n k : ℕ} → n ≡ length b → n ≤ k → (n ≡ length (listed_bytes level r)) × (n ≤ k)
  listed-size h few = (h ∙ ap length (sym e), few)

  module _ (out : Bytes) (at : ℕ) where
    pub listed_fits : at + length (listed_bytes level r) ≤ length out → at + length b ≤ length out
    listed_fits h = rw e at h

    pub listed-put : {n : ℕ} {w : Bytes} → (n ≡ at + length b) × (w ≡ put_at out at b)
        → (n ≡ at + length (listed_bytes level r)) × (w ≡ put_at out at (listed_bytes level r))
    listed-put h = rw e h

pub none-put : (level : ℕ) (r : Rec) → listed_bytes level r ≡ [] → (out : Bytes) (at : ℕ)
    → (at ≡ at + length (listed_bytes level r)) × (out ≡ put_at out at (listed_bytes level r))
none-put level r e out at = listed-put level r e out at (omega arith, sym (put_at_nothing out at))

-- A record that is built, by its bytes: its fields and its kind, that a field can be set in it, and what setting one keeps.
use mathlib.Core.Path.{◌≡◌, refl, sym, ap, ap₂, ◌∙◌, subst}
use mathlib.Core.Bool.{Bool, true, false, cond}
use mathlib.Core.List.{[], ◌∷◌}
use Prim.Native.Nat.{ℕ, zero, suc, ◌+◌, ◌<◌}
use native.Mathlib.Omega.{arith}
use lib.Dec.{ltb, eqb}
use lib.ListN.{length, take}
use Rattle.model.specs.Number.{Bytes}
use Rattle.model.specs.Run.{Run, done, torn, item, bytes_of, set_field}
use Rattle.model.specs.Kind.{kind_number}
use Rattle.model.specs.Shape.{Source, stored, fault}
use Rattle.model.specs.Record.{Rec, rec, record_bytes}
use Rattle.model.specs.declared.Kind.{Kind}
use Rattle.laws.specs.Choice.{impossible}
use Rattle.laws_records.specs.Runs.{Whole, Short, run-bytes}
use Rattle.laws_records.specs.Fields.{set-whole}
use Rattle.laws_records.specs.Faults.{fault-whole, fault-short}
use Rattle.keys.specs.Keys.{kind_in, run_in}
use Rattle.entries.specs.Entries.{IsRecord, record_in}
use Rattle.entries.proofs.Changes.{record-in}
use Rattle.apply_drafts.specs.Drafts.{spells, IsDraft, Drafted}

-- 1. What is spelt

pub spells_record : (r : Rec) → spells (kind_number r.kind) r.run ≡ record_bytes r
unfolding record_bytes
spells_record r = refl

pub length-spells : (kind : ℕ) (run : Run) → length (spells kind run) ≡ 3 + length (bytes_of run)
length-spells kind run = omega arith

-- fields that are whole and short are read back, and can be changed
module _ (kind : ℕ) (run : Run) (whole : Whole run) (short : Short run) where
  run-spelt : run_in (spells kind run) ≡ run
  run-spelt = run-bytes run whole short

  pub drafted : IsDraft (spells kind run) × (run_in (spells kind run) ≡ run) × (kind_in (spells kind run) ≡ kind)
  drafted = (record { headed = omega (arith, length-spells kind run); whole = subst Whole (sym run-spelt) whole }, run-spelt, refl)

-- 2. A field that is set

-- values stay short; that fields stay whole is `set-whole` of `laws_records`
set-short : (tag : ℕ) (w : Bytes) (r : Run) → length w < 65536 → Short r → Short (set_field tag w r)
unfolding set_field
set-short tag w done h s = (h, tt)
set-short tag w torn h s = (h, tt)
set-short tag w (item t v r) h s = go (ltb t tag) (eqb t tag) (set-short tag w r h s.1)
  where
    go : (before same : Bool) → Short (set_field tag w r)
        → Short (cond before (item t v (set_field tag w r)) (item tag w (cond same r (item t v r))))
    go true same i = (s.0, i)
    go false true i = (h, s.1)
    go false false i = (h, s)

-- 3. A buffer that begins with a record, and what `set_field` leaves there

first_byte : (b : Bytes) (n kind : ℕ) (run : Run) → take n b ≡ spells kind run → kind_in b ≡ kind
first_byte b zero kind run e = impossible cc
first_byte [] (suc n) kind run e = impossible cc
first_byte (x ∷ b) (suc n) kind run e = cc

module _ {b : Bytes} {n kind : ℕ} {run : Run} (d : Drafted b n kind run) where
  pub held-run : run_in (take n b) ≡ run
  held-run = ap run_in d.spelt ∙ (drafted kind run d.whole d.short).1

  pub held_draft : IsDraft (take n b)
  held_draft = subst IsDraft (sym d.spelt) (drafted kind run d.whole d.short).0

  pub set-held : (tag : ℕ) (w : Bytes) {s : Bytes} → s ≡ spells (kind_in b) (set_field tag w (run_in (take n b))) → s ≡ spells kind (set_field tag w run)
  set-held tag w e = e ∙ ap₂ (λ k r. spells k (set_field tag w r)) (first_byte b n kind run d.spelt) held-run

  pub set_drafted : (tag : ℕ) {v w : Bytes} → w ≡ v → length v < 65536 → {c : Bytes} {r : ℕ}
      → take r c ≡ spells (kind_in b) (set_field tag w (run_in (take n b))) → Drafted c r kind (set_field tag v run)
  set_drafted tag {v} {w} e few said = record {
    spelt = set-held tag w said ∙ ap (λ x. spells kind (set_field tag x run)) e;
    whole = set-whole tag v run d.whole;
    short = set-short tag v run few d.short;
  }

-- 4. Records that pass

-- of the log or of an image
pub passing_drafted : (source : Source) (k : Kind) (run : Run) → fault source k run ≡ 0 → {b : Bytes} {n : ℕ} → take n b ≡ record_bytes (rec k run)
    → Drafted b n (kind_number k) run
unfolding record_bytes
passing_drafted source k run ok e = record { spelt = e; whole = fault-whole source k run ok; short = fault-short source k run ok }

-- a copy of a record
pub copy_drafted : (s : Bytes) → IsRecord s → (k : Kind) → (record_in s).kind ≡ k → {b : Bytes} {n : ℕ} → take n b ≡ s
    → Drafted b n (kind_number k) (record_in s).run
copy_drafted s i k is e =
    let run = (record_in s).run in
    let value_is : i.value ≡ rec k run = sym (record-in s i) ∙ λ j. rec (is j) run in
    passing_drafted stored k run (subst (λ (r : Rec). fault stored r.kind r.run ≡ 0) value_is i.passes) (e ∙ i.bytes ∙ ap record_bytes value_is)

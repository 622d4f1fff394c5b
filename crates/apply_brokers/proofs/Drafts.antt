-- A broker's record at the start of a buffer: what it is, and that a field set in it leaves such a record.
use mathlib.Core.Path.{◌≡◌, sym, ◌∙◌, subst}
use Prim.Native.Nat.{ℕ, ◌+◌, ◌≤◌, ◌<◌}
use native.Mathlib.Omega.{arith}
use lib.ListN.{length, take}
use lib.Seq.{length-take-le}
use Rattle.model.specs.Number.{Bytes}
use Rattle.model.specs.Run.{Run, set_field}
use Rattle.model.specs.Kind.{kind_number}
use Rattle.model.specs.Shape.{stored}
use Rattle.model.specs.Record.{rec}
use Rattle.model.specs.declared.Kind.TheVariants.{BrokerRegistration}
use Rattle.laws_records.specs.Faults.{set-fault}
use Rattle.keys.specs.Keys.{kind_in, run_in}
use Rattle.entries.specs.Entries.{IsRecord, record_in}
use Rattle.entries.proofs.Changes.{record-in}
use Rattle.apply_work.specs.Work.{most_record}
use Rattle.apply_work.proofs.Made.{record-size}
use Rattle.apply_drafts.specs.Drafts.{spells, IsDraft, Drafted}
use Rattle.apply_drafts.proofs.Drafts.{spells_record, held-run, held_draft, set-held, passing_drafted}
use Rattle.apply_brokers.specs.Change.{BrokerIn, Suits}

module _ {b : Bytes} {n : ℕ} {run : Run} (d : BrokerIn b n run) where
  drafted : Drafted b n (kind_number BrokerRegistration) run
  drafted = passing_drafted stored BrokerRegistration run d.passes d.bytes

  pub run_is : run_in (take n b) ≡ run
  run_is = held-run drafted

  -- the fields as they are read
  pub drafted_read : BrokerIn b n (run_in (take n b))
  drafted_read = subst (BrokerIn b n) (sym run_is) d

  pub is_record : IsRecord (take n b)
  is_record = record { value = rec BrokerRegistration run; bytes = d.bytes; passes = d.passes }

  pub record_is : record_in (take n b) ≡ rec BrokerRegistration run
  record_is = record-in (take n b) (record { value = rec BrokerRegistration run; bytes = d.bytes; passes = d.passes })

  pub no_longer : n ≤ most_record
  no_longer = omega (arith, record-size (take n b) is_record, length-take-le n b d.fits)

  module _ (tag : ℕ) (v : Bytes) (s : Suits tag v) where
    pub may-set : (n + 3 + length v ≤ length b) × (length v < 65536) × IsDraft (take n b)
    may-set = (omega (arith, no_longer, d.room, s.few), omega (arith, s.few), held_draft drafted)

    pub field-set : {w : Bytes} {r : ℕ} → length w ≡ length b
        → (take r w ≡ spells (kind_in b) (set_field tag v (run_in (take n b)))) × (r ≤ n + 3 + length v) → BrokerIn w r (set_field tag v run)
    field-set {w} {r} same said = record {
      bytes = set-held drafted tag v said.0 ∙ spells_record (rec BrokerRegistration (set_field tag v run));
      passes = set-fault stored BrokerRegistration run d.passes tag s.found v s.once s.fits;
      fits = omega (arith, may-set.0, said.1);
      room = omega (arith, d.room);
    }

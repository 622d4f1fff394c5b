-- A record that passes, by its bytes: its fields, its key, and what its key needs.
use mathlib.Core.Path.{◌≡◌, refl, ap, ◌∙◌}
use mathlib.Core.Bool.{Bool, true, false, cond}
use mathlib.Core.Option.{some}
use Prim.Native.Nat.{ℕ, ◌≤◌, ◌<◌}
use native.Mathlib.Omega.{arith}
use borrow.Author.Tests.{eqb-false}
use lib.Dec.{eqb}
use lib.ListN.{drop}
use Rattle.model.specs.Run.{Run, run_of, bytes_of}
use Rattle.model.specs.Kind.{kind_of, kind_number}
use Rattle.model.specs.Shape.{stored, unknown, fault, rows_of, shape_of}
use Rattle.model.specs.Record.{Rec, record_bytes}
use Rattle.model.specs.Contents.{record_key}
use Rattle.model.specs.declared.Kind.{Kind}
use Rattle.model.specs.declared.Kind.TheVariants.{Topic, Partition, BrokerRegistration, DeleteTopic, TopicConfig, BrokerConfig, ClientQuota, ProducerIds, UnregisterBroker, KRaftVersion, FeatureLevel, ClientMetricsConfig, FeaturesEpoch, PartitionDirAssignment}
use Rattle.model.specs.declared.Kind.TheVariants.{PartitionOffsetAdvance, GroupConfig, ControllerRegistration, TopicFreeze, BreakGlassProposal, DeleteBreakGlassProposal, PartitionElr, PartitionRecovery, PartitionUpdate, BrokerRegistrationChange, UnregisterController, LogOffset}
use Rattle.laws_records.specs.Runs.{run-bytes}
use Rattle.laws_records.specs.Faults.{fault-value, fault-ascends, fault-whole, fault-short}
use Rattle.laws_records.specs.Kinds.{kind_number_lem, number_range}
use Rattle.laws_records.specs.Records.{length_record}
use Rattle.keys.specs.Keys.{kind_in, run_in, key_in, WidthsFit, Keyed}

-- an image, as the log, knows the kinds up to 25
pub known_range : (k : Kind) → unknown stored k ≡ 0 → (0 < kind_number k) × (kind_number k ≤ 25)
known_range k u = go (eqb (kind_number k) 26) refl u
  where
    go : (b : Bool) → eqb (kind_number k) 26 ≡ b → cond {A = ℕ} b 3 0 ≡ 0 → (0 < kind_number k) × (kind_number k ≤ 25)
    go true e q = absurd (omega arith)
    go false e q =
        let d = eqb-false (kind_number k) 26 e in
        let r = number_range k in
        (r.0, omega arith)

widths_fit : (k : Kind) (run : Run) → fault stored k run ≡ 0 → WidthsFit k run
unfolding rows_of shape_of kind_number
widths_fit Topic run ok = tt
widths_fit Partition run ok = fault-value stored Partition run ok 2 refl refl
widths_fit BrokerRegistration run ok = fault-value stored BrokerRegistration run ok 1 refl refl
widths_fit DeleteTopic run ok = tt
widths_fit TopicConfig run ok = tt
widths_fit BrokerConfig run ok = fault-value stored BrokerConfig run ok 1 refl refl
widths_fit ClientQuota run ok = fault-ascends stored ClientQuota run ok
widths_fit ProducerIds run ok = tt
widths_fit UnregisterBroker run ok = tt
widths_fit KRaftVersion run ok = tt
widths_fit FeatureLevel run ok = tt
widths_fit ClientMetricsConfig run ok = tt
widths_fit FeaturesEpoch run ok = tt
widths_fit PartitionDirAssignment run ok = tt
widths_fit PartitionOffsetAdvance run ok = fault-value stored PartitionOffsetAdvance run ok 2 refl refl
widths_fit GroupConfig run ok = tt
widths_fit ControllerRegistration run ok = fault-value stored ControllerRegistration run ok 1 refl refl
widths_fit TopicFreeze run ok = tt
widths_fit BreakGlassProposal run ok = tt
widths_fit DeleteBreakGlassProposal run ok = tt
widths_fit PartitionElr run ok = fault-value stored PartitionElr run ok 2 refl refl
widths_fit PartitionRecovery run ok = fault-value stored PartitionRecovery run ok 2 refl refl
widths_fit PartitionUpdate run ok = tt
widths_fit BrokerRegistrationChange run ok = tt
widths_fit UnregisterController run ok = tt
widths_fit LogOffset run ok = tt

module _ (r : Rec) (ok : fault stored r.kind r.run ≡ 0) where
  body : drop 3 (record_bytes r) ≡ bytes_of r.run
  unfolding record_bytes
  body = refl

  pub record-run : run_in (record_bytes r) ≡ r.run
  record-run = ap run_of body ∙ run-bytes r.run (fault-whole stored r.kind r.run ok) (fault-short stored r.kind r.run ok)

  kind_in_lem : kind_of (kind_in (record_bytes r)) ≡ some r.kind
  unfolding record_bytes
  kind_in_lem = kind_number_lem r.kind

  pub record-keyed : Keyed (record_bytes r)
  record-keyed = record {
    headed = omega (arith, length_record r);
    kind = r.kind;
    known = kind_in_lem;
    widths = rw record-run (widths_fit r.kind r.run ok);
  }

  pub record-key : key_in (record_bytes r) ≡ record_key r
  unfolding key_in
  record-key = rw (kind_in_lem, record-run)

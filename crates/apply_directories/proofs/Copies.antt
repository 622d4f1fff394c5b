-- The partition of an assignment, copied to the start of a buffer, and its directories set there.
use mathlib.Core.Path.{◌≡◌, refl, sym, ap, ap₂, ◌∙◌, subst}
use mathlib.Core.Option.{none, some}
use Prim.Native.Nat.{ℕ, ◌+◌, ◌-◌, ◌≤◌, ◌<◌}
use native.Mathlib.Omega.{arith}
use lib.ListN.{length, take, drop, length-take}
use lib.Seq.{length-take-le}
use Rattle.model.specs.Number.{Bytes, AreBytes}
use Rattle.model.specs.Order.{Key}
use Rattle.model.specs.Run.{value, set_field}
use Rattle.model.specs.Kind.{kind_number}
use Rattle.model.specs.Shape.{rows_of, stored, shape_of}
use Rattle.model.specs.Record.{Rec, rec, record_bytes}
use Rattle.model.specs.Key.{rank, key_rank, partition_key}
use Rattle.model.specs.Contents.{part}
use Rattle.model.specs.declared.Kind.TheVariants.{Partition}
use Rattle.laws_records.specs.Faults.{set-fault}
use Rattle.keys.specs.Keys.{kind_in, run_in}
use Rattle.entries.specs.Entries.{Entries, Placed, IsRecord, record_in}
use Rattle.entries.proofs.Changes.{record-in}
use Rattle.image_entries.proofs.Records.{headed, run_in_lem, kind_is}
use Rattle.find.specs.Found.{Query, query_key}
use Rattle.entries.specs.Held.{entries_in}
use Rattle.keys.proofs.Fields.{PartOf, lent-value}
use Rattle.find.proofs.Queries.{partition_query, partition_key_lem, lent_query}
use Rattle.find.proofs.Held.{Held, held, none-held}
use Rattle.apply_drafts.specs.Drafts.{spells, IsDraft, Drafted, draft_room}
use Rattle.apply_drafts.proofs.Drafts.{spells_record, held_draft, set-held, copy_drafted}
use Rattle.apply_work.proofs.Made.{record-size}
use Rattle.apply_work.proofs.Entries.{part_entry}
use Rattle.apply_directories.specs.Assign.{IsAssignment, IsPartition, new_directories, Built, Copied, Changed}
use Rattle.apply_directories.proofs.Partitions.{partition_passes, name_fits, number_width}

-- 1. The partition that is sought

module _ (s r : Bytes) (a : IsAssignment r) (from to start end : ℕ) (h : PartOf r 1 from to) (g : PartOf r 2 start end) where
  pub asks : Query 2 (take (to - from) (drop from r)) (take (end - start) (drop start r))
  asks = lent_query 2 (lent-value r 1 from to h) (lent-value r 2 start end g) (partition_query _ _ (name_fits r a) (number_width r a))

  abbrev partition_in : Key
  partition_in = partition_key Partition (value 1 (record_in r).run) (value 2 (record_in r).run)

  module _ {at last : ℕ} (p : Placed s (query_key 2 (take (to - from) (drop from r)) (take (end - start) (drop start r))) at last) where
    placed : Placed s partition_in at last
    placed =
        subst (λ k. Placed s k at last)
        (ap₂ (query_key 2) (lent-value r 1 from to h) (lent-value r 2 start end g)
        ∙ partition_key_lem (value 1 (run_in r)) (value 2 (run_in r))
        ∙ ap (λ x. partition_key Partition (value 1 x) (value 2 x)) (run_in_lem r a.is)) p

    pub not_stored : last ≤ at → (b : Bytes) → Copied partition_in (entries_in s) b 0
    not_stored empty b = record { none = λ z. none-held s placed empty; there = λ z. absurd (omega arith); fits = omega arith }

    module _ (are_bytes : AreBytes s) (whole : Entries s) (longer : at < last) where
      partition-held : Held s partition_in Partition (take (last - at) (drop at s))
      unfolding key_rank rank
      partition-held = held s placed are_bytes whole longer Partition refl (omega arith)

      pub entry_fits : (b : Bytes) → draft_room ≤ length b → length (take (last - at) (drop at s)) ≤ length b
      entry_fits b room = omega (arith, record-size _ partition-held.is)

      pub copied : (b w : Bytes) {n : ℕ} → draft_room ≤ length b → length w ≡ length b
          → (n ≡ length (take (last - at) (drop at s))) × (take n w ≡ take (last - at) (drop at s)) → Copied partition_in (entries_in s) w n
      copied b w {n} room same said =
          let e = take (last - at) (drop at s) in
          let i : IsPartition e = record { is = partition-held.is; kind = kind_is e partition-held.is Partition partition-held.kind } in
          record {
            none = λ z. absurd (omega (arith, said.0, headed e i.is));
            there = λ z. (
              partition-held.found ∙ ap some (part_entry (record_in e) i.kind) ∙ ap (λ x. some (part (record_in x).run)) (sym said.1),
              subst IsPartition (sym said.1) i,
            );
            fits = omega (arith, said.0, entry_fits b room);
          }

-- 2. Its directories

module _ (b s : Bytes) (n : ℕ) (p : IsPartition (take n b)) {dirs : Bytes} {size : ℕ}
    (d : Built (new_directories (record_in s).run (record_in (take n b)).run) dirs size) where
  pub none-set : size ≡ 0 → (w : Bytes) → Changed (new_directories (record_in s).run (record_in (take n b)).run) (record_in (take n b)).run w 0
  none-set z w = record { none = λ q. d.none z; there = λ q. absurd (omega arith); fits = omega arith }

  drafted : Drafted b n (kind_number Partition) (record_in (take n b)).run
  drafted = copy_drafted (take n b) p.is Partition p.kind refl

  lent-size : length (take size dirs) ≡ size
  lent-size = length-take-le size dirs d.fits

  module _ (fits : n ≤ length b) (room : draft_room ≤ length b) where
    pub may-set : (n + 3 + length (take size dirs) ≤ length b) × (length (take size dirs) < 65536) × IsDraft (take n b)
    may-set = (
      omega (arith, record-size (take n b) p.is, length-take-le n b fits, lent-size, d.whole, d.few),
      omega (arith, lent-size, d.whole, d.few),
      held_draft drafted,
    )

    -- the record that stands there then
    pub dirs_set : (size ≡ 0 → ⊥) → (w : Bytes) {r : ℕ} → length w ≡ length b
        → (take r w ≡ spells (kind_in b) (set_field 9 (take size dirs) (run_in (take n b)))) × (r ≤ n + 3 + length (take size dirs))
        → Changed (new_directories (record_in s).run (record_in (take n b)).run) (record_in (take n b)).run w r
    unfolding rows_of shape_of kind_number
    dirs_set z w {r} same said =
        let run = (record_in (take n b)).run in
        let v = take size dirs in
        let ok = partition_passes (take n b) p in
        let bytes : take r w ≡ record_bytes (rec Partition (set_field 9 v run)) =
        set-held drafted 9 v said.0 ∙ spells_record (rec Partition (set_field 9 v run)) in
        let passes = set-fault stored Partition run ok 9 refl v refl (omega (arith, lent-size, d.whole), omega (arith, lent-size, d.few)) in
        let i : IsRecord (take r w) = record { value = rec Partition (set_field 9 v run); bytes = bytes; passes = passes } in
        let new : record_in (take r w) ≡ rec Partition (set_field 9 v run) = record-in (take r w) i in
        record {
          none = λ q. absurd (omega (arith, headed (take r w) i, length-take r w));
          there = λ q. (
            v,
            d.there (omega arith),
            record { is = i; kind = ap (λ (x : Rec). x.kind) new },
            ap (λ (x : Rec). x.run) new,
          );
          fits = omega (arith, said.1, may-set.0);
        }

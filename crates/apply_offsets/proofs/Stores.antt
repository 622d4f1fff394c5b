-- The record that an advance stores: built in a buffer, and set in its place.
use mathlib.Core.Path.{◌≡◌, refl, sym, ap, ◌∙◌, subst}
use mathlib.Core.List.{List, [], ◌∷◌}
use Prim.Native.Nat.{ℕ, ◌-◌, ◌%◌}
use lib.ListN.{take}
use Rattle.model.specs.Number.{Bytes, bytes, span, half, place}
use Rattle.model.specs.Run.{Run, set_field}
use Rattle.model.specs.Kind.{kind_number}
use Rattle.model.specs.Shape.{rows_of, stored, shape_of, fault}
use Rattle.model.specs.Record.{Rec, rec, record_bytes}
use Rattle.model.specs.Contents.{Entry, storable}
use Rattle.model.specs.Move.{put_m, plan}
use Rattle.model.specs.declared.Kind.TheVariants.{PartitionOffsetAdvance}
use Rattle.laws.specs.Numbers.{length-bytes}
use Rattle.laws_records.specs.Faults.{set-fault}
use Rattle.keys.specs.Keys.{kind_in, run_in}
use Rattle.entries.specs.Entries.{IsRecord, record_in}
use Rattle.entries.proofs.Changes.{record-in}
use Rattle.apply_drafts.specs.Drafts.{spells, IsDraft, Drafted}
use Rattle.apply_drafts.proofs.Drafts.{spells_record, held_draft, set-held, copy_drafted}
use Rattle.apply_work.specs.Work.{Made}
use Rattle.apply_work.specs.declared.Bounds.{Bounds}
use Rattle.apply_moves.specs.Moves.{IsPlain}
use Rattle.apply_moves.proofs.Singles.{set_move}
use Rattle.apply_offsets.specs.Advances.{sum_after, offset_rec}
use Rattle.apply_offsets.proofs.Sums.{sum_bytes_lem}

module _ (advance : Bytes) (i : IsRecord advance) (is : (record_in advance).kind ≡ PartitionOffsetAdvance) where
  abbrev run : Run
  run = (record_in advance).run

  passes : fault stored PartitionOffsetAdvance run ≡ 0
  passes =
      subst (λ k. fault stored k run ≡ 0) is (subst (λ (r : Rec). fault stored r.kind r.run ≡ 0) (sym (record-in advance i)) i.passes)

  -- 1. Built in a buffer that the advance was copied to

  module _ (b : Bytes) (n : ℕ) (copied : take n b ≡ advance) where
    drafted : Drafted b n (kind_number PartitionOffsetAdvance) run
    drafted = copy_drafted advance i PartitionOffsetAdvance is copied

    pub copied_draft : IsDraft (take n b)
    copied_draft = held_draft drafted

    pub offset_drafted : (o : ℕ) {v : Bytes} → v ≡ bytes 8 (place 8 o) → {s : Bytes}
        → s ≡ spells (kind_in b) (set_field 3 v (run_in (take n b))) → s ≡ record_bytes (offset_rec run o)
    offset_drafted o {v} ev e =
        set-held drafted 3 v e
        ∙ ap (λ x. spells (kind_number PartitionOffsetAdvance) (set_field 3 x run)) ev
        ∙ spells_record (offset_rec run o)

  -- 2. Set in its place

  module _ (s : Bytes) (o : ℕ) (built : s ≡ record_bytes (offset_rec run o)) where
    pub offset_record : IsRecord s
    unfolding rows_of shape_of kind_number
    offset_record = record {
      value = offset_rec run o;
      bytes = built;
      passes =
          set-fault stored PartitionOffsetAdvance run passes 3 refl (bytes 8 (place 8 o)) refl (length-bytes 8 (place 8 o));
    }

    same_record : record_in s ≡ offset_rec run o
    unfolding offset_record
    same_record = record-in s offset_record

    pub offset_plain : IsPlain (record_in s)
    unfolding kind_number
    offset_plain = subst IsPlain (sym same_record) (record { no_topic = refl; no_partition = refl })

    same_move : (l : List Entry) → o ≡ (sum_after run l - half 8) % span 8
        → set_move (record_in s) ∷ [] ≡ plan PartitionOffsetAdvance run l
    unfolding plan storable
    same_move l e =
        ap (λ r. set_move r ∷ []) same_record
        ∙ ap (λ v. put_m (rec PartitionOffsetAdvance (set_field 3 v run)) ∷ []) (sum_bytes_lem (sum_after run l) o e)

    pub offset_made : (l : List Entry) → o ≡ (sum_after run l - half 8) % span 8
        → {w v : Bytes} {bounds r : Bounds} → Made (set_move (record_in s) ∷ []) w bounds v r → Made (plan PartitionOffsetAdvance run l) w bounds v r
    offset_made l e {w} {v} {bounds} {r} m = subst (λ ms. Made ms w bounds v r) (same_move l e) m

-- The offset that is stored for an advance's partition, by the bytes at the place of the advance's key.
use mathlib.Core.Path.{◌≡◌, refl, sym, ap, ◌∙◌}
use Prim.Native.Nat.{ℕ, ◌-◌, ◌≤◌, ◌<◌}
use native.Mathlib.Omega.{arith}
use lib.ListN.{length, take, drop}
use Rattle.model.specs.Choice.{given}
use Rattle.model.specs.Number.{Bytes, AreBytes, number, bytes, half, place}
use Rattle.model.specs.Run.{value}
use Rattle.model.specs.Kind.{kind_number}
use Rattle.model.specs.Shape.{rows_of, shape_of}
use Rattle.model.specs.Key.{rank, key_of, key_rank}
use Rattle.model.specs.Contents.{record_key}
use Rattle.model.specs.Move.{run_at, stored_offset}
use Rattle.model.specs.declared.Kind.TheVariants.{PartitionOffsetAdvance}
use Rattle.laws_image.specs.Ranks.{key_rank_lem}
use Rattle.keys.specs.Keys.{kind_in, run_in, key_in}
use Rattle.entries.specs.Entries.{Entries, Placed, IsRecord, record_in}
use Rattle.entries.proofs.Changes.{record-in, key_in_lem}
use Rattle.image_entries.proofs.Records.{headed, kind_in_lem, run_in_lem, value_is}
use Rattle.entries.specs.Held.{entries_in}
use Rattle.find.proofs.Held.{Held, held, held-run, none-run}

-- 1. A record's advance, or an entry's offset

width_of : (e : Bytes) → IsRecord e → kind_in e ≡ kind_number PartitionOffsetAdvance → length (value 3 (run_in e)) ≡ 8
unfolding rows_of shape_of kind_number
width_of e i is = rw (run_in_lem e i) (value_is e i PartitionOffsetAdvance is 3 refl refl)

-- what `place_in` asks for
abbrev Asked : Bytes → Type 0
Asked e = (3 ≤ length e) × (0 < 8) × (8 ≤ 8) × (length (value 3 (run_in e)) ≡ 8)

asked : (e : Bytes) → IsRecord e → kind_in e ≡ kind_number PartitionOffsetAdvance → Asked e
asked e i is = (headed e i, omega arith, omega arith, width_of e i is)

module _ (rec : Bytes) (i : IsRecord rec) (is : (record_in rec).kind ≡ PartitionOffsetAdvance) where
  pub advance_asked : Asked rec
  advance_asked = asked rec i (kind_in_lem rec i ∙ ap kind_number is)

  pub advance-place : {n : ℕ} → n ≡ place 8 (number (value 3 (run_in rec))) → n ≡ place 8 (number (value 3 (record_in rec).run))
  advance-place e = e ∙ ap (λ r. place 8 (number (value 3 r))) (run_in_lem rec i)

  -- 2. The stored offset

  same_key_lem : key_in rec ≡ key_of PartitionOffsetAdvance (record_in rec).run
  same_key_lem = key_in_lem rec i ∙ ap record_key (sym (record-in rec i)) ∙ ap (λ k. key_of k (record_in rec).run) is

  module _ (s : Bytes) {at end : ℕ} (p : Placed s (key_in rec) at end) where
    abbrev offset_place : ℕ
    offset_place = place 8 (number (stored_offset (record_in rec).run (entries_in s)))

    by_key : place 8 (number (given (run_at (key_in rec) (entries_in s)) (bytes 8 0) (value 3))) ≡ offset_place
    by_key = ap (λ k. place 8 (number (given (run_at k (entries_in s)) (bytes 8 0) (value 3)))) same_key_lem

    pub no_offset : end ≤ at → half 8 ≡ offset_place
    no_offset empty = sym (ap (λ o. place 8 (number (given o (bytes 8 0) (value 3)))) (none-run s p empty)) ∙ by_key

    module _ (are_bytes : AreBytes s) (whole : Entries s) (longer : at < end) where
      offset-held : Held s (key_in rec) PartitionOffsetAdvance (take (end - at) (drop at s))
      unfolding rank
      offset-held =
          held s p are_bytes whole longer PartitionOffsetAdvance
          (ap key_rank same_key_lem ∙ key_rank_lem PartitionOffsetAdvance (record_in rec).run) (omega arith)

      pub offset_asked : Asked (take (end - at) (drop at s))
      offset_asked = asked _ offset-held.is offset-held.kind

      pub offset_place_lem : {n : ℕ} → n ≡ place 8 (number (value 3 (run_in (take (end - at) (drop at s))))) → n ≡ offset_place
      unfolding kind_number
      offset_place_lem e = e ∙ ap (λ o. place 8 (number (given o (bytes 8 0) (value 3)))) (sym (held-run offset-held refl)) ∙ by_key

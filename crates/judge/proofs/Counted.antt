-- The stored partitions of a topic, counted.
use mathlib.Core.Path.{◌≡◌, refl, ap, ◌∙◌}
use mathlib.Core.Bool.{Bool, false}
use mathlib.Core.List.{List, [], ◌∷◌, map}
use native.Mathlib.Omega.{arith}
use borrow.Author.Tests.{ne_eqb}
use Rattle.model.specs.Number.{Bytes}
use Rattle.model.specs.Order.{same_bytes}
use Rattle.model.specs.Run.{value}
use Rattle.model.specs.Kind.{kind_number}
use Rattle.model.specs.Record.{Rec}
use Rattle.model.specs.Key.{rank, subject, key_of, key_rank, key_name}
use Rattle.model.specs.Map.{count}
use Rattle.model.specs.Contents.{record_key, of_topic, partitions}
use Rattle.model.specs.Image.{entry_of}
use Rattle.model.specs.declared.Kind.TheVariants.{Partition}
use Rattle.laws_image.specs.Entries.{entry_key}
use Rattle.laws_image.specs.Ranks.{rank_injective}
use Rattle.keys.specs.Keys.{kind_in, run_in}
use Rattle.entries.specs.Entries.{IsRecord, record_in}
use Rattle.image_entries.proofs.Records.{kind_in_lem, run_in_lem, kind_is}
use Rattle.image_entries.proofs.Counted.{how_many}

-- 1. One entry

module _ (name : Bytes) where
  other_kind : (r : Rec) → (r.kind ≡ Partition → ⊥) → false ≡ of_topic name (record_key r)
  unfolding of_topic key_of key_rank
  other_kind r h =
      let apart : rank r.kind ≡ rank Partition → ⊥ = λ e. h (rank_injective r.kind Partition e (unfold rank in omega arith)) in
      rw (ne_eqb (rank r.kind) (rank Partition) apart)

  partition : (r : Rec) → r.kind ≡ Partition → same_bytes (value 1 r.run) name ≡ of_topic name (record_key r)
  unfolding of_topic key_of subject rank key_rank key_name
  partition r h = rw h

  module _ (e : Bytes) (i : IsRecord e) where
    pub not_of : (kind_in e ≡ 2 → ⊥) → false ≡ of_topic name (record_key (record_in e))
    unfolding kind_number
    not_of h = other_kind (record_in e) (λ q. h (kind_in_lem e i ∙ ap kind_number q))

    pub is_of : kind_in e ≡ 2 → {b : Bool} → b ≡ same_bytes (value 1 (run_in e)) name → b ≡ of_topic name (record_key (record_in e))
    unfolding kind_number
    is_of h q = q ∙ ap (λ r. same_bytes (value 1 r) name) (run_in_lem e i) ∙ partition (record_in e) (kind_is e i Partition h)

-- 2. All entries

abbrev pub of_name : Bytes → Rec → Bool
of_name name r = of_topic name (record_key r)

pub partition-count : (name : Bytes) (l : List Rec) → how_many (of_name name) l ≡ partitions name (map entry_of l)
unfolding how_many partitions count
partition-count name [] = refl
partition-count name (r ∷ l) = rw (entry_key r, partition-count name l)

-- The replication factor that a restore gives a topic, record by record: a partition of the topic sets it, and nothing else does.
use mathlib.Core.Path.{◌≡◌, refl, sym, ap, ◌∙◌}
use mathlib.Core.Bool.{Bool, true, false, cond}
use mathlib.Core.List.{List, [], ◌∷◌}
use Prim.Native.Nat.{ℕ}
use native.Mathlib.Omega.{arith}
use borrow.Author.Tests.{eqb-true}
use lib.Dec.{eqb}
use Rattle.model.specs.Choice.{folded}
use Rattle.model.specs.Number.{Bytes, number}
use Rattle.model.specs.Order.{same_bytes}
use Rattle.model.specs.Run.{Run, value}
use Rattle.model.specs.Kind.{kind_number}
use Rattle.model.specs.Record.{Rec}
use Rattle.model.specs.Key.{rank, subject, key_of, key_rank, key_name}
use Rattle.model.specs.Contents.{topic, part, plain, record_key, of_topic}
use Rattle.model.specs.Image.{entry_of}
use Rattle.model.specs.Move.{replicas, node_count}
use Rattle.model.specs.Snapshot.{last_factor, restored_factor}
use Rattle.model.specs.declared.Kind.TheVariants.{Partition}
use Rattle.laws.specs.Choice.{and_left}
use Rattle.laws.specs.Lists.{All}
use Rattle.laws_records.specs.Kinds.{number_injective}
use Rattle.laws_image.specs.Ranks.{rank_injective, key_rank_lem}
use Rattle.restore_settled.specs.Settled.{factor_of}

module _ (name : Bytes) where
  -- a partition is told by its first field
  of_partition : (f : Run) → of_topic name (key_of Partition f) ≡ same_bytes (value 1 f) name
  unfolding of_topic key_of subject key_rank key_name rank
  of_partition f = refl

  module _ (r : Rec) where
    partition_kind : eqb (kind_number r.kind) 2 ≡ true → r.kind ≡ Partition
    unfolding kind_number
    partition_kind e = number_injective r.kind Partition (eqb-true (kind_number r.kind) 2 e)

    of_kind : r.kind ≡ Partition → of_topic name (record_key r) ≡ same_bytes (value 1 r.run) name
    of_kind e = ap (λ k. of_topic name (key_of k r.run)) e ∙ of_partition r.run

    pub other_factor : (f : ℕ) → of_topic name (record_key r) ≡ false → last_factor name f (entry_of r) ≡ f
    unfolding entry_of last_factor
    other_factor f h = go (eqb (kind_number r.kind) 1) (eqb (kind_number r.kind) 2) refl
      where
        go : (t p : Bool) → eqb (kind_number r.kind) 2 ≡ p
            → last_factor name f (cond t (topic (value 1 r.run) (value 2 r.run) (number (value 3 r.run)) (number (value 4 r.run)) (eqb (number (value 5 r.run)) 1)) (cond p (part r.run) (plain r))) ≡ f
        go true p e = refl
        go false true e = rw (sym (of_kind (partition_kind e)) ∙ h)
        go false false e = refl

    own_kind : of_topic name (record_key r) ≡ true → r.kind ≡ Partition
    unfolding of_topic rank
    own_kind h =
        let same = eqb-true (key_rank (record_key r)) (rank Partition) (and_left _ _ h) in
        rank_injective r.kind Partition (sym (key_rank_lem r.kind r.run) ∙ same) (omega arith)

    pub own_factor : (f : ℕ) → of_topic name (record_key r) ≡ true → last_factor name f (entry_of r) ≡ node_count (replicas r.run)
    unfolding entry_of last_factor kind_number
    own_factor f h = rw (own_kind h, sym (of_kind (own_kind h)) ∙ h)

    pub factor_skips : (f : ℕ) (l : List Rec) → of_topic name (record_key r) ≡ false → factor_of name f (r ∷ l) ≡ factor_of name f l
    unfolding restored_factor folded
    factor_skips f l h = ap (λ x. factor_of name x l) (other_factor f h)

    pub factor_takes : (f : ℕ) (l : List Rec) → of_topic name (record_key r) ≡ true → factor_of name f (r ∷ l) ≡ factor_of name (node_count (replicas r.run)) l
    unfolding restored_factor folded
    factor_takes f l h = ap (λ x. factor_of name x l) (own_factor f h)

  pub factor_stays : (f : ℕ) (l : List Rec) → All (λ r. of_topic name (record_key r) ≡ false) l → factor_of name f l ≡ f
  unfolding restored_factor folded
  factor_stays f [] h = refl
  factor_stays f (r ∷ l) h = factor_skips r f l h.0 ∙ factor_stays f l h.1

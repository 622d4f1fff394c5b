-- Whether an entry is a short partition, by its bytes: its kind, and the nodes that three of its fields list.
use mathlib.Core.Path.{◌≡◌, refl, sym, ap, ap₂, ◌∙◌, subst}
use mathlib.Core.Bool.{Bool, true, false, cond}
use Prim.Native.Nat.{ℕ, ◌-◌, ◌/◌, ◌≤◌}
use borrow.Author.Tests.{ne_eqb}
use lib.Dec.{eqb, ltb}
use lib.ListN.{length, take, drop}
use lib.Seq.{slice, length-slice}
use Rattle.model.specs.Number.{Bytes}
use Rattle.model.specs.Run.{value}
use Rattle.model.specs.Kind.{kind_number}
use Rattle.model.specs.Record.{Rec}
use Rattle.model.specs.Contents.{topic, plain}
use Rattle.model.specs.Image.{entry_of}
use Rattle.model.specs.Nodes.{nodes_of, outside}
use Rattle.model.specs.Shape.{rows_of, stored, shape_of, fault}
use Rattle.model.specs.Move.{isr, node_count}
use Rattle.model.specs.Lookup.{expected, is_short}
use Rattle.model.specs.declared.Kind.TheVariants.{Partition}
use Rattle.laws_records.specs.Kinds.{number_injective}
use Rattle.laws_records.specs.Faults.{fault-value}
use Rattle.keys.specs.Keys.{kind_in, run_in}
use Rattle.keys.proofs.Found.{lent_slice}
use Rattle.entries.specs.Entries.{IsRecord, record_in}
use Rattle.entries.proofs.Changes.{record-in}
use Rattle.image_entries.proofs.Records.{kind_in_lem, run_in_lem}

-- 1. Records

other_kind : (r : Rec) → (kind_number r.kind ≡ 2 → ⊥) → false ≡ is_short (entry_of r)
unfolding entry_of is_short
other_kind r h = rw (ne_eqb (kind_number r.kind) 2 h) (go (eqb (kind_number r.kind) 1) _ _ _ _ _)
  where
    go : (b : Bool) (name id : Bytes) (count factor : ℕ) (named : Bool) → false ≡ is_short (cond b (topic name id count factor named) (plain r))
    go true name id count factor named = refl
    go false name id count factor named = refl

partition : (r : Rec) → kind_number r.kind ≡ 2 → ltb (node_count (isr r.run)) (expected r.run) ≡ is_short (entry_of r)
unfolding entry_of is_short
partition r h = rw h

-- 2. Their bytes

module _ (e : Bytes) (i : IsRecord e) where
  pub not_short : (kind_in e ≡ 2 → ⊥) → false ≡ is_short (entry_of (record_in e))
  not_short h = other_kind (record_in e) (λ q. h (kind_in_lem e i ∙ q))

  -- where a field's value stands
  abbrev Part : ℕ → ℕ → ℕ → Type 0
  Part tag start end = (slice start end e ≡ value tag (run_in e)) × (start ≤ end) × (end ≤ length e)

  nodes_in : (tag start end : ℕ) → Part tag start end → (end - start) / 8 ≡ node_count (value tag (record_in e).run)
  nodes_in tag start end h =
      ap (λ n. n / 8) (sym (length-slice start end e h.2) ∙ ap length (h.0 ∙ ap (value tag) (run_in_lem e i)))

  -- a list of nodes as it is lent, and how many there are
  lent : (tag start end : ℕ) → Part tag start end → take (end - start) (drop start e) ≡ value tag (record_in e).run
  lent tag start end h = lent_slice e start end h.1 ∙ h.0 ∙ ap (value tag) (run_in_lem e i)

  module _ (is : kind_in e ≡ 2) where
    passes : fault stored Partition (record_in e).run ≡ 0
    unfolding kind_number
    passes =
        let k : (record_in e).kind ≡ Partition = number_injective (record_in e).kind Partition (sym (kind_in_lem e i) ∙ is) in
        subst (λ x. fault stored x (record_in e).run ≡ 0) k
        (subst (λ (r : Rec). fault stored r.kind r.run ≡ 0) (sym (record-in e i)) i.passes)

    pub replicas_few : {a b : ℕ} → Part 4 a b → length (take (b - a) (drop a e)) / 8 ≤ 64
    unfolding rows_of shape_of kind_number
    replicas_few {a} {b} p = rw (lent 4 a b p) (fault-value stored Partition (record_in e).run passes 4 refl refl).1

    pub adding_few : {a b : ℕ} → Part 7 a b → length (take (b - a) (drop a e)) / 8 ≤ 64
    unfolding rows_of shape_of kind_number
    adding_few {a} {b} p = rw (lent 7 a b p) (fault-value stored Partition (record_in e).run passes 7 refl refl).1

    pub short-told : {a b c d f g n : ℕ} → Part 4 a b → Part 5 c d → Part 7 f g
        → n ≡ outside (nodes_of (take (g - f) (drop f e))) (nodes_of (take (b - a) (drop a e)))
        → ltb ((d - c) / 8) n ≡ is_short (entry_of (record_in e))
    short-told {a} {b} {c} {d} {f} {g} p q r h =
        let all : outside (nodes_of (take (g - f) (drop f e))) (nodes_of (take (b - a) (drop a e))) ≡ expected (record_in e).run =
        ap₂ (λ x y. outside (nodes_of x) (nodes_of y)) (lent 7 f g r) (lent 4 a b p) in
        ap₂ ltb (nodes_in 5 c d q) (h ∙ all) ∙ partition (record_in e) (sym (kind_in_lem e i) ∙ is)

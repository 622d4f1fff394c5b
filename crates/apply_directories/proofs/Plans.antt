-- The moves of an assignment.
use mathlib.Core.Path.{◌≡◌, refl, sym, ap, ◌∙◌, subst}
use mathlib.Core.List.{[], ◌∷◌, map}
use mathlib.Core.Option.{Option, none, some}
use Prim.Native.Nat.{ℕ, ◌+◌, ◌≤◌}
use native.Mathlib.Omega.{arith}
use lib.ListN.{length, take}
use Rattle.model.specs.Choice.{given}
use Rattle.model.specs.Number.{Bytes}
use Rattle.model.specs.Run.{Run, value, set_field}
use Rattle.model.specs.Record.{rec}
use Rattle.model.specs.Key.{key_of, partition_key}
use Rattle.model.specs.Map.{put, get}
use Rattle.model.specs.Contents.{part, key, kept, record_key}
use Rattle.model.specs.Image.{entry_of}
use Rattle.model.specs.Move.{directories_m, on_real, on_empties, fields, replicas, directories, node_count, filled, assigned, directory_moves, plan}
use Rattle.model.specs.declared.Kind.TheVariants.{Partition, PartitionDirAssignment}
use Rattle.laws.specs.Choice.{over}
use Rattle.laws.specs.Map.{Asc, get_in}
use Rattle.entries.specs.Entries.{record_in}
use Rattle.apply_work.specs.Work.{reals_in, groups_in, Good, held_in, Made}
use Rattle.apply_work.specs.declared.Bounds.{Bounds}
use Rattle.apply_work.proofs.Entries.{entries-put, part_entry}
use Rattle.apply_work.proofs.Made.{record-size, made_none, made_one}
use Rattle.apply_directories.specs.Assign.{IsPartition, slot_in, new_directories, Copied, Changed}
use Rattle.apply_directories.proofs.Puts.{directories-put}

-- a partition's record stands for its entry
pub part-kept : (s : Bytes) → IsPartition s → kept (entry_of (record_in s)) ≡ record_in s
unfolding kept
part-kept s i =
    let kinds : (record_in s).kind ≡ Partition = i.kind in
    ap kept (part_entry (record_in s) i.kind) ∙ sym (λ j. rec (kinds j) (record_in s).run)

-- the moves by the new directories
moves_by : (f p : Run) → directory_moves f p ≡ given (new_directories f p) [] (λ v. directories_m (key_of Partition p) v ∷ [])
unfolding directory_moves new_directories
moves_by f p = go (slot_in f p)
  where
    go : (o : Option ℕ)
        → given o [] (λ slot. directories_m (key_of Partition p) (assigned slot (value 4 f) (filled (node_count (replicas p)) (directories p))) ∷ [])
        ≡ given (over (λ slot. assigned slot (value 4 f) (filled (node_count (replicas p)) (directories p))) o) [] (λ v. directories_m (key_of Partition p) v ∷ [])
    go none = refl
    go (some n) = refl

module _ (f : Run) (w : Bytes) (bounds : Bounds) {b : Bytes} {n : ℕ}
    (c : Copied (partition_key Partition (value 1 f) (value 2 f)) (held_in w bounds) b n) where
  pub none_stored : n ≡ 0 → Good w bounds → Made (plan PartitionDirAssignment f (held_in w bounds)) w bounds w bounds
  unfolding plan fields
  none_stored z good = rw (c.none z) (made_none good)

  module _ (z : n ≡ 0 → ⊥) where
    abbrev old : Run
    old = (record_in (take n b)).run

    old-there : get key (partition_key Partition (value 1 f) (value 2 f)) (held_in w bounds) ≡ some (part (record_in (take n b)).run)
    old-there = (c.there (omega arith)).0

    pub partition-there : IsPartition (take n b)
    partition-there = (c.there (omega arith)).1

    plan_is : plan PartitionDirAssignment f (held_in w bounds) ≡ given (new_directories f old) [] (λ v. directories_m (key_of Partition old) v ∷ [])
    unfolding plan fields
    plan_is = ap (λ o. given (fields o) [] (directory_moves f)) old-there ∙ moves_by f old

    module _ {u : Bytes} {m : ℕ} (d : Changed (new_directories f old) old u m) where
      -- no such replica
      pub none-assigned : m ≡ 0 → Good w bounds → Made (plan PartitionDirAssignment f (held_in w bounds)) w bounds w bounds
      none-assigned q good =
          subst (λ ms. Made ms w bounds w bounds) (sym (plan_is ∙ ap (λ o. given o [] (λ v. directories_m (key_of Partition old) v ∷ [])) (d.none q)))
          (made_none good)

      pub new-there : (m ≡ 0 → ⊥) → IsPartition (take m u)
      new-there q = (d.there (omega arith)).2

      pub assigned-there : (m ≡ 0 → ⊥) → Asc key (held_in w bounds) → {x : Bytes} {r : Bounds}
          → Good x r × (reals_in x r ≡ put record_key (record_in (take m u)) (reals_in w bounds)) × (groups_in x r ≡ groups_in w bounds) ×
          (r.used ≤ bounds.used + length (take m u)) → Made (plan PartitionDirAssignment f (held_in w bounds)) w bounds x r
      unfolding on_real on_empties key
      assigned-there q asc {x} {r} h =
          let t = d.there (omega arith) in
          let v = t.0 in
          let k : key_of Partition old ≡ partition_key Partition (value 1 f) (value 2 f) =
          (get_in key (partition_key Partition (value 1 f) (value 2 f)) (held_in w bounds) (part old) old-there).1 in
          let here : get key (key_of Partition old) (held_in w bounds) ≡ some (part old) = ap (λ y. get key y (held_in w bounds)) k ∙ old-there in
          let entry : entry_of (record_in (take m u)) ≡ part (set_field 9 v old) = part_entry (record_in (take m u)) t.2.kind ∙ ap part t.3 in
          let real : held_in x r ≡ on_real (directories_m (key_of Partition old) v) (held_in w bounds) =
          ap (map entry_of) h.1
          ∙ entries-put (record_in (take m u)) (reals_in w bounds)
          ∙ ap (λ y. put key y (held_in w bounds)) entry
          ∙ sym (directories-put old v (held_in w bounds) asc here) in
          subst (λ ms. Made ms w bounds x r) (sym (plan_is ∙ ap (λ o. given o [] (λ y. directories_m (key_of Partition old) y ∷ [])) t.1))
          (made_one (directories_m (key_of Partition old) v) h.0 real h.2 (omega (arith, h.3, record-size (take m u) t.2.is)))

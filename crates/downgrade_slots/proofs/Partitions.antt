-- A partition's slots, by its fields: how many they are, and what their records are.
use mathlib.Core.Path.{◌≡◌, refl, sym, ap, ap₂, ◌∙◌}
use mathlib.Core.Bool.{Bool, true, false, cond}
use mathlib.Core.List.{[], ◌∷◌, ◌++◌, append-nil}
use Prim.Native.Nat.{ℕ, zero, suc, ◌+◌, ◌-◌, ◌*◌, ◌/◌, ◌≤◌, ◌<◌}
use native.Mathlib.Omega.{arith}
use lib.ListN.{length, take, drop, length-append, length-drop}
use lib.Seq.{slice, length-take-le}
use Rattle.model.specs.Choice.{joined}
use Rattle.model.specs.Number.{Bytes}
use Rattle.model.specs.Order.{same_bytes}
use Rattle.model.specs.Run.{Run, field, value}
use Rattle.model.specs.Kind.{kind_number}
use Rattle.model.specs.Shape.{rows_of, shape_of}
use Rattle.model.specs.Record.{record_bytes}
use Rattle.model.specs.Move.{replicas, directories}
use Rattle.model.specs.Downgrade.{migrating, assignment, assignments, slots}
use Rattle.model.specs.declared.Kind.TheVariants.{Partition}
use Rattle.laws.specs.Lists.{joined-append}
use Rattle.keys.specs.Keys.{kind_in, run_in}
use Rattle.keys.proofs.Found.{lent_slice, part_length}
use Rattle.entries.specs.Entries.{IsRecord}
use Rattle.image_entries.proofs.Records.{run_in_lem, value_is}
use Rattle.records.specs.Answers.{put_at}
use Rattle.downgrade_slots.specs.Slots.{slot_bytes, slots_bytes, slots_size, assignment_bytes}
use Rattle.downgrade_slots.proofs.Records.{length-slot}

-- 1. Slots

pub slots_are : (p : Run) (count : ℕ) (nodes dirs : Bytes) → joined record_bytes (assignments p count nodes dirs) ≡ slots_bytes (value 1 p) (value 2 p) count nodes dirs
unfolding assignments slots_bytes field
slots_are p zero nodes dirs = refl
slots_are p (suc count) nodes dirs =
    let test = same_bytes (take 16 dirs) migrating in
    let later = assignments p count (drop 8 nodes) (drop 16 dirs) in
    joined-append record_bytes (cond test [] (assignment p (take 8 nodes) ∷ [])) later
    ∙ ap₂ (λ x y. x ++ y) (go test) (slots_are p count (drop 8 nodes) (drop 16 dirs))
  where
    go : (b : Bool) → joined record_bytes (cond b [] (assignment p (take 8 nodes) ∷ [])) ≡ cond b [] (record_bytes (assignment p (take 8 nodes)))
    go true = refl
    go false = append-nil (record_bytes (assignment p (take 8 nodes)))

pub slots_long : (name number : Bytes) (count : ℕ) (nodes dirs : Bytes) → count * 8 ≤ length nodes
    → length (slots_bytes name number count nodes dirs) ≡ slots_size count (39 + length name + length number) dirs
unfolding slots_bytes slots_size
slots_long name number zero nodes dirs h = refl
slots_long name number (suc count) nodes dirs h =
    let eight : length (take 8 nodes) ≡ 8 = length-take-le 8 nodes (omega arith) in
    let one = slot_bytes name number (take 8 nodes) (take 16 dirs) in
    let later = slots_bytes name number count (drop 8 nodes) (drop 16 dirs) in
    length-append one later
    ∙ ap₂ (λ x y. x + y) (length-slot name number (take 8 nodes) (take 16 dirs) eight) (slots_long name number count (drop 8 nodes) (drop 16 dirs) (omega (arith, length-drop 8 nodes)))

-- 2. The fields of a partition

abbrev Part : Bytes → ℕ → ℕ → ℕ → Type 0
Part s tag start end = (slice start end s ≡ value tag (run_in s)) × (start ≤ end) × (end ≤ length s)

module _ (s : Bytes) (tag start end : ℕ) (h : Part s tag start end) where
  lent-value : take (end - start) (drop start s) ≡ value tag (run_in s)
  lent-value = lent_slice s start end h.1 ∙ h.0

  long : end - start ≡ length (value tag (run_in s))
  long = omega (arith, part_length s start end (value tag (run_in s)) h.1 h.2 h.0)

-- how many slots it has
module _ (s : Bytes) (a b c d : ℕ) (p : Part s 4 a b) (q : Part s 9 c d) where
  pub fewer_nodes : (b - a) / 8 < (d - c) / 16 → (b - a) / 8 ≡ slots (run_in s)
  fewer_nodes h = omega (arith, long s 4 a b p, long s 9 c d q)

  pub fewer_dirs : (d - c) / 16 ≤ (b - a) / 8 → (d - c) / 16 ≡ slots (run_in s)
  fewer_dirs h = omega (arith, long s 4 a b p, long s 9 c d q)

module _ (s : Bytes) (i : IsRecord s) (is : kind_in s ≡ 2) where
  name_short : length (value 1 (run_in s)) ≤ 255
  unfolding rows_of shape_of kind_number
  name_short = rw (run_in_lem s i) (value_is s i Partition is 1 refl refl).1

  number_width : length (value 2 (run_in s)) ≡ 4
  unfolding rows_of shape_of kind_number
  number_width = rw (run_in_lem s i) (value_is s i Partition is 2 refl refl)

  dirs_few : length (directories (run_in s)) / 16 ≤ 64
  unfolding rows_of shape_of kind_number
  dirs_few = rw (run_in_lem s i) (value_is s i Partition is 9 refl refl).1

  pub size_fits : (a b c d : ℕ) → Part s 1 a b → Part s 2 c d → 39 + (b - a) + (d - c) ≤ 304
  size_fits a b c d name number = omega (arith, long s 1 a b name, long s 2 c d number, name_short, number_width)

  -- the fields' parts, and the number of slots
  module _ (a b c d g h : ℕ) (name : Part s 1 a b) (number : Part s 2 c d) (dirs : Part s 9 g h) {count : ℕ} (ec : count ≡ slots (run_in s)) where
    pub may-count : (count ≤ 64) × (count * 16 ≤ length (take (h - g) (drop g s)))
    may-count = (omega (arith, ec, dirs_few), omega (arith, ec, ap length (lent-value s 9 g h dirs)))

    pub all-size : {n : ℕ} → (n ≡ slots_size count (39 + (b - a) + (d - c)) (take (h - g) (drop g s))) × (n ≤ 304 * count)
        → (n ≡ length (assignment_bytes (run_in s))) × (n ≤ 19 * length s)
    all-size {n} r =
        let p = run_in s in
        let size : 39 + (b - a) + (d - c) ≡ 39 + length (value 1 p) + length (value 2 p) = omega (arith, long s 1 a b name, long s 2 c d number) in
        let eight : count * 8 ≤ length (replicas p) = omega (arith, ec) in (
          r.0
              ∙ ap₂ (λ x y. slots_size count x y) size (lent-value s 9 g h dirs)
              ∙ sym (slots_long (value 1 p) (value 2 p) count (replicas p) (directories p) eight)
              ∙ ap length (sym (slots_are p count (replicas p) (directories p)))
              ∙ ap (λ x. length (joined record_bytes (assignments p x (replicas p) (directories p)))) ec,
          omega (arith, r.1, ec, long s 9 g h dirs, dirs.2),
        )

    module _ (e f : ℕ) (nodes : Part s 4 e f) where
      same_bytes_lem : slots_bytes (take (b - a) (drop a s)) (take (d - c) (drop c s)) count (take (f - e) (drop e s)) (take (h - g) (drop g s)) ≡ assignment_bytes (run_in s)
      same_bytes_lem =
          let p = run_in s in
          ap₂ (λ x y. slots_bytes x y count (take (f - e) (drop e s)) (take (h - g) (drop g s))) (lent-value s 1 a b name) (lent-value s 2 c d number)
          ∙ ap₂ (λ x y. slots_bytes (value 1 p) (value 2 p) count x y) (lent-value s 4 e f nodes) (lent-value s 9 g h dirs)
          ∙ sym (slots_are p count (replicas p) (directories p))
          ∙ ap (λ x. joined record_bytes (assignments p x (replicas p) (directories p))) ec

      pub may-put : (out : Bytes) (at : ℕ) → at + length (assignment_bytes (run_in s)) ≤ length out
          → (count * 8 ≤ length (take (f - e) (drop e s))) × (count * 16 ≤ length (take (h - g) (drop g s)))
          × (at + length (slots_bytes (take (b - a) (drop a s)) (take (d - c) (drop c s)) count (take (f - e) (drop e s)) (take (h - g) (drop g s))) ≤ length out)
      may-put out at fits = (
        omega (arith, ec, ap length (lent-value s 4 e f nodes)),
        omega (arith, ec, ap length (lent-value s 9 g h dirs)),
        rw same_bytes_lem fits,
      )

      pub all-put : (out : Bytes) (at : ℕ) {n : ℕ} {w : Bytes}
          → (n ≡ at + length (slots_bytes (take (b - a) (drop a s)) (take (d - c) (drop c s)) count (take (f - e) (drop e s)) (take (h - g) (drop g s))))
          × (w ≡ put_at out at (slots_bytes (take (b - a) (drop a s)) (take (d - c) (drop c s)) count (take (f - e) (drop e s)) (take (h - g) (drop g s))))
          → (n ≡ at + length (assignment_bytes (run_in s))) × (w ≡ put_at out at (assignment_bytes (run_in s)))
      all-put out at q = (q.0 ∙ ap (λ x. at + length x) same_bytes_lem, q.1 ∙ ap (put_at out at) same_bytes_lem)

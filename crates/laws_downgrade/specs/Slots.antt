-- A partition's listed slots, applied one after the other: all slots of its replicas are then `MIGRATING`.
use Rattle.std.specs.Prelude.{◌≡◌, List, [], ◌∷◌, ◌++◌, Bool, true, false, cond, take, drop, replicate}
use Rattle.std.proofs.Math.Path.{refl, ap}
use Rattle.std.proofs.Common.{sym, ap₂, ◌∙◌, append_assoc, append-nil, length-append, take-append-drop, take_at, drop_at, drop-drop}
use Prim.Native.Nat.{ℕ, zero, suc, ◌+◌, ◌*◌, ◌-◌, ◌≤◌, ◌<◌}
use native.Mathlib.Omega.{arith}
use Rattle.std.proofs.Math.ListN.{length, length-drop}
use Rattle.std.proofs.lemmas.List.{length-replicate, replicate-append-replicate, drop-append-le}
use Rattle.model.specs.Number.{Bytes}
use Rattle.model.specs.Order.{same_bytes}
use Rattle.model.specs.Run.{Run, set_field}
use Rattle.model.specs.Record.{Rec}
use Rattle.model.specs.Contents.{Entry, part, key, Contents}
use Rattle.model.specs.Nodes.{nodes_from, no_repeats}
use Rattle.model.specs.Move.{replicas, directories, node_width, id_width, node_count, slot_of, filled, assigned, moved}
use Rattle.model.specs.Downgrade.{migrating, assignment, assignments}
use Rattle.laws.specs.Nodes.{node_at, slot_at}
use Rattle.laws.specs.Map.{Asc}
use Rattle.laws.specs.Order.{same_bytes_true}
use Rattle.laws_records.specs.Fields.{set-set, value-set-same, value-set_other}
use Rattle.laws_downgrade.specs.Changed.{with_real, moved_all, assign_moved}

abbrev pub zeros : ℕ → Bytes
zeros n = replicate n 0

-- 1. Directories, as bytes

-- so many slots are zero; then come directories that are still to be looked at, and what was filled up
abbrev pub laid : ℕ → Bytes → Bytes → Bytes
laid i dirs f = zeros (i * id_width) ++ (dirs ++ f)

-- what is filled up at an assignment
abbrev pub fill : ℕ → ℕ → Bytes → Bytes → Bytes
fill n i dirs f = f ++ zeros (n * id_width - (i * id_width + length dirs + length f))

length-laid : (i : ℕ) (dirs f : Bytes) → length (laid i dirs f) ≡ i * id_width + length dirs + length f
length-laid i dirs f =
    omega (arith, length-append (zeros (i * id_width)) (dirs ++ f), length-replicate (i * id_width) (id 0), length-append dirs f)
  where
    id : ℕ → ℕ
    id x = x

-- a slot that is zero already
zero-slot : (i : ℕ) (dirs f : Bytes) → take id_width dirs ≡ migrating → laid i dirs f ≡ laid (suc i) (drop id_width dirs) f
zero-slot i dirs f e =
    let z = zeros (i * id_width) in
    let n : i * id_width + id_width ≡ suc i * id_width = omega arith in
    ap (λ x. z ++ (x ++ f)) (sym (take-append-drop id_width dirs) ∙ ap (λ x. x ++ drop id_width dirs) e)
    ∙ ap (λ x. z ++ x) (append_assoc migrating (drop id_width dirs) f)
    ∙ sym (append_assoc z migrating (drop id_width dirs ++ f))
    ∙ ap (λ x. x ++ (drop id_width dirs ++ f)) (replicate-append-replicate (i * id_width) id_width 0 ∙ ap zeros n)

filled-laid : (n i : ℕ) (dirs f : Bytes) → filled n (laid i dirs f) ≡ laid i dirs (fill n i dirs f)
filled-laid n i dirs f =
    let z = zeros (i * id_width) in
    let more = zeros (n * id_width - (i * id_width + length dirs + length f)) in
    ap (λ k. laid i dirs f ++ zeros (n * id_width - k)) (length-laid i dirs f)
    ∙ append_assoc z (dirs ++ f) more
    ∙ ap (λ x. z ++ x) (append_assoc dirs f more)

-- a slot that is assigned `MIGRATING`
assigned-laid : (i : ℕ) (dirs f : Bytes) → id_width ≤ length dirs → assigned i migrating (laid i dirs f) ≡ laid (suc i) (drop id_width dirs) f
assigned-laid i dirs f long =
    let z = zeros (i * id_width) in
    let lz : length z ≡ i * id_width = length-replicate (i * id_width) 0 in
    let n : i * id_width + id_width ≡ suc i * id_width = omega arith in
    let front : take (i * id_width) (laid i dirs f) ≡ z = take_at z (dirs ++ f) (i * id_width) lz in
    let back : drop (i * id_width + id_width) (laid i dirs f) ≡ drop id_width dirs ++ f =
    sym (drop-drop id_width (i * id_width) (laid i dirs f))
    ∙ ap (drop id_width) (drop_at z (dirs ++ f) (i * id_width) lz)
    ∙ drop-append-le id_width dirs f long in
    ap₂ (λ x y. x ++ migrating ++ y) front back
    ∙ ap (λ x. x ++ (drop id_width dirs ++ f)) (replicate-append-replicate (i * id_width) id_width 0 ∙ ap zeros n)

-- filled up once, there is nothing more to fill
fill_once : (n i : ℕ) (dirs f : Bytes) → id_width ≤ length dirs → fill n (suc i) (drop id_width dirs) (fill n i dirs f) ≡ fill n i dirs f
fill_once n i dirs f long =
    let k = n * id_width - (i * id_width + length dirs + length f) in
    let g = f ++ zeros k in
    let lg : length g ≡ length f + k = length-append f (zeros k) ∙ ap (λ x. length f + x) (length-replicate k 0) in
    let none : n * id_width - (suc i * id_width + length (drop id_width dirs) + length g) ≡ 0 = omega (arith, lg, length-drop id_width dirs) in
    ap (λ x. g ++ zeros x) none ∙ append-nil g

fill-next : (n i : ℕ) (dirs f : Bytes) → id_width ≤ length dirs → fill n (suc i) (drop id_width dirs) f ≡ fill n i dirs f
fill-next n i dirs f long =
    let e : suc i * id_width + length (drop id_width dirs) + length f ≡ i * id_width + length dirs + length f = omega (arith, length-drop id_width dirs) in
    ap (λ x. f ++ zeros (n * id_width - x)) e

-- 2. The pass over the slots

-- what was filled up, where records were listed
abbrev pub after : List Rec → Bytes → Bytes → Bytes
after [] f g = f
after (r ∷ rs) f g = g

after_same : (rs : List Rec) (g : Bytes) → after rs g g ≡ g
after_same [] g = refl
after_same (r ∷ rs) g = refl

module _ (p : Run) (a b : List Entry) (asc : (d : Bytes) → Asc key (a ++ (part (set_field 9 d p) ∷ b)))
    (long : node_count (replicas p) * node_width ≤ length (replicas p)) (apart : no_repeats (nodes_from (node_count (replicas p)) (replicas p)) ≡ true) where
  abbrev n : ℕ
  n = node_count (replicas p)

  abbrev holding : Contents → Bytes → Type 0
  holding c d = c.real ≡ a ++ (part (set_field 9 d p) ∷ b)

  abbrev result : Contents → Bytes → Contents
  result c d = with_real c (a ++ (part (set_field 9 d p) ∷ b))

  -- one assignment
  one : (c : Contents) (d : Bytes) (i : ℕ) → holding c d → i < n
      → moved (assignment p (node_at i (replicas p))) c ≡ result c (assigned i migrating (filled n d))
  one c d i is h =
      let q = set_field 9 d p in
      let same : replicas q ≡ replicas p = value-set_other 9 d 4 (λ e. omega arith) p in
      let dirs : directories q ≡ d = value-set-same 9 d p in
      assign_moved p q (value-set_other 9 d 1 (λ e. omega arith) p) (value-set_other 9 d 2 (λ e. omega arith) p) c a b
      (node_at i (replicas p)) i is (asc d) (ap (λ v. slot_of (node_count v) (node_at i (replicas p)) v) same ∙ slot_at n i (replicas p) long apart h)
      ∙ ap (λ r. with_real c (a ++ (part r ∷ b)))
      (ap₂ (λ v w. set_field 9 (assigned i migrating (filled (node_count v) w)) q) same dirs ∙ set-set 9 (assigned i migrating (filled n d)) d p)

  pub slots_pass : (count i : ℕ) (dirs f : Bytes) (c : Contents) → i + count ≤ n → count * id_width ≤ length dirs → holding c (laid i dirs f)
      → (let rs = assignments p count (drop (i * node_width) (replicas p)) dirs in
      moved_all rs c ≡ result c (laid (i + count) (drop (count * id_width) dirs) (after rs f (fill n i dirs f))))
  unfolding assignments moved_all
  slots_pass zero i dirs f c most room is =
      let e : i ≡ i + 0 = omega arith in
      ap (with_real c) (is ∙ ap (λ j. a ++ (part (set_field 9 (laid j dirs f) p) ∷ b)) e)
  slots_pass (suc count) i dirs f c most room is =
      go (same_bytes (take id_width dirs) migrating) refl
      (λ g d h. slots_pass count (suc i) (drop id_width dirs) g d (omega arith) (omega (arith, length-drop id_width dirs)) h)
    where
      wide : id_width ≤ length dirs
      wide = omega arith

      nodes : Bytes
      nodes = drop (i * node_width) (replicas p)

      rest : List Rec
      rest = assignments p count (drop node_width nodes) (drop id_width dirs)

      on : drop node_width nodes ≡ drop (suc i * node_width) (replicas p)
      on = let e : i * node_width + node_width ≡ suc i * node_width = omega arith in drop-drop node_width (i * node_width) (replicas p) ∙ ap (λ x. drop x (replicas p)) e

      Later : Bytes → Contents → Type 0
      Later g d =
          moved_all (assignments p count (drop (suc i * node_width) (replicas p)) (drop id_width dirs)) d
          ≡ result d (laid (suc i + count) (drop (count * id_width) (drop id_width dirs))
          (after (assignments p count (drop (suc i * node_width) (replicas p)) (drop id_width dirs)) g (fill n (suc i) (drop id_width dirs) g)))

      -- as it stands here
      later : (g : Bytes) (d : Contents) → Later g d → (h : Bytes) → after rest g (fill n (suc i) (drop id_width dirs) g) ≡ h
          → moved_all rest d ≡ result d (laid (i + suc count) (drop (suc count * id_width) dirs) h)
      later g d l h e =
          let k : suc i + count ≡ i + suc count = omega arith in
          let m : id_width + count * id_width ≡ suc count * id_width = omega arith in
          let w : drop (count * id_width) (drop id_width dirs) ≡ drop (suc count * id_width) dirs = drop-drop (count * id_width) id_width dirs ∙ ap (λ x. drop x dirs) m in
          let l2 = rw (← on) at l in
          l2 ∙ rw (k, w, e)

      go : (s : Bool) → same_bytes (take id_width dirs) migrating ≡ s → ((g : Bytes) (d : Contents) → holding d (laid (suc i) (drop id_width dirs) g) → Later g d)
          → (let rs = cond s [] (assignment p (take node_width nodes) ∷ []) ++ rest in
          moved_all rs c ≡ result c (laid (i + suc count) (drop (suc count * id_width) dirs) (after rs f (fill n i dirs f))))
      go true e ih =
          let zero = zero-slot i dirs f (same_bytes_true (take id_width dirs) migrating e) in
          later f c (ih f c (is ∙ ap (λ d. a ++ (part (set_field 9 d p) ∷ b)) zero)) (after rest f (fill n i dirs f)) (ap (after rest f) (fill-next n i dirs f wide))
      go false e ih =
          let g = fill n i dirs f in
          let d = result c (laid (suc i) (drop id_width dirs) g) in
          let step : moved (assignment p (take node_width nodes)) c ≡ d =
          one c (laid i dirs f) i is (omega arith) ∙ ap (result c) (ap (assigned i migrating) (filled-laid n i dirs f) ∙ assigned-laid i dirs g wide) in
          ap (moved_all rest) step ∙ later g d (ih g d refl) g (ap (after rest g) (fill_once n i dirs f wide) ∙ after_same rest g)

-- Lists of nodes: the library's words for a walk over them are the model's.
use mathlib.Core.Path.{◌≡◌, refl, sym, ap, ◌∙◌}
use mathlib.Core.Bool.{Bool, true, false, cond, ◌&&◌, ◌||◌, not}
use mathlib.Core.List.{List, [], ◌∷◌, ◌++◌}
use Prim.Native.Nat.{ℕ, zero, suc, ◌+◌, ◌*◌, ◌-◌, ◌/◌, ◌<◌}
use native.Mathlib.Omega.{arith}
use lib.Dec.{eqb}
use lib.ListN.{length, take, drop, get_or}
use lib.Seq.{slice, drop-drop}
use Rattle.std.specs.List.{list_any, list_all, count_by, range_with_len}
use Rattle.std.proofs.lemmas.Bool.Decides.{nat_tests}
use Rattle.std.proofs.lemmas.List.{drop-take, drop_all, at_drop_more}
use Rattle.std.proofs.lemmas.List.Recursion.{is_count_by}
use Rattle.model.specs.Number.{Bytes, number}
use Rattle.model.specs.Nodes.{nodes_from, nodes_of, is_among, no_repeats, outside}
use Rattle.laws.specs.Nodes.{length-nodes, outside-none}

-- 1. The library's words

eqb_comm : (x y : ℕ) → eqb x y ≡ eqb y x
eqb_comm x y = grind (arith, nat_tests)

pub among_any : (n : ℕ) (l : List ℕ) → list_any (λ x. eqb x n) l ≡ is_among n l
unfolding is_among
among_any n [] = refl
among_any n (x ∷ l) = λ i. eqb_comm x n i || among_any n l i

pub outside_count : (others l : List ℕ) → count_by (λ x. not (is_among x others)) l ≡ outside others l
unfolding outside
outside_count others l = sym (is_count_by (outside others) (λ x. not (is_among x others)) refl (λ x xs. turned (is_among x others) (outside others xs)) l)
  where
    turned : (b : Bool) (n : ℕ) → cond b n (suc n) ≡ cond (not b) (1 + n) n
    turned true n = refl
    turned false n = omega arith

-- 2. A list's nodes by their places

slice-shift : (i : ℕ) (v : Bytes) → slice (i * 8) (i * 8 + 8) (drop 8 v) ≡ slice (suc i * 8) (suc i * 8 + 8) v
slice-shift i v =
    let k : 8 + i * 8 ≡ suc i * 8 = omega arith in
    drop-take (i * 8) 8 (drop 8 v) ∙ ap (take 8) (drop-drop (i * 8) 8 v ∙ ap (λ j. drop j v) k) ∙ sym (drop-take (suc i * 8) 8 v)

-- one node more
pub nodes_more : (i : ℕ) (v : Bytes) → nodes_from (i + 1) v ≡ nodes_from i v ++ number (slice (i * 8) (i * 8 + 8) v) ∷ []
unfolding nodes_from
nodes_more zero v = refl
nodes_more (suc i) v =
    let e : suc i + 1 ≡ suc (i + 1) = omega arith in
    rw (e, nodes_more i (drop 8 v), slice-shift i v)

-- the node at a place
pub node_at_lem : (count i : ℕ) (v : Bytes) → i < count → get_or (nodes_from count v) i 0 ≡ number (slice (i * 8) (i * 8 + 8) v)
unfolding nodes_from
node_at_lem zero i v h = absurd (omega arith)
node_at_lem (suc count) zero v h = refl
node_at_lem (suc count) (suc i) v h = node_at_lem count i (drop 8 v) (omega arith) ∙ ap number (slice-shift i v)

-- a walk over the places from i on says what is said of the numbers from there on
places : (F G : List ℕ → Bool) (l : List ℕ) → F [] ≡ G []
    → ((j : ℕ) (js : List ℕ) → j < length l → F (drop (j + 1) l) ≡ G js → F (get_or l j 0 ∷ drop (j + 1) l) ≡ G (j ∷ js))
    → (i m : ℕ) → i + m ≡ length l → F (drop i l) ≡ G (range_with_len i m)
places F G l none step i zero e = ap F (drop_all i l (omega arith)) ∙ none
places F G l none step i (suc m) e =
    at_drop_more F l i 0 (omega arith) ∙ step i (range_with_len (i + 1) m) (omega arith) (places F G l none step (i + 1) m (omega arith))

-- whether the node at a place comes again behind it
pub again_places : (v : Bytes) (node at : ℕ) → at < length v / 8 → node ≡ number (slice (at * 8) (at * 8 + 8) v)
    → list_any (λ j. eqb (number (slice (j * 8) (j * 8 + 8) v)) node) (range_with_len (at + 1) (length v / 8 - (at + 1)))
    ≡ is_among (get_or (nodes_of v) at 0) (drop (at + 1) (nodes_of v))
again_places v node at h e =
    let count = length v / 8 in
    let l = nodes_of v in
    let is = λ (j : ℕ). eqb (number (slice (j * 8) (j * 8 + 8) v)) node in
    let long = length-nodes count v in
    let there : node ≡ get_or l at 0 = e ∙ sym (node_at_lem count at v h) in
    sym (
    places (list_any (λ x. eqb x node)) (list_any is) l refl (λ j js less rest i. eqb (node_at_lem count j v (omega arith) i) node || rest i)
    (at + 1) (count - (at + 1)) (omega arith)
    )
    ∙ among_any node (drop (at + 1) l) ∙ ap (λ n. is_among n (drop (at + 1) l)) there

-- whether no node does
pub apart_places : (l : List ℕ) (m : ℕ) → m ≡ length l → list_all (λ j. not (is_among (get_or l j 0) (drop (j + 1) l))) (range_with_len 0 m) ≡ no_repeats l
unfolding no_repeats
apart_places l m e =
    let new = λ (j : ℕ). not (is_among (get_or l j 0) (drop (j + 1) l)) in
    sym (places no_repeats (list_all new) l refl (λ j js less rest. ap (λ b. new j && b) rest) 0 m (omega arith))

-- those that were loaded are the list's
pub nodes-told : (v : Bytes) {n : ℕ} → n ≡ length v / 8 → (l : List ℕ) → take n l ≡ nodes_from n v → take n l ≡ nodes_of v
nodes-told v e l h = h ∙ ap (λ k. nodes_from k v) e

-- 3. No others

pub all-outside : (v w : Bytes) → length w ≡ 0 → length v / 8 ≡ outside (nodes_of w) (nodes_of v)
unfolding nodes_from
all-outside v [] e = sym (outside-none (nodes_of v) ∙ length-nodes (length v / 8) v)
all-outside v (x ∷ w) e = absurd (omega (arith, e))

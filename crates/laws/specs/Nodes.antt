-- Lists of nodes by their numbers.
use Rattle.std.specs.Prelude.{◌≡◌, refl, List, [], ◌∷◌, Bool, true, false, ◌||◌, not, ℕ, zero, suc, ◌+◌, ◌*◌, ◌/◌, ◌≤◌, ◌<◌, ltb, eqb, length, take, drop}
use Rattle.std.proofs.Common.{sym, ap, ◌∙◌, not-suc-le-zero, arith, eq-eqb, length-drop, drop-drop}
use Rattle.std.proofs.Math.Option.{some}
use Rattle.std.proofs.lemmas.Bool.{not-true}
use Rattle.model.specs.Choice.{is_empty}
use Rattle.model.specs.Number.{Bytes, number}
use Rattle.model.specs.Order.{same_bytes}
use Rattle.model.specs.Run.{Run}
use Rattle.model.specs.Nodes.{nodes_from, is_among, no_repeats, outside}
use Rattle.model.specs.Contents.{part}
use Rattle.model.specs.Move.{replicas, isr, adding, node_count, node_width, slot_of}
use Rattle.model.specs.Lookup.{is_short}
use Rattle.laws.specs.Choice.{and_left, and_right, true_false}
use Rattle.laws.specs.Order.{same_bytes_self, apart_same_bytes}

pub length-nodes : (n : ℕ) (v : Bytes) → length (nodes_from n v) ≡ n
unfolding nodes_from
length-nodes zero v = refl
length-nodes (suc n) v = ap suc (length-nodes n (drop 8 v))

pub outside-none : (l : List ℕ) → outside [] l ≡ length l
unfolding outside is_among
outside-none [] = refl
outside-none (x ∷ l) = ap suc (outside-none l)

-- "With no move under way the count is as before."
pub short_still : (r : Run) → adding r ≡ [] → is_short (part r) ≡ ltb (node_count (isr r)) (node_count (replicas r))
unfolding is_short nodes_from
short_still r e =
    let n = length (replicas r) / 8 in
    let none : nodes_from (length (adding r) / 8) (adding r) ≡ [] = ap (λ v. nodes_from (length v / 8) v) e in
    let all : outside [] (nodes_from n (replicas r)) ≡ n = outside-none (nodes_from n (replicas r)) ∙ length-nodes n (replicas r) in
    ap (λ l. ltb (node_count (isr r)) (outside l (nodes_from n (replicas r)))) none ∙ ap (ltb (node_count (isr r))) all

-- 02, 2: where no node comes twice, the first slot of the i-th node is i, so that an assignment reaches every slot

-- the node at a slot
abbrev pub node_at : ℕ → Bytes → Bytes
node_at i v = take node_width (drop (i * node_width) v)

node_next : (i : ℕ) (v : Bytes) → node_at (suc i) v ≡ node_at i (drop node_width v)
node_next i v =
    let e : suc i * node_width ≡ node_width + i * node_width = omega arith in
    ap (take node_width) (ap (λ n. drop n v) e ∙ sym (drop-drop (i * node_width) node_width v))

or_right_true : (a : Bool) → a || true ≡ true
or_right_true true = refl
or_right_true false = refl

among_at : (m j : ℕ) (v : Bytes) → j < m → is_among (number (node_at j v)) (nodes_from m v) ≡ true
unfolding nodes_from is_among
among_at zero j v h = absurd (not-suc-le-zero h)
among_at (suc m) zero v h = rw (eq-eqb (number (take 8 v)) (number (take 8 v)) refl)
among_at (suc m) (suc j) v h =
    let i : is_among (number (node_at (suc j) v)) (nodes_from m (drop 8 v)) ≡ true =
    ap (λ x. is_among (number x) (nodes_from m (drop 8 v))) (node_next j v) ∙ among_at m j (drop 8 v) (omega arith) in
    rw i (or_right_true (eqb (number (node_at (suc j) v)) (number (take 8 v))))

not_empty : (v : Bytes) → 1 ≤ length v → is_empty v ≡ false
not_empty [] h = absurd (not-suc-le-zero h)
not_empty (x ∷ v) h = refl

pub slot_at : (n i : ℕ) (v : Bytes) → n * node_width ≤ length v → no_repeats (nodes_from n v) ≡ true → i < n
    → slot_of n (node_at i v) v ≡ some i
unfolding slot_of nodes_from no_repeats
slot_at zero i v long apart h = absurd (not-suc-le-zero h)
slot_at (suc n) zero v long apart h = rw (not_empty v (omega arith), same_bytes_self (take 8 v))
slot_at (suc n) (suc i) v long apart h =
    let first = number (take 8 v) in
    let rest = nodes_from n (drop 8 v) in
    let new : is_among first rest ≡ false = not-true (is_among first rest) (and_left (not (is_among first rest)) (no_repeats rest) apart) in
    let there : slot_of n (node_at i (drop 8 v)) (drop 8 v) ≡ some i =
    slot_at n i (drop 8 v) (omega (arith, length-drop 8 v)) (and_right (not (is_among first rest)) (no_repeats rest) apart) (omega arith) in
    let other : same_bytes (take 8 v) (node_at i (drop 8 v)) ≡ false =
    apart_same_bytes (take 8 v) (node_at i (drop 8 v)) (λ e. true_false (ap (λ x. is_among (number x) rest) e ∙ among_at n i (drop 8 v) (omega arith)) new) in
    rw (node_next i v, not_empty v (omega arith), other, there)

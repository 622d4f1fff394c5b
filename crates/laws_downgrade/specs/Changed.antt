-- One listed record applied: the one entry of its key changes, and nothing else does.
use Rattle.std.specs.Prelude.{◌≡◌, refl, List, [], ◌∷◌, ◌++◌, map, ℕ}
use Rattle.std.proofs.Common.{sym, ap₂, ◌∙◌, inl}
use Rattle.std.proofs.Math.Path.{ap}
use Rattle.std.proofs.Math.Option.{some}
use Rattle.model.specs.Number.{Bytes}
use Rattle.model.specs.Order.{Key}
use Rattle.model.specs.Run.{Run, field, value, set_field}
use Rattle.model.specs.Record.{Rec, rec}
use Rattle.model.specs.Key.{key_of, subject, partition_key}
use Rattle.model.specs.Map.{put, get}
use Rattle.model.specs.Contents.{Entry, topic, part, plain, key, Contents}
use Rattle.model.specs.Move.{replicas, directories, node_count, set_directories, on_real, on_empties, on_fixed, move, moves, fields, run_at, slot_of, filled, assigned, directory_moves, plan, moved}
use Rattle.model.specs.Downgrade.{migrating, assignment}
use Rattle.model.specs.declared.Kind.TheVariants.{Partition, BrokerRegistration}
use Rattle.laws.specs.Lists.{all_imp, all_append, all-append-left, all-append_right, in_append_right, map-append, map_same}
use Rattle.laws.specs.Order.{Lt, lt_ne, apart_same_keys, same_keys_self, keys_total}
use Rattle.laws.specs.Map.{Over, Asc, asc_under, asc_right, put-after, in_get}

-- contents with other entries
abbrev pub with_real : Contents → List Entry → Contents
with_real c l = record { real = l; empties = c.empties; fixed = c.fixed }

unfoldable pub moved_all : List Rec → Contents → Contents
moved_all [] c = c
moved_all (r ∷ rs) c = moved_all rs (moved r c)

pub moved-append : (rs ss : List Rec) (c : Contents) → moved_all (rs ++ ss) c ≡ moved_all ss (moved_all rs c)
unfolding moved_all
moved-append [] ss c = refl
moved-append (r ∷ rs) ss c = moved-append rs ss (moved r c)

-- 1. Another entry of the same key

over_swap : (k : Key) (a b : List Entry) (x y : Entry) → key x ≡ key y → Over key k (a ++ (x ∷ b)) → Over key k (a ++ (y ∷ b))
over_swap k a b x y e u =
    all_append (λ z. Lt k (key z)) a (y ∷ b) (all-append-left (λ z. Lt k (key z)) a (x ∷ b) u)
    (let v = all-append_right (λ z. Lt k (key z)) a (x ∷ b) u in (rw e at v.0, v.1))

pub asc_swap : (a b : List Entry) (x y : Entry) → key x ≡ key y → Asc key (a ++ (x ∷ b)) → Asc key (a ++ (y ∷ b))
asc_swap [] b x y e h = (rw e at h.0, h.1)
asc_swap (z ∷ a) b x y e h = (over_swap (key z) a b x y e h.0, asc_swap a b x y e h.1)

put-here : (e x : Entry) (b : List Entry) → key e ≡ key x → put key e (x ∷ b) ≡ e ∷ b
unfolding put
put-here e x b h = rw (h, keys_total.same (key x))

pub put_swap : (a b : List Entry) (x y : Entry) → key x ≡ key y → Asc key (a ++ (x ∷ b)) → put key y (a ++ (x ∷ b)) ≡ a ++ (y ∷ b)
put_swap a b x y e h =
    put-after key y a (x ∷ b) (rw e at (asc_under key a x b h)) ∙ ap (λ l. a ++ l) (put-here y x b (sym e))

-- 2. Directories

set_other : (k : Key) (v : Bytes) (x : Entry) → (key x ≡ k → ⊥) → set_directories k v x ≡ x
unfolding set_directories key
set_other k v (topic name id count factor named) h = refl
set_other k v (part r) h = rw (apart_same_keys (key_of Partition r) k h)
set_other k v (plain r) h = refl

set_here : (v : Bytes) (q : Run) → set_directories (key_of Partition q) v (part q) ≡ part (set_field 9 v q)
unfolding set_directories
set_here v q = rw (same_keys_self (key_of Partition q))

pub set_swap : (a b : List Entry) (q : Run) (v : Bytes) → Asc key (a ++ (part q ∷ b))
    → map (set_directories (key_of Partition q) v) (a ++ (part q ∷ b)) ≡ a ++ (part (set_field 9 v q) ∷ b)
unfolding key
set_swap a b q v h =
    let k = key_of Partition q in
    let f = set_directories k v in
    let before = map_same f a (all_imp (λ x. Lt (key x) k) (λ x. f x ≡ x) (λ x p. set_other k v x (lt_ne p)) a (asc_under key a (part q) b h)) in
    let after = map_same f b (all_imp (λ x. Lt k (key x)) (λ x. f x ≡ x) (λ x p. set_other k v x (λ e. lt_ne p (sym e))) b (asc_right key a (part q ∷ b) h).0) in
    map-append f a (part q ∷ b) ∙ ap₂ (λ x y. x ++ y) before (ap₂ (λ x y. x ∷ y) (set_here v q) after)

-- 3. The two kinds of a listing's records

pub broker_moved : (c : Contents) (a b : List Entry) (x : Entry) (run : Run) → key x ≡ key (plain (rec BrokerRegistration run)) → c.real ≡ a ++ (x ∷ b) → Asc key (a ++ (x ∷ b))
    → moved (rec BrokerRegistration run) c ≡ with_real c (a ++ (plain (rec BrokerRegistration run) ∷ b))
unfolding moved plan moves move on_real on_empties on_fixed
broker_moved c a b x run e is h =
    ap (with_real c) (ap (put key (plain (rec BrokerRegistration run))) is ∙ put_swap a b x (plain (rec BrokerRegistration run)) e h)

module _ (p q : Run) (name : value 1 q ≡ value 1 p) (number : value 2 q ≡ value 2 p) where
  its_key : key_of Partition q ≡ partition_key Partition (value 1 p) (value 2 p)
  unfolding key_of subject
  its_key = rw (name, number)

  found : (a b : List Entry) → Asc key (a ++ (part q ∷ b)) → run_at (partition_key Partition (value 1 p) (value 2 p)) (a ++ (part q ∷ b)) ≡ some q
  unfolding fields key
  found a b h =
      ap fields (ap (λ k. get key k (a ++ (part q ∷ b))) (sym its_key) ∙ in_get key (a ++ (part q ∷ b)) h (part q) (in_append_right (part q) a (part q ∷ b) (inl refl)))

  pub assign_moved : (c : Contents) (a b : List Entry) (node : Bytes) (slot : ℕ) → c.real ≡ a ++ (part q ∷ b) → Asc key (a ++ (part q ∷ b))
      → slot_of (node_count (replicas q)) node (replicas q) ≡ some slot
      → moved (assignment p node) c ≡ with_real c (a ++ (part (set_field 9 (assigned slot migrating (filled (node_count (replicas q)) (directories q))) q) ∷ b))
  unfolding moved plan moves move on_real on_empties on_fixed directory_moves field
  assign_moved c a b node slot is h at =
      rw (is, found a b h, at) (ap (with_real c) (set_swap a b q (assigned slot migrating (filled (node_count (replicas q)) (directories q))) h))

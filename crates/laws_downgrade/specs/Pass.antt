-- The pass: the listed records, applied in order, leave of each entry what the level knows, and nothing to list.
use Rattle.std.specs.Prelude.{◌≡◌, List, [], ◌∷◌, ◌++◌, map, Bool, true, false, cond, ℕ, zero, suc, ◌+◌, ◌*◌, ◌-◌, ◌/◌, ◌%◌, ◌≤◌, ◌<◌, min, eqb, length, drop, replicate}
use Rattle.std.proofs.Math.Path.{refl, sym, ap}
use Rattle.std.proofs.Common.{◌∙◌, append_assoc, append-nil, eqb-true, drop_of_length-le}
use Rattle.std.proofs.Math.Nat.{min-eq_left, min-eq_right}
use Rattle.std.proofs.Math.Decide.{dec_le}
use native.Mathlib.Omega.{arith}
use Rattle.std.proofs.lemmas.List.{replicate-append-replicate}
use Rattle.model.specs.Choice.{is_empty, joined}
use Rattle.model.specs.Number.{Bytes}
use Rattle.model.specs.Order.{same_bytes}
use Rattle.model.specs.Run.{Run, bytes_of, set_field}
use Rattle.model.specs.Kind.{kind_number}
use Rattle.model.specs.Record.{Rec, rec}
use Rattle.model.specs.Key.{key_of, subject}
use Rattle.model.specs.Contents.{Entry, topic, part, plain, key, Contents}
use Rattle.model.specs.Nodes.{nodes_from, no_repeats}
use Rattle.model.specs.Move.{replicas, directories, node_width, id_width, node_count}
use Rattle.model.specs.Downgrade.{is_under, directories_level, migrating, project, projected, assignments, slots, listed, downgrade, cleared, lowered}
use Rattle.model.specs.declared.Kind.TheVariants.{BrokerRegistration}
use Rattle.laws.specs.Lists.{All}
use Rattle.laws.specs.Map.{Asc}
use Rattle.laws.specs.Order.{same_bytes_self}
use Rattle.laws_records.specs.Fields.{value-set-same, value-set_other}
use Rattle.laws_records.specs.Kinds.{number_injective}
use Rattle.laws_downgrade.specs.Projected.{project_again, project-key}
use Rattle.laws_downgrade.specs.Changed.{with_real, moved_all, moved-append, asc_swap, broker_moved}
use Rattle.laws_downgrade.specs.Slots.{zeros, laid, fill, after, slots_pass}

-- 1. What a partition is that reads back

pub record PartitionReads (p : Run) : Type 0 where
  pub back : set_field 9 (directories p) p ≡ p
  pub long : node_count (replicas p) * node_width ≤ length (replicas p)
  pub whole : length (directories p) % id_width ≡ 0
  pub apart : no_repeats (nodes_from (node_count (replicas p)) (replicas p)) ≡ true

abbrev pub EntryReads : Entry → Type 0
EntryReads (topic name id count factor named) = Unit {0}
EntryReads (part p) = PartitionReads p
EntryReads (plain r) = Unit {0}

key_set : (d : Bytes) (p : Run) → key (part (set_field 9 d p)) ≡ key (part p)
unfolding key key_of subject
key_set d p = rw (value-set_other 9 d 1 (λ e. omega arith) p, value-set_other 9 d 2 (λ e. omega arith) p)

-- 2. A partition

zeros-joined : (a b c : ℕ) → a + b ≡ c → zeros a ++ zeros b ≡ zeros c ++ []
zeros-joined a b c e = replicate-append-replicate a b 0 ∙ ap zeros e ∙ sym (append-nil (zeros c))

-- the directories after the pass, where something was listed
ends : (n s : ℕ) (dirs : Bytes) → length dirs % id_width ≡ 0 → s ≡ min n (length dirs / id_width)
    → replicate (s * id_width) 0 ++ (drop (s * id_width) dirs ++ ([] ++ replicate (n * id_width - (0 * id_width + length dirs + 0)) 0))
    ≡ replicate (n * id_width) 0 ++ drop (n * id_width) dirs
ends n s dirs whole e = elim (dec_le n (length dirs / id_width)) [ yes p ↦ fewer p | no q ↦ more (omega arith) ]
  where
    Goal : Type 0
    Goal =
        replicate (s * id_width) 0 ++ (drop (s * id_width) dirs ++ ([] ++ replicate (n * id_width - (0 * id_width + length dirs + 0)) 0))
        ≡ replicate (n * id_width) 0 ++ drop (n * id_width) dirs

    fewer : n ≤ length dirs / id_width → Goal
    fewer p =
        let same : s ≡ n = e ∙ min-eq_left p in
        let none : n * id_width - (0 * id_width + length dirs + 0) ≡ 0 = omega (arith, whole) in
        rw (same, none, append-nil (drop (n * id_width) dirs))

    more : length dirs / id_width < n → Goal
    more p =
        let same : s ≡ length dirs / id_width = e ∙ min-eq_right (omega arith) in
        let all : s * id_width ≡ length dirs = omega (arith, whole, same) in
        let k : 0 * id_width + length dirs + 0 ≡ length dirs = omega arith in
        let sum : length dirs + (n * id_width - length dirs) ≡ n * id_width = omega (arith, whole) in
        let gone : drop (length dirs) dirs ≡ [] = drop_of_length-le dirs {i = length dirs} (omega arith) in
        let past : drop (n * id_width) dirs ≡ [] = drop_of_length-le dirs {i = n * id_width} (omega (arith, whole)) in
        rw (all, k, gone, past) (zeros-joined (length dirs) (n * id_width - length dirs) (n * id_width) sum)

pub least : (n m : ℕ) → (min n m ≤ n) × (min n m ≤ m)
least n m = elim (dec_le n m) [ yes p ↦ low p | no q ↦ high (omega arith) ]
  where
    low : n ≤ m → (min n m ≤ n) × (min n m ≤ m)
    low p = let e : min n m ≡ n = min-eq_left p in (omega arith, omega arith)

    high : m ≤ n → (min n m ≤ n) × (min n m ≤ m)
    high p = let e : min n m ≡ m = min-eq_right p in (omega arith, omega arith)

unchanged : (c : Contents) (l : List Entry) → c.real ≡ l → c ≡ with_real c l
unchanged c l e = rw (← e)

part_pass : (level : ℕ) (c : Contents) (a b : List Entry) (p : Run) → PartitionReads p → c.real ≡ a ++ (part p ∷ b) → Asc key (a ++ (part p ∷ b))
    → moved_all (listed level (part p)) c ≡ with_real c (a ++ (lowered level (part p) ∷ b))
unfolding listed lowered
part_pass level c a b p reads is h = go (is_under level directories_level)
  where
    n : ℕ
    n = node_count (replicas p)

    dirs : Bytes
    dirs = directories p

    rs : List Rec
    rs = assignments p (slots p) (replicas p) dirs

    start : c.real ≡ a ++ (part (set_field 9 (replicate (0 * id_width) 0 ++ (dirs ++ [])) p) ∷ b)
    start = is ∙ ap (λ r. a ++ (part r ∷ b)) (sym reads.back ∙ ap (λ d. set_field 9 d p) (sym (append-nil dirs)))

    asc : (d : Bytes) → Asc key (a ++ (part (set_field 9 d p) ∷ b))
    asc d = asc_swap a b (part p) (part (set_field 9 d p)) (sym (key_set d p)) h

    all :
        moved_all (assignments p (slots p) (drop (0 * node_width) (replicas p)) dirs) c
        ≡ with_real c (a ++ (part (set_field 9 (laid (0 + slots p) (drop (slots p * id_width) dirs) (after (assignments p (slots p) (drop (0 * node_width) (replicas p)) dirs) [] (fill n 0 dirs []))) p) ∷ b))
    all =
        let q = least n (length dirs / id_width) in
        slots_pass p a b asc reads.long reads.apart (slots p) 0 dirs [] c (omega (arith, q.0)) (omega (arith, q.1)) start

    some-listed : (l : List Rec) → l ≡ rs → moved_all l c ≡ with_real c (a ++ (cond (is_empty l) (part p) (part (cleared p)) ∷ b))
    some-listed [] e = unfold moved_all in unchanged c (a ++ (part p ∷ b)) is
    some-listed (r ∷ l) e =
        let z : 0 + slots p ≡ slots p = omega arith in
        let done : moved_all (r ∷ l) c ≡ with_real c (a ++ (part (set_field 9 (laid (0 + slots p) (drop (slots p * id_width) dirs) (fill n 0 dirs [])) p) ∷ b)) = rw (← e) at all in
        done ∙ ap (λ d. with_real c (a ++ (part (set_field 9 d p) ∷ b))) (rw z (ends n (slots p) dirs reads.whole refl))

    go : (under : Bool) → moved_all (cond under rs []) c ≡ with_real c (a ++ (cond (is_empty (cond under rs [])) (part p) (part (cleared p)) ∷ b))
    go true = some-listed rs refl
    go false = unfold moved_all in unchanged c (a ++ (part p ∷ b)) is

-- 3. A broker

plain_pass : (level : ℕ) (c : Contents) (a b : List Entry) (r : Rec) → c.real ≡ a ++ (plain r ∷ b) → Asc key (a ++ (plain r ∷ b))
    → moved_all (listed level (plain r)) c ≡ with_real c (a ++ (lowered level (plain r) ∷ b))
unfolding listed lowered
plain_pass level c a b r is h = go (eqb (kind_number r.kind) (kind_number BrokerRegistration)) refl
  where
    still : moved_all [] c ≡ with_real c (a ++ (plain r ∷ b))
    still = unfold moved_all in unchanged c (a ++ (plain r ∷ b)) is

    new : Rec
    new = rec BrokerRegistration (project level r.run)

    known : r.kind ≡ BrokerRegistration → (same : Bool)
        → moved_all (cond same [] (new ∷ [])) c ≡ with_real c (a ++ (cond (is_empty (cond same [] (new ∷ []))) (plain r) (plain new) ∷ b))
    known k true = still
    known k false =
        unfold moved_all key in
        broker_moved c a b (plain r) (project level r.run) (ap (λ x. key_of x r.run) k ∙ sym (project-key level r.run)) is h

    go : (b' : Bool) → eqb (kind_number r.kind) (kind_number BrokerRegistration) ≡ b'
        → moved_all (cond b' (projected level r.run) []) c
        ≡ with_real c (a ++ (cond (is_empty (cond b' (projected level r.run) [])) (plain r) (plain new) ∷ b))
    go true e =
        known (number_injective r.kind BrokerRegistration (eqb-true (kind_number r.kind) (kind_number BrokerRegistration) e))
        (same_bytes (bytes_of (project level r.run)) (bytes_of r.run))
    go false e = still

-- 4. All entries

entry_pass : (level : ℕ) (c : Contents) (a b : List Entry) (e : Entry) → EntryReads e → c.real ≡ a ++ (e ∷ b) → Asc key (a ++ (e ∷ b))
    → moved_all (listed level e) c ≡ with_real c (a ++ (lowered level e ∷ b))
entry_pass level c a b (topic name id count factor named) s is h = unfold listed lowered moved_all in unchanged c (a ++ (topic name id count factor named ∷ b)) is
entry_pass level c a b (part p) s is h = part_pass level c a b p s is h
entry_pass level c a b (plain r) s is h = plain_pass level c a b r is h

pub key-lowered : (level : ℕ) (e : Entry) → key (lowered level e) ≡ key e
unfolding lowered listed key
key-lowered level (topic name id count factor named) = refl
key-lowered level (part p) = go (is_empty (cond (is_under level directories_level) (assignments p (slots p) (replicas p) (directories p)) []))
  where
    go : (b : Bool) → key (cond b (part p) (part (cleared p))) ≡ key (part p)
    go true = refl
    go false = key_set (replicate (node_count (replicas p) * id_width) 0 ++ drop (node_count (replicas p) * id_width) (directories p)) p
key-lowered level (plain r) = go (eqb (kind_number r.kind) (kind_number BrokerRegistration)) refl
  where
    new : Rec
    new = rec BrokerRegistration (project level r.run)

    known : r.kind ≡ BrokerRegistration → (same : Bool) → key (cond (is_empty (cond same [] (new ∷ []))) (plain r) (plain new)) ≡ key (plain r)
    known k true = refl
    known k false = project-key level r.run ∙ ap (λ x. key_of x r.run) (sym k)

    go : (b' : Bool) → eqb (kind_number r.kind) (kind_number BrokerRegistration) ≡ b'
        → key (cond (is_empty (cond b' (projected level r.run) [])) (plain r) (plain new)) ≡ key (plain r)
    go true e =
        known (number_injective r.kind BrokerRegistration (eqb-true (kind_number r.kind) (kind_number BrokerRegistration) e))
        (same_bytes (bytes_of (project level r.run)) (bytes_of r.run))
    go false e = refl

pass_from : (level : ℕ) (a l : List Entry) (c : Contents) → All EntryReads l → c.real ≡ a ++ l → Asc key (a ++ l)
    → moved_all (joined (listed level) l) c ≡ with_real c (a ++ map (lowered level) l)
pass_from level a [] c u is h = unfold moved_all in unchanged c (a ++ []) is
pass_from level a (e ∷ l) c u is h =
    let f = lowered level e in
    let d = with_real c (a ++ (f ∷ l)) in
    let grouped : (m : List Entry) → a ++ (f ∷ m) ≡ (a ++ (f ∷ [])) ++ m = λ m. sym (append_assoc a (f ∷ []) m) in
    moved-append (listed level e) (joined (listed level) l) c
    ∙ ap (moved_all (joined (listed level) l)) (entry_pass level c a l e u.0 is h)
    ∙ pass_from level (a ++ (f ∷ [])) l d u.1 (grouped l) (rw grouped at (asc_swap a l e f (sym (key-lowered level e)) h))
    ∙ ap (with_real c) (sym (grouped (map (lowered level) l)))

-- the pass, whatever the room
pub pass : (level : ℕ) (c : Contents) → All EntryReads c.real → Asc key c.real
    → moved_all (downgrade level c) c ≡ with_real c (map (lowered level) c.real)
unfolding downgrade
pass level c u h = pass_from level [] c.real c u refl h

-- 5. Nothing is left to list

-- slots that are zero are not listed
silent_slots : (p : Run) (count k : ℕ) (nodes rest : Bytes) → count * id_width ≤ k → assignments p count nodes (replicate k 0 ++ rest) ≡ []
unfolding assignments
silent_slots p zero k nodes rest h = refl
silent_slots p (suc count) k nodes rest h =
    let n : id_width + (k - id_width) ≡ k = omega arith in
    let dirs : replicate k 0 ++ rest ≡ migrating ++ (replicate (k - id_width) 0 ++ rest) =
    ap (λ x. x ++ rest) (ap (λ x. replicate x 0) (sym n) ∙ sym (replicate-append-replicate id_width (k - id_width) 0))
    ∙ append_assoc migrating (replicate (k - id_width) 0) rest in
    rw (dirs, same_bytes_self migrating) (silent_slots p count (k - id_width) (drop node_width nodes) rest (omega arith))

silent_part : (level : ℕ) (p : Run) → listed level (part (cleared p)) ≡ []
unfolding listed
silent_part level p = go (is_under level directories_level)
  where
    n : ℕ
    n = node_count (replicas p)

    d : Bytes
    d = replicate (n * id_width) 0 ++ drop (n * id_width) (directories p)

    q : Run
    q = set_field 9 d p

    go : (under : Bool) → cond under (assignments q (slots q) (replicas q) (directories q)) [] ≡ []
    go true =
        let same : replicas q ≡ replicas p = value-set_other 9 d 4 (λ e. omega arith) p in
        let dirs : directories q ≡ d = value-set-same 9 d p in
        let few : slots q ≤ n = omega (arith, (least (node_count (replicas q)) (length (directories q) / id_width)).0, ap node_count same) in
        ap (assignments q (slots q) (replicas q)) dirs ∙ silent_slots q (slots q) (n * id_width) (replicas q) (drop (n * id_width) (directories p)) (omega arith)
    go false = refl

silent : (level : ℕ) (e : Entry) → listed level (lowered level e) ≡ []
unfolding lowered
silent level (topic name id count factor named) = unfold listed in refl
silent level (part p) = go (listed level (part p)) refl
  where
    go : (l : List Rec) → listed level (part p) ≡ l → listed level (cond (is_empty l) (part p) (part (cleared p))) ≡ []
    go [] e = e
    go (r ∷ l) e = silent_part level p
silent level (plain r) = go (listed level (plain r)) refl
  where
    new : Rec
    new = rec BrokerRegistration (project level r.run)

    silent_new : listed level (plain new) ≡ []
    silent_new = unfold listed kind_number in rw (project_again level r.run, same_bytes_self (bytes_of (project level r.run)))

    go : (l : List Rec) → listed level (plain r) ≡ l → listed level (cond (is_empty l) (plain r) (plain new)) ≡ []
    go [] e = e
    go (x ∷ l) e = silent_new

pub silent_all : (level : ℕ) (l : List Entry) → joined (listed level) (map (lowered level) l) ≡ []
silent_all level [] = refl
silent_all level (e ∷ l) = rw (silent level e) (silent_all level l)

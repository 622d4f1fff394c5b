-- What sound contents are, by lookup: keys ascend, entries are such as Apply stores, counts and ids agree, empty groups are empty.
use Rattle.std.specs.Prelude.{◌≡◌, List, [], ◌∷◌, Bool, false, ◌&&◌, ◌||◌, not, ◌≤◌}
use Rattle.std.proofs.Math.Path.{refl}
use Rattle.std.proofs.Common.{sym, ◌∙◌, ap, inl, inr, arith}
use Rattle.std.proofs.Math.Option.{Option, none, some}
use Rattle.std.proofs.Math.Bool.{true}
use borrow.Author.Tests.{leb-true, le-leb, not-true}
use Rattle.model.specs.Choice.{every, given}
use Rattle.model.specs.Number.{Bytes}
use Rattle.model.specs.Record.{Rec}
use Rattle.model.specs.Key.{topic_key}
use Rattle.model.specs.Map.{get, any, ascending}
use Rattle.model.specs.Contents.{Entry, topic, part, plain, key, record_key, in_group_of, Contents, partitions, storable, is_group}
use Rattle.model.specs.Contents.{storable_entry, names_id, named_apart, sound}
use Rattle.model.specs.Move.{count_of}
use Rattle.laws.specs.Choice.{impossible, true_false, not_true_false, and_left, and_right, and_both}
use Rattle.laws.specs.Order.{Lt, lt_ne, same_bytes_self, same_bytes_true}
use Rattle.laws.specs.Lists.{All, In, all_in, in_all, all_imp, all_both, every_true, all-every}
use Rattle.laws.specs.Map.{Asc, ascending_asc, asc_ascending, get_in, in_get}

-- an entry that is no topic or partition is such as Apply stores
abbrev pub Storable : Entry → Type 0
Storable (topic name id count factor named) = Unit {0}
Storable (part r) = Unit {0}
Storable (plain r) = storable r.kind r.run ≡ true

-- the id index names this topic for this id
abbrev pub names : Bytes → Bytes → List Entry → Bool
names id name l = given (get key (topic_key name) l) false (names_id id)

pub record Orderly (c : Contents) : Type 0 where
  pub ascends : Asc key c.real
  pub storables : All Storable c.real
  pub counts : (name : Bytes) → count_of (get key (topic_key name) c.real) ≤ partitions name c.real
  pub named : (id a b : Bytes) → names id a c.real ≡ true → names id b c.real ≡ true → a ≡ b
  pub empties_ascend : Asc record_key c.empties
  pub groups : All (λ r. is_group r ≡ true) c.empties
  pub vacant : All (λ r. any key (in_group_of r) c.real ≡ false) c.empties

-- 1. Entries such as Apply stores, and counts

storables_of : (l : List Entry) → All (λ e. storable_entry l e ≡ true) l → All Storable l
unfolding storable_entry
storables_of l u = all_imp (λ e. storable_entry l e ≡ true) Storable one l u
  where
    one : (e : Entry) → storable_entry l e ≡ true → Storable e
    one (topic name id count factor named) h = tt
    one (part r) h = tt
    one (plain r) h = h

-- a topic's key is its name's alone
same_name : (a b : Bytes) → topic_key a ≡ topic_key b → a ≡ b
same_name a b e = cc

counts_of : (l : List Entry) → All (λ e. storable_entry l e ≡ true) l → (name : Bytes)
    → count_of (get key (topic_key name) l) ≤ partitions name l
unfolding storable_entry count_of key
counts_of l u name = go (get key (topic_key name) l) refl
  where
    go : (o : Option Entry) → get key (topic_key name) l ≡ o → count_of o ≤ partitions name l
    go none e = omega arith
    go (some (topic n id count factor named)) e =
        let i = get_in key (topic_key name) l (topic n id count factor named) e in
        let h = in_all (λ x. storable_entry l x ≡ true) l u (topic n id count factor named) i.0 in
        let q : n ≡ name = same_name n name i.1 in
        rw (← q) (leb-true count (partitions n l) h)
    go (some (part r)) e = omega arith
    go (some (plain r)) e = omega arith

module _ (l : List Entry) (ascends : Asc key l) where
  entries_of : All Storable l → ((name : Bytes) → count_of (get key (topic_key name) l) ≤ partitions name l)
      → All (λ e. storable_entry l e ≡ true) l
  unfolding storable_entry count_of key
  entries_of u counts = all_in (λ e. storable_entry l e ≡ true) l one
    where
      one : (e : Entry) → In e l → storable_entry l e ≡ true
      one (topic name id count factor named) i =
          le-leb count (partitions name l) (rw (in_get key l ascends (topic name id count factor named) i) at (counts name))
      one (part r) i = refl
      one (plain r) i = in_all Storable l u (plain r) i

-- 2. Ids

apart_tail : (x : Entry) (l : List Entry) → named_apart (x ∷ l) ≡ true → named_apart l ≡ true
unfolding named_apart
apart_tail (topic name id count factor named) l h = and_right (not named || every (λ e. not (names_id id e)) l) (named_apart l) h
apart_tail (part r) l h = h
apart_tail (plain r) l h = h

apart_head : (x : Entry) (l : List Entry) → named_apart (x ∷ l) ≡ true → (id : Bytes) (f : Entry) → In f l → names_id id x ≡ true
    → names_id id f ≡ true → ⊥
unfolding named_apart names_id
apart_head (topic name own count factor true) l h id f i p q =
    let u = every_true (λ e. not (names_id own e)) l (and_left (every (λ e. not (names_id own e)) l) (named_apart l) h) in
    let n : names_id own f ≡ false = not-true (names_id own f) (in_all (λ e. not (names_id own e) ≡ true) l u f i) in
    true_false q (rw (same_bytes_true own id p) at n)
apart_head (topic name own count factor false) l h id f i p q = impossible cc
apart_head (part r) l h id f i p q = impossible cc
apart_head (plain r) l h id f i p q = impossible cc

-- entries that name an id are one
apart_one : (l : List Entry) → named_apart l ≡ true → (id : Bytes) (e f : Entry) → In e l → In f l → names_id id e ≡ true
    → names_id id f ≡ true → e ≡ f
apart_one [] h id e f x5 _ p q = elim x5 [ ]
apart_one (x ∷ l) h id e f (inl a) (inl b) p q = a ∙ sym b
apart_one (x ∷ l) h id e f (inl a) (inr j) p q = absurd (apart_head x l h id f j (rw a at p) q)
apart_one (x ∷ l) h id e f (inr i) (inl b) p q = absurd (apart_head x l h id e i (rw b at q) p)
apart_one (x ∷ l) h id e f (inr i) (inr j) p q = apart_one l (apart_tail x l h) id e f i j p q

-- the entry that is looked up
record Names (id name : Bytes) (l : List Entry) : Type 0 where
  entry : Entry
  stands : In entry l
  keyed : key entry ≡ topic_key name
  naming : names_id id entry ≡ true

names_entry : (id name : Bytes) (l : List Entry) → names id name l ≡ true → Names id name l
names_entry id name l h = go (get key (topic_key name) l) refl h
  where
    go : (o : Option Entry) → get key (topic_key name) l ≡ o → given o false (names_id id) ≡ true → Names id name l
    go none e q = impossible cc
    go (some x) e q = let i = get_in key (topic_key name) l x e in record { entry = x; stands = i.0; keyed = i.1; naming = q }

-- an entry that names an id is a topic
naming_topic : (id : Bytes) (e : Entry) → names_id id e ≡ true → (name : Bytes) × (key e ≡ topic_key name)
unfolding names_id key
naming_topic id (topic name own count factor named) h = (name, refl)
naming_topic id (part r) h = impossible cc
naming_topic id (plain r) h = impossible cc

named_of_lem : (l : List Entry) → named_apart l ≡ true → (id a b : Bytes) → names id a l ≡ true → names id b l ≡ true → a ≡ b
named_of_lem l h id a b p q =
    let x = names_entry id a l p in
    let y = names_entry id b l q in
    let e = apart_one l h id x.entry y.entry x.stands y.stands x.naming y.naming in
    same_name a b (sym x.keyed ∙ ap key e ∙ y.keyed)

-- two entries that name an id have one key
abbrev OneKey : List Entry → Type 0
OneKey l = (id : Bytes) (e f : Entry) → In e l → In f l → names_id id e ≡ true → names_id id f ≡ true → key e ≡ key f

one_key : (l : List Entry) → Asc key l → ((id a b : Bytes) → names id a l ≡ true → names id b l ≡ true → a ≡ b) → OneKey l
one_key l asc same id e f i j p q =
    let m = naming_topic id e p in
    let n = naming_topic id f q in
    m.1 ∙ ap topic_key (same id m.0 n.0 (looked e m.0 m.1 i p) (looked f n.0 n.1 j q)) ∙ sym n.1
  where
    looked : (x : Entry) (name : Bytes) → key x ≡ topic_key name → In x l → names_id id x ≡ true → names id name l ≡ true
    looked x name k s h = rw (← k, in_get key l asc x s) h

one-key-tail : (x : Entry) (l : List Entry) → OneKey (x ∷ l) → OneKey l
one-key-tail x l one id e f i j = one id e f (inr i) (inr j)

no_other : (x : Entry) (l : List Entry) → Asc key (x ∷ l) → OneKey (x ∷ l) → (id : Bytes) → names_id id x ≡ true
    → All (λ f. not (names_id id f) ≡ true) l
no_other x l asc one id p = all_in (λ f. not (names_id id f) ≡ true) l other
  where
    other : (f : Entry) → In f l → not (names_id id f) ≡ true
    other f i =
        let below = in_all (λ y. Lt (key x) (key y)) l asc.0 f i in
        rw (not_true_false (names_id id f) (λ q. lt_ne below (one id x f (inl refl) (inr i) p q)))

apart_of : (l : List Entry) → Asc key l → OneKey l → named_apart l ≡ true
unfolding named_apart names_id
apart_of [] asc one = refl
apart_of (part r ∷ l) asc one = apart_of l asc.1 (one-key-tail (part r) l one)
apart_of (plain r ∷ l) asc one = apart_of l asc.1 (one-key-tail (plain r) l one)
apart_of (topic name id count factor false ∷ l) asc one = apart_of l asc.1 (one-key-tail (topic name id count factor false) l one)
apart_of (topic name id count factor true ∷ l) asc one =
    let x = topic name id count factor true in
    and_both (every (λ e. not (names_id id e)) l) (named_apart l)
    (all-every (λ e. not (names_id id e)) l (no_other x l asc one id (same_bytes_self id)))
    (apart_of l asc.1 (one-key-tail x l one))

-- 3. Sound is orderly

-- an empty group with no member among the entries
abbrev is_vacant : List Entry → Rec → Bool
is_vacant l r = is_group r && not (any key (in_group_of r) l)

-- the five tests
record Sound (c : Contents) : Type 0 where
  ascending_keys : ascending key c.real ≡ true
  entries : All (λ e. storable_entry c.real e ≡ true) c.real
  apart : named_apart c.real ≡ true
  ascending_groups : ascending record_key c.empties ≡ true
  empties : All (λ r. is_vacant c.real r ≡ true) c.empties

tests : (c : Contents) → sound c ≡ true → Sound c
unfolding sound
tests c h =
    let a = ascending key c.real in
    let b = every (storable_entry c.real) c.real in
    let d = named_apart c.real in
    let e = ascending record_key c.empties in
    let f = every (is_vacant c.real) c.empties in
    let four = and_left (a && b && d && e) f h in
    let three = and_left (a && b && d) e four in
    let two = and_left (a && b) d three in
    record {
      ascending_keys = and_left a b two;
      entries = every_true (storable_entry c.real) c.real (and_right a b two);
      apart = and_right (a && b) d three;
      ascending_groups = and_right (a && b && d) e four;
      empties = every_true (is_vacant c.real) c.empties (and_right (a && b && d && e) f h);
    }

tested : (c : Contents) → Sound c → sound c ≡ true
unfolding sound
tested c s =
    simp (
      s.ascending_keys,
      all-every (storable_entry c.real) c.real s.entries,
      s.apart,
      s.ascending_groups,
      all-every (is_vacant c.real) c.empties s.empties,
    )

pub orderly : (c : Contents) → sound c ≡ true → Orderly c
orderly c h =
    let s = tests c h in
    record {
      ascends = ascending_asc key c.real s.ascending_keys;
      storables = storables_of c.real s.entries;
      counts = counts_of c.real s.entries;
      named = named_of_lem c.real s.apart;
      empties_ascend = ascending_asc record_key c.empties s.ascending_groups;
      groups = all_imp (λ r. is_vacant c.real r ≡ true) (λ r. is_group r ≡ true) is_group_lem c.empties s.empties;
      vacant =
          all_imp (λ r. is_vacant c.real r ≡ true) (λ r. any key (in_group_of r) c.real ≡ false) no_member c.empties s.empties;
    }
  where
    is_group_lem : (r : Rec) → is_vacant c.real r ≡ true → is_group r ≡ true
    is_group_lem r q = and_left (is_group r) (not (any key (in_group_of r) c.real)) q

    no_member : (r : Rec) → is_vacant c.real r ≡ true → any key (in_group_of r) c.real ≡ false
    no_member r q = not-true (any key (in_group_of r) c.real) (and_right (is_group r) (not (any key (in_group_of r) c.real)) q)

pub sound_orderly : (c : Contents) → Orderly c → sound c ≡ true
sound_orderly c o = tested c (record {
  ascending_keys = asc_ascending key c.real o.ascends;
  entries = entries_of c.real o.ascends o.storables o.counts;
  apart = apart_of c.real o.ascends (one_key c.real o.ascends o.named);
  ascending_groups = asc_ascending record_key c.empties o.empties_ascend;
  empties =
      all_imp (λ r. (is_group r ≡ true) × (any key (in_group_of r) c.real ≡ false)) (λ r. is_vacant c.real r ≡ true)
      (λ r q. rw (q.0, q.1)) c.empties
      (all_both (λ r. is_group r ≡ true) (λ r. any key (in_group_of r) c.real ≡ false) c.empties o.groups o.vacant);
})

-- the same of orderly contents
pub one_entry : (c : Contents) → Orderly c → (id : Bytes) (e f : Entry) → In e c.real → In f c.real → names_id id e ≡ true
    → names_id id f ≡ true → e ≡ f
one_entry c o = apart_one c.real (apart_of c.real o.ascends (one_key c.real o.ascends o.named))

-- A group's members stand together, from its own place on: the first entry that is not below its key is one, or there is none.
use mathlib.Core.Path.{◌≡◌, refl, sym, ap, ap₂, ◌∙◌}
use mathlib.Core.Bool.{Bool, true, false, ◌&&◌, ◌||◌, not}
use mathlib.Core.List.{List, [], ◌∷◌, ◌++◌, append_assoc}
use mathlib.Core.Option.{Option, none, some}
use Prim.Native.Nat.{Ordering}
use Rattle.model.specs.Choice.{every, given}
use Rattle.model.specs.Number.{Bytes}
use Rattle.model.specs.Order.{Key, compare_bytes, compare_keys, same_bytes}
use Rattle.model.specs.Record.{Rec}
use Rattle.model.specs.Key.{rank_part, subject, key_of, group_key, starts_with}
use Rattle.model.specs.Map.{any, get}
use Rattle.model.specs.Contents.{record_key, in_group_of}
use Rattle.laws.specs.Choice.{impossible, true_false, not_true_false, and_both}
use Rattle.laws.specs.Order.{bytes-total, same_bytes_self, lexicographic-append, Lt, lt_trans, lt_irrefl, lt_ne}
use Rattle.laws.specs.Lists.{All, all_imp, all_append}
use Rattle.laws.specs.Map.{Under, Over, Asc, under_trans, asc_right, get_in}
use Rattle.laws.specs.Count.{any_append, any_none}
use Rattle.laws.specs.Split.{below, here, above, split, below-under, above-over}
use Rattle.laws_image.specs.Groups.{in_group_record, GroupHolds}
use Rattle.image_groups.specs.Groups.{apart_in, begins_in}
use Rattle.image_groups.proofs.Membership.{empty_last}

-- 1. Keys

-- a key is its group's and a last part
last-part : (p : Bytes) (k : Key) → (q : Bytes) × (p ∷ k ≡ group_key (p ∷ k) ++ (q ∷ []))
unfolding group_key
last-part p [] = (p, refl)
last-part p (q ∷ k) = let r = last-part q k in (r.0, ap (λ t. p ∷ t) r.1)

record-last : (e : Rec) → (q : Bytes) × (record_key e ≡ group_key (record_key e) ++ (q ∷ []))
unfolding key_of
record-last e = last-part (rank_part e.kind) (subject e.kind e.run)

-- no last part is below an empty one
least-last : (k : Key) (p : Bytes) → Lt (k ++ (p ∷ [])) (k ++ ([] ∷ [])) → ⊥
unfolding compare_keys compare_bytes
least-last k p h = go p (sym (lexicographic-append bytes-total k (p ∷ []) ([] ∷ [])) ∙ h.is)
  where
    go : (p : Bytes) → compare_keys (p ∷ []) ([] ∷ []) ≡ Ordering.lt → ⊥
    go [] e = impossible cc
    go (x ∷ p) e = impossible cc

-- what lies between two keys of a group begins as they do
between : (k e : Key) (p : Bytes) → (Lt e (k ++ ([] ∷ [])) → ⊥) → Lt e (k ++ (p ∷ [])) → starts_with k e ≡ true
unfolding compare_keys starts_with
between [] e p low high = refl
between (a ∷ k) [] p low high = absurd (low (record { is = refl }))
between (a ∷ k) (b ∷ e) p low high = go (compare_bytes b a) refl (between k e p)
  where
    go : (o : Ordering) → compare_bytes b a ≡ o → ((Lt e (k ++ ([] ∷ [])) → ⊥) → Lt e (k ++ (p ∷ [])) → starts_with k e ≡ true)
        → same_bytes a b && starts_with k e ≡ true
    go Ordering.lt q i = absurd (low (record { is = rw q }))
    go Ordering.eq q i =
        let less = high.is in
        and_both (same_bytes a b) (starts_with k e) (rw (bytes-total.eqv b a q) (same_bytes_self a))
        (i (λ l. low (record { is = rw q l.is })) (record { is = rw q at less }))
    go Ordering.gt q i = let less = high.is in let z : Ordering.gt ≡ Ordering.lt = rw q at less in impossible cc

lt_as : {a b c d : Key} → a ≡ c → b ≡ d → Lt a b → Lt c d
lt_as p q l = rw (← p, ← q) l

-- 2. Members among entries

module _ (g : Rec) (h : GroupHolds g) where
  -- a member's key
  member_key : (x : Rec) → in_group_of g (record_key x) ≡ true → (q : Bytes) × (record_key x ≡ group_key (record_key g) ++ (q ∷ []))
  member_key x m =
      let r = record-last x in
      (r.0, r.1 ∙ ap (λ k. k ++ (r.0 ∷ [])) ((in_group_record g h.kind x).0 m))

  -- none is below the group's
  below_apart : (x : Rec) → Lt (record_key x) (record_key g) → in_group_of g (record_key x) ≡ false
  below_apart x l =
      not_true_false (in_group_of g (record_key x))
      (λ m. let q = member_key x m in least-last (group_key (record_key g)) q.0 (lt_as q.1 (empty_last g h) l))

  under_apart : (l : List Rec) → Under record_key (record_key g) l → any record_key (in_group_of g) l ≡ false
  under_apart l u =
      any_none record_key (in_group_of g) l
      (all_imp (λ x. Lt (record_key x) (record_key g)) (λ x. in_group_of g (record_key x) ≡ false) below_apart l u)

  -- where one that is not below it is no member, none after that is
  later_apart : (x y : Rec) → (Lt (record_key x) (record_key g) → ⊥) → in_group_of g (record_key x) ≡ false → Lt (record_key x) (record_key y)
      → in_group_of g (record_key y) ≡ false
  later_apart x y low other l =
      not_true_false (in_group_of g (record_key y))
      (λ m.
      let q = member_key y m in
      let e = empty_last g h in
      true_false (between (group_key (record_key g)) (record_key x) q.0 (λ r. low (lt_as refl (sym e) r)) (lt_as refl q.1 l)) other)

  first_decides : (x : Rec) (l : List Rec) → (Lt (record_key x) (record_key g) → ⊥) → Over record_key (record_key x) l
      → any record_key (in_group_of g) (x ∷ l) ≡ in_group_of g (record_key x)
  unfolding any
  first_decides x l low o = go (in_group_of g (record_key x)) refl
    where
      go : (b : Bool) → in_group_of g (record_key x) ≡ b → b || any record_key (in_group_of g) l ≡ b
      go true e = refl
      go false e =
          any_none record_key (in_group_of g) l
          (all_imp (λ y. Lt (record_key x) (record_key y)) (λ y. in_group_of g (record_key y) ≡ false) (λ y r. later_apart x y low e r) l o)

  none_below : (l : List Rec) → Asc record_key l → All (λ x. Lt (record_key x) (record_key g) → ⊥) l → any record_key (in_group_of g) l ≡ begins_in g l
  unfolding any begins_in
  none_below [] a u = refl
  none_below (x ∷ l) a u = first_decides x l u.0 a.0

-- 3. Entries from a key's place on

abbrev pub onward : Key → List Rec → List Rec
onward k l = here record_key k l ++ above record_key k l

module _ (k : Key) (l : List Rec) where
  pub split_onward : l ≡ below record_key k l ++ onward k l
  split_onward = split record_key k l ∙ append_assoc (below record_key k l) (here record_key k l) (above record_key k l)

  pub onward_asc : Asc record_key l → Asc record_key (onward k l)
  onward_asc a = asc_right record_key (below record_key k l) (onward k l) (rw split_onward at a)

  onward-above : Asc record_key l → All (λ x. Lt (record_key x) k → ⊥) (onward k l)
  onward-above a =
      all_append (λ x. Lt (record_key x) k → ⊥) (here record_key k l) (above record_key k l) (go (get record_key k l) refl)
      (all_imp (λ x. Lt k (record_key x)) (λ x. Lt (record_key x) k → ⊥) (λ x p q. lt_irrefl (lt_trans p q)) (above record_key k l) (above-over record_key k l a))
    where
      go : (o : Option Rec) → get record_key k l ≡ o → All (λ x. Lt (record_key x) k → ⊥) (given o [] (λ e. e ∷ []))
      go none e = tt
      go (some x) e = ((λ q. lt_ne q (get_in record_key k l x e).1), tt)

  -- a group of that key or of a later one has its members there
  members_onward : (g : Rec) → GroupHolds g → Under record_key (record_key g) (below record_key k l)
      → any record_key (in_group_of g) l ≡ any record_key (in_group_of g) (onward k l)
  members_onward g h u =
      ap (any record_key (in_group_of g)) split_onward
      ∙ any_append record_key (in_group_of g) (below record_key k l) (onward k l)
      ∙ ap (λ b. b || any record_key (in_group_of g) (onward k l)) (under_apart g h (below record_key k l) u)

  later-onward : (g : Rec) → GroupHolds g → Lt k (record_key g) → apart_in l g ≡ apart_in (onward k l) g
  unfolding apart_in
  later-onward g h q = ap not (members_onward g h (under_trans record_key k (record_key g) q (below record_key k l) (below-under record_key k l)))

  all-onward : (ts : List Rec) → All GroupHolds ts → Over record_key k ts → every (apart_in l) ts ≡ every (apart_in (onward k l)) ts
  all-onward [] hs os = refl
  all-onward (g ∷ ts) hs os = ap₂ ◌&&◌ (later-onward g hs.0 os.0) (all-onward ts hs.1 os.1)

-- the first group, and those after it
pub groups_turn : (l : List Rec) → Asc record_key l → (g : Rec) (ts : List Rec) → All GroupHolds (g ∷ ts) → Asc record_key (g ∷ ts)
    → every (apart_in l) (g ∷ ts) ≡ not (begins_in g (onward (record_key g) l)) && every (apart_in (onward (record_key g) l)) ts
unfolding apart_in
groups_turn l a g ts hs order =
    let k = record_key g in
    ap₂ ◌&&◌
    (ap not (members_onward k l g hs.0 (below-under record_key k l) ∙ none_below g hs.0 (onward k l) (onward_asc k l a) (onward-above k l a)))
    (all-onward k l ts hs.1 order.0)

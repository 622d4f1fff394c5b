-- The stored topic of a name, found by its place, and the entries without its id's name.
use mathlib.Core.Path.{◌≡◌, refl, sym, ap, ◌∙◌}
use mathlib.Core.Bool.{true, false}
use mathlib.Core.List.{List, [], ◌++◌, map, append-nil}
use mathlib.Core.Option.{Option, none, some}
use Prim.Native.Nat.{ℕ, ◌+◌, ◌-◌, ◌≤◌, ◌<◌}
use native.Mathlib.Omega.{arith}
use lib.Dec.{eqb}
use lib.ListN.{length, take, drop}
use lib.Seq.{slice, drop-length}
use Rattle.model.specs.Number.{Bytes, AreBytes, number}
use Rattle.model.specs.Run.{value}
use Rattle.model.specs.Kind.{kind_of, kinds, kind_number}
use Rattle.model.specs.Shape.{rows_of, shape_of}
use Rattle.model.specs.Key.{rank, key_of, key_rank, topic_key}
use Rattle.model.specs.Map.{get}
use Rattle.model.specs.Contents.{Entry, topic, part, plain, key}
use Rattle.model.specs.Move.{clear_named, clear_old_named, count_of}
use Rattle.model.specs.declared.Kind.TheVariants.{Topic}
use Rattle.laws.specs.Choice.{impossible}
use Rattle.laws.specs.Lists.{map_same, all_any}
use Rattle.keys.specs.Keys.{run_in}
use Rattle.keys.proofs.Found.{lent_slice}
use Rattle.entries.specs.Entries.{Entries, Placed, IsRecord, record_in}
use Rattle.image_entries.proofs.Records.{headed, run_in_lem, kind_in_lem, value_is}
use Rattle.find.specs.Found.{query_key}
use Rattle.entries.specs.Held.{entries_in}
use Rattle.find.proofs.Queries.{topic_key_lem}
use Rattle.find.proofs.Held.{Held, held, none-held}
use Rattle.apply_work.specs.Work.{groups_in, Good, held_in}
use Rattle.apply_work.specs.declared.Bounds.{Bounds}
use Rattle.apply_work.proofs.Entries.{topic_entry}
use Rattle.apply_topics.specs.Old.{OldIs}
use Rattle.apply_topics.specs.declared.old.Old.{Old}

-- 1. The topic at a place

module _ (s name : Bytes) {at end : ℕ} (p : Placed s (query_key 1 name []) at end) where
  same_topic : get key (query_key 1 name []) (entries_in s) ≡ get key (topic_key name) (entries_in s)
  same_topic = ap (λ k. get key k (entries_in s)) (topic_key_lem name)

  pub no_old : end ≤ at → (i : Bytes) → OldIs (get key (topic_key name) (entries_in s)) (record { count = 0; there = false }) i
  no_old empty i = rw (← same_topic, none-held s p empty) (refl, refl)

  module _ (are_bytes : AreBytes s) (whole : Entries s) (longer : at < end) where
    topic_held : Held s (query_key 1 name []) Topic (take (end - at) (drop at s))
    unfolding query_key kind_of kinds key_of key_rank rank
    topic_held = held s p are_bytes whole longer Topic refl (omega arith)

    pub old_is : IsRecord (take (end - at) (drop at s))
    old_is = topic_held.is

    pub old_headed : 3 ≤ length (take (end - at) (drop at s))
    old_headed = headed _ old_is

    -- an id has 16 bytes, a count four
    pub old_id : length (value 2 (run_in (take (end - at) (drop at s)))) ≡ 16
    unfolding rows_of shape_of kind_number
    old_id = ap (λ r. length (value 2 r)) (run_in_lem _ old_is) ∙ value_is _ old_is Topic topic_held.kind 2 refl refl

    pub old-count : length (value 3 (record_in (take (end - at) (drop at s))).run) ≡ 4
    unfolding rows_of shape_of kind_number
    old-count = value_is _ old_is Topic topic_held.kind 3 refl refl

    pub old-found : {n : ℕ} {i : Bytes} → n ≡ number (value 3 (record_in (take (end - at) (drop at s))).run)
        → i ≡ value 2 (run_in (take (end - at) (drop at s)))
        → OldIs (get key (topic_key name) (entries_in s)) (record { count = n; there = true }) i
    unfolding kind_number
    old-found {n} {i} en ei =
        let e = take (end - at) (drop at s) in
        let one : eqb (kind_number (record_in e).kind) 1 ≡ true = rw (← kind_in_lem e old_is, topic_held.kind) refl in
        rw (← same_topic, topic_held.found, topic_entry (record_in e) one) (refl, en, ei ∙ ap (value 2) (run_in_lem e old_is))

-- 2. A copied value

pub copied_fits : (v e : Bytes) (tag start end : ℕ) → (slice start end e ≡ value tag (run_in e)) × (start ≤ end) × (end ≤ length e)
    → length (value tag (run_in e)) ≡ length v → 0 + length (take (end - start) (drop start e)) ≤ length v
copied_fits v e tag start end h n =
    let lent : length (take (end - start) (drop start e)) ≡ length (value tag (run_in e)) = ap length (lent_slice e start end h.1 ∙ h.0) in
    omega (arith, lent, n)

pub copied : (v e : Bytes) {x : Bytes} (tag start end : ℕ)
    → (slice start end e ≡ value tag (run_in e)) × (start ≤ end) × (end ≤ length e) → length (value tag (run_in e)) ≡ length v
    → x ≡ take 0 v ++ take (end - start) (drop start e) ++ drop (0 + length (take (end - start) (drop start e))) v → x ≡ value tag (run_in e)
copied v e {x} tag start end h n said =
    let lent : take (end - start) (drop start e) ≡ value tag (run_in e) = lent_slice e start end h.1 ∙ h.0 in
    said
    ∙ ap (λ y. y ++ drop (0 + length y) v) lent
    ∙ ap (λ k. value tag (run_in e) ++ drop k v) (same n)
    ∙ ap (λ y. value tag (run_in e) ++ y) (drop-length v)
    ∙ append-nil (value tag (run_in e))
  where
    same : length (value tag (run_in e)) ≡ length v → 0 + length (value tag (run_in e)) ≡ length v
    same h = omega (arith, h)

-- 3. The entries without the old id's name

-- no topic is stored
pub none_old : (o : Option Entry) (old : Old) (i : Bytes) → OldIs o old i → old.there ≡ false → (l : List Entry)
    → (l ≡ map (clear_old_named o) l) × (old.count ≡ count_of o)
unfolding clear_old_named count_of
none_old none old i h t l = (sym (map_same (clear_old_named none) l (all_any (λ e. clear_old_named none e ≡ e) (λ e. refl) l)), h.1)
none_old (some (topic name id count factor named)) old i h t l = let e = sym h.0 ∙ t in impossible cc
none_old (some (part r)) old i h t l = absurd h
none_old (some (plain r)) old i h t l = absurd h

pub some-old : (o : Option Entry) (old : Old) (i : Bytes) → OldIs o old i → old.there ≡ true → (l : List Entry)
    → (map (clear_named i) l ≡ map (clear_old_named o) l) × (old.count ≡ count_of o)
unfolding clear_old_named count_of
some-old none old i h t l = let e = sym h.0 ∙ t in impossible cc
some-old (some (topic name id count factor named)) old i h t l = (ap (λ x. map (clear_named x) l) h.2, h.1)
some-old (some (part r)) old i h t l = absurd h
some-old (some (plain r)) old i h t l = absurd h

-- the stored topic of a name that is lent, and the work array after its id has lost its name, or as it was
module _ (w : Bytes) (bounds : Bounds) {n name : Bytes} (e : n ≡ name) (old : Old) (i : Bytes) (is : OldIs (get key (topic_key n) (held_in w bounds)) old i) where
  named : OldIs (get key (topic_key name) (held_in w bounds)) old i
  named = rw e at is

  pub kept-old : old.there ≡ false → Good w bounds
      → Good w bounds × (held_in w bounds ≡ map (clear_old_named (get key (topic_key name) (held_in w bounds))) (held_in w bounds)) × (groups_in w bounds ≡ groups_in w bounds) ×
      (old.count ≡ count_of (get key (topic_key name) (held_in w bounds)))
  kept-old t good =
      let h = none_old (get key (topic_key name) (held_in w bounds)) old i named t (held_in w bounds) in
      (good, h.0, refl, h.1)

  pub lost_old : old.there ≡ true → {v : Bytes}
      → Good v bounds × (held_in v bounds ≡ map (clear_named i) (held_in w bounds)) × (groups_in v bounds ≡ groups_in w bounds)
      → Good v bounds × (held_in v bounds ≡ map (clear_old_named (get key (topic_key name) (held_in w bounds))) (held_in w bounds)) × (groups_in v bounds ≡ groups_in w bounds) ×
      (old.count ≡ count_of (get key (topic_key name) (held_in w bounds)))
  lost_old t p =
      let h = some-old (get key (topic_key name) (held_in w bounds)) old i named t (held_in w bounds) in
      (p.0, p.1 ∙ h.0, p.2, h.1)

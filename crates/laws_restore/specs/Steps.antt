-- One record of a snapshot: applied to what the records before it made, it makes the prefix with its entry.
use Rattle.std.specs.Prelude.{◌≡◌, Bool, true, false, cond, ℕ, zero, suc, ◌+◌, ◌≤◌, ◌<◌, leb}
use Rattle.std.proofs.Math.Path.{refl, sym, ap}
use Rattle.std.proofs.Common.{◌∙◌, arith, add-zero, add-one, le-leb, lt-ltb}
use mathlib.Core.List.{List, [], ◌∷◌, ◌++◌, map}
use Rattle.std.proofs.Math.Option.{none}
use Rattle.std.proofs.lemmas.Bool.{lt-leb}
use Rattle.model.specs.Number.{Bytes, span, half}
use Rattle.model.specs.Run.{Run, field}
use Rattle.model.specs.Record.{Rec, rec}
use Rattle.model.specs.Key.{rank, key_of, key_rank, topic_key}
use Rattle.model.specs.Map.{put, get, remove}
use Rattle.model.specs.Contents.{Entry, topic, part, plain, returned, key, record_key, storable, Fixed, Contents, weight}
use Rattle.model.specs.Move.{Move, topic_m, part_m, clear_named, clear_old_named, count_of, count_partition, partition_topic, replicas, node_count}
use Rattle.model.specs.Move.{on_real, on_empties, bumped, on_fixed, move, moves, plan, moved, overflows}
use Rattle.model.specs.Apply.{stays, becomes, apply}
use Rattle.model.specs.Snapshot.{restored_entry, is_level, levels, less_one}
use Rattle.model.specs.declared.Kind.TheVariants.{Partition}
use Rattle.laws.specs.Order.{Lt}
use Rattle.laws.specs.Lists.{all_imp, all_any, map-append, map-all, map_same, map-map}
use Rattle.laws.specs.Map.{Under, put_last, get-last, under-map}
use Rattle.laws.specs.Numbers.{number_bytes_lem}
use Rattle.laws_image.specs.Fits.{Proper}
use Rattle.laws_image.specs.Orderly.{Storable}
use Rattle.laws_image.specs.Snapshot.{Loggable, returned_passes}
use Rattle.laws_image.specs.Groups.{key-returned}
use Rattle.laws_restore.specs.Settled.{settled, levels-more, key-restored}
use Rattle.laws_restore.specs.Settled.{restored_plain, restored_topic, restored-part, restored-new}
use Rattle.laws_restore.specs.Plans.{Stores, puts, joins, bumps, plan_stores, overflows-new}

-- 1. Entries: the one that is put goes behind the others

put-behind : (f : Entry → Entry) → ((x : Entry) → key (f x) ≡ key x) → (l : List Entry) (e : Entry) → Under key (key e) l
    → put key (f e) (map f l) ≡ map f (l ++ (e ∷ []))
put-behind f same l e u =
    put_last key (f e) (map f l) (rw (same e) (under-map key key f same (key e) l u)) ∙ sym (map-append f l (e ∷ []))

module _ (l : List Entry) (e : Entry) (u : Under key (key e) l) where
  -- no entry has its key
  pub none_yet : get key (key e) (map (restored_entry l) l) ≡ none
  none_yet = get-last key (key e) (map (restored_entry l) l) (under-map key key (restored_entry l) (key-restored l) (key e) l u)

  -- where the others become the prefix's and the entry is put as it becomes, the prefix's entries are made
  put-more : (x : Entry) (m : List Entry) → restored_entry (l ++ (e ∷ [])) e ≡ x → map (restored_entry (l ++ (e ∷ []))) l ≡ m
      → put key x m ≡ map (restored_entry (l ++ (e ∷ []))) (l ++ (e ∷ []))
  put-more x m p q = (λ i. put key (sym p i) (sym q i)) ∙ put-behind (restored_entry (l ++ (e ∷ []))) (key-restored (l ++ (e ∷ []))) l e u

module _ (l : List Entry) where
  plain_real : (r : Rec) → storable r.kind r.run ≡ true → Under key (key (plain r)) l
      → put key (plain r) (map (restored_entry l) l) ≡ map (restored_entry (l ++ (plain r ∷ []))) (l ++ (plain r ∷ []))
  unfolding restored_entry
  plain_real r s u =
      let f = restored_entry (l ++ (plain r ∷ [])) in
      put-more l (plain r) u (plain r) (map (restored_entry l) l) refl
      (map-all f (restored_entry l) l (all_any (λ x. f x ≡ restored_entry l x) (restored_plain l r s) l))

  topic_real : (name id : Bytes) (count factor : ℕ) (named : Bool) → Under key (topic_key name) l
      → on_real (topic_m name id factor) (map (restored_entry l) l)
      ≡ map (restored_entry (l ++ (topic name id count factor named ∷ []))) (l ++ (topic name id count factor named ∷ []))
  unfolding on_real count_of clear_old_named key
  topic_real name id count factor named u =
      let e = topic name id count factor named in
      let f = restored_entry (l ++ (e ∷ [])) in
      let before = map (restored_entry l) l in
      let others : map f l ≡ map (clear_named id) before =
      map-all f (λ x. clear_named id (restored_entry l x)) l
      (all_imp (λ x. Lt (key x) (topic_key name)) (λ x. f x ≡ clear_named id (restored_entry l x))
      (restored_topic l name id count factor named) l u)
      ∙ sym (map-map (clear_named id) (restored_entry l) l) in
      let old : get key (topic_key name) before ≡ none = none_yet l e u in
      rw (old, map_same (clear_old_named none) before (all_any (λ x. clear_old_named none x ≡ x) (λ x. refl) before))
      (put-more l e u (topic name id 0 factor true) (map (clear_named id) before) (restored-new l name id count factor named u) others)

  part_real : (r : Run) → Under key (key_of Partition r) l
      → on_real (part_m r) (map (restored_entry l) l) ≡ map (restored_entry (l ++ (part r ∷ []))) (l ++ (part r ∷ []))
  unfolding on_real key restored_entry
  part_real r u =
      let f = restored_entry (l ++ (part r ∷ [])) in
      let before = map (restored_entry l) l in
      let told = count_partition (partition_topic r) 1 (node_count (replicas r)) in
      let others : map f l ≡ map told before =
      map-all f (λ x. told (restored_entry l x)) l (all_any (λ x. f x ≡ told (restored_entry l x)) (restored-part l r) l)
      ∙ sym (map-map told (restored_entry l) l) in
      let old : get key (key_of Partition r) before ≡ none = none_yet l (part r) u in
      rw old (put-more l (part r) u (part r) (map told before) refl others)

-- 2. The epoch: each level raises it by one, from -1 on

bumped_less : (n : ℕ) → n < half 8 → bumped (less_one n) ≡ less_one (suc n)
unfolding bumped less_one
bumped_less zero h = refl
bumped_less (suc n) h = rw (lt-leb (half 8) n (omega arith), lt-ltb (n + 1) (half 8) (omega arith)) (add-one n)

-- 3. Contents

-- what the moves that store a record make, where there are no empty groups
stores_made : {r : Rec} {level : Bool} {ms : List Move} → Stores r level ms → (l : List Entry) (f : Fixed)
    → moves ms (record { real = l; empties = []; fixed = f })
    ≡ record {
      real = put key (plain r) l;
      empties = [];
      fixed = record { epoch = cond level (bumped f.epoch) f.epoch; kraft = f.kraft; offset = f.offset };
    }
unfolding moves move on_real on_empties on_fixed remove
stores_made puts l f = refl
stores_made joins l f = refl
stores_made bumps l f = refl

module _ (o : ℕ) (l : List Entry) where
  -- an entry of another rank is no level
  levels-same : (e : Entry) → is_level (key e) ≡ false → levels l ≡ levels (l ++ (e ∷ []))
  levels-same e h = sym (levels-more l e ∙ rw (h, add-zero))

  -- the epoch after a record that Apply stores
  epoch-step : (e : Entry) → levels l < half 8
      → cond (is_level (key e)) (bumped (less_one (levels l))) (less_one (levels l)) ≡ less_one (levels (l ++ (e ∷ [])))
  epoch-step e small = rw (levels-more l e) (go (is_level (key e)))
    where
      go : (b : Bool) → cond b (bumped (less_one (levels l))) (less_one (levels l)) ≡ less_one (levels l + cond b 1 0)
      go true = rw add-one (bumped_less (levels l) small)
      go false = rw add-zero

  plain_step : (r : Rec) → storable r.kind r.run ≡ true → Loggable r → Under key (key (plain r)) l → levels l < half 8
      → moved r (settled o l) ≡ settled o (l ++ (plain r ∷ []))
  unfolding moved key
  plain_step r s p u small =
      let st = plan_stores r.kind r.run (map (restored_entry l) l) s p.0 p.1 (none_yet l (plain r) u) in
      stores_made st (map (restored_entry l) l) (settled o l).fixed
      ∙ (λ i. record { real = plain_real l r s u i; empties = []; fixed = record { epoch = epoch-step (plain r) small i; kraft = 0; offset = o } })

  topic_step : (name id : Bytes) (count factor : ℕ) (named : Bool) → factor < span 2 → Under key (topic_key name) l
      → moved (returned (topic name id count factor named)) (settled o l) ≡ settled o (l ++ (topic name id count factor named ∷ []))
  unfolding moved moves plan returned field move on_empties on_fixed is_level key key_rank rank
  topic_step name id count factor named h u =
      let e = topic name id count factor named in
      let real =
      ap (λ n. on_real (topic_m name id n) (map (restored_entry l) l)) (number_bytes_lem 2 factor h)
      ∙ topic_real l name id count factor named u in
      λ i. record { real = real i; empties = []; fixed = record { epoch = less_one (levels-same e refl i); kraft = 0; offset = o } }

  part_step : (r : Run) → Under key (key_of Partition r) l → moved (rec Partition r) (settled o l) ≡ settled o (l ++ (part r ∷ []))
  unfolding moved moves plan move on_empties on_fixed is_level key key_of key_rank rank
  part_step r u =
      λ i. record { real = part_real l r u i; empties = []; fixed = record { epoch = less_one (levels-same (part r) refl i); kraft = 0; offset = o } }

  pub moved_more : (e : Entry) → Storable e → Proper e → Under key (key e) l → levels l < half 8
      → moved (returned e) (settled o l) ≡ settled o (l ++ (e ∷ []))
  unfolding key returned
  moved_more (topic name id count factor named) s p u small = topic_step name id count factor named p.numbers.1 u
  moved_more (part r) s p u small = part_step r u
  moved_more (plain r) s p u small = plain_step r s (returned_passes (plain r) s p) u small

-- 4. Apply

-- a record that does not overflow, and makes contents that fit
pub apply_fits : (capacity : ℕ) (r : Rec) (c d : Contents) → overflows r c.real ≡ false → moved r c ≡ d → weight d ≤ capacity
    → apply capacity r c ≡ becomes d
unfolding apply
apply_fits capacity r c d o e w =
    rw o (ap (λ x. cond (leb (weight x) capacity) (becomes x) (stays 18)) e ∙ rw (le-leb (weight d) capacity w))

pub apply-more : (capacity o : ℕ) (l : List Entry) (e : Entry) → Storable e → Proper e → Under key (key e) l → levels l < half 8
    → weight (settled o (l ++ (e ∷ []))) ≤ capacity → apply capacity (returned e) (settled o l) ≡ becomes (settled o (l ++ (e ∷ [])))
apply-more capacity o l e s p u small w =
    let new : get key (record_key (returned e)) (settled o l).real ≡ none = rw (← key-returned e) (none_yet l e u) in
    let first = overflows-new (returned e) (settled o l).real new in
    apply_fits capacity (returned e) (settled o l) (settled o (l ++ (e ∷ []))) first (moved_more o l e s p u small) w

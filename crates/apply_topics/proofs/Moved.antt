-- A topic's, a partition's and a deletion's move, by what the work array holds after each step.
use mathlib.Core.Path.{◌≡◌, refl, sym, ap, ◌∙◌, subst}
use mathlib.Core.Bool.{true}
use mathlib.Core.List.{[], ◌∷◌, map}
use mathlib.Core.Option.{Option, none, some}
use Prim.Native.Nat.{ℕ, ◌+◌, ◌/◌, ◌-◌, ◌≤◌, ◌<◌}
use native.Mathlib.Omega.{arith}
use borrow.Author.Tests.{lt-ltb}
use lib.Dec.{lit<}
use lib.ListN.{length, take, drop}
use lib.Seq.{slice, length-slice}
use Rattle.model.specs.Choice.{is_some}
use Rattle.model.specs.Number.{Bytes, AreBytes, number, bytes, span}
use Rattle.model.specs.Run.{done, item, value, set_field}
use Rattle.model.specs.Kind.{kind_number}
use Rattle.model.specs.Shape.{rows_of, shape_of, logged, stored, fault}
use Rattle.model.specs.Record.{Rec, rec, record_bytes}
use Rattle.model.specs.Key.{key_of, topic_key}
use Rattle.model.specs.Map.{put, get, keep}
use Rattle.model.specs.Contents.{Entry, topic, part, plain, flag_bytes, kept, key, record_key}
use Rattle.model.specs.Image.{entry_of}
use Rattle.model.specs.Move.{clear_named, clear_old_named, count_of, count_partition, is_new, replicas, node_count, apart_from, plan, topic_m, part_m, delete_m, on_real, on_empties}
use Rattle.model.specs.declared.Kind.TheVariants.{Topic, Partition}
use Rattle.laws.specs.Numbers.{length-bytes, bytes-number, drop_are_bytes}
use Rattle.laws_records.specs.Runs.{fields-run}
use Rattle.laws_records.specs.Fields.{value_are_bytes}
use Rattle.laws_records.specs.Faults.{fault-value, fault-length}
use Rattle.laws_records.specs.Records.{length_record}
use Rattle.laws_image.specs.Required.{required_run}
use Rattle.laws.specs.Choice.{impossible}
use Rattle.laws.specs.Lists.{in_all}
use Rattle.laws.specs.Map.{get_in}
use Rattle.laws_image.specs.Fits.{Proper}
use Rattle.laws_image.specs.Entries.{entry_kept}
use Rattle.laws_apply.specs.Entries.{AreNameAndId, topic_readable, replicas_few}
use Rattle.laws_apply.specs.Plans.{plan_lawful}
use Rattle.keys.specs.Keys.{key_in, kind_in, run_in}
use Rattle.entries.specs.Entries.{Entries, IsRecord, record_in, Placed}
use Rattle.entries.proofs.Changes.{record-in, key_in_lem}
use Rattle.image_entries.proofs.Records.{run_in_lem}
use Rattle.apply_drafts.specs.Drafts.{spells, IsDraft, Drafted}
use Rattle.apply_drafts.proofs.Drafts.{held_draft, set-held, set_drafted, passing_drafted}
use Rattle.find.specs.Logged.{IsLogged, logged_in}
use Rattle.entries.specs.Held.{entries_in}
use Rattle.find.proofs.Logged.{logged_in_lem, passes, kind_is, run_in_lem as judge-run-in}
use Rattle.find.proofs.Held.{none-held, is_held}
use Rattle.apply_work.specs.Work.{reals_in, groups_in, Good, held_in, most_record, Made}
use Rattle.apply_work.specs.declared.Bounds.{Bounds}
use Rattle.apply_work.proofs.Entries.{entries-put, entries-keep, part_entry}
use Rattle.apply_work.proofs.Made.{made_one}
use Rattle.apply_work.proofs.Proper.{held_proper}

-- 1. A partition

pub part-kept : (r : Rec) → r.kind ≡ Partition → kept (entry_of r) ≡ r
unfolding kept
part-kept r h = ap kept (part_entry r h) ∙ ap (λ k. rec k r.run) (sym h)

pub part-key : (r : Rec) → r.kind ≡ Partition → record_key r ≡ key_of Partition r.run
part-key r h = ap (λ k. key_of k r.run) h

record-passes : (e : Bytes) → IsRecord e → fault stored (record_in e).kind (record_in e).run ≡ 0
record-passes e i = rw (record-in e i) i.passes

module _ (s t : Bytes) (i : IsRecord t) where
  sought : key_in t ≡ record_key (record_in t)
  sought = key_in_lem t i ∙ ap record_key (sym (record-in t i))

  module _ {at end : ℕ} (p : Placed s (key_in t) at end) where
    pub new_none : end ≤ at → 1 ≡ is_new (get key (record_key (record_in t)) (entries_in s))
    new_none empty = ap is_new (sym (ap (λ k. get key k (entries_in s)) (sym sought) ∙ none-held s p empty))

  pub new-there : AreBytes s → Entries s → {at end : ℕ} → Placed s (key_in t) at end → at < end
      → 0 ≡ is_new (get key (record_key (record_in t)) (entries_in s))
  new-there are_bytes whole {at} {end} p longer =
      go (get key (key_in t) (entries_in s)) (sym (is_held s p are_bytes whole) ∙ lt-ltb at end longer) ∙ ap (λ k. is_new (get key k (entries_in s))) sought
    where
      go : (o : Option Entry) → is_some o ≡ true → 0 ≡ is_new o
      go none e = impossible cc
      go (some x) e = refl

-- the replicas' number, from their place
pub counted : (e : Bytes) → IsRecord e → {start end : ℕ}
    → (slice start end e ≡ value 4 (run_in e)) × (start ≤ end) × (end ≤ length e) → (end - start) / 8 ≡ node_count (replicas (record_in e).run)
counted e i {start} {end} h =
    ap (λ n. n / 8) (sym (length-slice start end e h.2) ∙ ap length h.0) ∙ ap (λ r. node_count (replicas r)) (run_in_lem e i)

pub counts_few : (e : Bytes) (i : IsRecord e) → (record_in e).kind ≡ Partition → {n : ℕ} → n ≡ node_count (replicas (record_in e).run) → n < 65536
counts_few e i is q =
    let few = replicas_few (record_in e).run (subst (λ k. fault stored k (record_in e).run ≡ 0) is (record-passes e i)) in
    omega (arith, q)

module _ (x : Rec) (is : x.kind ≡ Partition) {w u v : Bytes} {bounds r : Bounds} where
  pub part_moved : {name : Bytes} {new count n : ℕ} → name ≡ value 1 x.run → new ≡ is_new (get key (record_key x) (held_in w bounds))
      → count ≡ node_count (replicas x.run) → n ≤ most_record
      → Good u bounds × (held_in u bounds ≡ map (count_partition name new count) (held_in w bounds)) × (groups_in u bounds ≡ groups_in w bounds)
      → Good v r × (reals_in v r ≡ put record_key x (reals_in u bounds)) × (groups_in v r ≡ groups_in u bounds) × (r.used ≤ bounds.used + n)
      → Made (part_m x.run ∷ []) w bounds v r
  unfolding on_real on_empties
  part_moved {name} {new} {count} {n} en ew ec few t p =
      let l = held_in w bounds in
      let known : new ≡ is_new (get key (key_of Partition x.run) l) = ew ∙ ap (λ k. is_new (get key k l)) (part-key x is) in
      made_one (part_m x.run) p.0
      (ap (map entry_of) p.1 ∙ entries-put x (reals_in u bounds) ∙ rw (part_entry x is, t.1, en, known, ec)) (p.2 ∙ t.2) (omega (arith, p.3))

-- 2. A topic's end

module _ (name : Bytes) {w u v : Bytes} {bounds r : Bounds} where
  pub deleted : {n : Bytes} {count : ℕ} → n ≡ name
      → Good u bounds × (held_in u bounds ≡ map (clear_old_named (get key (topic_key name) (held_in w bounds))) (held_in w bounds)) × (groups_in u bounds ≡ groups_in w bounds) ×
      (count ≡ count_of (get key (topic_key name) (held_in w bounds)))
      → Good v r × (reals_in v r ≡ keep record_key (apart_from n) (reals_in u bounds)) × (groups_in v r ≡ groups_in u bounds) × (r.used ≤ bounds.used)
      → Made (delete_m name ∷ []) w bounds v r
  unfolding on_real on_empties
  deleted {n} {count} en t p =
      made_one (delete_m name) p.0
      (ap (map entry_of) p.1 ∙ entries-keep (apart_from n) (reals_in u bounds) ∙ rw (t.1, en)) (p.2 ∙ t.2) (omega (arith, p.3))

-- 3. A topic's entry, and its move

module _ (s : Bytes) (i : IsLogged s) (is : kind_in s ≡ 1) where
  topic_kind : (logged_in s).kind ≡ Topic
  unfolding kind_number
  topic_kind = kind_is s i Topic is

  topic_passes : fault logged Topic (run_in s) ≡ 0
  topic_passes = subst (λ k. fault logged k (run_in s) ≡ 0) topic_kind (passes s i)

  pub logged_size : length s ≤ most_record
  logged_size = omega (arith, ap length i.bytes, length_record i.value, fault-length logged i.value.kind i.value.run i.passes)

  topic_bytes : s ≡ record_bytes (rec Topic (run_in s))
  topic_bytes = i.bytes ∙ ap record_bytes (sym (logged_in_lem s i) ∙ λ j. rec (topic_kind j) (sym (judge-run-in s i) j))

  -- the record in a buffer
  module _ (b : Bytes) (n : ℕ) (eb : take n b ≡ s) where
    copied : Drafted b n 1 (run_in s)
    unfolding kind_number
    copied = passing_drafted logged Topic (run_in s) topic_passes (eb ∙ topic_bytes)

    pub copied_draft : IsDraft (take n b)
    copied_draft = held_draft copied

    -- with a count
    module _ (count : ℕ) (v : Bytes) (ev : v ≡ bytes 4 count) (d : Bytes) (m : ℕ)
        (ed : take m d ≡ spells (kind_in b) (set_field 3 v (run_in (take n b)))) where
      with_count : Drafted d m 1 (set_field 3 (bytes 4 count) (run_in s))
      with_count = set_drafted copied 3 ev (omega (arith, length-bytes 4 count)) ed

      pub counted_draft : IsDraft (take m d)
      counted_draft = held_draft with_count

      -- and with the flag
      pub topic_built : AreBytes s → {t : Bytes} → t ≡ spells (kind_in d) (set_field 5 (flag_bytes true) (run_in (take m d)))
          → t ≡ record_bytes (kept (topic (value 1 (run_in s)) (value 2 (run_in s)) count (number (value 4 (run_in s))) true))
      unfolding kept set_field rows_of shape_of record_bytes kind_number
      topic_built are e =
          let two : length (value 4 (run_in s)) ≡ 2 = fault-value logged Topic (run_in s) topic_passes 4 refl refl in
          let fields = fields-run (drop 3 s) (drop_are_bytes 3 s are) in
          let factor : value 4 (run_in s) ≡ bytes 2 (number (value 4 (run_in s))) =
          sym (bytes-number (value 4 (run_in s)) (value_are_bytes 4 (run_in s) fields)) ∙ ap (λ k. bytes k (number (value 4 (run_in s)))) two in
          let all : run_in s ≡ item 1 (value 1 (run_in s)) (item 2 (value 2 (run_in s)) (item 3 (value 3 (run_in s)) (item 4 (value 4 (run_in s)) done))) =
          required_run logged Topic (run_in s) topic_passes refl in
          set-held with_count 5 (flag_bytes true) e
          ∙ ap (λ r. spells 1 (set_field 5 (flag_bytes true) (set_field 3 (bytes 4 count) r))) all
          ∙ ap (λ y. spells 1 (item 1 (value 1 (run_in s)) (item 2 (value 2 (run_in s)) (item 3 (bytes 4 count) (item 4 y (item 5 (flag_bytes true) done)))))) factor

-- a stored count fits its field
pub count_fits_lem : (w : Bytes) (bounds : Bounds) → AreBytes w → Good w bounds → (name : Bytes) → {n : ℕ} → n ≡ count_of (get key (topic_key name) (held_in w bounds)) → n < span 4
unfolding count_of
count_fits_lem w bounds are good name e = rw e (go (get key (topic_key name) (held_in w bounds)) refl)
  where
    go : (o : Option Entry) → get key (topic_key name) (held_in w bounds) ≡ o → count_of o < span 4
    go none q = lit< tt
    go (some (topic n id count factor named)) q =
        (in_all Proper (held_in w bounds) (held_proper w bounds are good) (topic n id count factor named)
        (get_in key (topic_key name) (held_in w bounds) (topic n id count factor named) q).0).numbers.0
    go (some (part r)) q = lit< tt
    go (some (plain r)) q = lit< tt

-- the entry that was built, as a record among others
module _ (s : Bytes) (i : IsLogged s) (is : kind_in s ≡ 1) (are : AreBytes s) (count : ℕ) (fits : count < span 4) (t : Bytes)
    (et : t ≡ record_bytes (kept (topic (value 1 (run_in s)) (value 2 (run_in s)) count (number (value 4 (run_in s))) true))) where
  abbrev new : Entry
  new = topic (value 1 (run_in s)) (value 2 (run_in s)) count (number (value 4 (run_in s))) true

  lawful : AreNameAndId (value 1 (run_in s)) (value 2 (run_in s)) × (number (value 4 (run_in s)) < span 2)
  unfolding plan
  lawful = (plan_lawful Topic (run_in s) [] (topic_passes s i is) (fields-run (drop 3 s) (drop_are_bytes 3 s are)) tt).0

  pub topic_is : IsRecord t
  topic_is = record { value = kept new; bytes = et; passes = (topic_readable (value 1 (run_in s)) (value 2 (run_in s)) count (number (value 4 (run_in s))) true lawful.0).passes }

  topic_in : record_in t ≡ kept new
  unfolding kept topic_is
  topic_in = record-in t topic_is

  topic_back : entry_of (kept new) ≡ new
  topic_back = entry_kept new tt (fits, lawful.1)

  pub topic_kept : kept (entry_of (record_in t)) ≡ record_in t
  topic_kept = rw (topic_in, topic_back) refl

  module _ (w u₁ u₂ v : Bytes) (bounds r : Bounds) where
    pub topic_moved : {n id : Bytes} → n ≡ value 1 (run_in s) → id ≡ value 2 (run_in s) → length t ≤ most_record
        → Good u₁ bounds × (held_in u₁ bounds ≡ map (clear_old_named (get key (topic_key n) (held_in w bounds))) (held_in w bounds)) × (groups_in u₁ bounds ≡ groups_in w bounds) ×
        (count ≡ count_of (get key (topic_key n) (held_in w bounds)))
        → Good u₂ bounds × (held_in u₂ bounds ≡ map (clear_named id) (held_in u₁ bounds)) × (groups_in u₂ bounds ≡ groups_in u₁ bounds)
        → Good v r × (reals_in v r ≡ put record_key (record_in t) (reals_in u₂ bounds)) × (groups_in v r ≡ groups_in u₂ bounds) × (r.used ≤ bounds.used + length t)
        → Made (topic_m (value 1 (run_in s)) (value 2 (run_in s)) (number (value 4 (run_in s))) ∷ []) w bounds v r
    unfolding on_real on_empties
    topic_moved {n} {id} en ei few a b p =
        let l = held_in w bounds in
        let entry : entry_of (record_in t) ≡ topic (value 1 (run_in s)) (value 2 (run_in s)) (count_of (get key (topic_key n) l)) (number (value 4 (run_in s))) true =
        ap entry_of topic_in ∙ topic_back ∙ ap (λ k. topic (value 1 (run_in s)) (value 2 (run_in s)) k (number (value 4 (run_in s))) true) a.3 in
        made_one (topic_m (value 1 (run_in s)) (value 2 (run_in s)) (number (value 4 (run_in s)))) p.0
        (ap (map entry_of) p.1 ∙ entries-put (record_in t) (reals_in u₂ bounds) ∙ rw (entry, b.1, a.1, en, ei)) (p.2 ∙ b.2 ∙ a.2) (omega (arith, p.3))

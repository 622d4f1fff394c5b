-- Entries and the records that stand for them in an image undo each other.
use Rattle.std.specs.Prelude.{◌≡◌, Bool, true, false, cond, ◌&&◌, ◌||◌, ℕ, zero, suc, ◌≤◌, ◌<◌, eqb, length}
use Rattle.std.proofs.Math.Path.{refl, ap}
use Rattle.std.proofs.Common.{sym, arith}
use mathlib.Core.List.{List, [], ◌∷◌, ◌++◌, map}
use borrow.Author.Tests.{leb-true}
use Rattle.model.specs.Choice.{is_some, is_empty}
use Rattle.model.specs.Number.{Bytes, AreBytes, number, bytes, span}
use Rattle.model.specs.Run.{Run, done, item, field, value, values}
use Rattle.model.specs.Kind.{kind_number}
use Rattle.model.specs.Shape.{rows_of, shape_of, stored}
use Rattle.model.specs.Record.{Rec, rec}
use Rattle.model.specs.Key.{key_of, subject}
use Rattle.model.specs.Map.{ascending}
use Rattle.model.specs.Contents.{Entry, topic, part, plain, flag_bytes, kept, key, record_key, storable, entities_in_order, is_config, is_bare, is_group}
use Rattle.model.specs.Image.{entry_of, flag_reads, real_of, empties_of}
use Rattle.model.specs.declared.Kind.{Kind}
use Rattle.model.specs.declared.Kind.TheVariants.{Topic, Partition, BrokerConfig, ClientQuota}
use Rattle.laws.specs.Choice.{true_false, and_left}
use Rattle.laws.specs.Lists.{All}
use Rattle.laws.specs.Numbers.{number_bytes_lem, bytes-number, number_bound}
use Rattle.laws_records.specs.Fields.{value_are_bytes}
use Rattle.laws_records.specs.Faults.{fault-value}
use Rattle.laws_image.specs.Kinds.{is_kind, not_kind}
use Rattle.laws_image.specs.Fits.{Readable, NumbersFit, Proper}
use Rattle.laws_image.specs.Orderly.{Storable}
use Rattle.laws_image.specs.Required.{required_run}

-- 1. A record such as Apply stores is no topic and no partition

module _ (k : Kind) (run : Run) (h : storable k run ≡ true) where
  pub not_topic : k ≡ Topic → ⊥
  unfolding storable
  not_topic e = true_false h (rw e)

  pub not_partition : k ≡ Partition → ⊥
  unfolding storable
  not_partition e = true_false h (rw e)

-- 2. From an entry to its record and back

pub entry_kept : (e : Entry) → Storable e → NumbersFit e → entry_of (kept e) ≡ e
unfolding entry_of kept field kind_number
entry_kept (topic name id count factor true) s f = rw (number_bytes_lem 4 count f.0, number_bytes_lem 2 factor f.1)
entry_kept (topic name id count factor false) s f = rw (number_bytes_lem 4 count f.0, number_bytes_lem 2 factor f.1)
entry_kept (part r) s f = refl
entry_kept (plain r) s f =
    rw (not_kind r.kind Topic (not_topic r.kind r.run s), not_kind r.kind Partition (not_partition r.kind r.run s))

-- 3. From a record to its entry and back

bytes_of : (width : ℕ) (v : Bytes) → AreBytes v → length v ≡ width → bytes width (number v) ≡ v
bytes_of width v p h = rw (← h) (bytes-number v p)

below_span : (width : ℕ) (v : Bytes) → AreBytes v → length v ≡ width → number v < span width
below_span width v p h = rw (← h) (number_bound v p)

flag_of : (v : Bytes) → AreBytes v → length v ≡ 5 → number v ≤ 1 → flag_bytes (eqb (number v) 1) ≡ v
flag_of v p h low = go (number v) low (bytes_of 5 v p h)
  where
    go : (n : ℕ) → n ≤ 1 → bytes 5 n ≡ v → flag_bytes (eqb n 1) ≡ v
    go zero k e = e
    go (suc zero) k e = e
    go (suc (suc n)) k e = absurd (omega arith)

-- a topic's fields
module _ (run : Run) (readable : Readable (rec Topic run)) (reads : flag_reads (rec Topic run) ≡ true) where
  value-bytes : (tag : ℕ) → AreBytes (value tag run)
  value-bytes tag = value_are_bytes tag run readable.fields

  count-length : length (value 3 run) ≡ 4
  unfolding rows_of shape_of kind_number
  count-length = fault-value stored Topic run readable.passes 3 refl refl

  factor_length : length (value 4 run) ≡ 2
  unfolding rows_of shape_of kind_number
  factor_length = fault-value stored Topic run readable.passes 4 refl refl

  flag-length : length (value 5 run) ≡ 5
  unfolding rows_of shape_of kind_number
  flag-length = fault-value stored Topic run readable.passes 5 refl refl

  flag_low : number (value 5 run) ≤ 1
  unfolding flag_reads kind_number
  flag_low = leb-true (number (value 5 run)) 1 reads

  topic_fields : run ≡ item 1 (value 1 run) (item 2 (value 2 run) (item 3 (value 3 run) (item 4 (value 4 run) (item 5 (value 5 run) done))))
  unfolding rows_of shape_of kind_number
  topic_fields = required_run stored Topic run readable.passes refl

  kept_topic : kept (entry_of (rec Topic run)) ≡ rec Topic run
  unfolding entry_of kept kind_number
  kept_topic =
      let a = bytes_of 4 (value 3 run) (value-bytes 3) count-length in
      let b = bytes_of 2 (value 4 run) (value-bytes 4) factor_length in
      let c = flag_of (value 5 run) (value-bytes 5) flag-length flag_low in
      ap (rec Topic) (rw (a, b, c) (sym topic_fields))

  topic_numbers : NumbersFit (entry_of (rec Topic run))
  unfolding entry_of kind_number
  topic_numbers = (below_span 4 (value 3 run) (value-bytes 3) count-length, below_span 2 (value 4 run) (value-bytes 4) factor_length)

-- a record stands for its entry
record Stands (r : Rec) : Type 0 where
  back : kept (entry_of r) ≡ r
  numbers : NumbersFit (entry_of r)

topic_stands : (run : Run) → Readable (rec Topic run) → flag_reads (rec Topic run) ≡ true → Stands (rec Topic run)
topic_stands run p q = record { back = kept_topic run p q; numbers = topic_numbers run p q }

partition-stands : (run : Run) → Stands (rec Partition run)
unfolding entry_of kept kind_number
partition-stands run = record { back = refl; numbers = tt }

plain_stands : (k : Kind) (run : Run) → eqb (kind_number k) 1 ≡ false → eqb (kind_number k) 2 ≡ false → Stands (rec k run)
plain_stands k run e f = let q = plain_entry in record { back = rw q kept_plain; numbers = rw q tt }
  where
    plain_entry : entry_of (rec k run) ≡ plain (rec k run)
    plain_entry = unfold entry_of in rw (e, f)

    kept_plain : kept (plain (rec k run)) ≡ rec k run
    kept_plain = unfold kept in refl

stands : (k : Kind) (run : Run) → Readable (rec k run) → flag_reads (rec k run) ≡ true → Stands (rec k run)
unfolding kind_number
stands k run = go (eqb (kind_number k) 1) refl (eqb (kind_number k) 2) refl
  where
    go : (b : Bool) → eqb (kind_number k) 1 ≡ b → (c : Bool) → eqb (kind_number k) 2 ≡ c → Readable (rec k run) → flag_reads (rec k run) ≡ true
        → Stands (rec k run)
    go true e c f = rw (is_kind k Topic e) (topic_stands run)
    go false e true f = rw (is_kind k Partition f) (λ p q. partition-stands run)
    go false e false f = λ p q. plain_stands k run e f

pub kept_entry : (r : Rec) → Readable r → flag_reads r ≡ true → kept (entry_of r) ≡ r
kept_entry r p q = (stands r.kind r.run p q).back

pub entry_proper : (r : Rec) → Readable r → flag_reads r ≡ true → Proper (entry_of r)
entry_proper r p q = record { readable = rw (kept_entry r p q) p; numbers = (stands r.kind r.run p q).numbers }

-- 4. The records of entries read, and are no empty groups

pub kept_reads : (e : Entry) → Storable e → flag_reads (kept e) ≡ true
unfolding flag_reads kept field kind_number
kept_reads (topic name id count factor true) s = refl
kept_reads (topic name id count factor false) s = refl
kept_reads (part r) s = refl
kept_reads (plain r) s = rw (not_kind r.kind Topic (not_topic r.kind r.run s))

storable_bare : (k : Kind) (run : Run) → storable k run ≡ true → is_bare (rec k run) ≡ false
unfolding kind_number storable
storable_bare k run = go (eqb (kind_number k) 6) refl (eqb (kind_number k) 7) refl
  where
    go : (b : Bool) → eqb (kind_number k) 6 ≡ b → (c : Bool) → eqb (kind_number k) 7 ≡ c → storable k run ≡ true → is_bare (rec k run) ≡ false
    go true e c f = rw (is_kind k BrokerConfig e) (λ h. rw h)
    go false e true f = rw (is_kind k ClientQuota f) (λ h. rw (and_left (is_some (field 3 run)) (entities_in_order (values 1 run)) h))
    go false e false f = λ h. rw (e, f)

pub kept_bare : (e : Entry) → Storable e → is_bare (kept e) ≡ false
unfolding kept kind_number
kept_bare (topic name id count factor named) s = refl
kept_bare (part r) s = refl
kept_bare (plain r) s = storable_bare r.kind r.run s

-- an entry's key is its record's
pub entry_key : (r : Rec) → key (entry_of r) ≡ record_key r
unfolding entry_of key key_of subject kind_number
entry_key r = go (eqb (kind_number r.kind) 1) refl (eqb (kind_number r.kind) 2) refl
  where
    go : (t : Bool) → eqb (kind_number r.kind) 1 ≡ t → (p : Bool) → eqb (kind_number r.kind) 2 ≡ p → key (entry_of r) ≡ record_key r
    go true e p f = rw (is_kind r.kind Topic e)
    go false e true f = rw (is_kind r.kind Partition f)
    go false e false f = rw (e, f)

pub ascending-entries : (l : List Rec) → ascending key (map entry_of l) ≡ ascending record_key l
unfolding ascending
ascending-entries [] = refl
ascending-entries (x ∷ []) = refl
ascending-entries (x ∷ y ∷ l) = rw (entry_key x, entry_key y, ascending-entries (y ∷ l))

-- 5. The records of an image: those of entries, then the empty groups

pub real_empties : (rs : List Rec) → real_of rs ++ empties_of rs ≡ rs
unfolding real_of empties_of
real_empties [] = refl
real_empties (r ∷ rs) = go (is_bare r) (real_empties rs)
  where
    go : (b : Bool) → real_of rs ++ empties_of rs ≡ rs → cond b [] (r ∷ real_of rs) ++ cond b (r ∷ rs) (empties_of rs) ≡ r ∷ rs
    go true i = refl
    go false i = ap (λ l. r ∷ l) i

-- a bare record is no topic
pub bare_reads : (r : Rec) → is_bare r ≡ true → flag_reads r ≡ true
unfolding flag_reads kind_number
bare_reads r h = rw (not_kind r.kind Topic not_bare)
  where
    topic_bare : (k : Kind) (run : Run) → k ≡ Topic → is_bare (rec k run) ≡ false
    topic_bare k run e = rw e

    not_bare : r.kind ≡ Topic → ⊥
    not_bare e = true_false h (topic_bare r.kind r.run e)

-- a group's record is bare
pub group_bare : (r : Rec) → is_group r ≡ true → is_bare r ≡ true
unfolding is_group
group_bare r h =
    let named = is_empty (value 2 r.run) in
    let ordered = is_config r || entities_in_order (values 1 r.run) in
    and_left (is_bare r) named (and_left (is_bare r && named) ordered h)

module _ (gs : List Rec) (bare : All (λ r. is_bare r ≡ true) gs) where
  real_bare : real_of gs ≡ []
  unfolding real_of
  real_bare = go gs bare
    where
      go : (l : List Rec) → All (λ r. is_bare r ≡ true) l → real_of l ≡ []
      go [] b = refl
      go (g ∷ l) b = rw b.0

  empties_bare : empties_of gs ≡ gs
  unfolding empties_of
  empties_bare = go gs bare
    where
      go : (l : List Rec) → All (λ r. is_bare r ≡ true) l → empties_of l ≡ l
      go [] b = refl
      go (g ∷ l) b = rw b.0

  pub real_append : (rs : List Rec) → All (λ r. is_bare r ≡ false) rs → real_of (rs ++ gs) ≡ rs
  unfolding real_of
  real_append [] n = real_bare
  real_append (r ∷ rs) n = rw n.0 (ap (λ l. r ∷ l) (real_append rs n.1))

  pub empties_append : (rs : List Rec) → All (λ r. is_bare r ≡ false) rs → empties_of (rs ++ gs) ≡ gs
  unfolding empties_of
  empties_append [] n = empties_bare
  empties_append (r ∷ rs) n = rw n.0 (empties_append rs n.1)

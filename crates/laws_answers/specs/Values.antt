-- The value that comes with each operation's answer is below 2^32, whatever the operation is given. A refusal has none.
use Rattle.std.specs.Prelude.{◌≡◌, refl, Bool, true, false, cond, List, [], ◌∷◌, ◌++◌, ℕ, zero, suc, ◌+◌, ◌≤◌, ◌<◌, leb, length, drop}
use Rattle.std.proofs.Math.Option.{Option, none, some}
use Rattle.std.proofs.Common.{arith}
use Rattle.model.specs.Choice.{given, joined}
use Rattle.model.specs.Number.{Bytes, AreBytes, bytes}
use Rattle.model.specs.Shape.{logged, framed, fault, string_limit, text_fault}
use Rattle.model.specs.Reply.{Reply, accepted, refused, Ended, unchanged, emit_bytes}
use Rattle.model.specs.Record.{Rec, rec, record_bytes, Got, bad, got, read, on_got, read_of, gathered, writing, write_of}
use Rattle.model.specs.Order.{Key}
use Rattle.model.specs.Key.{topic_key, partition_key, node_key}
use Rattle.model.specs.Map.{get}
use Rattle.model.specs.Contents.{Contents, Entry, key, fresh}
use Rattle.model.specs.Image.{is_capacity, is_image, contents_of, image_of, open_of}
use Rattle.model.specs.Validate.{judge, validate_of}
use Rattle.model.specs.Apply.{Applied, stays, becomes, apply_at, laid, apply_of}
use Rattle.model.specs.Snapshot.{emit, snapshot, snapshot_of}
use Rattle.model.specs.Lookup.{found, named, named_by, freeze, as_list, topic_by_name, topic_by_id, partition_of, broker_of, short_count, short_of, freeze_of}
use Rattle.model.specs.Lookup.{throttle_name, throttle, as_values, throttle_of}
use Rattle.model.specs.Downgrade.{downgrade, downgrade_of}
use Rattle.model.specs.History.{first_value}
use Rattle.model.specs.declared.Kind.{Kind}
use Rattle.model.specs.declared.Kind.TheVariants.{Partition, BrokerRegistration}
use Rattle.laws_records.specs.Records.{read-used, reads}
use Rattle.laws_image.specs.Fits.{Fits}
use Rattle.laws_image.specs.Tests.{capacity-most}
use Rattle.laws_image.specs.Exact.{image_fits}
use Rattle.laws_image.specs.Snapshot.{snapshot_fits}
use Rattle.laws_answers.specs.Records.{longest_record, record-short, entries-short, entries_few, found-short, list_short, get-short, named-short, freeze-short, short_few}
use Rattle.laws_answers.specs.Listing.{listing-short}

abbrev pub Below : Reply → Type 0
Below r = first_value r.values < 4294967296

-- 1. No value, and bytes that are written

pub none_below : (n : ℕ) → Below (refused n)
none_below n = omega arith

pub emit-below : (s out : Bytes) → length s < 4294967296 → Below (emit_bytes s out).reply
unfolding emit_bytes
emit-below s out h = go (leb (length s) (length out))
  where
    go : (b : Bool) → Below (cond b (record { reply = accepted (length s ∷ []); buffer = s ++ drop (length s) out }) (unchanged 19 out)).reply
    go true = h
    go false = none_below 19

-- records of a lookup, after the checks of a name
records-below : (rs : List Rec) (out : Bytes) → length (joined record_bytes rs) ≤ longest_record → Below (emit rs out).reply
unfolding emit
records-below rs out h = emit-below (joined record_bytes rs) out (omega (arith, h))

named-below : (n : ℕ) (rs : List Rec) (out : Bytes) → length (joined record_bytes rs) ≤ longest_record → Below (named n rs out).reply
named-below zero rs out h = records-below rs out h
named-below (suc n) rs out h = none_below (suc n)

-- 2. Operations on records

pub read_below : (s : Bytes) → Below (read_of s)
unfolding read_of
read_below s = go (read framed s) refl
  where
    go : (g : Got) → read framed s ≡ g → Below (on_got g refused (λ r used. accepted (used ∷ [])))
    go (bad n) e = none_below n
    go (got r used) e = omega (arith, (read-used framed s r used e).0, record-short framed r (reads framed s r used e).passes)

pub write_below : (kind : Kind) (tags : Bytes) (lengths : List ℕ) (values out : Bytes) → Below (write_of kind tags lengths values out).reply
unfolding write_of
write_below kind tags lengths values out = go (fault framed kind (gathered tags lengths values)) refl
  where
    r : Rec
    r = rec kind (gathered tags lengths values)

    go : (n : ℕ) → fault framed kind (gathered tags lengths values) ≡ n → Below (writing n r out).reply
    go zero e = emit-below (record_bytes r) out (omega (arith, record-short framed r e))
    go (suc n) e = none_below (suc n)

-- 3. Operations with no value

pub open_below : (buffer : Bytes) → Below (open_of buffer).reply
unfolding open_of
open_below buffer = go (is_capacity (length buffer))
  where
    go : (b : Bool) → Below (cond b (record { reply = accepted []; buffer = image_of (length buffer) fresh }) (unchanged 1 buffer)).reply
    go true = none_below 0
    go false = none_below 1

pub validate_below : (image input : Bytes) → Below (validate_of image input)
unfolding validate_of
validate_below image input = go (is_image image) (read logged input)
  where
    go : (b : Bool) (g : Got) → Below (cond b (on_got g refused (λ r used. refused (judge r (contents_of image).real))) (refused 1))
    go false g = none_below 1
    go true (bad n) = none_below n
    go true (got r used) = none_below (judge r (contents_of image).real)

pub apply-below : (image : Bytes) (offset : ℕ) (input : Bytes) → Below (apply_of image offset input).reply
unfolding apply_of
apply-below image offset input = go (is_image image) (read logged input)
  where
    laid-below : (a : Applied) → Below (laid image a).reply
    laid-below (stays n) = none_below n
    laid-below (becomes c) = none_below 0

    go : (b : Bool) (g : Got)
        → Below (cond b (on_got g (λ n. unchanged n image) (λ r used. laid image (apply_at (length image) offset r (contents_of image)))) (unchanged 1 image)).reply
    go false g = none_below 1
    go true (bad n) = none_below n
    go true (got r used) = laid-below (apply_at (length image) offset r (contents_of image))

-- 4. Operations that read an image

module _ (image : Bytes) (b : AreBytes image) where
  abbrev c : Contents
  c = contents_of image

  abbrev capacity : ℕ
  capacity = length image

  -- where it is one
  of_image : {A : Type 0} (replied : A → Reply) (a other : A) → (Fits capacity c → Below (replied a)) → Below (replied other)
      → Below (replied (cond (is_image image) a other))
  of_image replied a other h k = go (is_image image) refl
    where
      go : (t : Bool) → is_image image ≡ t → Below (replied (cond t a other))
      go true e = h (image_fits image b e)
      go false e = k

  written_below : (e : Ended) (out : Bytes) → (Fits capacity c → Below e.reply) → Below (cond (is_image image) e (unchanged 1 out)).reply
  written_below e out h = of_image (λ x. x.reply) e (unchanged 1 out) h (none_below 1)

  -- a record that is found, by a name or by a number
  module _ (rs : List Rec) (out : Bytes) (short : Fits capacity c → length (joined record_bytes rs) ≤ longest_record) where
    by_name : (name : Bytes) → Below (cond (is_image image) (named (text_fault string_limit name) rs out) (unchanged 1 out)).reply
    by_name name =
        let n = text_fault string_limit name in
        written_below (named n rs out) out (λ f. named-below n rs out (short f))

    by_number_lem : Below (cond (is_image image) (emit rs out) (unchanged 1 out)).reply
    by_number_lem = written_below (emit rs out) out (λ f. records-below rs out (short f))

  pub entry_short : (k : Key) → Fits capacity c → length (joined record_bytes (found (get key k c.real))) ≤ longest_record
  entry_short k f = found-short (get key k c.real) (get-short c.real (entries-short capacity c f) k)

  pub topic_below : (name out : Bytes) → Below (topic_by_name image name out).reply
  unfolding topic_by_name
  topic_below name out = let k = topic_key name in by_name (found (get key k c.real)) out (entry_short k) name

  pub topic_id_below : (id out : Bytes) → Below (topic_by_id image id out).reply
  unfolding topic_by_id
  topic_id_below id out =
      let o = named_by id c.real in
      by_number_lem (found o) out (λ f. found-short o (named-short id c.real (entries-short capacity c f)))

  pub partition-below : (name : Bytes) (n : ℕ) (out : Bytes) → Below (partition_of image name n out).reply
  unfolding partition_of
  partition-below name n out =
      let k = partition_key Partition name (bytes 4 n) in
      by_name (found (get key k c.real)) out (entry_short k) name

  pub broker_below : (node : ℕ) (out : Bytes) → Below (broker_of image node out).reply
  unfolding broker_of
  broker_below node out =
      let k = node_key BrokerRegistration (bytes 8 node) in
      by_number_lem (found (get key k c.real)) out (entry_short k)

  pub freeze-below : (name out : Bytes) → Below (freeze_of image name out).reply
  unfolding freeze_of
  freeze-below name out =
      let o = freeze name c.real in
      by_name (as_list o) out (λ f. list_short o (freeze-short c.real (entries-short capacity c f) name)) name

  pub short-below : Below (short_of image)
  unfolding short_of
  short-below =
      of_image (λ r. r) (accepted (short_count c.real ∷ [])) (refused 1)
      (λ f. omega (arith, short_few c.real, entries_few capacity c f)) (none_below 1)

  pub snapshot-below : (out : Bytes) → Below (snapshot_of image out).reply
  unfolding snapshot_of emit
  snapshot-below out =
      let s = joined record_bytes (snapshot c) in
      written_below (emit_bytes s out) out λ f.
      emit-below s out (omega (arith, snapshot_fits capacity c f, capacity-most capacity f.within))

  pub downgrade-below : (level : ℕ) (out : Bytes) → Below (downgrade_of image level out).reply
  unfolding downgrade_of emit
  downgrade-below level out =
      let s = joined record_bytes (downgrade level c) in
      written_below (emit_bytes s out) out λ f. emit-below s out (listing-short level capacity c f)

-- 5. A throttle has one value, or none

pub throttle_once : (image : Bytes) (node which : ℕ) → length (throttle_of image node which).values ≤ 1
unfolding throttle_of
throttle_once image node which = go (is_image image) (throttle_name which)
  where
    l : List Entry
    l = (contents_of image).real

    once : (o : Option ℕ) → length (as_values o) ≤ 1
    once none = omega arith
    once (some n) = omega arith

    go : (b : Bool) (o : Option Bytes)
        → length (cond b (given o (refused 4) (λ name. accepted (as_values (throttle node name l)))) (refused 1)).values ≤ 1
    go false o = omega arith
    go true none = omega arith
    go true (some name) = once (throttle node name l)

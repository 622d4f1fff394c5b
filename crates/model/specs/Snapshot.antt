-- *Snapshot*, *Restore*, and the restored image.
use Rattle.std.specs.Prelude.{ℕ, zero, suc, ◌-◌, Bool, cond, List, [], ◌∷◌, ◌++◌, map, eqb, length}
use Rattle.model.specs.Choice.{joined, folded, total}
use Rattle.model.specs.Number.{Bytes, number, bytes, span, is_negative}
use Rattle.model.specs.Order.{Key, same_bytes}
use Rattle.model.specs.Run.{done, item, value}
use Rattle.model.specs.Kind.{kind_number}
use Rattle.model.specs.Shape.{framed}
use Rattle.model.specs.Record.{Rec, rec, record_bytes}
use Rattle.model.specs.Key.{rank, key_rank}
use Rattle.model.specs.Map.{count}
use Rattle.model.specs.Items.{Items, end, bad, item as record-item, items_of}
use Rattle.model.specs.Contents.{Entry, topic, part, plain, returned, key, Fixed, Contents, fresh, dated, partitions}
use Rattle.model.specs.Image.{is_capacity, is_image, contents_of, image_of}
use Rattle.model.specs.Move.{partition_topic, replicas, node_count}
use Rattle.model.specs.Apply.{Applied, stays, becomes, apply}
use Rattle.model.specs.Reply.{Reply, accepted, Ended, unchanged, emit_bytes}
use Rattle.model.specs.declared.Kind.TheVariants.{FeatureLevel, FeaturesEpoch, KRaftVersion, LogOffset}

-- 1. Snapshot

-- records into an output: 0 with a prefix written, or 19. Every reading operation ends here, so that equal records give equal answers
unfoldable pub emit : List Rec → Bytes → Ended
emit rs out = emit_bytes (joined record_bytes rs) out

-- how long records are together. 02, 3: "the total it gets is the sum of the earlier records' lengths"
abbrev pub lengths : List Rec → ℕ
lengths rs = total (λ r. length (record_bytes r)) rs

-- 02, 5: "The snapshot starts with kind 26 (tag 1, the offset ..)"
abbrev pub offset_rec : ℕ → Rec
offset_rec n = rec LogOffset (item 1 (bytes 8 n) done)

-- how many bytes it has
abbrev pub offset_size : ℕ
offset_size = 14

abbrev pub is_offset_rec : Rec → Bool
is_offset_rec r = eqb (kind_number r.kind) 26

-- the records after the entries': the epoch unless it is negative, the kraft version unless it is 0
unfoldable pub epoch_records : ℕ → List Rec
epoch_records e = cond (is_negative 8 e) [] (rec FeaturesEpoch (item 1 (bytes 8 e) done) ∷ [])

unfoldable pub kraft_records : ℕ → List Rec
kraft_records v = cond (eqb v 0) [] (rec KRaftVersion (item 1 (bytes 2 v) done) ∷ [])

abbrev pub trail : Fixed → List Rec
trail f = epoch_records f.epoch ++ kraft_records f.kraft

-- a snapshot apart from the offset
unfoldable pub body : Contents → List Rec
body c = map returned c.real ++ trail c.fixed

unfoldable pub snapshot : Contents → List Rec
snapshot c = offset_rec c.fixed.offset ∷ body c

unfoldable pub snapshot_of : Bytes → Bytes → Ended
snapshot_of image out = cond (is_image image) (emit (snapshot (contents_of image)) out) (unchanged 1 out)

-- 2. Restore

-- records applied in order, from any contents: the contents reached, and the first refusal with its place
pub record Replayed : Type 0 where
  pub reply : Reply
  pub contents : Contents

abbrev pub stopped : ℕ → ℕ → Contents → Replayed
stopped n place c = record { reply = record { number = n; values = place ∷ [] }; contents = c }

abbrev pub on_applied : {A : Type 0} → Applied → (ℕ → A) → (Contents → A) → A
on_applied (stays n) f g = f n
on_applied (becomes c) f g = g c

unfoldable pub replay : ℕ → Items → Contents → Replayed
replay capacity end c = record { reply = accepted []; contents = c }
replay capacity (bad n place) c = stopped n place c
replay capacity (record-item place r rest) c =
    cond (is_offset_rec r) (stopped 22 place c) (on_applied (apply capacity r c) (λ n. stopped n place c) (replay capacity rest))

-- 02, 5: "Restore sets it from there; records inside a snapshot carry none"; "22 in Restore, kind 26 is missing at the start or stands later,
-- directly after that record's Read's (no records: 22 at place 0, image fresh)"
unfoldable pub replay_run : ℕ → Items → Replayed
replay_run capacity end = stopped 22 0 fresh
replay_run capacity (bad n place) = stopped n place fresh
replay_run capacity (record-item place r rest) =
    cond (is_offset_rec r) (replay capacity rest (dated (number (value 1 r.run)) fresh)) (stopped 22 place fresh)

-- "1 on capacity; then each record as in Apply. A record's refusal adds that record's first byte's place, and the buffer holds the image of the
-- records before it; 1 adds no place and changes nothing." 02, 5, takes the place of its "No records give a fresh image".
abbrev pub laid_out : ℕ → Replayed → Ended
laid_out capacity d = record { reply = d.reply; buffer = image_of capacity d.contents }

unfoldable pub restore_of : Bytes → Bytes → Ended
restore_of input b = cond (is_capacity (length b)) (laid_out (length b) (replay_run (length b) (items_of framed input))) (unchanged 1 b)

-- 3. The restored image

-- "its replication factor is its highest partition's replica count, if it has one": partitions ascend, so the last of the topic is the highest
unfoldable pub last_factor : Bytes → ℕ → Entry → ℕ
last_factor name factor (part r) = cond (same_bytes (partition_topic r) name) (node_count (replicas r)) factor
last_factor name factor (topic n id c f named) = factor
last_factor name factor (plain r) = factor

unfoldable pub restored_factor : Bytes → ℕ → List Entry → ℕ
restored_factor name factor l = folded (last_factor name) factor l

-- "each stored topic's id names it, the greatest name where shared": names ascend, so the last topic of the id is the greatest
unfoldable pub last_owner : Bytes → Bytes → Entry → Bytes
last_owner i owner (topic name id c f named) = cond (same_bytes id i) name owner
last_owner i owner (part r) = owner
last_owner i owner (plain r) = owner

unfoldable pub owner_of : Bytes → Bytes → List Entry → Bytes
owner_of i owner l = folded (last_owner i) owner l

-- "each topic's count is its stored partitions' number"
unfoldable pub restored_entry : List Entry → Entry → Entry
restored_entry l (topic name id c factor named) =
    topic name id (partitions name l) (restored_factor name factor l) (same_bytes (owner_of id name l) name)
restored_entry l (part r) = part r
restored_entry l (plain r) = plain r

unfoldable pub is_level : Key → Bool
is_level k = eqb (key_rank k) (rank FeatureLevel)

unfoldable pub levels : List Entry → ℕ
levels l = count key is_level l

-- "a negative epoch becomes the number of levels minus 1"
unfoldable pub less_one : ℕ → ℕ
less_one zero = span 8 - 1
less_one (suc n) = n

unfoldable pub restored_epoch : ℕ → ℕ → ℕ
restored_epoch n e = cond (is_negative 8 e) (less_one n) e

-- "empty groups are gone"; "All else is equal."
unfoldable pub restored : Contents → Contents
restored c = record {
  real = map (restored_entry c.real) c.real;
  empties = [];
  fixed = record { epoch = restored_epoch (levels c.real) c.fixed.epoch; kraft = c.fixed.kraft; offset = c.fixed.offset };
}

-- What an operation that only reads an image answers: a function of the image's entries and fixed parts, never of its empty groups.
use Rattle.std.specs.Prelude.{◌≡◌, true, ℕ, length}
use Rattle.model.specs.Number.{Bytes}
use Rattle.model.specs.Contents.{Contents}
use Rattle.model.specs.Image.{is_image, contents_of}
use Rattle.model.specs.Snapshot.{body, snapshot, snapshot_of}
use Rattle.model.specs.Validate.{validate_of}
use Rattle.model.specs.Lookup.{topic_by_name, topic_by_id, partition_of, broker_of, epoch_of, offset_of, short_of, freeze_of, throttle_of}
use Rattle.model.specs.FreezeList.{freeze_list_of}
use Rattle.model.specs.View.{Query, whole, topic, partition, freeze, view_of, viewer_fault, query_fault, view_snapshot_of, view_topic_of, view_partition_of, view_freeze_of}
use Rattle.model.specs.Downgrade.{downgrade, downgrade_of}
use Rattle.history.specs.Like.{Like}

-- two images of one capacity, the second of which may lack empty groups
pub record Alike (u c : Bytes) : Type 0 where
  pub first : is_image u ≡ true
  pub second : is_image c ≡ true
  pub size : length c ≡ length u
  pub contents : Like (contents_of u) (contents_of c)

pub same-snapshot : (u c : Contents) → Like u c → snapshot c ≡ snapshot u
unfolding snapshot body
same-snapshot u c k = rw (k.real, k.fixed)

module _ (u c : Bytes) (a : Alike u c) where
  same_real : (contents_of c).real ≡ (contents_of u).real
  same_real = a.contents.real

  pub same_validate : (input : Bytes) → validate_of c input ≡ validate_of u input
  unfolding validate_of
  same_validate input = simp (a.first, a.second, same_real)

  pub same_topic : (name out : Bytes) → topic_by_name c name out ≡ topic_by_name u name out
  unfolding topic_by_name
  same_topic name out = rw (a.first, a.second, same_real)

  pub same_topic_id : (id out : Bytes) → topic_by_id c id out ≡ topic_by_id u id out
  unfolding topic_by_id
  same_topic_id id out = rw (a.first, a.second, same_real)

  pub same-partition : (name : Bytes) (n : ℕ) (out : Bytes) → partition_of c name n out ≡ partition_of u name n out
  unfolding partition_of
  same-partition name n out = rw (a.first, a.second, same_real)

  pub same_broker : (node : ℕ) (out : Bytes) → broker_of c node out ≡ broker_of u node out
  unfolding broker_of
  same_broker node out = rw (a.first, a.second, same_real)

  pub same-epoch : epoch_of c ≡ epoch_of u
  unfolding epoch_of
  same-epoch = rw (a.first, a.second, a.contents.fixed)

  pub same-offset : offset_of c ≡ offset_of u
  unfolding offset_of
  same-offset = rw (a.first, a.second, a.contents.fixed)

  pub same-short : short_of c ≡ short_of u
  unfolding short_of
  same-short = rw (a.first, a.second, same_real)

  pub same-freeze : (name out : Bytes) → freeze_of c name out ≡ freeze_of u name out
  unfolding freeze_of
  same-freeze name out = rw (a.first, a.second, same_real)

  pub same_freezes : (list out : Bytes) → freeze_list_of c list out ≡ freeze_list_of u list out
  unfolding freeze_list_of
  same_freezes list out = rw (a.first, a.second, same_real)

  pub same_view : (q : Query) (list out : Bytes) → view_of q c list out ≡ view_of q u list out
  unfolding view_of viewer_fault query_fault view_snapshot_of view_topic_of view_partition_of view_freeze_of
  same_view whole list out = rw (a.first, a.second, same_real)
  same_view (topic name) list out = rw (a.first, a.second, same_real)
  same_view (partition name n) list out = rw (a.first, a.second, same_real)
  same_view (freeze name) list out = rw (a.first, a.second, same_real)

  pub same-throttle : (node which : ℕ) → throttle_of c node which ≡ throttle_of u node which
  unfolding throttle_of
  same-throttle node which = simp (a.first, a.second, same_real)

  pub same-downgrade : (level : ℕ) (out : Bytes) → downgrade_of c level out ≡ downgrade_of u level out
  unfolding downgrade_of downgrade
  same-downgrade level out = rw (a.first, a.second, same_real)

  pub same-snapshot_of : (out : Bytes) → snapshot_of c out ≡ snapshot_of u out
  unfolding snapshot_of
  same-snapshot_of out = rw (a.first, a.second, same-snapshot (contents_of u) (contents_of c) a.contents)

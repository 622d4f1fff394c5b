-- The value that comes with a viewer's answers is below 2^32: what it gets of an image is no longer than the image's records.
use Rattle.std.specs.Prelude.{◌≡◌, refl, Bool, true, false, cond, List, [], ◌∷◌, ◌++◌, map, ℕ, zero, suc, ◌≤◌, ◌<◌}
use Rattle.std.proofs.Common.{sym, ◌∙◌, arith, length-append}
use Rattle.std.proofs.Math.Path.{ap}
use Rattle.std.proofs.Math.ListN.{length}
use Rattle.model.specs.Choice.{joined}
use Rattle.model.specs.Number.{Bytes, AreBytes, bytes}
use Rattle.model.specs.Order.{Key}
use Rattle.model.specs.Record.{Rec, record_bytes}
use Rattle.model.specs.Key.{topic_key, partition_key}
use Rattle.model.specs.Map.{keep}
use Rattle.model.specs.Contents.{Contents, Entry, returned, key}
use Rattle.model.specs.Image.{contents_of}
use Rattle.model.specs.Snapshot.{offset_rec, trail, body, snapshot, emit}
use Rattle.model.specs.Lookup.{named, as_list, freeze}
use Rattle.model.specs.View.{is_seen, view_records, prefixes_in, viewer_fault, query_fault, view_snapshot_of, view_topic_of, view_partition_of, view_freeze_of}
use Rattle.model.specs.declared.Kind.TheVariants.{Partition}
use Rattle.laws.specs.Lists.{joined-append}
use Rattle.laws_image.specs.Fits.{Fits}
use Rattle.laws_image.specs.Tests.{capacity-most}
use Rattle.laws_image.specs.Exact.{image_fits}
use Rattle.laws_image.specs.Snapshot.{snapshot_fits}
use Rattle.laws_view.specs.Passed.{viewer_image, query_viewer, query_visible}
use Rattle.laws_view.specs.Visible.{visible-freeze}
use Rattle.laws_answers.specs.Records.{entries-short, list_short, freeze-short}
use Rattle.laws_answers.specs.Values.{Below, none_below, emit-below, entry_short}

-- 1. Records that pass a test are together no longer than all

kept-shorter : (test : Key → Bool) (l : List Entry) → length (joined record_bytes (map returned (keep key test l))) ≤ length (joined record_bytes (map returned l))
unfolding keep
kept-shorter test [] = omega arith
kept-shorter test (e ∷ l) = go (test (key e)) (kept-shorter test l)
  where
    go : (b : Bool) → length (joined record_bytes (map returned (keep key test l))) ≤ length (joined record_bytes (map returned l))
        → length (joined record_bytes (map returned (cond b (e ∷ keep key test l) (keep key test l)))) ≤ length (record_bytes (returned e) ++ joined record_bytes (map returned l))
    go true h =
        omega (
          arith,
          h,
          length-append (record_bytes (returned e)) (joined record_bytes (map returned (keep key test l))),
          length-append (record_bytes (returned e)) (joined record_bytes (map returned l)),
        )
    go false h = omega (arith, h, length-append (record_bytes (returned e)) (joined record_bytes (map returned l)))

entries-within : (c : Contents) → length (joined record_bytes (map returned c.real)) ≤ length (joined record_bytes (snapshot c))
unfolding snapshot body
entries-within c =
    let first = record_bytes (offset_rec c.fixed.offset) in
    let entries = joined record_bytes (map returned c.real) in
    let rest = joined record_bytes (trail c.fixed) in
    let all : joined record_bytes (body c) ≡ entries ++ rest = joined-append record_bytes (map returned c.real) (trail c.fixed) in
    omega (arith, length-append first (joined record_bytes (body c)), ap length all, length-append entries rest)

-- 2. The operations

by_fault : (f : ℕ) (rs : List Rec) (out : Bytes) → (f ≡ 0 → length (joined record_bytes rs) < 4294967296) → Below (named f rs out).reply
unfolding emit
by_fault zero rs out h = emit-below (joined record_bytes rs) out (h refl)
by_fault (suc f) rs out h = none_below (suc f)

module _ (image : Bytes) (b : AreBytes image) (list : Bytes) where
  abbrev c : Contents
  c = contents_of image

  viewed : viewer_fault image list ≡ 0 → Fits (length image) c
  viewed z = image_fits image b (viewer_image image list z)

  pub view_snapshot-below : (out : Bytes) → Below (view_snapshot_of image list out).reply
  unfolding view_snapshot_of view_records
  view_snapshot-below out =
      by_fault (viewer_fault image list) (view_records (prefixes_in list) c.real) out λ z.
      let f = viewed z in
      omega (arith, kept-shorter (is_seen (prefixes_in list)) c.real, entries-within c, snapshot_fits (length image) c f, capacity-most (length image) f.within)

  module _ (name : Bytes) where
    query_fits : query_fault image list name ≡ 0 → Fits (length image) c
    query_fits z = viewed (query_viewer image list name z)

    pub view_topic_below : (out : Bytes) → Below (view_topic_of image list name out).reply
    unfolding view_topic_of
    view_topic_below out = by_fault (query_fault image list name) _ out λ z. omega (arith, entry_short image b (topic_key name) (query_fits z))

    pub view_partition-below : (n : ℕ) (out : Bytes) → Below (view_partition_of image list name n out).reply
    unfolding view_partition_of
    view_partition-below n out =
        by_fault (query_fault image list name) _ out λ z. omega (arith, entry_short image b (partition_key Partition name (bytes 4 n)) (query_fits z))

    pub view_freeze-below : (out : Bytes) → Below (view_freeze_of image list name out).reply
    unfolding view_freeze_of
    view_freeze-below out =
        by_fault (query_fault image list name) _ out λ z.
        let same = visible-freeze (prefixes_in list) name (query_visible image list name z) c.real in
        omega (arith, ap (λ o. length (joined record_bytes (as_list o))) same, list_short (freeze name c.real) (freeze-short c.real (entries-short (length image) c (query_fits z)) name))

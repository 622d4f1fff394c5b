-- A viewer sees the entries that count for it, and nothing else.
use Rattle.std.specs.Prelude.{◌≡◌, Bool, List, [], ◌∷◌, map}
use Rattle.std.proofs.Math.Path.{refl, sym, ap}
use Rattle.std.proofs.Common.{◌∙◌}
use Rattle.std.proofs.Math.Bool.{true, false, cond, or-true}
use Rattle.std.proofs.Math.Option.{Option, none, some}
use Rattle.model.specs.Choice.{given}
use Rattle.model.specs.Number.{Bytes, bytes}
use Rattle.model.specs.Order.{Key}
use Rattle.model.specs.Record.{Rec}
use Rattle.model.specs.Key.{rank, key_rank, key_name, key_scope, topic_of, topic_key, partition_key, freeze_key}
use Rattle.model.specs.Map.{get, keep}
use Rattle.model.specs.Contents.{Entry, returned, key, record_key}
use Rattle.model.specs.Image.{is_image, contents_of}
use Rattle.model.specs.Lookup.{found, named, returned_at, as_list}
use Rattle.model.specs.View.{visible, is_seen, scope_counts, freeze_counts, view_records, view_freeze, prefixes_in, prefix_fault, viewer_fault, query_fault}
use Rattle.model.specs.View.{view_snapshot_of, view_topic_of, view_partition_of, view_freeze_of, whole, topic, partition, freeze, view_of, counts, counted, NothingElseSeen}
use Rattle.model.specs.declared.Kind.TheVariants.{Partition}
use Rattle.laws.specs.Choice.{over, true_false}
use Rattle.laws.specs.Map.{Asc, get-keep, get-map, map-keep}
use Rattle.laws.specs.Freeze.{freeze-same}
use Rattle.laws_image.specs.Groups.{key-returned}
use Rattle.laws_image.specs.Orderly.{orderly}
use Rattle.laws_image.specs.Tests.{image_holds}
use Rattle.laws_view.specs.Passed.{viewer_prefixes, query_viewer, query_visible, named_on}

-- 1. Of one list of entries: what is asked for, by the records of those that count

keep-keep : {E : Type 0} (key : E → Key) (few many : Key → Bool) → ((k : Key) → few k ≡ true → many k ≡ true) → (l : List E)
    → keep key few (keep key many l) ≡ keep key few l
unfolding keep
keep-keep key few many h [] = refl
keep-keep key few many h (x ∷ l) = go (many (key x)) refl (few (key x)) refl (keep-keep key few many h l)
  where
    go : (m : Bool) → many (key x) ≡ m → (f : Bool) → few (key x) ≡ f → keep key few (keep key many l) ≡ keep key few l
        → keep key few (cond m (x ∷ keep key many l) (keep key many l)) ≡ cond f (x ∷ keep key few l) (keep key few l)
    go true p true q i = rw (q, i)
    go true p false q i = rw (q, i)
    go false p true q i = absurd (true_false (h (key x) q) p)
    go false p false q i = i

module _ (ps : List Bytes) (l : List Entry) where
  abbrev records : List Rec
  records = map returned (keep key (counts ps) l)

  seen_counts : (k : Key) → is_seen ps k ≡ true → counts ps k ≡ true
  unfolding counts
  seen_counts k h = rw h

  view_by : view_records ps l ≡ keep record_key (is_seen ps) records
  unfolding view_records
  view_by =
      ap (map returned) (sym (keep-keep key (is_seen ps) (counts ps) seen_counts l))
      ∙ map-keep key record_key returned (λ e. sym (key-returned e)) (is_seen ps) (keep key (counts ps) l)

  returned_by : Asc key l → (k : Key) → counts ps k ≡ true → over returned (get key k l) ≡ get record_key k records
  returned_by asc k h =
      let here : get key k (keep key (counts ps) l) ≡ get key k l = get-keep key (counts ps) k l asc ∙ ap (λ c. cond c (get key k l) none) h in
      sym (get-map key record_key returned (λ e. sym (key-returned e)) k (keep key (counts ps) l) ∙ ap (over returned) here)

-- 2. Of two images

found-over : (o p : Option Entry) → over returned o ≡ over returned p → found o ≡ found p
found-over o p e = by o ∙ ap as_list e ∙ sym (by p)
  where
    by : (x : Option Entry) → found x ≡ as_list (over returned x)
    by none = refl
    by (some x) = refl

returned-over : (k : Key) (l : List Entry) → returned_at k l ≡ over returned (get key k l)
returned-over k l = by (get key k l)
  where
    by : (x : Option Entry) → given x none (λ e. some (returned e)) ≡ over returned x
    by none = refl
    by (some x) = refl

topic_counts : (ps : List Bytes) (name : Bytes) → visible ps name ≡ true → counts ps (topic_key name) ≡ true
unfolding counts is_seen topic_of key_rank key_name rank
topic_counts ps name h = rw h

partition-counts : (ps : List Bytes) (name number : Bytes) → visible ps name ≡ true → counts ps (partition_key Partition name number) ≡ true
unfolding counts is_seen topic_of key_rank key_name rank
partition-counts ps name number h = rw h

freeze_counts_lem : (ps : List Bytes) (pattern scope : Bytes) → scope_counts ps pattern scope ≡ true → counts ps (freeze_key pattern scope) ≡ true
unfolding counts freeze_counts key_rank key_name key_scope rank
freeze_counts_lem ps pattern scope h = rw (h, or-true)

module _ (a b : Bytes) (ia : is_image a ≡ true) (ib : is_image b ≡ true) where
  abbrev la : List Entry
  la = (contents_of a).real

  abbrev lb : List Entry
  lb = (contents_of b).real

  module _ (ps : List Bytes) (same : counted ps a ≡ counted ps b) where
    alike : map returned (keep key (counts ps) la) ≡ map returned (keep key (counts ps) lb)
    unfolding counted
    alike = same

    get_alike : (k : Key) → counts ps k ≡ true → over returned (get key k la) ≡ over returned (get key k lb)
    get_alike k h =
        returned_by ps la (orderly (contents_of a) (image_holds a ia).orderly).ascends k h
        ∙ ap (get record_key k) alike
        ∙ sym (returned_by ps lb (orderly (contents_of b) (image_holds b ib).orderly).ascends k h)

    found_alike : (k : Key) → counts ps k ≡ true → found (get key k la) ≡ found (get key k lb)
    found_alike k h = found-over (get key k la) (get key k lb) (get_alike k h)

    records-alike : view_records ps la ≡ view_records ps lb
    records-alike = view_by ps la ∙ ap (keep record_key (is_seen ps)) alike ∙ sym (view_by ps lb)

    freeze-alike : (name : Bytes) → view_freeze ps name la ≡ view_freeze ps name lb
    unfolding view_freeze
    freeze-alike name = freeze-same _ _ (λ pattern scope. one pattern scope (scope_counts ps pattern scope) refl) name
      where
        one : (pattern scope : Bytes) (c : Bool) → scope_counts ps pattern scope ≡ c
            → cond c (returned_at (freeze_key pattern scope) la) none ≡ cond c (returned_at (freeze_key pattern scope) lb) none
        one pattern scope true e =
            returned-over (freeze_key pattern scope) la
            ∙ get_alike (freeze_key pattern scope) (freeze_counts_lem ps pattern scope e)
            ∙ sym (returned-over (freeze_key pattern scope) lb)
        one pattern scope false e = refl

  -- 3. The answers

  module _ (list : Bytes) (same : prefix_fault list ≡ 0 → counted (prefixes_in list) a ≡ counted (prefixes_in list) b) (out : Bytes) where
    viewer_same : viewer_fault a list ≡ viewer_fault b list
    unfolding viewer_fault
    viewer_same = rw (ia, ib)

    query_same : (name : Bytes) → query_fault a list name ≡ query_fault b list name
    unfolding query_fault
    query_same name = rw viewer_same

    whole_same : view_snapshot_of a list out ≡ view_snapshot_of b list out
    unfolding view_snapshot_of
    whole_same = rw viewer_same (named_on (viewer_fault b list) _ _ out (λ h. records-alike (prefixes_in list) (same (viewer_prefixes b list h))))

    module _ (name : Bytes) where
      -- a query of a visible name
      query_alike : {r s : List Rec} → (counted (prefixes_in list) a ≡ counted (prefixes_in list) b → visible (prefixes_in list) name ≡ true → r ≡ s)
          → named (query_fault a list name) r out ≡ named (query_fault b list name) s out
      query_alike {r} {s} f =
          rw (query_same name)
          (named_on (query_fault b list name) r s out
          (λ h. f (same (viewer_prefixes b list (query_viewer b list name h))) (query_visible b list name h)))

      topic_same : view_topic_of a list name out ≡ view_topic_of b list name out
      unfolding view_topic_of
      topic_same = query_alike (λ e v. found_alike (prefixes_in list) e (topic_key name) (topic_counts (prefixes_in list) name v))

      partition-same : (number : Bytes)
          → named (query_fault a list name) (found (get key (partition_key Partition name number) la)) out
          ≡ named (query_fault b list name) (found (get key (partition_key Partition name number) lb)) out
      partition-same number =
          query_alike (λ e v. found_alike (prefixes_in list) e (partition_key Partition name number) (partition-counts (prefixes_in list) name number v))

      freeze-same_in : view_freeze_of a list name out ≡ view_freeze_of b list name out
      unfolding view_freeze_of
      freeze-same_in = query_alike (λ e v. ap as_list (freeze-alike (prefixes_in list) e name))

pub nothing_else_seen : NothingElseSeen
unfolding view_of view_partition_of
nothing_else_seen a b ia ib list same whole out = whole_same a b ia ib list same out
nothing_else_seen a b ia ib list same (topic name) out = topic_same a b ia ib list same out name
nothing_else_seen a b ia ib list same (partition name n) out = partition-same a b ia ib list same out name (bytes 4 n)
nothing_else_seen a b ia ib list same (freeze name) out = freeze-same_in a b ia ib list same out name

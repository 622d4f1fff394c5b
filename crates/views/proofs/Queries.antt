-- A viewer's lookups, exit by exit.
use mathlib.Core.Path.{◌≡◌, refl, sym, ◌∙◌, subst}
use mathlib.Core.Bool.{Bool, true, false, not}
use mathlib.Core.List.{List, []}
use Prim.Native.Nat.{ℕ, zero, suc, ◌≤◌}
use borrow.Author.Tests.{not-true, not-false}
use lib.ListN.{length}
use Rattle.model.specs.Choice.{or_then, unless}
use Rattle.model.specs.Number.{Bytes, bytes}
use Rattle.model.specs.Order.{Key}
use Rattle.model.specs.Shape.{string_limit, text_fault}
use Rattle.model.specs.Record.{Rec}
use Rattle.model.specs.Key.{topic_key, partition_key}
use Rattle.model.specs.Map.{get}
use Rattle.model.specs.Contents.{Entry, key}
use Rattle.model.specs.Image.{is_image, contents_of}
use Rattle.model.specs.Reply.{Reply, refused, Ended}
use Rattle.model.specs.Snapshot.{emit}
use Rattle.model.specs.Lookup.{found, named, freeze, as_list}
use Rattle.model.specs.View.{visible, prefixes_in, prefix_fault, viewer_fault, query_fault, view_freeze, view_topic_of, view_partition_of, view_freeze_of}
use Rattle.model.specs.declared.Kind.TheVariants.{Partition}
use Rattle.laws.specs.Choice.{or_then-first}
use Rattle.laws_view.specs.Passed.{viewer_image, query_viewer, query_text, query_visible}
use Rattle.laws_view.specs.Visible.{visible-freeze}
use Rattle.find.specs.Found.{query_key}
use Rattle.find.proofs.Queries.{topic_key_lem, partition_key_lem}
use Rattle.lookup_freezes.proofs.Names.{name_fits}

-- 1. The refusals

module _ (image list : Bytes) {is : Bool} (ei : is ≡ is_image image) where
  pub viewer_none : not is ≡ true → 1 ≡ viewer_fault image list
  unfolding viewer_fault
  viewer_none h = rw (← ei, not-true is h) refl

  pub viewer_checked : not is ≡ false → {n : ℕ} → prefix_fault list ≡ n → n ≡ viewer_fault image list
  unfolding viewer_fault
  viewer_checked h e = rw (← ei, not-false is h) (sym e)

module _ (image list name : Bytes) {v : ℕ} (ev : v ≡ viewer_fault image list) where
  pub query_unseen : (v ≡ 0 → ⊥) → v ≡ query_fault image list name
  unfolding query_fault
  query_unseen w = rw (← ev) (or_then-first v (or_then (text_fault string_limit name) (unless (visible (prefixes_in list) name) 25)) w)

  module _ (z : v ≡ 0) {f : ℕ} (ef : f ≡ text_fault string_limit name) where
    pub query_wrong : (f ≡ 0 → ⊥) → f ≡ query_fault image list name
    unfolding query_fault
    query_wrong w = rw (sym ev ∙ z, ← ef) (or_then-first f (unless (visible (prefixes_in list) name) 25) w)

    module _ (y : f ≡ 0) {b : Bool} (eb : b ≡ visible (prefixes_in list) name) where
      pub query_hidden : not b ≡ true → 25 ≡ query_fault image list name
      unfolding query_fault
      query_hidden h = rw (sym ev ∙ z, sym ef ∙ y, ← eb, not-true b h) refl

      pub query_passes : not b ≡ false → 0 ≡ query_fault image list name
      unfolding query_fault
      query_passes h = rw (sym ev ∙ z, sym ef ∙ y, ← eb, not-false b h) refl

-- 2. The answers

abbrev Same : Reply → Bytes → Ended → Type 0
Same r o e = (r ≡ e.reply) × (o ≡ e.buffer)

module _ (image list name out : Bytes) {f : ℕ} (ef : f ≡ query_fault image list name) where
  module _ (wrong : f ≡ 0 → ⊥) where
    refused_query : (rs : List Rec) → Same (refused f) out (named (query_fault image list name) rs out)
    refused_query rs = rw (← ef) (go f wrong)
      where
        go : (n : ℕ) → (n ≡ 0 → ⊥) → Same (refused n) out (named n rs out)
        go zero w = absurd (w refl)
        go (suc n) w = (refl, refl)

    pub topic_refused : Same (refused f) out (view_topic_of image list name out)
    unfolding view_topic_of
    topic_refused = refused_query (found (get key (topic_key name) (contents_of image).real))

    pub partition-refused : (n : ℕ) → Same (refused f) out (view_partition_of image list name n out)
    unfolding view_partition_of
    partition-refused n = refused_query (found (get key (partition_key Partition name (bytes 4 n)) (contents_of image).real))

    pub freeze-refused : Same (refused f) out (view_freeze_of image list name out)
    unfolding view_freeze_of
    freeze-refused = refused_query (as_list (view_freeze (prefixes_in list) name (contents_of image).real))

  module _ (z : f ≡ 0) where
    pub query_image : is_image image ≡ true
    query_image = viewer_image image list (query_viewer image list name (sym ef ∙ z))

    pub query_fits : length name ≤ 255
    query_fits = name_fits name (sym (query_text image list name (sym ef ∙ z)))

    module _ {r : Reply} {o : Bytes} where
      pub topic_found : Same r o (emit (found (get key (query_key 1 name []) (contents_of image).real)) out) → Same r o (view_topic_of image list name out)
      unfolding view_topic_of
      topic_found s = rw (sym ef ∙ z) (subst (λ k. Same r o (emit (found (get key k (contents_of image).real)) out)) (topic_key_lem name) s)

      pub partition-found : (n : ℕ) (number : Bytes) → number ≡ bytes 4 n → Same r o (emit (found (get key (query_key 2 name number) (contents_of image).real)) out)
          → Same r o (view_partition_of image list name n out)
      unfolding view_partition_of
      partition-found n number e s =
          let at : Key → Type 0 = λ k. Same r o (emit (found (get key k (contents_of image).real)) out) in
          rw (sym ef ∙ z) (subst (λ v. at (partition_key Partition name v)) e (subst at (partition_key_lem name number) s))

      pub freeze-found : {l : List Entry} → l ≡ (contents_of image).real → Same r o (emit (as_list (freeze name l)) out) → Same r o (view_freeze_of image list name out)
      unfolding view_freeze_of
      freeze-found e s =
          rw (sym ef ∙ z, visible-freeze (prefixes_in list) name (query_visible image list name (sym ef ∙ z)) (contents_of image).real)
          (subst (λ l. Same r o (emit (as_list (freeze name l)) out)) e s)

-- What is made of a work array where a member joins its group or leaves it.
use mathlib.Core.Path.{◌≡◌, refl, sym, ap, ◌∙◌}
use mathlib.Core.Bool.{Bool, true, false, ◌||◌, not}
use mathlib.Core.List.{[], ◌∷◌, map}
use Prim.Native.Nat.{◌+◌, ◌≤◌}
use native.Mathlib.Omega.{arith}
use borrow.Author.Tests.{not-true, not-false}
use lib.Dec.{eqb}
use lib.ListN.{length}
use Rattle.model.specs.Number.{Bytes, AreBytes}
use Rattle.model.specs.Run.{values}
use Rattle.model.specs.Kind.{kind_number}
use Rattle.model.specs.Record.{Rec, record_bytes}
use Rattle.model.specs.Key.{starts_with}
use Rattle.model.specs.Map.{put, remove, any}
use Rattle.model.specs.Contents.{plain, kept, key, record_key, group_of, in_group_of, is_group, is_config, entities_in_order}
use Rattle.model.specs.Image.{entry_of}
use Rattle.model.specs.Move.{join_m, leave_m, on_real, on_empties}
use Rattle.model.specs.declared.Kind.{Kind}
use Rattle.laws.specs.Count.{any-map}
use Rattle.laws_image.specs.Entries.{entry_key}
use Rattle.laws_image.specs.Groups.{Grouped, config, quota, group_key_lem, group_is_group}
use Rattle.keys.specs.Keys.{key_in}
use Rattle.entries.specs.Entries.{IsRecord, record_in}
use Rattle.entries.proofs.Changes.{record-in, key_in_lem}
use Rattle.image_groups.specs.Groups.{apart_in}
use Rattle.apply_work.specs.Work.{reals_in, groups_in, Good, held_in, Made}
use Rattle.apply_work.specs.declared.Bounds.{Bounds}
use Rattle.apply_work.proofs.Made.{record-size, made_one}
use Rattle.apply_work.proofs.Entries.{entries-put, entries-remove, entry_plain}
use Rattle.apply_groups.proofs.Records.{group_in, group_key_in}

-- 1. A member's entry is its record

no_topic : {k : Kind} → Grouped k → (eqb (kind_number k) 1 ≡ false) × (eqb (kind_number k) 2 ≡ false)
unfolding kind_number
no_topic config = (refl, refl)
no_topic quota = (refl, refl)

member_plain : (r : Rec) → Grouped r.kind → entry_of r ≡ plain r
member_plain r g = let n = no_topic g in entry_plain r n.0 n.1

pub member_kept : (r : Rec) → Grouped r.kind → kept (entry_of r) ≡ r
unfolding kept
member_kept r g = ap kept (member_plain r g)

-- 2. A member and its group, by their bytes

module _ (s g : Bytes) (are : AreBytes s) (i : IsRecord s) (grouped : Grouped (record_in s).kind) (e : g ≡ record_bytes (group_of (record_in s))) where
  member_key_in : key_in s ≡ record_key (record_in s)
  member_key_in = key_in_lem s i ∙ ap record_key (sym (record-in s i))

  pub group_told : is_config (record_in s) || entities_in_order (values 1 (record_in s).run) ≡ true → is_group (record_in g) ≡ true
  group_told h = rw (group_in s g are i grouped e) (group_is_group (record_in s) grouped h)

  module _ (w : Bytes) {v : Bytes} (bounds : Bounds) {r : Bounds} where
    -- the group is taken out of the empty ones, and then the member is put
    pub joined : {u : Bytes} {q : Bounds}
        → Good v r × (reals_in v r ≡ reals_in w bounds) × (groups_in v r ≡ remove record_key (key_in g) (groups_in w bounds)) × (r.used ≤ bounds.used)
        → Good u q × (reals_in u q ≡ put record_key (record_in s) (reals_in v r)) × (groups_in u q ≡ groups_in v r) × (q.used ≤ r.used + length s)
        → Made (join_m (record_in s) ∷ []) w bounds u q
    unfolding on_real on_empties
    joined d p =
        made_one (join_m (record_in s)) p.0
        (ap (map entry_of) (p.1 ∙ ap (put record_key (record_in s)) d.1)
        ∙ entries-put (record_in s) (reals_in w bounds)
        ∙ ap (λ x. put key x (held_in w bounds)) (member_plain (record_in s) grouped))
        (p.2 ∙ d.2 ∙ ap (λ k. remove record_key k (groups_in w bounds)) (group_key_in s g are i grouped e))
        (omega (arith, d.3, p.3, record-size s i))

    -- the member is taken out
    module _ (d : Good v r × (reals_in v r ≡ remove record_key (key_in s) (reals_in w bounds)) × (groups_in v r ≡ groups_in w bounds) × (r.used ≤ bounds.used)) where
      left : held_in v r ≡ remove key (record_key (record_in s)) (held_in w bounds)
      left =
          ap (map entry_of) (d.1 ∙ ap (λ k. remove record_key k (reals_in w bounds)) member_key_in)
          ∙ entries-remove (record_key (record_in s)) (reals_in w bounds)

      -- whether others of its group are there
      abbrev more : Bool
      more = any key (in_group_of (record_in s)) (remove key (record_key (record_in s)) (held_in w bounds))

      module _ {b : Bool} (told : b ≡ apart_in (reals_in v r) (record_in g)) where
        others : b ≡ not more
        unfolding apart_in
        others =
            told
            ∙ ap (λ x. not (any record_key (in_group_of x) (reals_in v r))) (group_in s g are i grouped e)
            ∙ ap (λ k. not (any record_key (starts_with k) (reals_in v r))) (group_key_lem (record_in s) grouped)
            ∙ ap not (sym (any-map record_key key entry_of entry_key (in_group_of (record_in s)) (reals_in v r)))
            ∙ ap (λ l. not (any key (in_group_of (record_in s)) l)) left

        pub left-others : b ≡ false → Made (leave_m (record_in s) ∷ []) w bounds v r
        unfolding on_real on_empties
        left-others some =
            let there = not-false more (sym others ∙ some) in
            made_one (leave_m (record_in s)) d.0 left (rw there d.2) (omega (arith, d.3))

        pub left-last : b ≡ true → {u : Bytes} {q : Bounds}
            → Good u q × (reals_in u q ≡ reals_in v r) × (groups_in u q ≡ put record_key (record_in g) (groups_in v r)) × (q.used ≤ r.used + length g)
            → length g ≤ length s → Made (leave_m (record_in s) ∷ []) w bounds u q
        unfolding on_real on_empties
        left-last last p short =
            let none = not-true more (sym others ∙ last) in
            made_one (leave_m (record_in s)) p.0 (ap (map entry_of) p.1 ∙ left)
            (rw none (p.2 ∙ ap (put record_key (record_in g)) d.2 ∙ ap (λ x. put record_key x (groups_in w bounds)) (group_in s g are i grouped e)))
            (omega (arith, d.3, p.3, short, record-size s i))

-- In a run that Restore takes, the last record of a quota stands, however its entities are ordered; and an image has one group for them.
use Rattle.std.specs.Prelude.{◌≡◌, Bool, cond, ◌⊎◌, length}
use Rattle.std.proofs.Math.Path.{refl, ap}
use Rattle.std.proofs.Common.{sym, ◌∙◌, inl, inr, arith, lit<, eq-eqb}
use mathlib.Core.List.Memᴰ
use mathlib.Core.List.{List, [], ◌∷◌, ◌++◌, map, Memᴰ}
use Rattle.std.proofs.Math.Option.{Option, none, some}
use Rattle.std.proofs.Math.Bool.{true, false}
use Rattle.model.specs.Choice.{given, is_some}
use Rattle.model.specs.Number.{Bytes}
use Rattle.model.specs.Order.{Key, same_bytes}
use Rattle.model.specs.Run.{Run, field, value, values}
use Rattle.model.specs.Kind.{kind_number}
use Rattle.model.specs.Record.{Rec, rec}
use Rattle.model.specs.Key.{rank, rank_part, entities_key, subject, key_of, group_key}
use Rattle.model.specs.Map.{put, get, remove}
use Rattle.model.specs.Contents.{Entry, topic, part, plain, returned, key, record_key, entities_in_order, storable, is_quota, is_group, sound, Contents}
use Rattle.model.specs.Image.{contents_of}
use Rattle.model.specs.Move.{fields, join_or_leave, sorted_quota, on_real, move, moves, plan, moved}
use Rattle.model.specs.Snapshot.{is_offset_rec, restore_of}
use Rattle.model.specs.Quotas.{same_entities, is_quota_of, quota_group, quota_value, InOneGroup, OneGroup, LaterStands}
use Rattle.model.specs.declared.Kind.TheVariants.{ClientQuota, LogOffset}
use Rattle.laws.specs.Choice.{impossible, true_false, and_left, and_right}
use Rattle.laws.specs.Order.{same_bytes_self, same_bytes_true}
use Rattle.laws.specs.Lists.{All, In, in_all, all_imp, all_append, all_map}
use Rattle.laws.specs.Map.{Asc, get-put-same, get-put_other, get_remove_same, get_remove_other}
use Rattle.laws_image.specs.Kinds.{is_kind}
use Rattle.laws_image.specs.Orderly.{Storable, orderly}
use Rattle.laws_image.specs.Exact.{image_fits}
use Rattle.laws_image.specs.Image.{image_contents}
use Rattle.laws_image.specs.Groups.{quota, group_grouping, group_holds}
use Rattle.laws_restore.specs.Plans.{sorted_same}
use Rattle.laws_image.specs.Ranks.{rank_injective}
use Rattle.laws_apply.specs.Quotas.{sorted_value}
use Rattle.laws_apply.specs.Permuted.{sorted_group, quotas_meet, keys_meet, keys_apart}
use Rattle.laws_apply.specs.Untouched.{moved_other}
use Rattle.laws_apply.specs.Accepts.{accepting, accepted-last}

-- 1. What a record does to a quota's value

module _ (f : Run) where
  abbrev k : Key
  k = record_key (sorted_quota f)

  abbrev value_in : Option Entry → Option Bytes
  value_in o = given (fields o) none (field 3)

  same_quota : (g : Run) → is_quota_of f (rec ClientQuota g) ≡ true → k ≡ record_key (sorted_quota g)
  unfolding is_quota_of kind_number
  same_quota g h =
      let a = same_entities f g in
      let b = same_bytes (value 2 f) (value 2 g) in
      keys_meet f g (and_left a b h) (same_bytes_true (value 2 f) (value 2 g) (and_right a b h))

  other_quota : (g : Run) → is_quota_of f (rec ClientQuota g) ≡ false → k ≡ record_key (sorted_quota g) → ⊥
  unfolding is_quota_of kind_number
  other_quota g h e =
      let both = keys_apart f g e in
      true_false (rw (both.0, both.1, same_bytes_self (value 2 g)) refl) h

  -- a quota record with a value, and one without
  joined-value : (g : Run) (v : Bytes) (l : List Entry) → field 3 g ≡ some v → (t : Bool) → is_quota_of f (rec ClientQuota g) ≡ t
      → value_in (get key k (put key (plain (sorted_quota g)) l)) ≡ cond t (some v) (value_in (get key k l))
  unfolding fields key
  joined-value g v l e true h =
      ap (λ (x : Key). value_in (get key x (put key (plain (sorted_quota g)) l))) (same_quota g h)
      ∙ ap value_in (get-put-same key (plain (sorted_quota g)) l) ∙ sorted_value g ∙ e
  joined-value g v l e false h = ap value_in (get-put_other key k (plain (sorted_quota g)) (other_quota g h) l)

  left-value : (g : Run) (l : List Entry) → Asc key l → (t : Bool) → is_quota_of f (rec ClientQuota g) ≡ t
      → value_in (get key k (remove key (record_key (sorted_quota g)) l)) ≡ cond t none (value_in (get key k l))
  unfolding fields
  left-value g l a true h =
      ap (λ (x : Key). value_in (get key x (remove key (record_key (sorted_quota g)) l))) (same_quota g h)
      ∙ ap value_in (get_remove_same key (record_key (sorted_quota g)) l a)
  left-value g l a false h = ap value_in (get_remove_other key k (record_key (sorted_quota g)) (other_quota g h) l a)

  set_value : (g : Run) (l : List Entry) → Asc key l → (o : Option Bytes) → field 3 g ≡ o
      → value_in (get key k (on_real (join_or_leave (is_some o) (sorted_quota g)) l)) ≡ cond (is_quota_of f (rec ClientQuota g)) o (value_in (get key k l))
  unfolding on_real
  set_value g l a (some v) e = joined-value g v l e (is_quota_of f (rec ClientQuota g)) refl
  set_value g l a none e = left-value g l a (is_quota_of f (rec ClientQuota g)) refl

  -- a record of another kind
  other_kind : (r : Rec) (c : Contents) → Asc key c.real → is_quota r ≡ false → get key k (moved r c).real ≡ get key k c.real
  unfolding sorted_quota key_of rank
  other_kind r c a h = moved_other 10 (lit< tt) (λ q. omega arith) (subject ClientQuota (sorted_quota f).run) r c a other
    where
      own : rank r.kind ≡ 10 → is_quota r ≡ true
      own q = rw (rank_injective r.kind ClientQuota q (lit< tt)) (eq-eqb (kind_number ClientQuota) (kind_number ClientQuota) refl)

      other : rank r.kind ≡ 10 → ⊥
      other q = true_false (own q) h

  by_kind_lem : (r : Rec) (c : Contents) → Asc key c.real → (t : Bool) → is_quota r ≡ t
      → quota_value f (moved r c) ≡ cond (is_quota_of f r) (field 3 r.run) (quota_value f c)
  by_kind_lem r c a true e =
      rw (is_kind r.kind ClientQuota e) (unfold moved plan moves move in set_value r.run c.real a (field 3 r.run) refl)
  by_kind_lem r c a false e =
      let no : is_quota_of f r ≡ false = unfold is_quota_of in rw e refl in
      rw no (ap value_in (other_kind r c a e))

  moved_value : (r : Rec) (c : Contents) → Asc key c.real → quota_value f (moved r c) ≡ cond (is_quota_of f r) (field 3 r.run) (quota_value f c)
  moved_value r c a = by_kind_lem r c a (is_quota r) refl

-- 2. Contents that fit have one group for the spellings of a quota

mem_in : {A : Type 0} (x : A) (l : List A) → Memᴰ x l → In x l
mem_in x [] m = Memᴰ.not-nil m
mem_in x (y ∷ l) m = go (Memᴰ.cases_cons m) (mem_in x l)
  where
    go : (x ≡ y) ⊎ Memᴰ x l → (Memᴰ x l → In x l) → In x (y ∷ l)
    go (inl e) i = inl e
    go (inr n) i = inr (i n)

-- a quota's entities are in order
abbrev Ordered : Rec → Type 0
Ordered r = is_quota r ≡ true → entities_in_order (values 1 r.run) ≡ true

entry_ordered : (e : Entry) → Storable e → Ordered (returned e)
unfolding returned kind_number storable
entry_ordered (topic name id count factor named) h q = impossible cc
entry_ordered (part r) h q = impossible cc
entry_ordered (plain r) h q =
    let run = r.run in
    and_right (is_some (field 3 run)) (entities_in_order (values 1 run)) (rw (is_kind r.kind ClientQuota q) at h)

group_ordered : (r : Rec) → is_group r ≡ true → Ordered r
unfolding kind_number
group_ordered r h q = rw (is_kind r.kind ClientQuota q) at (group_holds r h).ordered

held-ordered : (c : Contents) → sound c ≡ true → All Ordered (map returned c.real ++ c.empties)
held-ordered c h =
    let o = orderly c h in
    all_append Ordered (map returned c.real) c.empties
    (all_map Storable Ordered returned entry_ordered c.real o.storables)
    (all_imp (λ r. is_group r ≡ true) Ordered group_ordered c.empties o.groups)

group_in_order : (f : Run) → entities_in_order (values 1 f) ≡ true → group_key (record_key (rec ClientQuota f)) ≡ quota_group f
group_in_order f h = group_grouping quota f ∙ ap (λ l. rank_part ClientQuota ∷ entities_key l []) (sym (sorted_same (values 1 f) h)) ∙ sym (sorted_group f)

in_one_group : (c : Contents) → sound c ≡ true → InOneGroup c
in_one_group c h f g i j same =
    let held = map returned c.real ++ c.empties in
    let seven = eq-eqb (kind_number ClientQuota) (kind_number ClientQuota) refl in
    let one = in_all Ordered held (held-ordered c h) (rec ClientQuota f) (mem_in (rec ClientQuota f) held i) seven in
    let two = in_all Ordered held (held-ordered c h) (rec ClientQuota g) (mem_in (rec ClientQuota g) held j) seven in
    group_in_order f one ∙ quotas_meet f g same ∙ sym (group_in_order g two)

-- 3. The claims

pub one_group : OneGroup
one_group image are is = in_one_group (contents_of image) (image_fits image are is).orderly

-- kind 26 is no quota
no_quota : (f : Run) (r : Rec) → is_offset_rec r ≡ true → is_quota_of f r ≡ false
unfolding is_quota_of kind_number
no_quota f r o = rw (is_kind r.kind LogOffset o) refl

pub later-stands : LaterStands
unfolding fields get
later-stands run b are e =
    let a = accepting run b are e in
    let same : contents_of (restore_of run b).buffer ≡ a.contents = ap contents_of a.buffer ∙ image_contents (length b) a.contents a.fits in
    rw same (
      in_one_group a.contents a.fits.orderly,
      λ f. accepted-last (is_quota_of f) (no_quota f) (λ r. field 3 r.run) (quota_value f) (moved_value f) (λ n. refl) a,
    )

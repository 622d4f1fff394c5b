-- The exact test's clauses, as they are tested on the records that stand for entries.
use mathlib.Core.Path.{◌≡◌, refl, sym, ap, ap₂, ◌∙◌}
use mathlib.Core.Bool.{Bool, true, false, ◌&&◌, not}
use mathlib.Core.List.{List, [], ◌∷◌, ◌++◌, map}
use lib.Dec.{eqb}
use Rattle.model.specs.Choice.{every}
use Rattle.model.specs.Number.{Bytes}
use Rattle.model.specs.Run.{value}
use Rattle.model.specs.Kind.{kind_number}
use Rattle.model.specs.Record.{Rec}
use Rattle.model.specs.Map.{any, ascending}
use Rattle.model.specs.Contents.{key, record_key, partitions, of_topic, in_group_of, is_group, storable, storable_entry, named_apart, Fixed, fresh, sound}
use Rattle.model.specs.Image.{entry_of, flag_reads, real_of, empties_of}
use Rattle.laws.specs.Choice.{and_left, and_right, and_both}
use Rattle.laws.specs.Lists.{every_map, every_append, every_true, all-every, all_imp}
use Rattle.laws.specs.Count.{count_map, any-map}
use Rattle.laws_image.specs.Entries.{entry_key, ascending-entries, real_empties, bare_reads, group_bare}
use Rattle.image_entries.specs.Stored.{storable_record, is_stored}
use Rattle.image_counts.specs.Counts.{count_fits}
use Rattle.image_groups.specs.Groups.{apart_in}
use Rattle.entries.specs.Entries.{records_in}
use Rattle.image.specs.Test.{reals_sound, groups_sound, holding, entries_sound}

-- 1. What is stored, and the counts

storable_entry_lem : (l : List Rec) (r : Rec) → storable_entry (map entry_of l) (entry_of r) ≡ storable_record r && count_fits l r
unfolding storable_entry partitions entry_of count_fits
storable_entry_lem l r = go (eqb (kind_number r.kind) 1) refl (eqb (kind_number r.kind) 2) refl
  where
    go : (t : Bool) → eqb (kind_number r.kind) 1 ≡ t → (p : Bool) → eqb (kind_number r.kind) 2 ≡ p
        → storable_entry (map entry_of l) (entry_of r) ≡ storable_record r && count_fits l r
    go true e p f = rw (e, count_map record_key key entry_of entry_key (of_topic (value 1 r.run)) l)
    go false e true f = rw (e, f)
    go false e false f = rw (e, f) (and-true (storable r.kind r.run))
      where
        and-true : (b : Bool) → b ≡ b && true
        and-true true = refl
        and-true false = refl

-- two tests of every element at once
every_both : {A : Type 0} (f g : A → Bool) (l : List A) → every (λ x. f x && g x) l ≡ every f l && every g l
every_both f g [] = refl
every_both f g (x ∷ l) = ap (λ t. f x && g x && t) (every_both f g l) ∙ go (f x) (g x) (every f l) (every g l)
  where
    go : (a b c d : Bool) → a && b && (c && d) ≡ a && c && (b && d)
    go true true c d = refl
    go true false true d = refl
    go true false false d = refl
    go false b c d = refl

every-same : {A : Type 0} (f g : A → Bool) → ((x : A) → f x ≡ g x) → (l : List A) → every f l ≡ every g l
every-same f g h [] = refl
every-same f g h (x ∷ l) = ap₂ ◌&&◌ (h x) (every-same f g h l)

stored_entries : (l : List Rec) → every (storable_entry (map entry_of l)) (map entry_of l) ≡ every storable_record l && every (count_fits l) l
stored_entries l =
    every_map (storable_entry (map entry_of l)) entry_of l
    ∙ every-same (λ r. storable_entry (map entry_of l) (entry_of r)) (λ r. storable_record r && count_fits l r) (storable_entry_lem l) l
    ∙ every_both storable_record (count_fits l) l

-- 2. The empty groups

vacant_groups : (l gs : List Rec) → every (λ g. is_group g && not (any key (in_group_of g) (map entry_of l))) gs ≡ every is_group gs && every (apart_in l) gs
unfolding apart_in
vacant_groups l gs =
    every-same (λ g. is_group g && not (any key (in_group_of g) (map entry_of l))) (λ g. is_group g && apart_in l g)
    (λ g. ap (λ t. is_group g && not t) (any-map record_key key entry_of entry_key (in_group_of g) l)) gs
    ∙ every_both is_group (apart_in l) gs

-- 3. All clauses, in the order of the tests

module _ (l gs : List Rec) (f : Fixed) where
  sound_clauses : sound (holding l gs f)
      ≡ ascending record_key l && (every storable_record l && every (count_fits l) l) && named_apart (map entry_of l) && ascending record_key gs
      && (every is_group gs && every (apart_in l) gs)
  unfolding sound
  sound_clauses = rw (ascending-entries l, stored_entries l, vacant_groups l gs)

  group_flags : every is_group gs ≡ true → every flag_reads gs ≡ true
  group_flags h =
      all-every flag_reads gs
      (all_imp (λ g. is_group g ≡ true) (λ g. flag_reads g ≡ true) (λ g q. bare_reads g (group_bare g q)) gs (every_true is_group gs h))

  -- what the definition asks, by the clauses that are tested, and back
  clauses_sound : reals_sound l && groups_sound l gs ≡ true → every flag_reads (l ++ gs) && sound (holding l gs f) ≡ true
  clauses_sound k =
      let reals = and_left (reals_sound l) (groups_sound l gs) k in
      let empties = and_right (reals_sound l) (groups_sound l gs) k in
      let a = ascending record_key l in
      let c = every (count_fits l) l in
      let three = and_left (every is_stored l && a && c) (named_apart (map entry_of l)) reals in
      let two = and_left (every is_stored l && a) c three in
      let both = sym (every_both flag_reads storable_record l) ∙ and_left (every is_stored l) a two in
      let flags = and_left (every flag_reads l) (every storable_record l) both in
      let kept = and_right (every flag_reads l) (every storable_record l) both in
      let counted = and_both (every storable_record l) c kept (and_right (every is_stored l && a) c three) in
      let grouped = and_left (every is_group gs && ascending record_key gs) (every (apart_in l) gs) empties in
      let groups = and_left (every is_group gs) (ascending record_key gs) grouped in
      let vacant = and_both (every is_group gs) (every (apart_in l) gs) groups (and_right (every is_group gs && ascending record_key gs) (every (apart_in l) gs) empties) in
      and_both (every flag_reads (l ++ gs)) (sound (holding l gs f))
      (every_append flag_reads l gs ∙ and_both (every flag_reads l) (every flag_reads gs) flags (group_flags groups))
      (sound_clauses
      ∙ and_both _ (every is_group gs && every (apart_in l) gs)
      (and_both _ (ascending record_key gs)
      (and_both _ (named_apart (map entry_of l)) (and_both a _ (and_right (every is_stored l) a two) counted)
      (and_right (every is_stored l && a && c) (named_apart (map entry_of l)) reals))
      (and_right (every is_group gs) (ascending record_key gs) grouped))
      vacant)

  sound_clauses_back : every flag_reads (l ++ gs) && sound (holding l gs f) ≡ true → reals_sound l && groups_sound l gs ≡ true
  sound_clauses_back k =
      let a = ascending record_key l in
      let s = every storable_record l in
      let c = every (count_fits l) l in
      let n = named_apart (map entry_of l) in
      let b = ascending record_key gs in
      let g = every is_group gs in
      let v = every (apart_in l) gs in
      let all = sym sound_clauses ∙ and_right (every flag_reads (l ++ gs)) (sound (holding l gs f)) k in
      let four = and_left (a && (s && c) && n && b) (g && v) all in
      let three = and_left (a && (s && c) && n) b four in
      let two = and_left (a && (s && c)) n three in
      let counted = and_right a (s && c) two in
      let empty = and_right (a && (s && c) && n && b) (g && v) all in
      let flags = sym (every_append flag_reads l gs) ∙ and_left (every flag_reads (l ++ gs)) (sound (holding l gs f)) k in
      let stored = every_both flag_reads storable_record l ∙ and_both (every flag_reads l) s (and_left (every flag_reads l) (every flag_reads gs) flags) (and_left s c counted) in
      and_both (reals_sound l) (groups_sound l gs)
      (and_both _ n (and_both _ c (and_both (every is_stored l) a stored (and_left a (s && c) two)) (and_right s c counted)) (and_right (a && (s && c)) n three))
      (and_both _ v (and_both g b (and_left g v empty) (and_right (a && (s && c) && n) b four)) (and_right g v empty))

-- two tests that hold together are one
same_test : (a b : Bool) → (a ≡ true → b ≡ true) → (b ≡ true → a ≡ true) → a ≡ b
same_test true b f g = sym (f refl)
same_test false true f g = g refl
same_test false false f g = refl

pub entries_sound_lem : (s : Bytes) → let l = records_in s in reals_sound (real_of l) && groups_sound (real_of l) (empties_of l) ≡ entries_sound s
unfolding entries_sound
entries_sound_lem s =
    let l = records_in s in
    let r = real_of l in
    let e = empties_of l in
    same_test (reals_sound r && groups_sound r e) (every flag_reads (r ++ e) && sound (holding r e fresh.fixed)) (clauses_sound r e fresh.fixed)
    (sound_clauses_back r e fresh.fixed)
    ∙ ap (λ x. every flag_reads x && sound (holding r e fresh.fixed)) (real_empties l)

-- The parts of the exact test, exit by exit.
use mathlib.Core.Path.{◌≡◌, refl, sym, ap, ap₂, ◌∙◌, subst}
use mathlib.Core.Bool.{Bool, true, false, not, ◌&&◌}
use mathlib.Core.List.{List, [], ◌∷◌, map}
use mathlib.Core.Option.{Option, none, some}
use Prim.Native.Nat.{ℕ, ◌+◌, ◌-◌, ◌*◌, ◌≤◌, ◌<◌}
use native.Mathlib.Omega.{arith}
use native.Mathlib.Decide.{dec_lt}
use borrow.Author.Tests.{not-true, not-false, lt-ltb, le-ltb, leb-true, leb-false}
use lib.Dec.{leb, ltb}
use lib.ListN.{length, take, drop, length-drop}
use lib.Seq.{take-length, length-take-le}
use Rattle.model.specs.Choice.{every, is_some}
use Rattle.model.specs.Number.{Bytes, AreBytes}
use Rattle.model.specs.Kind.{kind_of, kinds}
use Rattle.model.specs.Record.{Rec}
use Rattle.model.specs.Key.{key_of, subject, producer_key}
use Rattle.model.specs.Map.{get, ascending}
use Rattle.model.specs.Contents.{key, record_key, is_group, named_apart, fixed_room}
use Rattle.model.specs.Image.{entry_of, real_of}
use Rattle.model.specs.declared.Kind.TheVariants.{ProducerIds}
use Rattle.laws.specs.Choice.{present, present-over, true_false, and_left, and_right}
use Rattle.laws.specs.Map.{get-map}
use Rattle.laws_image.specs.Entries.{entry_key}
use Rattle.laws_image.specs.Weight.{producer_size, producers}
use Rattle.keys.specs.Keys.{key_in, Keyed}
use Rattle.entries.specs.Entries.{records_in, Entries, Placed}
use Rattle.entries.proofs.Lookups as lookups
use Rattle.image_entries.specs.Stored.{is_stored, Parted}
use Rattle.image_counts.specs.Counts.{count_fits}
use Rattle.image_groups.specs.Groups.{apart_in}
use Rattle.image.specs.Test.{reals_sound, groups_sound, entries_sound, producers_in, is_light}
use Rattle.image.proofs.Sound.{entries_sound_lem}

-- 1. The real entries

module _ (l : List Rec) {a : Bool} (ea : a ≡ every is_stored l) where
  pub not_stored : not a ≡ true → false ≡ reals_sound l
  not_stored h = rw (← ea, not-true a h)

  module _ (ha : not a ≡ false) {b : Bool} (eb : b ≡ ascending record_key l) where
    pub not_ascending : not b ≡ true → false ≡ reals_sound l
    not_ascending h = rw (← ea, not-false a ha, ← eb, not-true b h)

    module _ (hb : not b ≡ false) {n : Bool} (en : n ≡ every (count_fits l) l) where
      pub not_counted : not n ≡ true → false ≡ reals_sound l
      not_counted h = rw (← ea, not-false a ha, ← eb, not-false b hb, ← en, not-true n h)

      pub ids_decide : not n ≡ false → {d : Bool} → d ≡ named_apart (map entry_of l) → d ≡ reals_sound l
      ids_decide h e = rw (← ea, not-false a ha, ← eb, not-false b hb, ← en, not-false n h) e

pub holds : {a b : Bool} → a ≡ b → not a ≡ false → b ≡ true
holds {a} e h = sym e ∙ not-false a h

-- 2. The empty groups

module _ (l gs : List Rec) {a : Bool} (ea : a ≡ every is_group gs) where
  pub no_groups : not a ≡ true → false ≡ groups_sound l gs
  no_groups h = rw (← ea, not-true a h)

  module _ (ha : not a ≡ false) {b : Bool} (eb : b ≡ ascending record_key gs) where
    pub groups_descend : not b ≡ true → false ≡ groups_sound l gs
    groups_descend h = rw (← ea, not-false a ha, ← eb, not-true b h)

    pub members_decide : not b ≡ false → {d : Bool} → d ≡ every (apart_in l) gs → d ≡ groups_sound l gs
    members_decide h e = rw (← ea, not-false a ha, ← eb, not-false b h) e

-- 3. Producer ids

-- the head alone of such a record has their key
abbrev producer_probe : Bytes
producer_probe = 8 ∷ 0 ∷ 0 ∷ []

pub producer_keyed : Keyed producer_probe
unfolding kind_of kinds
producer_keyed = record { headed = omega arith; kind = ProducerIds; known = refl; widths = tt }

producer_key_lem : key_in producer_probe ≡ producer_key
unfolding key_in kind_of kinds key_of subject
producer_key_lem = refl

pub producers-there : (s : Bytes) → AreBytes s → Entries s → (at end : ℕ) → Placed s (key_in producer_probe) at end
    → ltb at end ≡ is_some (get record_key producer_key (records_in s))
producers-there s are_bytes whole at end p = elim (dec_lt at end) [ yes h ↦ there h | no h ↦ nothing (omega arith) ]
  where
    place : Placed s producer_key at end
    place = subst (λ k. Placed s k at end) producer_key_lem p

    there : at < end → ltb at end ≡ is_some (get record_key producer_key (records_in s))
    there h = lt-ltb at end h ∙ sym (ap is_some (lookups.present s producer_key at end place are_bytes whole h).1)

    nothing : end ≤ at → ltb at end ≡ is_some (get record_key producer_key (records_in s))
    nothing h = le-ltb at end h ∙ sym (ap is_some (lookups.absent s producer_key at end place h))

some-counts : {A : Type 0} (o : Option A) → is_some o ≡ true → present o ≡ 1
some-counts none h = absurd (true_false h refl)
some-counts (some x) h = refl

none-counts : {A : Type 0} (o : Option A) → is_some o ≡ false → present o ≡ 0
none-counts none h = refl
none-counts (some x) h = absurd (true_false refl h)

-- by the records as by the entries
pub producers-held : (l : List Rec) → producers (map entry_of l) ≡ producers_in l
producers-held l = ap present (get-map record_key key entry_of entry_key producer_key l) ∙ present-over entry_of (get record_key producer_key l)

module _ (s : Bytes) (used : ℕ) {there : Bool} (e : there ≡ is_some (get record_key producer_key (records_in s))) where
  pub weight_less : there ≡ true → fixed_room + used - producer_size + producer_size * producers_in (records_in s) ≡ fixed_room + used
  weight_less h = omega (arith, some-counts (get record_key producer_key (records_in s)) (sym e ∙ h))

  pub weight-whole : there ≡ false → fixed_room + used + producer_size * producers_in (records_in s) ≡ fixed_room + used
  weight-whole h = omega (arith, none-counts (get record_key producer_key (records_in s)) (sym e ∙ h))

-- one bound for another
pub same-bound : (a b c d : ℕ) → (a ≤ b → c ≤ d) → (c ≤ d → a ≤ b) → leb a b ≡ leb c d
same-bound a b c d f g = go (leb a b) refl (leb c d) refl
  where
    go : (x : Bool) → leb a b ≡ x → (y : Bool) → leb c d ≡ y → x ≡ y
    go true e true q = refl
    go true e false q = let h = f (leb-true a b e) in absurd (omega (arith, leb-false c d q))
    go false e true q = let h = g (leb-true c d q) in absurd (omega (arith, leb-false a b e))
    go false e false q = refl

-- 4. All entries

module _ (s : Bytes) (mid capacity : ℕ) (p : Parted s mid) where
  pub front_length : mid ≡ length (take mid s)
  front_length = sym (length-take-le mid s p.most)

  back_all : take (length s - mid) (drop mid s) ≡ drop mid s
  back_all = ap (λ n. take n (drop mid s)) (sym (length-drop mid s)) ∙ take-length (drop mid s)

  pub back_entries : Entries (take (length s - mid) (drop mid s))
  back_entries = rw back_all p.empty_entries

  -- the clauses on the two parts are those on the whole
  whole-sound : reals_sound (records_in (take mid s)) && groups_sound (records_in (take mid s)) (records_in (take (length s - mid) (drop mid s))) ≡ entries_sound s
  whole-sound =
      ap₂ (λ l gs. reals_sound l && groups_sound l gs) p.reals (ap records_in back_all ∙ p.empties) ∙ entries_sound_lem s

  module _ {a : Bool} (ea : a ≡ reals_sound (records_in (take mid s))) where
    pub reals_unsound : not a ≡ true → false ≡ entries_sound s && is_light s capacity
    reals_unsound h = rw (← whole-sound, ← ea, not-true a h)

    pub reals_ascend : not a ≡ false → ascending record_key (records_in (take mid s)) ≡ true
    reals_ascend h =
        let l = records_in (take mid s) in
        let all = holds ea h in
        let three = and_left (every is_stored l && ascending record_key l && every (count_fits l) l) (named_apart (map entry_of l)) all in
        and_right (every is_stored l) (ascending record_key l) (and_left (every is_stored l && ascending record_key l) (every (count_fits l) l) three)

    module _ (ha : not a ≡ false) {b : Bool} (eb : b ≡ groups_sound (records_in (take mid s)) (records_in (take (length s - mid) (drop mid s)))) where
      pub groups_unsound : not b ≡ true → false ≡ entries_sound s && is_light s capacity
      groups_unsound h = rw (← whole-sound, ← ea, not-false a ha, ← eb, not-true b h)

      module _ (hb : not b ≡ false) where
        sound : entries_sound s ≡ true
        sound = sym whole-sound ∙ rw (← ea, not-false a ha, ← eb) (not-false b hb)

        pub weight_decides : (n : ℕ) → n + producer_size * producers_in (records_in (take mid s)) ≡ fixed_room + length s
            → leb n capacity ≡ entries_sound s && is_light s capacity
        unfolding is_light
        weight_decides n e =
            let same = ap producers_in p.reals in
            rw sound (same-bound n capacity (fixed_room + length s) (capacity + producer_size * producers_in (real_of (records_in s))) (λ h. omega arith) (λ h. omega arith))

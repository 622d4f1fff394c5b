-- Members of an empty group: a record whose key without its name is the group's key.
use mathlib.Core.Path.{◌≡◌, refl, sym, ap, ap₂, ◌∙◌}
use mathlib.Core.Bool.{Bool, true, false}
use mathlib.Core.List.{List, [], ◌∷◌, ◌++◌}
use mathlib.Core.Option.{some}
use Prim.Native.Nat.{ℕ, ◌≤◌, ◌<◌}
use native.Mathlib.Omega.{arith}
use lib.Dec.{lit<}
use lib.ListN.{length, get_or, take, get_elem?}
use lib.Seq.{length-take-le, get_or-take}
use Rattle.model.specs.Number.{Bytes}
use Rattle.model.specs.Order.{Key, compare_keys, ordering, is_same, same_bytes}
use Rattle.model.specs.Run.{Run, or_empty, value, values, drop_field}
use Rattle.model.specs.Kind.{kind_of, kind_number}
use Rattle.model.specs.Record.{Rec, rec, record_bytes}
use Rattle.model.specs.Key.{rank, rank_part, entities_key, subject, key_of, group_key, starts_with}
use Rattle.model.specs.Contents.{record_key, group_of, in_group_of, is_group}
use Rattle.model.specs.Shape.{stored}
use Rattle.model.specs.declared.Kind.{Kind}
use Rattle.model.specs.declared.Kind.TheVariants.{ClientQuota}
use Rattle.std.specs.declared.cmp.Ordering.{Ordering as Order}
use Rattle.laws.specs.Choice.{true_false, not_true_false, and_left}
use Rattle.laws.specs.Order.{same_bytes_true, same_keys_self, same_keys_true}
use Rattle.laws_records.specs.Kinds.{kind_number_lem}
use Rattle.laws_records.specs.Fields.{Ascending, field-values, value-set-same, values-set_other, values-drop_other}
use Rattle.laws_records.specs.Faults.{fault-ascends}
use Rattle.laws_image.specs.Ranks.{rank_injective}
use Rattle.laws_image.specs.Groups.{Grouped, config, quota, group_last, group_member, group_record_key, in_group_record, GroupHolds, group_holds}
use Rattle.keys.specs.Keys.{kind_in, run_in, key_in, WidthsFit, Keyed}
use Rattle.entries.specs.Entries.{IsRecord, record_in}
use Rattle.entries.proofs.Changes.{record-in, key_in_lem, is_keyed}
use Rattle.image_groups.specs.Groups.{leading}
use Rattle.image_groups.proofs.Leading.{leading-ascends, leading-values, leading_name, run_in_lem}

-- 1. A member is of the group's kind

ranked : {k : Kind} → Grouped k → 0 < rank k
unfolding rank
ranked config = lit< tt
ranked quota = lit< tt

-- a group's key begins with its rank
first_part : {k : Kind} → Grouped k → (r : Run) → (rest : Key) × (group_key (key_of k r) ≡ rank_part k ∷ rest)
unfolding key_of subject group_key entities_key
first_part config r = (_, refl)
first_part quota r = go (values 1 r)
  where
    go : (es : List Bytes) → (rest : Key) × (group_key (rank_part ClientQuota ∷ entities_key es (value 2 r ∷ [])) ≡ rank_part ClientQuota ∷ rest)
    go [] = (_, refl)
    go (e ∷ es) = (_, refl)

starts_rank : (k other : Kind) (rest : Key) (s : Run) → starts_with (rank_part k ∷ rest) (key_of other s) ≡ true → rank other ≡ rank k
unfolding key_of starts_with
starts_rank k other rest s h =
    let e = same_bytes_true (rank_part k) (rank_part other) (and_left (same_bytes (rank_part k) (rank_part other)) (starts_with rest (subject other s)) h) in
    cc

member_kind : {k : Kind} (w : Grouped k) (r : Run) (other : Kind) (s : Run) → starts_with (group_key (key_of k r)) (key_of other s) ≡ true → other ≡ k
member_kind {k} w r other s h =
    let p = first_part w r in
    rank_injective other k (starts_rank k other p.0 s (rw p.1 at h)) (ranked w)

-- 2. The key without a name

value-first : (r : Run) → value 1 r ≡ or_empty (get_elem? (values 1 r) 0)
value-first r = ap or_empty (field-values 1 r)

-- a key is of the values of tag 1 and the name
same_key_lem : {k : Kind} → Grouped k → (a b : Run) → values 1 a ≡ values 1 b → value 2 a ≡ value 2 b → key_of k a ≡ key_of k b
unfolding key_of subject
same_key_lem config a b e f = rw (value-first a, value-first b, e, f)
same_key_lem quota a b e f = rw (e, f)

module _ {k : Kind} (w : Grouped k) (r : Run) (ascends : Ascending 1 r) where
  bare_values : values 1 (leading r) ≡ values 1 (group_of (rec k r)).run
  unfolding group_of
  bare_values =
      leading-values r ascends
      ∙ sym (values-set_other 2 [] 1 (λ e. omega arith) (drop_field 3 r) ∙ values-drop_other 3 1 (λ e. omega arith) r)

  bare_name : value 2 (leading r) ≡ value 2 (group_of (rec k r)).run
  unfolding group_of
  bare_name = ap or_empty (leading_name r) ∙ sym (value-set-same 2 [] (drop_field 3 r))

  bare_key : key_of k (leading r) ≡ group_key (key_of k r) ++ ([] ∷ [])
  unfolding group_of
  bare_key = same_key_lem w (leading r) (group_of (rec k r)).run bare_values bare_name ∙ group_record_key (rec k r) w

-- and its numbers have their widths still
bare_widths : {k : Kind} → Grouped k → (r : Run) → Ascending 1 r → WidthsFit k r → WidthsFit k (leading r)
bare_widths config r ascends fits = rw (value-first (leading r), leading-values r ascends, ← value-first r) fits
bare_widths quota r ascends fits = leading-ascends 1 r ascends

-- 3. It is the group's key for members alone

module _ (g : Rec) (h : GroupHolds g) where
  pub empty_last : record_key g ≡ group_key (record_key g) ++ ([] ∷ [])
  empty_last = group_member h.kind g.run ∙ ap (λ v. group_key (record_key g) ++ (v ∷ [])) h.name

  same_member : (e : Rec) → is_same (compare_keys (group_key (record_key e) ++ ([] ∷ [])) (record_key g)) ≡ in_group_of g (record_key e)
  same_member e = ap (λ k. is_same (compare_keys (a ++ ([] ∷ [])) k)) empty_last ∙ go (is_same (compare_keys (a ++ ([] ∷ [])) (b ++ ([] ∷ [])))) refl
    where
      a : Key
      a = group_key (record_key e)

      b : Key
      b = group_key (record_key g)

      go : (t : Bool) → is_same (compare_keys (a ++ ([] ∷ [])) (b ++ ([] ∷ []))) ≡ t → t ≡ in_group_of g (record_key e)
      go true q =
          let same : a ≡ b = sym (group_last a []) ∙ ap group_key (same_keys_true (a ++ ([] ∷ [])) (b ++ ([] ∷ [])) q) ∙ group_last b [] in
          sym ((in_group_record g h.kind e).1 same)
      go false q =
          let self = same_keys_self (b ++ ([] ∷ [])) in
          sym (not_true_false (in_group_of g (record_key e)) (λ m. let same : a ≡ b = (in_group_record g h.kind e).0 m in true_false (rw same self) q))

-- 4. By bytes

kind_in_lem : (s : Bytes) (i : IsRecord s) → kind_in s ≡ kind_number i.value.kind
unfolding record_bytes
kind_in_lem s i = ap kind_in i.bytes

widths_of : (k other : Kind) (r s : Run) → k ≡ other → r ≡ s → WidthsFit k r → WidthsFit other s
widths_of k other r s p q fits = rw (← p, ← q) fits

module _ (e g : Bytes) (i : IsRecord e) (j : IsRecord g) (h : is_group (record_in g) ≡ true) where
  holds : GroupHolds j.value
  holds = group_holds j.value (rw (record-in g j) at h)

  in_records : in_group_of j.value (record_key i.value) ≡ in_group_of (record_in g) (record_key (record_in e))
  in_records = sym (ap₂ (λ a b. in_group_of b (record_key a)) (record-in e i) (record-in g j))

  pub other_kind : (get_or e 0 0 ≡ get_or g 0 0 → ⊥) → false ≡ in_group_of (record_in g) (record_key (record_in e))
  other_kind apart =
      sym (not_true_false (in_group_of j.value (record_key i.value)) (λ m. apart (kind_in_lem e i ∙ ap kind_number (of_kind m) ∙ sym (kind_in_lem g j))))
      ∙ in_records
    where
      of_kind : in_group_of j.value (record_key i.value) ≡ true → i.value.kind ≡ j.value.kind
      of_kind m = member_kind holds.kind j.value.run i.value.kind i.value.run m

  module _ (same : get_or e 0 0 ≡ get_or g 0 0) (n : ℕ) (cut : (run_in (take n e) ≡ leading (run_in e)) × (3 ≤ n) × (n ≤ length e)) where
    -- the kind is the group's
    kinds : i.value.kind ≡ j.value.kind
    kinds =
        let q : kind_number i.value.kind ≡ kind_number j.value.kind = sym (kind_in_lem e i) ∙ same ∙ kind_in_lem g j in
        let z = sym (kind_number_lem i.value.kind) ∙ ap kind_of q ∙ kind_number_lem j.value.kind in
        cc

    member_grouped : Grouped i.value.kind
    member_grouped = rw kinds holds.kind

    ascends : Ascending 1 i.value.run
    ascends = fault-ascends stored i.value.kind i.value.run i.passes

    widths : WidthsFit i.value.kind i.value.run
    widths =
        let k = is_keyed e i in
        let z = sym k.known ∙ ap kind_of (kind_in_lem e i) ∙ kind_number_lem i.value.kind in
        widths_of k.kind i.value.kind (run_in e) i.value.run (cc) (run_in_lem e i) k.widths

    cut_run : run_in (take n e) ≡ leading i.value.run
    cut_run = cut.0 ∙ ap leading (run_in_lem e i)

    cut_kind : kind_of (kind_in (take n e)) ≡ some i.value.kind
    cut_kind = ap kind_of (get_or-take n e 0 0 (omega (arith, cut.1)) ∙ kind_in_lem e i) ∙ kind_number_lem i.value.kind

    pub cut_keyed : Keyed (take n e)
    cut_keyed = record {
      headed = rw (length-take-le n e cut.2) cut.1;
      kind = i.value.kind;
      known = cut_kind;
      widths = rw cut_run (bare_widths member_grouped i.value.run ascends widths);
    }

    cut_key : key_in (take n e) ≡ group_key (record_key i.value) ++ ([] ∷ [])
    unfolding key_in
    cut_key = rw (cut_kind, cut_run) (bare_key member_grouped i.value.run ascends)

    -- what the order of the two keys says
    pub member_told : (o x : Order) → ordering o ≡ compare_keys (key_in (take n e)) (key_in g) → o ≡ x
        → is_same (ordering x) ≡ in_group_of (record_in g) (record_key (record_in e))
    member_told o x q told =
        ap (λ y. is_same (ordering y)) (sym told)
        ∙ ap is_same (q ∙ ap₂ compare_keys cut_key (key_in_lem g j))
        ∙ same_member j.value holds i.value
        ∙ in_records

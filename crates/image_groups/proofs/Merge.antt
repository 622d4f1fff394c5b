-- The walk over the empty groups, with a place among the entries that never goes back: what is left of both says what all of both do.
use mathlib.Core.Path.{◌≡◌, refl, sym, ap, ap₂, ◌∙◌, subst}
use mathlib.Core.Bool.{Bool, true, false, ◌&&◌, not}
use mathlib.Core.List.{List, ◌∷◌}
use Prim.Native.Nat.{ℕ, ◌+◌, ◌-◌, ◌≤◌}
use native.Mathlib.Omega.{arith}
use lib.ListN.{length, take, drop, length-drop}
use lib.Seq.{drop-drop}
use Rattle.model.specs.Choice.{every}
use Rattle.model.specs.Number.{Bytes, AreBytes}
use Rattle.model.specs.Record.{Rec}
use Rattle.model.specs.Map.{ascending}
use Rattle.model.specs.Contents.{record_key, is_group}
use Rattle.laws.specs.Numbers.{drop_are_bytes}
use Rattle.laws.specs.Lists.{All, all_imp, every_true}
use Rattle.laws.specs.Map.{Asc, ascending_asc}
use Rattle.laws_image.specs.Groups.{GroupHolds, group_holds}
use Rattle.keys.specs.Keys.{key_in}
use Rattle.entries.specs.Entries.{records_in, Entries, size_at, Placed, record_in}
use Rattle.entries.specs.declared.Cursor.{Cursor}
use Rattle.entries.proofs.Records.{record-key}
use Rattle.entries.proofs.Turns.{Stands, lent}
use Rattle.keys.proofs.Found.{rest-lent}
use Rattle.image_groups.specs.Groups.{apart_in, begins_in}
use Rattle.image_groups.proofs.Together.{onward, onward_asc, groups_turn}
use Rattle.image_groups.proofs.Places.{lent-value, none_past, onward-records, onward-entries}

-- at a place of the entries and one of the groups
pub record Merge (s t : Bytes) (from at : ℕ) : Type 0 where
  pub most : from ≤ length s
  pub entries : Entries (drop from s)
  pub groups : Entries (drop at t)
  pub ascends : Asc record_key (records_in (drop from s))
  pub in_order : Asc record_key (records_in (drop at t))
  pub empty : All (λ r. is_group r ≡ true) (records_in (drop at t))
  pub same : every (apart_in (records_in (drop from s))) (records_in (drop at t)) ≡ every (apart_in (records_in s)) (records_in t)

pub merge_start : (s t : Bytes) → Entries s → Entries t → ascending record_key (records_in s) ≡ true → ascending record_key (records_in t) ≡ true
    → every is_group (records_in t) ≡ true → Merge s t 0 0
merge_start s t es et ss ts gs = record {
  most = omega arith;
  entries = es;
  groups = et;
  ascends = ascending_asc record_key (records_in s) ss;
  in_order = ascending_asc record_key (records_in t) ts;
  empty = every_true is_group (records_in t) gs;
  same = refl;
}

module _ (s t : Bytes) (from at : ℕ) (m : Merge s t from at) where
  pub merge_end : length t ≤ at → true ≡ every (apart_in (records_in s)) (records_in t)
  merge_end h = sym (ap (every (apart_in (records_in (drop from s)))) (none_past t at h)) ∙ m.same

  pub rest-entries : Entries (take (length s - from) (drop from s))
  rest-entries = rw (rest-lent from s) m.entries

-- a turn: the group at its place, and the place that its key has among the entries that are left
module _ {s t : Bytes} {from at start end : ℕ} {next : Cursor} (m : Merge s t from at) (f : Stands t at start end next) where
  group : Rec
  group = f.entry.entry

  later : List Rec
  later = records_in (drop next.at t)

  next-at : next.at ≡ at + size_at t at
  next-at = ap (λ c. c.at) f.after ∙ f.last

  -- the group, and those after it
  in_front : records_in (drop at t) ≡ group ∷ later
  unfolding group later
  in_front = f.entry.list ∙ ap (λ n. f.entry.entry ∷ records_in (drop n t)) (sym next-at)

  all_empty : All (λ r. is_group r ≡ true) (group ∷ later)
  all_empty = subst (λ l. All (λ r. is_group r ≡ true) l) in_front m.empty

  in_order : Asc record_key (group ∷ later)
  in_order = subst (λ l. Asc record_key l) in_front m.in_order

  pub lent_group : is_group (record_in (take (end - start) (drop start t))) ≡ true
  unfolding group
  lent_group = rw (lent-value f) all_empty.0

  module _ (are : AreBytes s) {place upto : ℕ} (p : Placed (take (length s - from) (drop from s)) (key_in (take (end - start) (drop start t))) place upto) where
    placed : Placed (drop from s) (record_key group) place upto
    unfolding group
    placed =
        let k : key_in (take (end - start) (drop start t)) ≡ record_key f.entry.entry =
        ap key_in (lent t at start end next f) ∙ record-key f.entry.entry f.entry.passes in
        subst (λ k. Placed (drop from s) k place upto) k (subst (λ l. Placed l (key_in (take (end - start) (drop start t))) place upto) (rest-lent from s) p)

    -- the entries from there on
    reached : records_in (drop (from + place) s) ≡ onward (record_key group) (records_in (drop from s))
    reached =
        ap records_in (sym (drop-drop place from s))
        ∙ onward-records (drop from s) (drop_are_bytes from s are) m.entries (record_key group) place upto placed

    pub place-within : from + place ≤ length s
    place-within = omega (arith, placed.order, placed.most, length-drop from s, m.most)

    place-entries : Entries (drop (from + place) s)
    place-entries =
        subst (λ l. Entries l) (drop-drop place from s)
        (onward-entries (drop from s) (drop_are_bytes from s are) m.entries (record_key group) place upto placed)

    pub reached-entries : Entries (take (length s - (from + place)) (drop (from + place) s))
    reached-entries = rw (rest-lent (from + place) s) place-entries

    turn : every (apart_in (records_in s)) (records_in t)
        ≡ not (begins_in group (records_in (drop (from + place) s))) && every (apart_in (records_in (drop (from + place) s))) later
    turn =
        sym m.same
        ∙ ap (every (apart_in (records_in (drop from s)))) in_front
        ∙ groups_turn (records_in (drop from s)) m.ascends group later (all_imp (λ r. is_group r ≡ true) GroupHolds group_holds (group ∷ later) all_empty) in_order
        ∙ ap (λ l. not (begins_in group l) && every (apart_in l) later) (sym reached)

    module _ {b : Bool} (e : b ≡ begins_in (record_in (take (end - start) (drop start t))) (records_in (take (length s - (from + place)) (drop (from + place) s)))) where
      tested : begins_in group (records_in (drop (from + place) s)) ≡ b
      unfolding group
      tested = sym (e ∙ ap₂ (λ g l. begins_in g (records_in l)) (lent-value f) (rest-lent (from + place) s))

      pub merge_found : b ≡ true → false ≡ every (apart_in (records_in s)) (records_in t)
      merge_found q = sym (turn ∙ ap (λ x. not x && every (apart_in (records_in (drop (from + place) s))) later) (tested ∙ q))

      pub merge_turn : b ≡ false → Merge s t (from + place) next.at
      unfolding later
      merge_turn q = record {
        most = place-within;
        entries = place-entries;
        groups = subst (λ n. Entries (drop n t)) (sym next-at) f.entry.rest;
        ascends = subst (λ l. Asc record_key l) (sym reached) (onward_asc (record_key group) (records_in (drop from s)) m.ascends);
        in_order = in_order.1;
        empty = all_empty.1;
        same = sym (turn ∙ ap (λ x. not x && every (apart_in (records_in (drop (from + place) s))) later) (tested ∙ q));
      }

-- The walk over named topics: those before its place have ids apart, and each of their ids is marked.
use mathlib.Core.Path.{◌≡◌, refl, sym, ap, ap₂, ◌∙◌, subst}
use mathlib.Core.List.{List, [], ◌∷◌, map}
use mathlib.Core.Bool.{Bool, true, false, not}
use Prim.Native.Nat.{ℕ, ◌-◌, ◌≤◌, ◌<◌}
use native.Mathlib.Decide.{ℕ_discrete}
use native.Mathlib.Omega.{arith}
use borrow.Author.Tests.{not-true}
use lib.ListN.{length, get_or, set, take, drop, length-set}
use lib.Seq.{take_all, get_or-set_same, get_or-set_other}
use Rattle.model.specs.Number.{Bytes, AreBytes}
use Rattle.model.specs.Order.{same_bytes}
use Rattle.model.specs.Record.{Rec}
use Rattle.model.specs.Items.{items_from, records, is_whole}
use Rattle.model.specs.Contents.{Entry, names_id, named_apart}
use Rattle.model.specs.Image.{entry_of}
use Rattle.laws.specs.Choice.{true_false, not_true_false, and_left, and_right}
use Rattle.laws.specs.Order.{same_bytes_self, same_bytes_true}
use Rattle.laws.specs.Lists.{All, all_any, all_imp, all_append, every_true, all-every, every_map, map-append}
use Rattle.entries.specs.Entries.{records_in, Entries, record_in}
use Rattle.entries.specs.declared.Cursor.{Cursor}
use Rattle.entries.proofs.Turns.{Stands}
use Rattle.entries.proofs.Before.{up_to, all_records_lem}
use Rattle.image_ids.specs.Ids.{is_named, id_of, place_of}
use Rattle.image_ids.proofs.Named.{record-names}
use Rattle.image_ids.proofs.Apart.{Apart, one_more, shared}
use Rattle.image_ids.proofs.Turns.{next-end, record-here, rest}
use Rattle.image_ids.proofs.Scans.{none_in}

-- 1. Lists of records

abbrev Marked : Bytes → Rec → Type 0
Marked seen r = is_named r ≡ true → get_or seen (place_of (id_of r)) 0 ≡ 0 → ⊥

-- what a record's entry being named for an id says
names-named : (id : Bytes) (r : Rec) → names_id id (entry_of r) ≡ true → (is_named r ≡ true) × (id_of r ≡ id)
names-named id r h =
    let both = sym (record-names id r) ∙ h in
    (and_left (is_named r) (same_bytes (id_of r) id) both, same_bytes_true (id_of r) id (and_right (is_named r) (same_bytes (id_of r) id) both))

named-names : (r : Rec) → is_named r ≡ true → names_id (id_of r) (entry_of r) ≡ true
named-names r h = record-names (id_of r) r ∙ rw (h, same_bytes_self (id_of r))

-- what is not named is apart from all
unnamed_apart : (r : Rec) → is_named r ≡ false → (l : List Entry) → All (λ f. Apart f (entry_of r)) l
unnamed_apart r h l = all_any (λ f. Apart f (entry_of r)) (λ f id p q. true_false (names-named id r q).0 h) l

new_apart : (r : Rec) (l : List Rec) → none_in (id_of r) l ≡ true → All (λ f. Apart f (entry_of r)) (map entry_of l)
new_apart r l h =
    all_imp (λ f. not (names_id (id_of r) f) ≡ true) (λ f. Apart f (entry_of r)) one (map entry_of l)
    (every_true (λ f. not (names_id (id_of r) f)) (map entry_of l) h)
  where
    one : (f : Entry) → not (names_id (id_of r) f) ≡ true → Apart f (entry_of r)
    one f n id p q = true_false p (rw (names-named id r q).1 at (not-true (names_id (id_of r) f) n))

-- where the place of an id has no mark, the id is new
unmarked_new : (seen : Bytes) (r : Rec) (l : List Rec) → All (Marked seen) l → get_or seen (place_of (id_of r)) 0 ≡ 0 → none_in (id_of r) l ≡ true
unmarked_new seen r l u clear =
    every_map (λ f. not (names_id (id_of r) f)) entry_of l
    ∙ all-every (λ q. not (names_id (id_of r) (entry_of q))) l (all_imp (Marked seen) (λ q. not (names_id (id_of r) (entry_of q)) ≡ true) one l u)
  where
    clash : (q : Rec) → Marked seen q → names_id (id_of r) (entry_of q) ≡ true → ⊥
    clash q m h = let n = names-named (id_of r) q h in m n.0 (ap (λ id. get_or seen (place_of id) 0) n.1 ∙ clear)

    one : (q : Rec) → Marked seen q → not (names_id (id_of r) (entry_of q)) ≡ true
    one q m = ap not (not_true_false (names_id (id_of r) (entry_of q)) (clash q m))

-- a mark more
module _ (seen : Bytes) (place : ℕ) (inside : place < length seen) where
  marks_here : get_or (set seen place 1) place 0 ≡ 0 → ⊥
  marks_here h = absurd (omega (arith, get_or-set_same seen place 1 0 inside))

  keeps_marks : (l : List Rec) → All (Marked seen) l → All (Marked (set seen place 1)) l
  keeps_marks l u = all_imp (Marked seen) (Marked (set seen place 1)) one l u
    where
      one : (r : Rec) → Marked seen r → Marked (set seen place 1) r
      one r m named h = elim (ℕ_discrete (place_of (id_of r)) place) [
        | yes e ↦ marks_here (ap (λ i. get_or (set seen place 1) i 0) (sym e) ∙ h)
        | no d ↦ m named (sym (get_or-set_other seen place (place_of (id_of r)) 1 0 d) ∙ h)
      ]

-- 2. The walk

pub record Walked (s seen : Bytes) (at : ℕ) : Type 0 where
  pub entries : Entries (drop at s)
  pub passed : Entries (take at s)
  pub size : length seen ≡ 65536
  pub apart : named_apart (map entry_of (records_in (take at s))) ≡ true
  pub marked : All (Marked seen) (records_in (take at s))

pub walk_start : (s seen : Bytes) → Entries s → length seen ≡ 65536 → Walked s seen 0
unfolding items_from records is_whole named_apart
walk_start s seen e size = record { entries = e; passed = refl; size = size; apart = refl; marked = tt }

pub walk_end : {s seen : Bytes} {at : ℕ} → Walked s seen at → length s ≤ at → true ≡ named_apart (map entry_of (records_in s))
walk_end {s} {seen} {at} h past = sym h.apart ∙ ap (λ x. named_apart (map entry_of (records_in x))) (take_all at s past)

-- 3. A turn: the step from the walk's place found an entry

module _ {s seen : Bytes} {at start end : ℕ} {next : Cursor} (are_bytes : AreBytes s) (h : Walked s seen at) (t : Stands s at start end next) where
  moved : (marks : Bytes) → length marks ≡ 65536 → All (Marked marks) (records_in (take at s)) → Marked marks t.entry.entry
      → All (λ f. Apart f (entry_of t.entry.entry)) (map entry_of (records_in (take at s))) → Walked s marks next.at
  moved marks size marked own new =
      let front = records_in (take at s) in
      let r = t.entry.entry in
      let u = up_to t are_bytes h.passed in
      let w : Walked s marks end = record {
        entries = rest t;
        passed = u.1;
        size = size;
        apart =
            ap (λ l. named_apart (map entry_of l)) u.0
            ∙ ap named_apart (map-append entry_of front (r ∷ []))
            ∙ one_more (map entry_of front) (entry_of r) h.apart new;
        marked = rw u.0 (all_append (Marked marks) front (r ∷ []) marked (own, tt));
      } in
      subst (λ x. Walked s marks x) (sym (next-end t)) w

  pub walk_unnamed : is_named (record_in (take (end - start) (drop start s))) ≡ false → Walked s seen next.at
  walk_unnamed e =
      let n : is_named t.entry.entry ≡ false = sym (ap is_named (record-here t)) ∙ e in
      moved seen h.size h.marked (λ named p. true_false named n) (unnamed_apart t.entry.entry n (map entry_of (records_in (take at s))))

  -- a named topic: its mark's place, and whether its id is new
  module _ (place : ℕ) (at_place : (place ≡ place_of (id_of (record_in (take (end - start) (drop start s))))) × (place < 65536)) where
    place_here : place ≡ place_of (id_of t.entry.entry)
    place_here = at_place.0 ∙ ap (λ r. place_of (id_of r)) (record-here t)

    pub walk_unmarked : get_or seen place 0 ≡ 0 → Walked s (set seen place 1) next.at
    walk_unmarked clear =
        let inside : place < length seen = omega (arith, at_place.1, h.size) in
        moved (set seen place 1) (length-set seen place 1 ∙ h.size) (keeps_marks seen place inside (records_in (take at s)) h.marked)
        (λ n p. marks_here seen place inside (ap (λ i. get_or (set seen place 1) i 0) place_here ∙ p))
        (new_apart t.entry.entry (records_in (take at s))
        (unmarked_new seen t.entry.entry (records_in (take at s)) h.marked (ap (λ i. get_or seen i 0) (sym place_here) ∙ clear)))

  module _ (new : Bool) (tells : new ≡ none_in (id_of (record_in (take (end - start) (drop start s)))) (records_in (take start s))) where
    new-here : none_in (id_of t.entry.entry) (records_in (take at s)) ≡ new
    new-here = sym (tells ∙ ap₂ (λ r i. none_in (id_of r) (records_in (take i s))) (record-here t) t.first)

    pub walk_new : new ≡ true → (place : ℕ) → (place ≡ place_of (id_of (record_in (take (end - start) (drop start s))))) × (place < 65536)
        → (get_or seen place 0 ≡ 0 → ⊥) → Walked s seen next.at
    walk_new e place at_place mark =
        moved seen h.size h.marked (λ n p. mark (ap (λ i. get_or seen i 0) (place_here place at_place) ∙ p))
        (new_apart t.entry.entry (records_in (take at s)) (new-here ∙ e))

    pub walk_shared : new ≡ false → is_named (record_in (take (end - start) (drop start s))) ≡ true → false ≡ named_apart (map entry_of (records_in s))
    walk_shared e named =
        let front = records_in (take at s) in
        let r = t.entry.entry in
        let after = records_in (drop end s) in
        let n : is_named r ≡ true = sym (ap is_named (record-here t)) ∙ named in
        sym (ap (λ l. named_apart (map entry_of l)) (all_records_lem t are_bytes h.passed h.entries)
        ∙ ap named_apart (map-append entry_of front (r ∷ after))
        ∙ shared (map entry_of front) (map entry_of after) (entry_of r) (id_of r) (named-names r n) (new-here ∙ e))

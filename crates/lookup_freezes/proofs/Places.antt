-- Places of freezes, and what is written of one.
use mathlib.Core.Path.{◌≡◌, refl, sym, ap, ap₂, ◌∙◌, subst}
use mathlib.Core.Bool.{Bool, true, false, cond}
use mathlib.Core.List.{List, [], ◌∷◌}
use mathlib.Core.Option.{Option, none, some}
use Prim.Native.Nat.{ℕ, ◌+◌, ◌-◌, ◌≤◌, ◌<◌}
use native.Mathlib.Decide.{dec_lt}
use native.Mathlib.Omega.{arith}
use borrow.Author.Tests.{lt-ltb, le-ltb}
use lib.Dec.{ltb}
use lib.ListN.{length, take, drop, length-drop}
use lib.Seq.{slice, drop-drop}
use Rattle.model.specs.Choice.{given, or_else}
use Rattle.model.specs.Number.{Bytes, AreBytes}
use Rattle.model.specs.Order.{Key}
use Rattle.model.specs.Run.{field}
use Rattle.model.specs.Kind.{kind_of, kinds}
use Rattle.model.specs.Record.{Rec}
use Rattle.model.specs.Key.{key_of, subject, freeze_key}
use Rattle.model.specs.Map.{get}
use Rattle.model.specs.Contents.{Entry, key, kept, returned, record_key}
use Rattle.model.specs.Image.{entry_of}
use Rattle.model.specs.Reply.{Reply, accepted}
use Rattle.model.specs.Snapshot.{emit}
use Rattle.model.specs.Lookup.{found, begins_with, internal, literal, prefixed, longest_by, freeze_by, returned_at, freeze, as_list}
use Rattle.model.specs.declared.Kind.TheVariants.{TopicFreeze}
use Rattle.laws.specs.Choice.{impossible, over}
use Rattle.laws.specs.Lists.{in_all}
use Rattle.laws.specs.Map.{get-map, get_in}
use Rattle.laws.specs.Numbers.{drop_are_bytes}
use Rattle.laws_image.specs.Entries.{entry_key}
use Rattle.fields.proofs.Parse.{take-drop}
use Rattle.entries.specs.Entries.{records_in, Entries, Placed, record_in}
use Rattle.entries.proofs.Lookups.{present}
use Rattle.find.specs.Found.{Query, query_key, found_in, AllKept, record_at, PlaceHolds}
use Rattle.find.proofs.Finds.{found-holds, found_record, emit_nothing}
use Rattle.entries.specs.Held.{entries_in}
use Rattle.lookup_freezes.specs.Freezes.{frozen_in, Chosen}

-- 1. What is sought

pub freeze_query : (scope pattern : Bytes) → length scope ≤ 255 → length pattern ≤ 255 → Query 18 scope pattern
unfolding kind_of kinds
freeze_query scope pattern h k = record { of = TopicFreeze; known = refl; first_fits = h; second_fits = k; widths = tt }

freeze_key_lem : (scope pattern : Bytes) → query_key 18 scope pattern ≡ freeze_key pattern scope
unfolding query_key kind_of kinds key_of subject field
freeze_key_lem scope pattern = refl

module _ (s scope pattern : Bytes) {at end : ℕ} (p : Placed s (query_key 18 scope pattern) at end) where
  pub placed : Placed s (freeze_key pattern scope) at end
  placed = subst (λ k. Placed s k at end) (freeze_key_lem scope pattern) p

-- 2. A place's record

listed : (o : Option Entry) → found o ≡ as_list (given o none (λ e. some (returned e)))
listed none = refl
listed (some e) = refl

found-returned : (s : Bytes) (k : Key) → found_in k s ≡ as_list (returned_at k (entries_in s))
unfolding found_in
found-returned s k = listed (get key k (entries_in s))

chosen_whole : (s : Bytes) (k : Key) {at end : ℕ} → Placed s k at end → AreBytes s → Entries s → AllKept (records_in s)
    → Chosen s (returned_at k (entries_in s)) at end
chosen_whole s k {at} {end} p are whole keeps = record {
  holds = found-holds s k at end p are whole keeps;
  says = found_record s k at end p are whole ∙ found-returned s k;
}

-- by its place in the rest of the entries, where these have the key's as all have it
module _ (s : Bytes) (from : ℕ) (k : Key) (same : get record_key k (records_in s) ≡ get record_key k (records_in (drop from s))) (within : from ≤ length s)
    (are : AreBytes s) (whole : Entries (drop from s)) (keeps : AllKept (records_in s)) {a e : ℕ} (p : Placed (drop from s) k a e) where
  moved : slice (from + a) (from + e) s ≡ slice a e (drop from s)
  moved = sym (drop-drop a from (take (from + e) s)) ∙ ap (drop a) (sym (take-drop from e s))

  same_record : record_at s (from + a) (from + e) ≡ record_at (drop from s) a e
  unfolding record_at
  same_record = ap₂ (λ b x. cond b (returned (entry_of (record_in x)) ∷ []) []) shifted moved
    where
      shifted : ltb (from + a) (from + e) ≡ ltb a e
      shifted = elim (dec_lt a e) [ yes q ↦ lt-ltb (from + a) (from + e) (omega arith) ∙ sym (lt-ltb a e q) | no q ↦ le-ltb (from + a) (from + e) (omega arith) ∙ sym (le-ltb a e (omega arith)) ]

  same-found : found_in k (drop from s) ≡ found_in k s
  unfolding found_in
  same-found =
      ap found (get-map record_key key entry_of entry_key k (records_in (drop from s))
      ∙ ap (over entry_of) (sym same)
      ∙ sym (get-map record_key key entry_of entry_key k (records_in s)))

  part-holds : PlaceHolds s (from + a) (from + e)
  part-holds longer =
      let t = present (drop from s) k a e p (drop_are_bytes from s are) whole (omega arith) in
      let r = record_in (slice a e (drop from s)) in
      let here = get_in record_key k (records_in s) r (same ∙ t.1) in
      record {
        is = rw moved t.0;
        keeps = rw moved (in_all (λ x. kept (entry_of x) ≡ x) (records_in s) keeps r here.0);
        within = omega (arith, p.most, length-drop from s);
      }

  pub chosen_part : Chosen s (returned_at k (entries_in s)) (from + a) (from + e)
  chosen_part = record {
    holds = part-holds;
    says = same_record ∙ found_record (drop from s) k a e p (drop_are_bytes from s are) whole ∙ same-found ∙ found-returned s k;
  }

-- the first of two places that is not empty
module _ (s : Bytes) {o : Option Rec} (other : Option Rec) {at end : ℕ} (c : Chosen s o at end) where
  pub chosen_first : at < end → Chosen s (or_else o other) at end
  unfolding record_at
  chosen_first longer = record { holds = c.holds; says = c.says ∙ go o c.says }
    where
      go : (x : Option Rec) → record_at s at end ≡ as_list x → as_list x ≡ as_list (or_else x other)
      go none e = let z : returned (entry_of (record_in (slice at end s))) ∷ [] ≡ [] = rw (lt-ltb at end longer) at e in impossible cc
      go (some r) e = refl

  pub chosen_next : end ≤ at → {a e : ℕ} → Chosen s other a e → Chosen s (or_else o other) a e
  unfolding record_at
  chosen_next empty d = record { holds = d.holds; says = d.says ∙ go o c.says }
    where
      go : (x : Option Rec) → record_at s at end ≡ as_list x → as_list other ≡ as_list (or_else x other)
      go none e = refl
      go (some r) e = let z : ◌≡◌ {A = List Rec} [] (r ∷ []) = rw (le-ltb at end empty) at e in impossible cc

-- 3. The literal scope first

module _ (s name : Bytes) {at end : ℕ} (p : Placed s (query_key 18 name literal) at end) (are : AreBytes s) (whole : Entries s) (keeps : AllKept (records_in s)) where
  one-literal : Chosen s (frozen_in s literal name) at end
  one-literal = chosen_whole s (freeze_key literal name) (placed s name literal p) are whole keeps

  pub literal-found : at < end → Chosen s (or_else (frozen_in s literal name) (longest_by (frozen_in s prefixed) [] name)) at end
  literal-found longer = chosen_first s (longest_by (frozen_in s prefixed) [] name) one-literal longer

  pub prefix_next : end ≤ at → {a b : ℕ} → Chosen s (longest_by (frozen_in s prefixed) [] name) a b
      → Chosen s (or_else (frozen_in s literal name) (longest_by (frozen_in s prefixed) [] name)) a b
  prefix_next empty c = chosen_next s (longest_by (frozen_in s prefixed) [] name) one-literal empty c

-- 4. What is written

module _ (s name : Bytes) {b : Bool} (eb : b ≡ begins_with internal name) where
  pub internal-none : b ≡ true → (out : Bytes)
      → (accepted (0 ∷ []) ≡ (emit (as_list (freeze name (entries_in s))) out).reply) × (out ≡ (emit (as_list (freeze name (entries_in s))) out).buffer)
  unfolding freeze freeze_by
  internal-none t out = rw (sym eb ∙ t) (emit_nothing out)

  module _ (t : b ≡ false) {at end : ℕ} (c : Chosen s (or_else (frozen_in s literal name) (longest_by (frozen_in s prefixed) [] name)) at end) where
    chosen_list : record_at s at end ≡ as_list (freeze name (entries_in s))
    unfolding freeze freeze_by
    chosen_list = c.says ∙ rw (sym eb ∙ t) refl

    pub chosen_emitted : (out : Bytes) {r : Reply} {v : Bytes} → (r ≡ (emit (record_at s at end) out).reply) × (v ≡ (emit (record_at s at end) out).buffer)
        → (r ≡ (emit (as_list (freeze name (entries_in s))) out).reply) × (v ≡ (emit (as_list (freeze name (entries_in s))) out).buffer)
    chosen_emitted out e = (e.0 ∙ ap (λ x. (emit x out).reply) chosen_list, e.1 ∙ ap (λ x. (emit x out).buffer) chosen_list)

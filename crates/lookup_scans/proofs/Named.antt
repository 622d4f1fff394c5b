-- A walk that looks for the topic that is named for an id, and what is written of the place that it found.
use mathlib.Core.Path.{◌≡◌, refl, sym, ap, ◌∙◌, subst}
use mathlib.Core.Bool.{Bool, true, false, cond}
use mathlib.Core.List.{List, [], ◌∷◌, map}
use mathlib.Core.Logic.{inl, inr}
use mathlib.Core.Option.{Option, none, some}
use Prim.Native.Nat.{ℕ, ◌+◌, ◌-◌, ◌≤◌, ◌<◌}
use native.Mathlib.Decide.{dec_lt}
use native.Mathlib.Omega.{arith}
use borrow.Author.Tests.{lt-ltb, le-ltb}
use lib.Dec.{ltb}
use lib.ListN.{length, take, drop}
use lib.Seq.{slice}
use Rattle.model.specs.Number.{Bytes}
use Rattle.model.specs.Record.{Rec}
use Rattle.model.specs.Contents.{Entry, kept, returned, names_id}
use Rattle.model.specs.Image.{entry_of}
use Rattle.model.specs.Reply.{Reply}
use Rattle.model.specs.Snapshot.{emit}
use Rattle.model.specs.Lookup.{found, named_by}
use Rattle.laws.specs.Lists.{In, in_all}
use Rattle.keys.proofs.Found.{lent_slice}
use Rattle.entries.specs.Entries.{records_in, Entries, size_at, record_in}
use Rattle.entries.specs.declared.Cursor.{Cursor}
use Rattle.entries.proofs.Turns.{Stands}
use Rattle.image_entries.proofs.Turns.{forward, inside, is_record, entry_is, next-at, past_end}
use Rattle.find.specs.Found.{AllKept, record_at, PlaceHolds}
use Rattle.lookup_scans.specs.Scans.{NamedAt}

-- 1. Lists

abbrev named_of : Bytes → List Rec → Option Entry
named_of id l = named_by id (map entry_of l)

named_none : (id : Bytes) (l : List Rec) → l ≡ [] → named_of id l ≡ none
unfolding named_by
named_none id l e = rw e

named-first : (id : Bytes) (r : Rec) (l : List Rec) {b : Bool} → b ≡ names_id id (entry_of r) → named_of id (r ∷ l) ≡ cond b (some (entry_of r)) (named_of id l)
unfolding named_by
named-first id r l e = rw e

-- 2. The walk

pub record Sought (s id : Bytes) (at : ℕ) : Type 0 where
  pub entries : Entries (drop at s)
  pub among : (r : Rec) → In r (records_in (drop at s)) → In r (records_in s)
  pub same : named_of id (records_in (drop at s)) ≡ named_of id (records_in s)

pub sought_start : (s id : Bytes) → Entries s → Sought s id 0
sought_start s id e = record { entries = e; among = λ r i. i; same = refl }

module _ {s id : Bytes} {at : ℕ} (h : Sought s id at) where
  pub sought_all : length s ≤ at → NamedAt s id 0 0
  sought_all past = record {
    present = λ longer. absurd (omega arith);
    absent = λ empty. sym h.same ∙ named_none id (records_in (drop at s)) (past_end s at past);
  }

  module _ {start end : ℕ} {next : Cursor} (t : Stands s at start end next) {b : Bool}
      (e : b ≡ names_id id (entry_of (record_in (take (end - start) (drop start s))))) where
    split : cond b (some (entry_of t.entry.entry)) (named_of id (records_in (drop (at + size_at s at) s))) ≡ named_of id (records_in s)
    split =
        sym (ap (named_of id) t.entry.list
        ∙ named-first id t.entry.entry (records_in (drop (at + size_at s at) s)) (e ∙ ap (λ r. names_id id (entry_of r)) (entry_is t)))
        ∙ h.same

    within_all : (r : Rec) → In r (t.entry.entry ∷ records_in (drop (at + size_at s at) s)) → In r (records_in s)
    within_all r i = h.among r (subst (λ l. In r l) (sym t.entry.list) i)

    pub sought_on : b ≡ false → Sought s id next.at
    sought_on is =
        subst (λ x. Sought s id x) (sym (next-at t))
        (record { entries = t.entry.rest; among = λ r i. within_all r (inr i); same = rw is at split })

    -- the entry by the bytes of its place
    place : slice start end s ≡ take (end - start) (drop start s)
    place = sym (lent_slice s start end (forward t))

    place_is : record_in (slice start end s) ≡ t.entry.entry
    place_is = ap record_in place ∙ entry_is t

    pub sought_here : b ≡ true → NamedAt s id start end
    sought_here is = record {
      present = λ longer. record {
        is = rw place (is_record t);
        within = inside t;
        among = within_all (record_in (slice start end s)) (inl place_is);
        names = sym (rw is at split) ∙ ap (λ r. some (entry_of r)) (sym place_is);
      };
      absent = λ empty. absurd (omega (arith, t.first, t.last));
    }

-- 3. What is found at the place

module _ (s id : Bytes) (at end : ℕ) (p : NamedAt s id at end) where
  pub named-holds : AllKept (records_in s) → PlaceHolds s at end
  named-holds keeps longer =
      let n = p.present longer in
      record {
        is = n.is;
        keeps = in_all (λ r. kept (entry_of r) ≡ r) (records_in s) keeps (record_in (slice at end s)) n.among;
        within = n.within;
      }

  named_record : record_at s at end ≡ found (named_of id (records_in s))
  unfolding record_at
  named_record = elim (dec_lt at end) [ yes q ↦ there q | no q ↦ nothing (omega arith) ]
    where
      there : at < end → cond (ltb at end) (returned (entry_of (record_in (slice at end s))) ∷ []) [] ≡ found (named_of id (records_in s))
      there q = rw (lt-ltb at end q) (sym (ap found (p.present q).names))

      nothing : end ≤ at → cond (ltb at end) (returned (entry_of (record_in (slice at end s))) ∷ []) [] ≡ found (named_of id (records_in s))
      nothing q = rw (le-ltb at end q) (sym (ap found (p.absent q)))

  pub named_emits : (out : Bytes) {r : Reply} {o : Bytes} → (r ≡ (emit (record_at s at end) out).reply) × (o ≡ (emit (record_at s at end) out).buffer)
      → (r ≡ (emit (found (named_of id (records_in s))) out).reply) × (o ≡ (emit (found (named_of id (records_in s))) out).buffer)
  named_emits out h = (h.0 ∙ ap (λ l. (emit l out).reply) named_record, h.1 ∙ ap (λ l. (emit l out).buffer) named_record)

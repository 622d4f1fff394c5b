-- Entries that ascend by key: the walk compares each with the one before, and from that one on the list decides for all.
use mathlib.Core.Path.{◌≡◌, refl, sym, ap, ap₂, ◌∙◌, subst}
use mathlib.Core.List.{List, [], ◌∷◌}
use mathlib.Core.Bool.{true, false, ◌&&◌}
use Prim.Native.Nat.{ℕ, ◌-◌, ◌≤◌, ◌<◌}
use native.Mathlib.Decide.{dec_lt}
use native.Mathlib.Omega.{arith}
use lib.ListN.{length, take, drop, drop_of_length-le}
use Rattle.model.specs.Number.{Bytes}
use Rattle.model.specs.Order.{compare_keys, ordering, is_below}
use Rattle.model.specs.Record.{Rec}
use Rattle.model.specs.Map.{ascending}
use Rattle.model.specs.Contents.{record_key}
use Rattle.std.specs.declared.cmp.Ordering.{Ordering as Order}
use Rattle.std.specs.declared.cmp.Ordering.TheVariants.{Less, Equal, Greater}
use Rattle.keys.specs.Keys.{key_in, Keyed}
use Rattle.entries.specs.Entries.{records_in, Entries}
use Rattle.entries.specs.declared.Cursor.{Cursor}
use Rattle.entries.proofs.Records.{record-key}
use Rattle.entries.proofs.Seeks.{no_records}
use Rattle.entries.proofs.Turns.{Stands, lent, lent-keyed}

-- 1. Lists

ascending-two : (p e : Rec) (l : List Rec)
    → ascending record_key (p ∷ e ∷ l) ≡ is_below (compare_keys (record_key p) (record_key e)) && ascending record_key (e ∷ l)
unfolding ascending
ascending-two p e l = refl

ascending-none : (l : List Rec) → l ≡ [] → ascending record_key l ≡ true
unfolding ascending
ascending-none l e = rw e

ascending-one : (p : Rec) (l : List Rec) → l ≡ [] → ascending record_key (p ∷ l) ≡ true
unfolding ascending
ascending-one p l e = rw e

-- 2. The walk

-- an entry stands from one place to another
abbrev Between : Bytes → ℕ → ℕ → Type 0
Between s start end = Stands s start start end (record { at = end })

-- the walk is at `at`, and the entry before it begins at `prev`; at the first entry there is none
pub record Climb (s : Bytes) (prev at : ℕ) : Type 0 where
  pub order : prev ≤ at
  pub entries : Entries (drop at s)
  pub prior : prev < at → Between s prev at
  pub same : ascending record_key (records_in (drop prev s)) ≡ ascending record_key (records_in s)

pub climb_start : (s : Bytes) → Entries s → Climb s 0 0
climb_start s e = record { order = omega arith; entries = e; prior = λ h. absurd (omega arith); same = refl }

-- the entry that stands somewhere, and the list from there on
module _ (s : Bytes) (start end : ℕ) (b : Between s start end) where
  from_entry : records_in (drop start s) ≡ b.entry.entry ∷ records_in (drop end s)
  from_entry = b.entry.list ∙ ap (λ x. b.entry.entry ∷ records_in (drop x s)) (sym b.last)

  key_here : key_in (take (end - start) (drop start s)) ≡ record_key b.entry.entry
  key_here = ap key_in (lent s start start end (record { at = end }) b) ∙ record-key b.entry.entry b.entry.passes

pub climb_end : {s : Bytes} {prev at : ℕ} → Climb s prev at → length s ≤ at → true ≡ ascending record_key (records_in s)
climb_end {s} {prev} {at} h past = sym (elim (dec_lt prev at) [ yes p ↦ after p | no q ↦ alone (let o = h.order in omega arith) ]) ∙ h.same
  where
    none : records_in (drop at s) ≡ []
    none = no_records (drop at s) (drop_of_length-le s past)

    after : prev < at → ascending record_key (records_in (drop prev s)) ≡ true
    after p = ap (ascending record_key) (from_entry s prev at (h.prior p)) ∙ ascending-one _ _ none

    alone : prev ≡ at → ascending record_key (records_in (drop prev s)) ≡ true
    alone e = ascending-none _ (ap (λ x. records_in (drop x s)) e ∙ none)

-- 3. A turn: the step from the walk's place found an entry

module _ {s : Bytes} {prev at start end : ℕ} {next : Cursor} (h : Climb s prev at) (t : Stands s at start end next) where
  here : Between s at end
  here = record { first = refl; last = t.last; after = refl; entry = t.entry }

  pub bounds : (start ≡ at) × (prev ≤ start) × (start ≤ end) × (end ≤ length s)
  bounds = (t.first, omega (arith, h.order, t.first), omega (arith, t.first, t.last), omega (arith, t.last, t.entry.fits))

  -- the walk goes on behind the entry, and compares the next one with it
  moves : (from : ℕ) → from ≡ at → ascending record_key (records_in (drop from s)) ≡ ascending record_key (records_in s) → Climb s from next.at
  moves from e same =
      let c : Climb s at end = record {
        order = omega (arith, t.last);
        entries = rw t.last t.entry.rest;
        prior = λ p. here;
        same = subst (λ x. ascending record_key (records_in (drop x s)) ≡ ascending record_key (records_in s)) e same;
      } in
      subst (λ x. Climb s x next.at) (sym e) (subst (λ x. Climb s at x) (sym (ap (λ k. k.at) t.after)) c)

  pub climb_first : prev ≡ start → Climb s prev next.at
  climb_first e = moves prev (e ∙ t.first) h.same

  module _ (apart : prev ≡ start → ⊥) where
    before : Between s prev at
    before = h.prior (omega (arith, h.order, t.first, apart))

    pub both_keyed : Keyed (take (start - prev) (drop prev s)) × Keyed (take (end - start) (drop start s))
    both_keyed = (rw t.first (lent-keyed s prev prev at (record { at = at }) before), lent-keyed s at start end next t)

    module _ (o : Order) (e : ordering o ≡ compare_keys (key_in (take (start - prev) (drop prev s))) (key_in (take (end - start) (drop start s)))) where
      decides : is_below (ordering o) && ascending record_key (records_in (drop at s)) ≡ ascending record_key (records_in s)
      decides =
          let p = before.entry.entry in
          let r = here.entry.entry in
          let keys : ordering o ≡ compare_keys (record_key p) (record_key r) =
          e
          ∙ ap (λ x. compare_keys (key_in (take (x - prev) (drop prev s))) (key_in (take (end - x) (drop x s)))) t.first
          ∙ ap₂ compare_keys (key_here s prev at before) (key_here s at end here) in
          let l = records_in (drop end s) in
          ap₂ (λ x y. is_below x && ascending record_key y) keys (from_entry s at end here)
          ∙ sym (ascending-two p r l)
          ∙ ap (λ x. ascending record_key (p ∷ x)) (sym (from_entry s at end here))
          ∙ ap (ascending record_key) (sym (from_entry s prev at before))
          ∙ h.same

      -- what the answer says
      says : {x : Order} → o ≡ x → is_below (ordering x) && ascending record_key (records_in (drop at s)) ≡ ascending record_key (records_in s)
      says is = ap (λ x. is_below (ordering x) && ascending record_key (records_in (drop at s))) (sym is) ∙ decides

      pub climb_less : o ≡ Less → Climb s start next.at
      climb_less less = moves start t.first (ap (λ x. ascending record_key (records_in (drop x s))) t.first ∙ says less)

      pub climb_equal : o ≡ Equal → false ≡ ascending record_key (records_in s)
      climb_equal equal = says equal

      pub climb_greater : o ≡ Greater → false ≡ ascending record_key (records_in s)
      climb_greater greater = says greater

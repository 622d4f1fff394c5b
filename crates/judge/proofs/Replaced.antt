-- A topic's record against the stored topic of its name.
use mathlib.Core.Path.{◌≡◌, refl, sym, ap, ap₂, ◌∙◌}
use mathlib.Core.Bool.{Bool, true, false, not}
use mathlib.Core.List.{[]}
use mathlib.Core.Option.{some}
use Prim.Native.Nat.{ℕ, ◌+◌, ◌-◌, ◌≤◌, ◌<◌}
use native.Mathlib.Omega.{arith}
use borrow.Author.Tests.{not-true, not-false, eq-eqb, ne_eqb}
use lib.Dec.{ltb}
use lib.ListN.{take, drop}
use Rattle.model.specs.Choice.{unless}
use Rattle.model.specs.Number.{Bytes, AreBytes, number, half, place}
use Rattle.model.specs.Order.{same_bytes}
use Rattle.model.specs.Run.{Run, value}
use Rattle.model.specs.Kind.{kind_of, kinds, kind_number}
use Rattle.model.specs.Shape.{rows_of, shape_of}
use Rattle.model.specs.Record.{Rec}
use Rattle.model.specs.Key.{rank, key_of, key_rank, topic_key}
use Rattle.model.specs.Map.{get}
use Rattle.model.specs.Contents.{key}
use Rattle.model.specs.Image.{entry_of}
use Rattle.model.specs.Validate.{topic_exists}
use Rattle.model.specs.declared.Kind.TheVariants.{Topic}
use Rattle.keys.specs.Keys.{run_in}
use Rattle.entries.specs.Entries.{Entries, Placed, record_in}
use Rattle.image_entries.proofs.Records.{headed, run_in_lem, kind_is, value_is}
use Rattle.find.specs.Found.{query_key}
use Rattle.entries.specs.Held.{entries_in}
use Rattle.find.specs.Logged.{TopicFields}
use Rattle.judge.specs.Judge.{may_replace}
use Rattle.find.proofs.Queries.{topic_key_lem}
use Rattle.find.proofs.Held.{Held, held, none-held}

-- 1. The three tests

module _ (new old : Run) (parts : ℕ) {b : Bool} (e : b ≡ same_bytes (value 2 new) (value 2 old)) where
  pub other_id : not b ≡ true → false ≡ may_replace new old parts
  unfolding may_replace
  other_id h = rw (← e, not-true b h)

  module _ (same : not b ≡ false) {n m : ℕ} (en : n ≡ number (value 4 new)) (em : m ≡ number (value 4 old)) where
    pub other_factor : (n ≡ m → ⊥) → false ≡ may_replace new old parts
    unfolding may_replace
    other_factor h = rw (← e, not-false b same, ← en, ← em, ne_eqb n m h)

    pub by_count : n ≡ m → {c : ℕ} → c ≡ place 4 (number (value 3 new)) → ltb (parts + half 4) c ≡ may_replace new old parts
    unfolding may_replace
    by_count h {c} ec = rw (← e, not-false b same, ← en, ← em, eq-eqb n m h, ← ec)

-- 2. The stored topic

topic_entry : (new : Run) (parts : ℕ) (r : Rec) → r.kind ≡ Topic → unless (may_replace new r.run parts) 6 ≡ topic_exists new parts (some (entry_of r))
unfolding topic_exists may_replace entry_of kind_number
topic_entry new parts r h = rw h

module _ (s rec : Bytes) {at end : ℕ} (p : Placed s (query_key 1 (value 1 (run_in rec)) []) at end) where
  same_key_lem : get key (query_key 1 (value 1 (run_in rec)) []) (entries_in s) ≡ get key (topic_key (value 1 (run_in rec))) (entries_in s)
  same_key_lem = ap (λ k. get key k (entries_in s)) (topic_key_lem (value 1 (run_in rec)))

  pub no_topic : end ≤ at → (parts : ℕ) → 0 ≡ topic_exists (run_in rec) parts (get key (topic_key (value 1 (run_in rec))) (entries_in s))
  unfolding topic_exists
  no_topic empty parts = sym (ap (topic_exists (run_in rec) parts) (sym same_key_lem ∙ none-held s p empty))

  module _ (are_bytes : AreBytes s) (whole : Entries s) (longer : at < end) where
    topic_held : Held s (query_key 1 (value 1 (run_in rec)) []) Topic (take (end - at) (drop at s))
    unfolding query_key kind_of kinds key_of key_rank rank
    topic_held = held s p are_bytes whole longer Topic refl (omega arith)

    pub held-fields : TopicFields (take (end - at) (drop at s))
    unfolding rows_of shape_of kind_number
    held-fields =
        let e = take (end - at) (drop at s) in
        let h = topic_held in
        let same = run_in_lem e h.is in
        record {
          headed = headed e h.is;
          name_fits = rw same (value_is e h.is Topic h.kind 1 refl refl).1;
          count_width = rw same (value_is e h.is Topic h.kind 3 refl refl);
          factor_width = rw same (value_is e h.is Topic h.kind 4 refl refl);
        }

    pub replaced : {n parts : ℕ} → n ≡ parts → {b : Bool} {r : ℕ} → r ≡ unless b 6
        → b ≡ may_replace (run_in rec) (run_in (take (end - at) (drop at s))) n
        → r ≡ topic_exists (run_in rec) parts (get key (topic_key (value 1 (run_in rec))) (entries_in s))
    replaced {n} {parts} en er eb =
        let e = take (end - at) (drop at s) in
        let h = topic_held in
        er
        ∙ ap (λ x. unless x 6) (eb ∙ ap₂ (may_replace (run_in rec)) (run_in_lem e h.is) en)
        ∙ topic_entry (run_in rec) parts (record_in e) (kind_is e h.is Topic h.kind)
        ∙ ap (topic_exists (run_in rec) parts) (sym h.found ∙ same_key_lem)

-- The broker of a change, and the moves of the change.
use mathlib.Core.Path.{◌≡◌, refl, sym, ap, ◌∙◌, subst}
use mathlib.Core.Bool.{Bool, true, false}
use mathlib.Core.List.{List, [], ◌∷◌}
use mathlib.Core.Option.{none, some}
use Prim.Native.Nat.{ℕ, ◌-◌, ◌≤◌, ◌<◌}
use native.Mathlib.Omega.{arith}
use lib.ListN.{length, take, drop}
use Rattle.model.specs.Number.{Bytes, AreBytes}
use Rattle.model.specs.Order.{same_bytes}
use Rattle.model.specs.Run.{Run, value}
use Rattle.model.specs.Kind.{kind_number}
use Rattle.model.specs.Shape.{stored, fault}
use Rattle.model.specs.Record.{Rec, rec, record_bytes}
use Rattle.model.specs.Contents.{Entry, storable}
use Rattle.model.specs.Move.{put_m, set_or_drop, broker_at, at_epoch, or_done, changed_broker, plan}
use Rattle.model.specs.declared.Kind.TheVariants.{BrokerRegistration, BrokerRegistrationChange}
use Rattle.keys.specs.Keys.{run_in}
use Rattle.entries.specs.Entries.{Entries, Placed, record_in}
use Rattle.entries.proofs.Changes.{record-in}
use Rattle.image_entries.proofs.Records.{headed, run_in_lem, kind_is}
use Rattle.find.specs.Found.{query_key}
use Rattle.entries.specs.Held.{entries_in}
use Rattle.find.proofs.Held.{held-run}
use Rattle.find.proofs.Epochs.{same_broker, no_broker, broker_epoch, broker_held}
use Rattle.apply_work.specs.Work.{Good, Made}
use Rattle.apply_work.specs.declared.Bounds.{Bounds}
use Rattle.apply_work.proofs.Made.{record-size, made_none}
use Rattle.apply_moves.specs.Moves.{IsPlain}
use Rattle.apply_drafts.specs.Drafts.{draft_room}
use Rattle.apply_brokers.specs.Change.{IsChange, BrokerIn, Copied}
use Rattle.apply_brokers.proofs.Drafts.{record_is}
use Rattle.apply_brokers.proofs.Fields.{step_on}

-- 1. The broker that is copied

module _ (s r node : Bytes) (i : IsChange r) {at end : ℕ} (p : Placed s (query_key 3 node []) at end) where
  -- by the record's fields, as they are read
  by_read : {b : Bytes} {n : ℕ} → Copied (value 2 (run_in r)) (broker_at node (entries_in s)) b n
      → Copied (value 2 (record_in r).run) (broker_at node (entries_in s)) b n
  by_read {b} {n} c = subst (λ f. Copied (value 2 f) (broker_at node (entries_in s)) b n) (run_in_lem r i.is) c

  nothing : (b : Bytes) → false ≡ at_epoch (value 2 (run_in r)) (broker_at node (entries_in s))
      → Copied (value 2 (record_in r).run) (broker_at node (entries_in s)) b 0
  nothing b e = by_read (record { none = λ z. sym e; there = λ z. absurd (omega arith) })

  pub not_stored : (b : Bytes) → end ≤ at → Copied (value 2 (record_in r).run) (broker_at node (entries_in s)) b 0
  not_stored b empty = nothing b (no_broker s r node p empty)

  module _ (are_bytes : AreBytes s) (whole : Entries s) (longer : at < end)
      {t : Bool} (e : t ≡ same_bytes (value 2 (run_in (take (end - at) (drop at s)))) (value 2 (run_in r))) where
    pub other_epoch : (b : Bytes) → t ≡ false → Copied (value 2 (record_in r).run) (broker_at node (entries_in s)) b 0
    other_epoch b f = nothing b (sym f ∙ broker_epoch s r node p are_bytes whole longer e)

    -- the entry that is copied, as a broker's record
    entry_is : (take (end - at) (drop at s) ≡ record_bytes (rec BrokerRegistration (run_in (take (end - at) (drop at s))))) ×
        (fault stored BrokerRegistration (run_in (take (end - at) (drop at s))) ≡ 0)
    entry_is =
        let h = broker_held s r node p are_bytes whole longer in
        let x = take (end - at) (drop at s) in
        let kinds : (record_in x).kind ≡ BrokerRegistration = kind_is x h.is BrokerRegistration h.kind in
        let runs : (record_in x).run ≡ run_in x = sym (run_in_lem x h.is) in
        let same : record_in x ≡ rec BrokerRegistration (run_in x) = λ j. rec (kinds j) (runs j) in
        let value_is : h.is.value ≡ rec BrokerRegistration (run_in x) = sym (record-in x h.is) ∙ same in
        (h.is.bytes ∙ ap record_bytes value_is, subst (λ q. fault stored q.kind q.run ≡ 0) value_is h.is.passes)

    pub entry_fits : (b : Bytes) → draft_room ≤ length b → length (take (end - at) (drop at s)) ≤ length b
    entry_fits b bounds = omega (arith, record-size _ (broker_held s r node p are_bytes whole longer).is)

    pub copied : t ≡ true → (b w : Bytes) {n : ℕ} → draft_room ≤ length b → length w ≡ length b
        → (n ≡ length (take (end - at) (drop at s))) × (take n w ≡ take (end - at) (drop at s))
        → Copied (value 2 (record_in r).run) (broker_at node (entries_in s)) w n
    unfolding kind_number
    copied f b w {n} bounds same said =
        let x = take (end - at) (drop at s) in
        let found : some (run_in x) ≡ broker_at node (entries_in s) =
        sym (held-run (broker_held s r node p are_bytes whole longer) refl) ∙ same_broker s r node p in
        let here : Copied (value 2 (run_in r)) (some (run_in x)) w n = record {
          none = λ z. absurd (omega (arith, said.0, headed x (broker_held s r node p are_bytes whole longer).is));
          there = λ z. (
            sym e ∙ f,
            record {
              bytes = said.1 ∙ entry_is.0;
              passes = entry_is.1;
              fits = omega (arith, said.0, entry_fits b bounds);
              room = omega arith;
            },
          );
        } in
        by_read (subst (λ o. Copied (value 2 (run_in r)) o w n) found here)

-- 2. The moves

-- the broker of the node that a change names
pub of_node : (r node : Bytes) → IsChange r → node ≡ value 1 (run_in r) → (l : List Entry) {b : Bytes} {n : ℕ}
    → Copied (value 2 (record_in r).run) (broker_at node l) b n → Copied (value 2 (record_in r).run) (broker_at (value 1 (record_in r).run) l) b n
of_node r node i e l {b} {n} c =
    subst (λ v. Copied (value 2 (record_in r).run) (broker_at v l) b n) (e ∙ ap (value 1) (run_in_lem r i.is)) c

module _ (f : Run) (l : List Entry) {b : Bytes} {n : ℕ} (c : Copied (value 2 f) (broker_at (value 1 f) l) b n) where
  pub none_changed : n ≡ 0 → {w : Bytes} {bounds : Bounds} → Good w bounds → Made (plan BrokerRegistrationChange f l) w bounds w bounds
  unfolding plan
  none_changed z good = rw (c.none z) (made_none good)

  pub broker_there : (n ≡ 0 → ⊥) → BrokerIn b n (or_done (broker_at (value 1 f) l))
  broker_there z = (c.there (omega arith)).1

-- a broker's record that was built is stored
module _ {b : Bytes} {n : ℕ} {run : Run} (d : BrokerIn b n run) where
  pub is_plain : IsPlain (record_in (take n b))
  unfolding kind_number
  is_plain = rw (record_is d) (record { no_topic = refl; no_partition = refl })

  stored_move : set_or_drop (storable (record_in (take n b)).kind (record_in (take n b)).run) (record_in (take n b)) ≡ put_m (rec BrokerRegistration run)
  unfolding storable
  stored_move = ap (λ (r : Rec). set_or_drop (storable r.kind r.run) r) (record_is d)

pub broker_changed : (f : Run) (l : List Entry) {b : Bytes} {n : ℕ} → Copied (value 2 f) (broker_at (value 1 f) l) b n → (n ≡ 0 → ⊥)
    → {u : Bytes} {m : ℕ} → BrokerIn u m (changed_broker f (run_in (take n b))) → {w v : Bytes} {bounds r : Bounds}
    → Made (set_or_drop (storable (record_in (take m u)).kind (record_in (take m u)).run) (record_in (take m u)) ∷ []) w bounds v r
    → Made (plan BrokerRegistrationChange f l) w bounds v r
unfolding plan
broker_changed f l c z d {w} {v} {bounds} {r} made =
    let old = c.there (omega arith) in
    rw old.0 (subst (λ m. Made (m ∷ []) w bounds v r) (stored_move (step_on (changed_broker f) old.1 d)) made)

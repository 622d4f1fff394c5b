-- The stored broker of a node at a record's epoch, and the stored next producer id.
use mathlib.Core.Path.{◌≡◌, refl, sym, ap, ◌∙◌}
use mathlib.Core.Bool.{Bool, false}
use mathlib.Core.List.{[]}
use Prim.Native.Nat.{ℕ, ◌-◌, ◌≤◌, ◌<◌}
use native.Mathlib.Omega.{arith}
use lib.ListN.{length, take, drop}
use Rattle.model.specs.Choice.{given}
use Rattle.model.specs.Number.{Bytes, AreBytes, number, bytes, half, place}
use Rattle.model.specs.Order.{same_bytes}
use Rattle.model.specs.Run.{value}
use Rattle.model.specs.Kind.{kind_of, kinds, kind_number}
use Rattle.model.specs.Shape.{rows_of, shape_of}
use Rattle.model.specs.Key.{rank, key_of, key_rank}
use Rattle.model.specs.Move.{run_at, broker_at, at_epoch, stored_next}
use Rattle.model.specs.declared.Kind.TheVariants.{BrokerRegistration, ProducerIds}
use Rattle.keys.specs.Keys.{run_in}
use Rattle.entries.specs.Entries.{Entries, Placed}
use Rattle.image_entries.proofs.Records.{headed, run_in_lem, value_is}
use Rattle.find.specs.Found.{query_key}
use Rattle.entries.specs.Held.{entries_in}
use Rattle.find.proofs.Queries.{broker_key, producer_key_lem}
use Rattle.find.proofs.Held.{Held, held, held-run, none-run}

-- 1. The broker of a node

module _ (s rec node : Bytes) {at end : ℕ} (p : Placed s (query_key 3 node []) at end) where
  pub same_broker : run_at (query_key 3 node []) (entries_in s) ≡ broker_at node (entries_in s)
  same_broker = ap (λ k. run_at k (entries_in s)) (broker_key node)

  pub no_broker : end ≤ at → false ≡ at_epoch (value 2 (run_in rec)) (broker_at node (entries_in s))
  no_broker empty = sym (ap (at_epoch (value 2 (run_in rec))) (sym same_broker ∙ none-run s p empty))

  module _ (are_bytes : AreBytes s) (whole : Entries s) (longer : at < end) where
    pub broker_held : Held s (query_key 3 node []) BrokerRegistration (take (end - at) (drop at s))
    unfolding query_key kind_of kinds key_of key_rank rank
    broker_held = held s p are_bytes whole longer BrokerRegistration refl (omega arith)

    pub broker_headed : 3 ≤ length (take (end - at) (drop at s))
    broker_headed = headed _ broker_held.is

    pub broker_epoch : {b : Bool} → b ≡ same_bytes (value 2 (run_in (take (end - at) (drop at s)))) (value 2 (run_in rec))
        → b ≡ at_epoch (value 2 (run_in rec)) (broker_at node (entries_in s))
    unfolding kind_number
    broker_epoch q = q ∙ ap (at_epoch (value 2 (run_in rec))) (sym (held-run broker_held refl) ∙ same_broker)

-- the node that a record's first field is
pub of_node : (s rec : Bytes) {node : Bytes} → node ≡ value 1 (run_in rec)
    → at_epoch (value 2 (run_in rec)) (broker_at node (entries_in s)) ≡ at_epoch (value 2 (run_in rec)) (broker_at (value 1 (run_in rec)) (entries_in s))
of_node s rec e = ap (λ v. at_epoch (value 2 (run_in rec)) (broker_at v (entries_in s))) e

-- 2. The stored producer ids

module _ (s : Bytes) {at end : ℕ} (p : Placed s (query_key 8 [] []) at end) where
  same_next : given (run_at (query_key 8 [] []) (entries_in s)) (bytes 8 0) (value 3) ≡ stored_next (entries_in s)
  same_next = ap (λ k. given (run_at k (entries_in s)) (bytes 8 0) (value 3)) producer_key_lem

  pub no_next : end ≤ at → half 8 ≡ place 8 (number (stored_next (entries_in s)))
  no_next empty = sym (ap (λ v. place 8 (number v)) (sym same_next ∙ ap (λ o. given o (bytes 8 0) (value 3)) (none-run s p empty)))

  module _ (are_bytes : AreBytes s) (whole : Entries s) (longer : at < end) where
    next-held : Held s (query_key 8 [] []) ProducerIds (take (end - at) (drop at s))
    unfolding query_key kind_of kinds key_of key_rank rank
    next-held = held s p are_bytes whole longer ProducerIds refl (omega arith)

    pub next_headed : 3 ≤ length (take (end - at) (drop at s))
    next_headed = headed _ next-held.is

    pub next_width : length (value 3 (run_in (take (end - at) (drop at s)))) ≡ 8
    unfolding rows_of shape_of kind_number
    next_width = let h = next-held in rw (run_in_lem _ h.is) (value_is _ h.is ProducerIds h.kind 3 refl refl)

    pub next_place : {n : ℕ} → n ≡ place 8 (number (value 3 (run_in (take (end - at) (drop at s))))) → n ≡ place 8 (number (stored_next (entries_in s)))
    unfolding kind_number
    next_place q =
        q ∙ ap (λ v. place 8 (number v)) (ap (λ o. given o (bytes 8 0) (value 3)) (sym (held-run next-held refl)) ∙ same_next)

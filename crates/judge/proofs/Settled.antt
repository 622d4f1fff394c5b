-- A proposal against the stored one of its id.
use mathlib.Core.Path.{◌≡◌, refl, sym, ap, ◌∙◌}
use mathlib.Core.Bool.{Bool}
use mathlib.Core.List.{[]}
use mathlib.Core.Option.{some}
use Prim.Native.Nat.{ℕ, ◌-◌, ◌≤◌, ◌<◌}
use native.Mathlib.Omega.{arith}
use borrow.Author.Tests.{eq-eqb, ne_eqb}
use lib.ListN.{length, take, drop}
use Rattle.model.specs.Choice.{unless}
use Rattle.model.specs.Number.{Bytes, AreBytes, number}
use Rattle.model.specs.Run.{Run, value, values}
use Rattle.model.specs.Kind.{kind_of, kinds, kind_number}
use Rattle.model.specs.Shape.{rows_of, shape_of}
use Rattle.model.specs.Key.{rank, key_of, key_rank, name_key}
use Rattle.model.specs.Move.{run_at}
use Rattle.model.specs.Validate.{extends, proposal_fault}
use Rattle.model.specs.declared.Kind.TheVariants.{BreakGlassProposal}
use Rattle.keys.specs.Keys.{run_in}
use Rattle.entries.specs.Entries.{Entries, Placed}
use Rattle.image_entries.proofs.Records.{headed, run_in_lem, value_is}
use Rattle.find.specs.Found.{query_key}
use Rattle.entries.specs.Held.{entries_in}
use Rattle.find.proofs.Queries.{proposal_key}
use Rattle.find.proofs.Held.{Held, held, held-run, none-run}

-- 1. The three tests

module _ (new old : Run) {n : ℕ} (en : n ≡ number (value 9 old)) where
  pub consumed : (n ≡ 0 → ⊥) → 14 ≡ proposal_fault new (some old)
  consumed h = rw (← en, ne_eqb n 0 h)

  module _ (unspent : n ≡ 0) {m : ℕ} (em : m ≡ number (value 10 old)) where
    pub withdrawn : m ≡ 1 → 15 ≡ proposal_fault new (some old)
    withdrawn h = rw (← en, eq-eqb n 0 unspent, ← em, eq-eqb m 1 h)

    pub by_approvals : (m ≡ 1 → ⊥) → {r : ℕ} {b : Bool} → r ≡ unless b 16 → b ≡ extends (values 8 old) (values 8 new)
        → r ≡ proposal_fault new (some old)
    by_approvals h er eb = rw (← en, eq-eqb n 0 unspent, ← em, ne_eqb m 1 h) (er ∙ ap (λ x. unless x 16) eb)

-- 2. The stored proposal

module _ (s rec : Bytes) {at end : ℕ} (p : Placed s (query_key 19 (value 1 (run_in rec)) []) at end) where
  same_proposal : run_at (query_key 19 (value 1 (run_in rec)) []) (entries_in s) ≡ run_at (name_key BreakGlassProposal (value 1 (run_in rec))) (entries_in s)
  same_proposal = ap (λ k. run_at k (entries_in s)) (proposal_key (value 1 (run_in rec)))

  pub no_proposal : end ≤ at → 0 ≡ proposal_fault (run_in rec) (run_at (name_key BreakGlassProposal (value 1 (run_in rec))) (entries_in s))
  no_proposal empty = sym (ap (proposal_fault (run_in rec)) (sym same_proposal ∙ none-run s p empty))

  module _ (are_bytes : AreBytes s) (whole : Entries s) (longer : at < end) where
    proposal_held : Held s (query_key 19 (value 1 (run_in rec)) []) BreakGlassProposal (take (end - at) (drop at s))
    unfolding query_key kind_of kinds key_of key_rank rank
    proposal_held = held s p are_bytes whole longer BreakGlassProposal refl (omega arith)

    pub proposal_headed : 3 ≤ length (take (end - at) (drop at s))
    proposal_headed = headed _ proposal_held.is

    pub time_width : length (value 9 (run_in (take (end - at) (drop at s)))) ≡ 8
    unfolding rows_of shape_of kind_number
    time_width = let h = proposal_held in rw (run_in_lem _ h.is) (value_is _ h.is BreakGlassProposal h.kind 9 refl refl)

    pub flag_width : length (value 10 (run_in (take (end - at) (drop at s)))) ≡ 1
    unfolding rows_of shape_of kind_number
    flag_width = let h = proposal_held in rw (run_in_lem _ h.is) (ap length (value_is _ h.is BreakGlassProposal h.kind 10 refl refl).only)

    pub proposal_told : {r : ℕ} → r ≡ proposal_fault (run_in rec) (some (run_in (take (end - at) (drop at s))))
        → r ≡ proposal_fault (run_in rec) (run_at (name_key BreakGlassProposal (value 1 (run_in rec))) (entries_in s))
    unfolding kind_number
    proposal_told q = q ∙ ap (proposal_fault (run_in rec)) (sym (held-run proposal_held refl) ∙ same_proposal)

-- The next id of a record of producer ids against the stored one, and its broker.
use mathlib.Core.Path.{◌≡◌, ap, ◌∙◌}
use mathlib.Core.Bool.{Bool}
use Prim.Native.Nat.{ℕ, ◌≤◌, ◌<◌}
use borrow.Author.Tests.{lt-ltb, le-ltb}
use Rattle.model.specs.Choice.{or_then, unless}
use Rattle.model.specs.Number.{Bytes, number, place}
use Rattle.model.specs.Run.{value}
use Rattle.model.specs.Move.{broker_at, at_epoch, stored_next, is_above}
use Rattle.keys.specs.Keys.{run_in}
use Rattle.entries.specs.Held.{entries_in}

module _ (s rec : Bytes) where
  abbrev at_broker : Bool
  at_broker = at_epoch (value 2 (run_in rec)) (broker_at (value 1 (run_in rec)) (entries_in s))

  abbrev producer_fault : ℕ
  producer_fault = or_then (unless (is_above 8 (value 3 (run_in rec)) (stored_next (entries_in s))) 11) (unless at_broker 12)

  module _ {x y : ℕ} (ex : x ≡ place 8 (number (value 3 (run_in rec)))) (ey : y ≡ place 8 (number (stored_next (entries_in s)))) where
    pub not_above : x ≤ y → 11 ≡ producer_fault
    not_above h = rw (← ex, ← ey, le-ltb y x h)

    pub above : y < x → {b : Bool} {r : ℕ} → r ≡ unless b 12 → b ≡ at_broker → r ≡ producer_fault
    above h er eb = rw (← ex, ← ey, lt-ltb y x h) (er ∙ ap (λ z. unless z 12) eb)

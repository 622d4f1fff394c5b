-- The bytes of a snapshot, by what it says: those that it wrote, and none where it is refused.
use mathlib.Core.Path.{◌≡◌, refl}
use mathlib.Core.List.{[], ◌∷◌}
use Prim.Native.Nat.{ℕ, ◌≤◌}
use native.Mathlib.Omega.{arith}
use lib.ListN.{length, take}
use Rattle.model.specs.Number.{Bytes}
use Rattle.model.specs.Reply.{accepted, refused}
use Rattle.model.specs.Snapshot.{snapshot_of}
use Rattle.model.specs.History.{written}
use Rattle.snapshot.proofs.Shots.{written_fits}

module _ (image own o : Bytes) (f : o ≡ (snapshot_of image own).buffer) (n : ℕ) where
  pub taken : accepted (n ∷ []) ≡ (snapshot_of image own).reply → (n ≤ length o) × (take n o ≡ written (snapshot_of image own))
  taken e = (written_fits image own n o e f, rw (← e, ← f) refl)

  pub not_taken : refused n ≡ (snapshot_of image own).reply → (0 ≤ length o) × (take 0 o ≡ written (snapshot_of image own))
  not_taken e = (omega arith, rw (← e) refl)

-- A buffer copied over one of its length, and a run that begins with some bytes.
use mathlib.Core.Path.{◌≡◌, ap, ◌∙◌}
use mathlib.Core.List.{[], ◌++◌, append-nil}
use Prim.Native.Nat.{◌+◌}
use native.Mathlib.Omega.{arith}
use lib.ListN.{length, take, drop, drop_of_length-le}
use Rattle.model.specs.Number.{Bytes}

pub copied : (d s : Bytes) → length s ≡ length d → {v : Bytes} → v ≡ take 0 d ++ s ++ drop (0 + length s) d → v ≡ s
copied d s e q =
    let none : drop (0 + length s) d ≡ [] = drop_of_length-le d {i = 0 + length s} (omega (arith, e)) in
    q ∙ ap (λ x. s ++ x) none ∙ append-nil s

-- How long an answer to a list of jobs is: two bytes to a name, of which there are at most as many as are allowed.
use Rattle.std.specs.Prelude.{◌≡◌, refl, Bool, true, false, cond, List, [], ◌∷◌, ℕ, zero, suc, ◌+◌, ◌*◌, ◌≤◌, ltb, length, take}
use Rattle.std.proofs.Math.Option.{Option, some}
use Rattle.std.proofs.Common.{arith}
use Rattle.model.specs.Choice.{joined}
use Rattle.model.specs.Number.{Bytes, bytes}
use Rattle.model.specs.Names.{Names, bad, name, name_fault, unless_bad, names_from, listed}

pub indexes-length : (f : Bytes → ℕ) (ns : List Bytes) → length (joined (λ n. bytes 2 (f n)) ns) ≡ 2 * length ns
indexes-length f [] = refl
indexes-length f (n ∷ ns) = omega (arith, indexes-length f ns)

pub listed_few : (ordered : Bool) (most : ℕ) (prior : Option Bytes) (skip : ℕ) (s : Bytes) → length (listed (names_from ordered most prior skip s)) ≤ most
unfolding names_from listed
listed_few ordered most prior skip [] = omega arith
listed_few ordered most prior (suc skip) (x ∷ s) = listed_few ordered most prior skip s
listed_few ordered zero prior zero (h ∷ s) = omega arith
listed_few ordered (suc most) prior zero (h ∷ []) = omega arith
listed_few ordered (suc most) prior zero (h ∷ l ∷ s) =
    go (ltb (length s) (h * 256 + l)) (name_fault ordered prior (take (h * 256 + l) s)) (names_from ordered most (some (take (h * 256 + l) s)) (suc (h * 256 + l)) (l ∷ s))
    (listed_few ordered most (some (take (h * 256 + l) s)) (suc (h * 256 + l)) (l ∷ s))
  where
    go : (b : Bool) (n : ℕ) (rest : Names) → length (listed rest) ≤ most
        → length (listed (cond b (bad 2) (unless_bad n (name (take (h * 256 + l) s) rest)))) ≤ suc most
    go true n rest few = omega arith
    go false zero rest few = omega (arith, few)
    go false (suc n) rest few = omega arith

-- An output with the marks of the first names of a list, and of one more.
use mathlib.Core.Path.{◌≡◌, refl, ap}
use mathlib.Core.Bool.{Bool, true, false, cond, not}
use mathlib.Core.List.{List, [], ◌∷◌, ◌++◌}
use Prim.Native.Nat.{ℕ, zero, suc, ◌+◌, ◌*◌, ◌≤◌}
use native.Mathlib.Omega.{arith}
use lib.ListN.{length, take, drop}
use Rattle.model.specs.Choice.{every}
use Rattle.model.specs.Number.{Bytes, bytes}
use Rattle.name_marks.specs.Marks.{marked}
use Rattle.name_marks.specs.Laws.{marked_nothing}

module _ (test : Bytes → Bool) (i : ℕ) where
  pub marked-length : (ns : List Bytes) (out : Bytes) → length (marked test i ns out) ≡ length out
  unfolding marked
  marked-length [] out = refl
  marked-length (n ∷ ns) [] = refl
  marked-length (n ∷ ns) (a ∷ []) = refl
  marked-length (n ∷ ns) (a ∷ b ∷ out) = go (test n) (marked-length ns out)
    where
      go : (t : Bool) → length (marked test i ns out) ≡ length out → length (cond t (bytes 2 i) (a ∷ b ∷ []) ++ marked test i ns out) ≡ suc (suc (length out))
      go true e = ap (λ k. suc (suc k)) e
      go false e = ap (λ k. suc (suc k)) e

  -- names that fail the test change nothing
  pub marked-before : (ps qs : List Bytes) (out : Bytes) → every (λ n. not (test n)) qs ≡ true → marked test i (ps ++ qs) out ≡ marked test i ps out
  unfolding marked
  marked-before [] qs out h = marked_nothing test i qs out h
  marked-before (p ∷ ps) qs [] h = refl
  marked-before (p ∷ ps) qs (a ∷ []) h = refl
  marked-before (p ∷ ps) qs (a ∷ b ∷ out) h = ap (λ l. cond (test p) (bytes 2 i) (a ∷ b ∷ []) ++ l) (marked-before ps qs out h)

  put_one : (ps : List Bytes) (v : Bytes) (out : Bytes) (k : ℕ) → k ≡ 2 * length ps → k + 2 ≤ length out → test v ≡ true
      → take k (marked test i ps out) ++ bytes 2 i ++ drop (k + 2) (marked test i ps out) ≡ marked test i (ps ++ (v ∷ [])) out
  unfolding marked
  put_one [] v out (suc k) e h t = absurd (omega arith)
  put_one [] v [] zero e h t = absurd (omega arith)
  put_one [] v (a ∷ []) zero e h t = absurd (omega arith)
  put_one [] v (a ∷ b ∷ out) zero e h t = rw t refl
  put_one (p ∷ ps) v out zero e h t = absurd (omega arith)
  put_one (p ∷ ps) v out (suc zero) e h t = absurd (omega arith)
  put_one (p ∷ ps) v [] (suc (suc k)) e h t = absurd (omega arith)
  put_one (p ∷ ps) v (a ∷ []) (suc (suc k)) e h t = absurd (omega arith)
  put_one (p ∷ ps) v (a ∷ b ∷ out) (suc (suc k)) e h t = go (test p) (put_one ps v out k (omega arith) (omega arith) t)
    where
      go : (x : Bool) → take k (marked test i ps out) ++ bytes 2 i ++ drop (k + 2) (marked test i ps out) ≡ marked test i (ps ++ (v ∷ [])) out
          → take (suc (suc k)) (cond x (bytes 2 i) (a ∷ b ∷ []) ++ marked test i ps out) ++ bytes 2 i
          ++ drop (suc (suc k) + 2) (cond x (bytes 2 i) (a ∷ b ∷ []) ++ marked test i ps out)
          ≡ cond x (bytes 2 i) (a ∷ b ∷ []) ++ marked test i (ps ++ (v ∷ [])) out
      go true r = let e : suc (suc k) + 2 ≡ suc (suc (k + 2)) = omega arith in rw e (ap (λ l. bytes 2 i ++ l) r)
      go false r = let e : suc (suc k) + 2 ≡ suc (suc (k + 2)) = omega arith in rw e (ap (λ l. a ∷ b ∷ l) r)

  -- the mark of one name more
  pub marked-one : {n : ℕ} (ps : List Bytes) (v out₀ out : Bytes) → length ps ≡ n → 2 * n + 2 ≤ length out₀ → test v ≡ true → out ≡ marked test i ps out₀
      → take (2 * n) out ++ bytes 2 i ++ drop (2 * n + 2) out ≡ marked test i (ps ++ (v ∷ [])) out₀
  marked-one {n} ps v out₀ out c h t e = rw e (put_one ps v out₀ (2 * n) (omega arith) h t)

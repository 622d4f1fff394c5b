-- The judgement of a record of the log, by its kind.
use mathlib.Core.Path.{◌≡◌, refl, sym, ap, ◌∙◌}
use mathlib.Core.List.{List}
use Prim.Native.Nat.{ℕ, zero, suc}
use Rattle.model.specs.Choice.{or_then}
use Rattle.model.specs.Number.{Bytes}
use Rattle.model.specs.Kind.{kind_number}
use Rattle.model.specs.Contents.{Entry}
use Rattle.model.specs.Validate.{alone, against, judge}
use Rattle.model.specs.declared.Kind.{Kind}
use Rattle.keys.specs.Keys.{kind_in, run_in}
use Rattle.find.specs.Logged.{IsLogged, logged_in}
use Rattle.find.proofs.Logged.{run_in_lem, kind_is}

module _ (s : Bytes) (i : IsLogged s) (k : Kind) (is : kind_in s ≡ kind_number k) where
  pub judged : (l : List Entry) → or_then (alone k (run_in s)) (against k (run_in s) l) ≡ judge (logged_in s) l
  unfolding judge
  judged l = rw (run_in_lem s i, ← kind_is s i k is)

  -- where the entries say nothing
  pub judged-alone : (l : List Entry) → against k (run_in s) l ≡ 0 → alone k (run_in s) ≡ judge (logged_in s) l
  judged-alone l silent = go (alone k (run_in s)) ∙ ap (or_then (alone k (run_in s))) (sym silent) ∙ judged l
    where
      go : (n : ℕ) → n ≡ or_then n 0
      go zero = refl
      go (suc n) = refl

-- Which names a scope fits, an output with their indexes, and the places of a list behind the names that are below a scope.
use Rattle.std.specs.Prelude.{◌≡◌, Bool, true, cond, not, List, [], ◌∷◌, ◌++◌, ℕ, ◌*◌, ◌≤◌, length, drop}
use Rattle.std.proofs.Math.Option.{Option}
use Rattle.model.specs.Choice.{every}
use Rattle.model.specs.Number.{Bytes, bytes}
use Rattle.model.specs.Order.{compare_bytes, same_bytes, is_below}
use Rattle.model.specs.Names.{names_from, names_of, list_fault, listed}
use Rattle.model.specs.Lookup.{begins_with}
use Rattle.model.specs.FreezeList.{job_limit}
use Rattle.name_marks.specs.declared.Window.{Window}

-- a literal scope is the name, a prefix begins it
abbrev pub fits_name : Bool → Bytes → Bytes → Bool
fits_name literal scope name = cond literal (same_bytes scope name) (begins_with scope name)

-- the indexes of a list, two bytes each, with that of each name that passes a test set
unfoldable pub marked : (Bytes → Bool) → ℕ → List Bytes → Bytes → Bytes
marked test i [] out = out
marked test i (n ∷ ns) [] = []
marked test i (n ∷ ns) (a ∷ []) = a ∷ []
marked test i (n ∷ ns) (a ∷ b ∷ out) = cond (test n) (bytes 2 i) (a ∷ b ∷ []) ++ marked test i ns out

-- a list of jobs that is accepted, and its names
abbrev pub Accepted : Bytes → Type 0
Accepted list = list_fault (names_of true job_limit list) ≡ 0

abbrev pub jobs : Bytes → List Bytes
jobs list = listed (names_of true job_limit list)

-- a place of an accepted list behind its first n names: `most` names are allowed from it on, and `prior` is the name before it
pub record Place (list : Bytes) (at n : ℕ) : Type 0 where
  pub passed : List Bytes
  pub most : ℕ
  pub prior : Option Bytes
  pub within : at ≤ length list
  pub count : length passed ≡ n
  pub room : 2 * n ≤ at
  pub fault : list_fault (names_from true most prior 0 (drop at list)) ≡ 0
  pub all : jobs list ≡ passed ++ listed (names_from true most prior 0 (drop at list))

-- the names from a place on
abbrev pub left : {list : Bytes} {at n : ℕ} → Place list at n → List Bytes
left {list} {at} p = listed (names_from true p.most p.prior 0 (drop at list))

abbrev pub below : Bytes → Bytes → Bool
below scope name = is_below (compare_bytes name scope)

-- a place where all names before it are below a scope
pub record BehindAt (list : Bytes) (at n : ℕ) (scope : Bytes) : Type 0 where
  pub place : Place list at n
  pub before : every (below scope) place.passed ≡ true

abbrev pub Behind : Bytes → Window → Bytes → Type 0
Behind list w scope = BehindAt list w.at w.n scope

-- and none from it on
pub record Reached (list : Bytes) (at n : ℕ) (scope : Bytes) : Type 0 where
  pub behind : BehindAt list at n scope
  pub on : every (λ name. not (below scope name)) (left behind.place) ≡ true

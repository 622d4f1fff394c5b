-- Lists of names: 02, "each as a two-byte length and its bytes". Jobs come in ascending order, repeats allowed; a viewer's prefixes in any.
use Rattle.std.specs.Prelude.{ℕ, zero, suc, ◌+◌, ◌*◌, Bool, true, cond, ◌||◌, not, List, [], ◌∷◌, leb, ltb, length, take}
use Rattle.std.proofs.Math.Option.{Option, none, some}
use Rattle.model.specs.Choice.{or_then, unless}
use Rattle.model.specs.Number.{Bytes}
use Rattle.model.specs.Text.{is_text}
use Rattle.model.specs.Order.{compare_bytes, is_below}
use Rattle.model.specs.Shape.{string_limit}

-- names up to the end, or up to the first that is refused
pub data Names : Type 0 where
  end : Names
  bad : ℕ → Names
  name : Bytes → Names → Names

-- not below the one before
abbrev pub in_order : Option Bytes → Bytes → Bool
in_order none v = true
in_order (some p) v = not (is_below (compare_bytes v p))

-- "4 and 5 in list order, names out of order being 4"
unfoldable pub name_fault : Bool → Option Bytes → Bytes → ℕ
name_fault ordered prior v =
    or_then (unless (is_text v) 4) (or_then (unless (not ordered || in_order prior v) 4) (unless (leb (length v) string_limit) 5))

abbrev pub unless_bad : ℕ → Names → Names
unless_bad zero ns = ns
unless_bad (suc n) ns = bad (suc n)

-- up to `most` names, one more being 5 unread; `skip` of the bytes are still of the name before
unfoldable pub names_from : Bool → ℕ → Option Bytes → ℕ → Bytes → Names
names_from ordered most prior skip [] = end
names_from ordered most prior (suc skip) (x ∷ s) = names_from ordered most prior skip s
names_from ordered zero prior zero (h ∷ s) = bad 5
names_from ordered (suc most) prior zero (h ∷ []) = bad 2
names_from ordered (suc most) prior zero (h ∷ l ∷ s) =
    cond (ltb (length s) (h * 256 + l)) (bad 2)
    (let v = take (h * 256 + l) s in
    unless_bad (name_fault ordered prior v) (name v (names_from ordered most (some v) (suc (h * 256 + l)) (l ∷ s))))

abbrev pub names_of : Bool → ℕ → Bytes → Names
names_of ordered most s = names_from ordered most none 0 s

-- the first refusal, 0 where there is none
unfoldable pub list_fault : Names → ℕ
list_fault end = 0
list_fault (bad n) = n
list_fault (name v ns) = list_fault ns

unfoldable pub listed : Names → List Bytes
listed end = []
listed (bad n) = []
listed (name v ns) = v ∷ listed ns

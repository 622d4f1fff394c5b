-- What the name at a place is, and what a checked list comes to.
use Rattle.std.specs.Prelude.{◌≡◌, Bool, ◌&&◌, List, [], ◌∷◌, ℕ, ◌+◌, ◌≤◌, ◌<◌, length, drop}
use Rattle.std.proofs.Math.Seq.{slice}
use Rattle.model.specs.Number.{Bytes, number}
use Rattle.model.specs.Order.{compare_bytes, is_below}
use Rattle.model.specs.Names.{names_of, list_fault, listed}
use Rattle.names.specs.declared.Name.{Name}
use Rattle.names.specs.declared.Name.TheVariants.{At, Torn}
use Rattle.names.specs.declared.Checked.{Checked}
use Rattle.names.specs.declared.Checked.TheVariants.{Names, Refused}

-- the bytes of the name at a place
abbrev pub size_at : Bytes → ℕ → ℕ
size_at s at = number (slice at (at + 2) s)

abbrev pub NameAs : Bytes → ℕ → Name → Type 0
NameAs s at (At start end) = (start ≡ at + 2) × (end ≡ start + size_at s at) × (end ≤ length s)
NameAs s at Torn = length s < at + 2 + size_at s at

-- whether a name is below the one before it, in a list that is to be in order
abbrev pub out_of_order : Bool → Bytes → Bytes → Bool
out_of_order ordered prior v = ordered && is_below (compare_bytes v prior)

-- the last of some names, and of none the empty one
unfoldable pub last_or : Bytes → List Bytes → Bytes
last_or n [] = n
last_or n (m ∷ ns) = last_or m ns

abbrev pub CheckedAs : Bool → ℕ → Bytes → Checked → Type 0
CheckedAs ordered most s (Names n start) =
    let names = names_of ordered most s in
    (list_fault names ≡ 0) × (length (listed names) ≡ n) × (n ≤ most) × (start ≤ length s) × (last_or [] (listed names) ≡ drop start s)
CheckedAs ordered most s (Refused n) = (list_fault (names_of ordered most s) ≡ n) × (0 < n)

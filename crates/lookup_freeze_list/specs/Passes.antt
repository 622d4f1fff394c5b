-- A pass over the stored freezes of a pattern: what it makes of an output, and what reading one of them comes to.
use Rattle.std.specs.Prelude.{◌≡◌, Bool, true, false, cond, List, [], ◌∷◌, ℕ, suc}
use Rattle.model.specs.Number.{Bytes}
use Rattle.model.specs.Order.{compare_bytes, same_bytes, is_below}
use Rattle.model.specs.Run.{value}
use Rattle.model.specs.Key.{key_name, key_scope}
use Rattle.model.specs.Contents.{Entry, key}
use Rattle.model.specs.Lookup.{literal, prefixed}
use Rattle.model.specs.FreezeList.{is_freeze}
use Rattle.keys.specs.Keys.{run_in}
use Rattle.name_marks.specs.Marks.{fits_name, marked, jobs, Behind}
use Rattle.lookup_freeze_list.specs.declared.Scope.{Scope}
use Rattle.lookup_freeze_list.specs.declared.Scope.TheVariants.{Above, From}

-- the pattern of literal scopes, or of prefixes
abbrev pub pattern_of : Bool → Bytes
pattern_of isLiteral = cond isLiteral literal prefixed

-- a freeze's pattern and scope, by its bytes
abbrev pub pattern_in : Bytes → Bytes
pattern_in e = value 2 (run_in e)

abbrev pub scope_in : Bytes → Bytes
scope_in e = value 1 (run_in e)

-- an output after a pass over some entries, `i` freezes standing before these: each freeze of the pattern sets its index for the names that it fits
unfoldable pub passed : Bool → List Bytes → ℕ → List Entry → Bytes → Bytes
passed isLiteral names i [] out = out
passed isLiteral names i (e ∷ l) out =
    cond (is_freeze (key e))
    (passed isLiteral names (suc i) l
    (cond (same_bytes (key_name (key e)) (pattern_of isLiteral)) (marked (fits_name isLiteral (key_scope (key e))) i names out) out))
    (passed isLiteral names i l out)

-- a scope that is read, and an output `v` for `out`: above the last name nothing is written, else its index for the names that it fits
abbrev pub ScopeAs : Bytes → Bytes → Bytes → Bool → ℕ → Bytes → Bytes → Scope → Type 0
ScopeAs list last scope isLiteral index out v Above = (is_below (compare_bytes last scope) ≡ true) × (v ≡ out)
ScopeAs list last scope isLiteral index out v (From w) =
    (is_below (compare_bytes last scope) ≡ false) × (v ≡ marked (fits_name isLiteral scope) index (jobs list) out) × Behind list w scope

-- The freeze of a name: an internal name has none, a literal scope beats every prefix, and a prefix is found only where no longer one is.
use Rattle.std.specs.Prelude.{◌≡◌, refl, true, false, [], ◌∷◌, ◌++◌, ℕ}
use Rattle.std.proofs.Common.{sym, ap, ◌∙◌, append_assoc, eq-eqb}
use Rattle.std.proofs.Math.Option.{Option, none, some}
use Rattle.model.specs.Number.{Bytes}
use Rattle.model.specs.Record.{Rec}
use Rattle.model.specs.Lookup.{begins_with, internal, literal, prefixed, longest_by, freeze_by}

module _ (find : Bytes → Bytes → Option Rec) (name : Bytes) where
  pub internal_never : begins_with internal name ≡ true → freeze_by find name ≡ none
  unfolding freeze_by
  internal_never h = rw h

  module _ (outside : begins_with internal name ≡ false) where
    pub literal-first : (r : Rec) → find literal name ≡ some r → freeze_by find name ≡ some r
    unfolding freeze_by
    literal-first r e = rw (outside, e)

    pub prefix_next : find literal name ≡ none → freeze_by find name ≡ longest_by (find prefixed) [] name
    unfolding freeze_by
    prefix_next e = rw (outside, e)

-- the longest prefix, after some bytes of the name
module _ (find : Bytes → Option Rec) where
  -- a longer prefix comes before the shorter ones
  pub longer_first : (before name : Bytes) (b : ℕ) (r : Rec) → longest_by find (before ++ (b ∷ [])) name ≡ some r → longest_by find before (b ∷ name) ≡ some r
  unfolding longest_by
  longer_first before name b r e = rw e

  -- a prefix is reached where no longer one is stored
  pub shorter-next : (before name : Bytes) (b : ℕ) → longest_by find (before ++ (b ∷ [])) name ≡ none → longest_by find before (b ∷ name) ≡ find before
  unfolding longest_by
  shorter-next before name b e = rw e

-- it depends on the finder's answers alone
pub longest-same : (find other : Bytes → Option Rec) → ((s : Bytes) → find s ≡ other s) → (before name : Bytes) → longest_by find before name ≡ longest_by other before name
unfolding longest_by
longest-same find other h before [] = h before
longest-same find other h before (b ∷ name) = rw (longest-same find other h (before ++ (b ∷ [])) name, h before)

pub freeze-same : (find other : Bytes → Bytes → Option Rec) → ((pattern scope : Bytes) → find pattern scope ≡ other pattern scope)
    → (name : Bytes) → freeze_by find name ≡ freeze_by other name
unfolding freeze_by
freeze-same find other h name = rw (h literal name, longest-same (find prefixed) (other prefixed) (h prefixed) [] name)

pub begins_append : (s t : Bytes) → begins_with s (s ++ t) ≡ true
unfolding begins_with
begins_append [] t = refl
begins_append (a ∷ s) t = rw (eq-eqb a a refl) (begins_append s t)

-- the longest prefix depends on what is found of the name's beginnings alone
pub longest_on : (find other : Bytes → Option Rec) (name : Bytes) → ((s : Bytes) → begins_with s name ≡ true → find s ≡ other s)
    → (before rest : Bytes) → before ++ rest ≡ name → longest_by find before rest ≡ longest_by other before rest
unfolding longest_by
longest_on find other name h before [] e = h before (ap (begins_with before) (sym e) ∙ begins_append before [])
longest_on find other name h before (b ∷ rest) e =
    rw (
      longest_on find other name h (before ++ (b ∷ [])) rest (append_assoc before (b ∷ []) rest ∙ e),
      h before (ap (begins_with before) (sym e) ∙ begins_append before (b ∷ rest)),
    )

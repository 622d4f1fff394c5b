-- What a reader owns, for the proofs by hand: it is had twice, since a reader is Copy, taken apart into what the slice owns, and made of what a
-- slice owns and a number.
use mathlib.Core.Path.{◌≡◌, refl}
use Prim.Native.Nat.{ℕ, ◌<◌, ◌^◌}
use mathlib.Core.List.{List, [], ◌∷◌}
use lib.ListN.{length}
use seplogic.Ra.Ura.{Ura}
use mir.Syntax.{named, w64}
use mir.Val.{Val}
use base.Logic.{ent, sep}
use base.Fml.{Lft, Fml}
use types.Logic.{Logic, sem}
use contract.Lifetimes.{Lfts}
use types.Kit.{‵, ◌⊛◌, given, ◌$◌, ◌∵◌, !, qed, by, move, drop, use1, split, learn, fjoin, done}
use denote.RattleType.{RattleType}
use denote.Laws.{Is}
use denote.Plain.{uint_Makes}
use denote.Builtin.{u8, usize}
use denote.Ref.{Bor}
use denote.Signature.{named_lft}
use denote.Slice.{slice_val, ShrSlice}
use denote.Steps.{owned, nothing}
use denote.Struct.Declared.{Declared}
use denote.Struct.Laws as LL
use denote.Struct.Rest.{all_own, field_own, rest, own_open, own_out, own_shut}
use denote.Struct.Values.{Values}
use Rattle.reader.specs.declared.Reader.{Reader}
use Rattle.reader.specs.contracts.Reader as T
use Rattle.reader.proofs.Reader.TheLaws as T'

-- a reader's type over a signature's lifetimes, and its laws
module _ (κs : Lfts 1) where
  abbrev pub declared : Declared
  declared = T.the_type (named_lft 1 0 tt κs)

  abbrev pub laws : LL.Laws declared
  laws = T'.the_laws (named_lft 1 0 tt κs)

  abbrev pub row : RattleType
  row = T.the_row (named_lft 1 0 tt κs)

-- the machine value of a slice
abbrev pub value : Bor (List ℕ) → Val
value s = slice_val s.ref_ptr (length s.now)

module _ (κ : Lft) where
  abbrev pub Own : Reader → Fml
  Own d = (row (κ, tt)).own_val d (T'.lowered d ∷ [])

  abbrev pub OwnSlice : Bor (List ℕ) → Fml
  OwnSlice s = (ShrSlice (named 0) κ u8).own_val s (value s ∷ [])

module _ {M : Type 1} {𝓤 : Ura M} (𝓛 : Logic 𝓤) (κ : Lft) where
  abbrev D : Declared
  D = declared (κ, tt)

  abbrev L : LL.Laws D
  L = laws (κ, tt)

  pub twice : (d : Reader) → ent 𝓤 (sem 𝓛 (Own κ d)) (sep 𝓤 (sem 𝓛 (Own κ d)) (sem 𝓛 (Own κ d)))
  twice d = (LL.copy D (T'.the_copy (named_lft 1 0 tt (κ, tt))) 𝓛).twice d (T'.lowered d ∷ [])

  pub taken : (d : Reader) → ent 𝓤 (sem 𝓛 (Own κ d)) (sem 𝓛 (OwnSlice κ d.src))
  taken d =
      let fields : Values D.parts = (d.src, (d.at, tt)) in
      qed 𝓛 (‵ (Own κ d) ∷ []) ∵
      use1 𝓛 (given (T'.lowered d ∷ [] ≡ T'.lowered d ∷ []) (‵ (all_own D.parts L fields))) (own_open 𝓛 D L fields (T'.lowered d)) $ learn ! (λ _.
      use1 𝓛 (‵ (field_own D.parts L 0 d.src) ⊛ ‵ (rest D.parts L 0 fields)) (own_out 𝓛 D.parts L 0 fields) $ split ! $
      move ! (1 ∷ []) $ drop ! $ done !)

  pub made : (s : Bor (List ℕ)) (n : ℕ) → n < 2 ^ 64 → ent 𝓤 (sem 𝓛 (OwnSlice κ s)) (sem 𝓛 (Own κ (record { src = s; at = n })))
  made s n fits =
      qed 𝓛 (‵ (OwnSlice κ s) ∷ []) ∵
      nothing ! $ owned ! usize (Is usize) (uint_Makes 𝓛 w64) n _ (refl, fits) $ fjoin ! $ move ! (1 ∷ 0 ∷ []) $ fjoin ! $
      by ! (own_shut 𝓛 D L (s, (n, tt)))

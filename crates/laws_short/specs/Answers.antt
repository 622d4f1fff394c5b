-- What the operation says by the number: 26 exactly from the count on, else the history's bytes or 19.
use Rattle.std.specs.Prelude.{◌≡◌, List, [], ◌∷◌, ℕ, ◌≤◌, ◌<◌, length}
use Rattle.std.proofs.Math.Path.{refl}
use Rattle.std.proofs.Common.{◌∙◌, arith}
use Rattle.std.proofs.Math.Option.{Option, none, some}
use Rattle.model.specs.Number.{Bytes}
use Rattle.model.specs.Shape.{framed}
use Rattle.model.specs.Record.{Rec}
use Rattle.model.specs.Items.{items_of, records}
use Rattle.model.specs.Reply.{unchanged, emit_bytes}
use Rattle.model.specs.ShortHistory.{history_at, history_count, history_bytes, numbered, history_of, PastTheLast}
use Rattle.laws_short.specs.Numbers.{none_from_the_count}

-- of some records
pub numbered-none : (rs : List Rec) (number : ℕ) (out : Bytes) → 0 < length rs → history_at (length rs) number ≡ none → numbered rs number out ≡ unchanged 26 out
numbered-none [] number out h e = absurd (omega arith)
numbered-none (r ∷ rs) number out h e = rw e refl

pub numbered-some : (rs : List Rec) (number : ℕ) (out : Bytes) → 0 < length rs → (ps : List ℕ) → history_at (length rs) number ≡ some ps
    → numbered rs number out ≡ emit_bytes (history_bytes rs ps) out
numbered-some [] number out h ps e = absurd (omega arith)
numbered-some (r ∷ rs) number out h ps e = rw e refl

pub past_the_last : PastTheLast
past_the_last input number out right least = (past, before)
  where
    rs : List Rec
    rs = records (items_of framed input)

    passed : history_of input number out ≡ numbered (records (items_of framed input)) number out
    passed = unfold history_of in rw right refl

    past : history_count (length (records (items_of framed input))) ≤ number → history_of input number out ≡ unchanged 26 out
    past h = passed ∙ numbered-none (records (items_of framed input)) number out least ((none_from_the_count (length (records (items_of framed input))) least number).0 h)

    before : number < history_count (length (records (items_of framed input)))
        → (ps : List ℕ)
        × (history_at (length (records (items_of framed input))) number ≡ some ps)
        × (history_of input number out ≡ emit_bytes (history_bytes (records (items_of framed input)) ps) out)
    before h = go (history_at (length (records (items_of framed input))) number) refl
      where
        go : (o : Option (List ℕ)) → history_at (length (records (items_of framed input))) number ≡ o
            → (ps : List ℕ)
            × (history_at (length (records (items_of framed input))) number ≡ some ps)
            × (history_of input number out ≡ emit_bytes (history_bytes (records (items_of framed input)) ps) out)
        go none e = absurd (omega (arith, (none_from_the_count (length (records (items_of framed input))) least number).1 e))
        go (some ps) e = (ps, e, passed ∙ numbered-some (records (items_of framed input)) number out least ps e)

-- A reply tells what was read.
use mathlib.Core.Path.{◌≡◌, refl, sym, ap, ◌∙◌}
use mathlib.Core.Bool.{true}
use mathlib.Core.List.{List, [], ◌∷◌}
use Prim.Native.Nat.{ℕ}
use native.Mathlib.Omega.{arith}
use Rattle.model.specs.Number.{Bytes}
use Rattle.model.specs.Shape.{framed}
use Rattle.model.specs.Record.{Rec, Got, bad, got, read, begins_apart}
use Rattle.model.specs.Reply.{Reply, accepted, refused}
use Rattle.laws.specs.Choice.{impossible}
use Rattle.laws_records.specs.Records.{refusal_positive}
use Rattle.laws_records.specs.Apart.{begins_apart_lem}
use Rattle.records.specs.Answers.{got_reply}

pub used_got : (g : Got) (n : ℕ) → accepted (n ∷ []) ≡ got_reply g → (r : Rec) × (g ≡ got r n)
used_got (bad m) n e = let q : ◌≡◌ {A = List ℕ} (n ∷ []) [] = ap (λ a. a.values) e in impossible cc
used_got (got r m) n e = let q : ◌≡◌ {A = List ℕ} (n ∷ []) (m ∷ []) = ap (λ a. a.values) e in (r, cc)

pub refused_bad : (g : Got) (n : ℕ) → refused n ≡ got_reply g → g ≡ bad n
refused_bad (bad m) n e = ap (λ a. bad a.number) (sym e)
refused_bad (got r m) n e = let q : ◌≡◌ {A = List ℕ} [] (m ∷ []) = ap (λ a. a.values) e in impossible cc

-- what is accepted was read; 0 is no refusal's number
pub accepted_apart : (s : Bytes) {q : Reply} → q ≡ got_reply (read framed s) → q.number ≡ 0 → begins_apart s ≡ true
accepted_apart s e z = go (read framed s) refl (ap (λ a. a.number) (sym e) ∙ z)
  where
    go : (g : Got) → read framed s ≡ g → (got_reply g).number ≡ 0 → begins_apart s ≡ true
    go (bad n) h k = absurd (omega (arith, refusal_positive framed s n h))
    go (got r n) h k = begins_apart_lem framed s r n h

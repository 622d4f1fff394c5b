-- A walk over the prefixes of a list that passed its checks: whether a name is visible is settled by those that are left.
use mathlib.Core.Path.{◌≡◌, refl, sym, ap, ap₂, ◌∙◌}
use mathlib.Core.Bool.{Bool, true, false, cond, ◌||◌}
use mathlib.Core.List.{[], ◌∷◌}
use mathlib.Core.Option.{Option, none, some}
use Prim.Native.Nat.{ℕ, zero, suc, ◌+◌, ◌*◌, ◌-◌, ◌≤◌, ◌<◌}
use native.Mathlib.Omega.{arith}
use lib.Dec.{ltb}
use lib.ListN.{length, take, drop, length-drop, drop_of_length-le}
use lib.Seq.{drop-drop}
use borrow.Author.Tests.{ltb-false}
use Rattle.model.specs.Number.{Bytes, number}
use Rattle.model.specs.Names.{Names, bad, name, name_fault, unless_bad, names_from, list_fault, listed}
use Rattle.model.specs.Lookup.{begins_with}
use Rattle.model.specs.View.{prefix_limit, prefixes_in, prefix_fault, visible}
use Rattle.fields.proofs.Parse.{take-drop}
use Rattle.names.specs.Lists.{size_at}
use Rattle.names.proofs.Walks.{part, pair, first_name}

-- 1. The first prefix

-- a list that passes and is not empty begins with a whole name that passes
pub record Whole (prior : Option Bytes) (most : ℕ) (t : Bytes) : Type 0 where
  pub less : ℕ
  pub more : most ≡ suc less
  pub fits : 2 + number (take 2 t) ≤ length t
  pub passes : name_fault false prior (take (number (take 2 t)) (drop 2 t)) ≡ 0

whole : (prior : Option Bytes) (most : ℕ) (t : Bytes) → 0 < length t → list_fault (names_from false most prior 0 t) ≡ 0 → Whole prior most t
unfolding names_from list_fault
whole prior most [] k h = absurd (omega arith)
whole prior zero (a ∷ t) k h = absurd (omega arith)
whole prior (suc most) (a ∷ []) k h = absurd (omega arith)
whole prior (suc most) (a ∷ b ∷ t) k h =
    let rest = name (take size t) (names_from false most (some (take size t)) (suc size) (b ∷ t)) in
    let it = go (ltb (length t) size) refl (name_fault false prior (take size t)) refl rest h in
    let same : number (a ∷ b ∷ []) ≡ size = pair a b in
    record { less = most; more = refl; fits = omega (arith, same, it.0); passes = rw same it.1 }
  where
    size : ℕ
    size = a * 256 + b

    go : (x : Bool) → ltb (length t) (a * 256 + b) ≡ x → (f : ℕ) → name_fault false prior (take (a * 256 + b) t) ≡ f
        → (ns : Names) → list_fault (cond x (bad 2) (unless_bad f ns)) ≡ 0 → (a * 256 + b ≤ length t) × (name_fault false prior (take (a * 256 + b) t) ≡ 0)
    go true e f g ns q = absurd (omega arith)
    go false e zero g ns q = (ltb-false (length t) (a * 256 + b) e, g)
    go false e (suc f) g ns q = absurd (omega arith)

-- 2. The prefixes that are left

pub record Left (list seen : Bytes) (at : ℕ) : Type 0 where
  pub most : ℕ
  pub prior : Option Bytes
  pub passes : list_fault (names_from false most prior 0 (drop at list)) ≡ 0
  pub same : visible (prefixes_in list) seen ≡ visible (listed (names_from false most prior 0 (drop at list))) seen

pub left-all : (list seen : Bytes) → prefix_fault list ≡ 0 → Left list seen 0
left-all list seen h = record { most = prefix_limit; prior = none; passes = h; same = refl }

module _ {list seen : Bytes} {at : ℕ} (l : Left list seen at) where
  pub left-none : length list ≤ at → false ≡ visible (prefixes_in list) seen
  unfolding names_from listed visible
  left-none k = sym (l.same ∙ ap (λ t. visible (listed (names_from false l.most l.prior 0 t)) seen) (drop_of_length-le list k))

  module _ (h : at < length list) where
    w : Whole l.prior l.most (drop at list)
    w = whole l.prior l.most (drop at list) (omega (arith, length-drop at list)) l.passes

    size_at_lem : size_at list at ≡ number (take 2 (drop at list))
    size_at_lem = ap number (sym (take-drop at 2 list))

    pub left_torn : {A : Type 0} → length list < at + 2 + size_at list at → A
    left_torn t = absurd (omega (arith, length-drop at list, w.fits, size_at_lem))

    module _ {from to : ℕ} (named : (from ≡ at + 2) × (to ≡ from + size_at list at) × (to ≤ length list)) where
      its_name : take (number (take 2 (drop at list))) (drop 2 (drop at list)) ≡ part from to list
      its_name =
          let p : to - from ≡ number (take 2 (drop at list)) = omega (arith, named.1, size_at_lem) in
          let q : from ≡ at + 2 = named.0 in
          rw (p, q, drop-drop 2 at list) refl

      rest : drop (suc (suc (number (take 2 (drop at list))))) (drop at list) ≡ drop to list
      rest =
          let n = number (take 2 (drop at list)) in
          let q : at + suc (suc n) ≡ to = omega (arith, named.0, named.1, size_at_lem) in
          drop-drop (suc (suc n)) at list ∙ ap (λ i. drop i list) q

      one : names_from false l.most l.prior 0 (drop at list) ≡ name (part from to list) (names_from false w.less (some (part from to list)) 0 (drop to list))
      one =
          ap (λ m. names_from false m l.prior 0 (drop at list)) w.more
          ∙ first_name false l.prior w.less (number (take 2 (drop at list))) (drop at list) refl w.fits w.passes
          ∙ ap₂ (λ v t. name v (names_from false w.less (some v) 0 t)) its_name rest

      split : visible (prefixes_in list) seen
          ≡ begins_with (part from to list) seen || visible (listed (names_from false w.less (some (part from to list)) 0 (drop to list))) seen
      unfolding listed visible
      split = l.same ∙ ap (λ ns. visible (listed ns) seen) one

      module _ {b : Bool} (eb : b ≡ begins_with (part from to list) seen) where
        pub left_shown : b ≡ true → true ≡ visible (prefixes_in list) seen
        left_shown t = sym (split ∙ rw (sym eb ∙ t) refl)

        pub left_on : b ≡ false → Left list seen to
        unfolding list_fault
        left_on t = record {
          most = w.less;
          prior = some (part from to list);
          passes = sym (ap list_fault one) ∙ l.passes;
          same = split ∙ rw (sym eb ∙ t) refl;
        }

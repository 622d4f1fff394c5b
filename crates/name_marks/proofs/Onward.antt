-- From one place of an accepted list to the next: where bytes are left, a whole name stands.
use mathlib.Core.Path.{◌≡◌, refl, sym, ap, ap₂, ◌∙◌, subst}
use mathlib.Core.Bool.{Bool, true, false, cond}
use mathlib.Core.List.{List, [], ◌∷◌, ◌++◌, append_assoc}
use mathlib.Core.Option.{Option, some}
use Prim.Native.Nat.{ℕ, zero, suc, ◌+◌, ◌*◌, ◌-◌, ◌≤◌, ◌<◌}
use native.Mathlib.Omega.{arith}
use lib.Dec.{ltb}
use lib.ListN.{length, take, drop, length-drop, length-append, drop_of_length-le}
use lib.Seq.{drop-drop}
use borrow.Author.Tests.{ltb-false}
use Rattle.model.specs.Number.{Bytes, number}
use Rattle.model.specs.Names.{bad, name, name_fault, unless_bad, names_from, list_fault, listed}
use Rattle.laws.specs.Choice.{impossible}
use Rattle.laws_freezes.specs.Unread.{rising, listed-rising}
use Rattle.fields.proofs.Parse.{take-drop}
use Rattle.names.specs.Lists.{size_at}
use Rattle.names.proofs.Walks.{part}
use Rattle.name_marks.specs.Marks.{Place, left}

-- 1. The first of some names that are accepted

skipped : (most : ℕ) (prior : Option Bytes) (n : ℕ) (s : Bytes) → names_from true most prior n s ≡ names_from true most prior 0 (drop n s)
unfolding names_from
skipped most prior zero s = refl
skipped most prior (suc n) [] = refl
skipped most prior (suc n) (x ∷ s) = skipped most prior n s

record First (most : ℕ) (prior : Option Bytes) (size : ℕ) (t : Bytes) : Type 0 where
  fits : 2 + size ≤ length t
  rest : ℕ
  is : names_from true most prior 0 t ≡ name (take size (drop 2 t)) (names_from true rest (some (take size (drop 2 t))) 0 (drop (suc (suc size)) t))

first : (most : ℕ) (prior : Option Bytes) (size : ℕ) (t : Bytes) → size ≡ number (take 2 t) → 0 < length t
    → list_fault (names_from true most prior 0 t) ≡ 0 → First most prior size t
unfolding names_from list_fault
first most prior size [] e k f = absurd (omega arith)
first zero prior size (h ∷ t) e k f = impossible cc
first (suc most) prior size (h ∷ []) e k f = impossible cc
first (suc most) prior size (h ∷ l ∷ t) e k f =
    let q : h * 256 + l ≡ size = sym (e ∙ pair) in
    subst (λ z. First (suc most) prior z (h ∷ l ∷ t)) q (go (ltb (length t) (h * 256 + l)) refl (name_fault true prior v) refl f)
  where
    pair : number (h ∷ l ∷ []) ≡ h * 256 + l
    pair = omega arith

    v : Bytes
    v = take (h * 256 + l) t

    go : (b : Bool) → ltb (length t) (h * 256 + l) ≡ b → (n : ℕ) → name_fault true prior v ≡ n
        → list_fault (cond b (bad 2) (unless_bad n (name v (names_from true most (some v) (suc (h * 256 + l)) (l ∷ t))))) ≡ 0
        → First (suc most) prior (h * 256 + l) (h ∷ l ∷ t)
    go true p n q f = impossible cc
    go false p (suc n) q f = impossible cc
    go false p zero q f = record {
      fits = omega (arith, ltb-false (length t) (h * 256 + l) p);
      rest = most;
      is = rw (p, q) (ap (name v) (skipped most (some v) (h * 256 + l) t));
    }

-- 2. At a place

module _ {list : Bytes} {at n : ℕ} (p : Place list at n) where
  pub left-none : length list ≤ at → left p ≡ []
  unfolding names_from listed
  left-none h = ap (λ t. listed (names_from true p.most p.prior 0 t)) (drop_of_length-le list h)

  module _ (h : at < length list) where
    its : First p.most p.prior (size_at list at) (drop at list)
    its =
        first p.most p.prior (size_at list at) (drop at list) (ap number (sym (take-drop at 2 list))) (omega (arith, length-drop at list)) p.fault

    pub not_torn : length list < at + 2 + size_at list at → ⊥
    not_torn t = absurd (omega (arith, its.fits, length-drop at list))

    module _ {from to : ℕ} (named : (from ≡ at + 2) × (to ≡ from + size_at list at) × (to ≤ length list)) where
      here : take (size_at list at) (drop 2 (drop at list)) ≡ part from to list
      here =
          let e : to - from ≡ size_at list at = omega (arith, named.1) in
          rw (e, named.0, drop-drop 2 at list) refl

      next : drop (suc (suc (size_at list at))) (drop at list) ≡ drop to list
      next =
          let e : at + suc (suc (size_at list at)) ≡ to = omega (arith, named.0, named.1) in
          drop-drop (suc (suc (size_at list at))) at list ∙ ap (λ i. drop i list) e

      turn : names_from true p.most p.prior 0 (drop at list)
          ≡ name (part from to list) (names_from true its.rest (some (part from to list)) 0 (drop to list))
      turn = its.is ∙ ap₂ (λ v t. name v (names_from true its.rest (some v) 0 t)) here next

      -- what is left at the next place
      abbrev after : List Bytes
      after = listed (names_from true its.rest (some (part from to list)) 0 (drop to list))

      left-first : left p ≡ part from to list ∷ after
      unfolding listed
      left-first = ap listed turn

      next-fault : list_fault (names_from true its.rest (some (part from to list)) 0 (drop to list)) ≡ 0
      unfolding list_fault
      next-fault = sym (ap list_fault turn) ∙ p.fault

      pub onward : Place list to (n + 1)
      onward = record {
        passed = p.passed ++ (part from to list ∷ []);
        most = its.rest;
        prior = some (part from to list);
        within = named.2;
        count = length-append p.passed (part from to list ∷ []) ∙ omega (arith, p.count);
        room = omega (arith, p.room, named.0, named.1);
        fault = next-fault;
        all = p.all ∙ ap (λ l. p.passed ++ l) left-first ∙ sym (append_assoc p.passed (part from to list ∷ []) after);
      }

      -- one name more has been passed, and one less is left, in order
      pub passed_on : onward.passed ≡ p.passed ++ (part from to list ∷ [])
      unfolding onward
      passed_on = refl

      pub left_on : left p ≡ part from to list ∷ left onward
      unfolding onward
      left_on = left-first

      pub rising-left : rising (some (part from to list)) (left onward) ≡ true
      unfolding onward
      rising-left = listed-rising its.rest (some (part from to list)) 0 (drop to list) next-fault

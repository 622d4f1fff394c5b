-- A walk over a list of names: the names passed, and then what the bytes left come to, are what the whole list comes to.
use mathlib.Core.Path.{◌≡◌, refl, sym, ap, ap₂, ◌∙◌}
use mathlib.Core.Bool.{Bool, true, false, cond, ◌&&◌, ◌||◌, not}
use mathlib.Core.List.{List, [], ◌∷◌, ◌++◌, append-nil}
use mathlib.Core.Option.{Option, none, some}
use Prim.Native.Nat.{ℕ, zero, suc, ◌+◌, ◌*◌, ◌-◌, ◌≤◌, ◌<◌}
use native.Mathlib.Omega.{arith}
use lib.Dec.{leb, ltb}
use lib.ListN.{length, take, drop, length-drop, length-append, drop_of_length-le}
use lib.Seq.{slice, drop-drop, take_all}
use borrow.Author.Tests.{lt-ltb, le-ltb, lt-leb, le-leb}
use Rattle.model.specs.Choice.{or_then, unless}
use Rattle.model.specs.Number.{Bytes, number}
use Rattle.model.specs.Text.{is_text}
use Rattle.model.specs.Order.{compare_bytes, is_below}
use Rattle.model.specs.Shape.{string_limit}
use Rattle.model.specs.Names.{Names, end, bad, name, in_order, name_fault, unless_bad, names_from, names_of, list_fault, listed}
use Rattle.laws.specs.Choice.{impossible}
use Rattle.fields.proofs.Parse.{take-drop}
use Rattle.names.specs.Lists.{out_of_order, size_at, last_or}

-- 1. The first name

pub skipped : (ordered : Bool) (most : ℕ) (prior : Option Bytes) (n : ℕ) (s : Bytes)
    → names_from ordered most prior n s ≡ names_from ordered most prior 0 (drop n s)
unfolding names_from
skipped ordered most prior zero s = refl
skipped ordered most prior (suc n) [] = refl
skipped ordered most prior (suc n) (x ∷ s) = skipped ordered most prior n s

pub pair : (h l : ℕ) → number (h ∷ l ∷ []) ≡ h * 256 + l
pair h l = omega arith

module _ (ordered : Bool) (prior : Option Bytes) where
  pub first_name : (most size : ℕ) (t : Bytes) → size ≡ number (take 2 t) → 2 + size ≤ length t → name_fault ordered prior (take size (drop 2 t)) ≡ 0
      → names_from ordered (suc most) prior 0 t ≡ name (take size (drop 2 t)) (names_from ordered most (some (take size (drop 2 t))) 0 (drop (suc (suc size)) t))
  unfolding names_from
  first_name most size [] e h f = absurd (omega arith)
  first_name most size (a ∷ []) e h f = absurd (omega arith)
  first_name most size (a ∷ b ∷ t) e h f =
      let q : a * 256 + b ≡ size = sym (e ∙ pair a b) in
      rw (q, le-ltb (length t) size (omega arith), f) (ap (name (take size t)) (skipped ordered most (some (take size t)) size t))

  first-fault : (most size n : ℕ) (t : Bytes) → size ≡ number (take 2 t) → 2 + size ≤ length t → name_fault ordered prior (take size (drop 2 t)) ≡ suc n
      → names_from ordered (suc most) prior 0 t ≡ bad (suc n)
  unfolding names_from
  first-fault most size n [] e h f = absurd (omega arith)
  first-fault most size n (a ∷ []) e h f = absurd (omega arith)
  first-fault most size n (a ∷ b ∷ t) e h f =
      let q : a * 256 + b ≡ size = sym (e ∙ pair a b) in
      rw (q, le-ltb (length t) size (omega arith), f) refl

  first_torn : (most size : ℕ) (t : Bytes) → 0 < length t → size ≡ number (take 2 t) → length t < 2 + size → names_from ordered (suc most) prior 0 t ≡ bad 2
  unfolding names_from
  first_torn most size [] k e h = absurd (omega arith)
  first_torn most size (a ∷ []) k e h = refl
  first_torn most size (a ∷ b ∷ t) k e h =
      let q : a * 256 + b ≡ size = sym (e ∙ pair a b) in
      rw (q, lt-ltb (length t) size (omega arith)) refl

  first_unread : (t : Bytes) → 0 < length t → names_from ordered 0 prior 0 t ≡ bad 5
  unfolding names_from
  first_unread [] k = absurd (omega arith)
  first_unread (a ∷ t) k = refl

-- nothing is below the empty name
fault-first : (ordered : Bool) (v : Bytes) → name_fault ordered none v ≡ name_fault ordered (some []) v
unfolding name_fault compare_bytes
fault-first ordered [] = refl
fault-first ordered (x ∷ v) = refl

no_prior : (ordered : Bool) (most : ℕ) (s : Bytes) → names_from ordered most none 0 s ≡ names_from ordered most (some []) 0 s
unfolding names_from
no_prior ordered most [] = refl
no_prior ordered zero (h ∷ s) = refl
no_prior ordered (suc most) (h ∷ []) = refl
no_prior ordered (suc most) (h ∷ l ∷ s) = rw (fault-first ordered (take (h * 256 + l) s)) refl

-- 2. The names passed

unfoldable pub prepended : List Bytes → Names → Names
prepended [] ns = ns
prepended (p ∷ ps) ns = name p (prepended ps ns)

prepended-one : (ps : List Bytes) (p : Bytes) (ns : Names) → prepended (ps ++ (p ∷ [])) ns ≡ prepended ps (name p ns)
unfolding prepended
prepended-one [] p ns = refl
prepended-one (q ∷ ps) p ns = ap (name q) (prepended-one ps p ns)

prepended-fault : (ps : List Bytes) (ns : Names) → list_fault (prepended ps ns) ≡ list_fault ns
unfolding prepended list_fault
prepended-fault [] ns = refl
prepended-fault (p ∷ ps) ns = prepended-fault ps ns

prepended-listed : (ps : List Bytes) (ns : Names) → listed (prepended ps ns) ≡ ps ++ listed ns
unfolding prepended listed
prepended-listed [] ns = refl
prepended-listed (p ∷ ps) ns = ap (λ l. p ∷ l) (prepended-listed ps ns)

last_one : (n : Bytes) (ps : List Bytes) (p : Bytes) → last_or n (ps ++ (p ∷ [])) ≡ p
unfolding last_or
last_one n [] p = refl
last_one n (q ∷ ps) p = last_one q ps p

-- a part as it is lent
abbrev pub part : ℕ → ℕ → Bytes → Bytes
part from to s = take (to - from) (drop from s)

pub record Walked (ordered : Bool) (most : ℕ) (s : Bytes) (n start at : ℕ) : Type 0 where
  pub passed : List Bytes
  pub count : length passed ≡ n
  pub few : n ≤ most
  pub forward : start ≤ at
  pub within : at ≤ length s
  pub last : last_or [] passed ≡ part start at s
  pub same : names_of ordered most s ≡ prepended passed (names_from ordered (most - n) (some (part start at s)) 0 (drop at s))

module _ (ordered : Bool) (most : ℕ) (s : Bytes) where
  pub walked_start : Walked ordered most s 0 0 0
  unfolding prepended last_or
  walked_start = record {
    passed = [];
    count = refl;
    few = omega arith;
    forward = omega arith;
    within = omega arith;
    last = refl;
    same = let z : most - 0 ≡ most = omega arith in rw z (no_prior ordered most s);
  }

  module _ {n start at : ℕ} (w : Walked ordered most s n start at) where
    fault-left : list_fault (names_of ordered most s) ≡ list_fault (names_from ordered (most - n) (some (part start at s)) 0 (drop at s))
    fault-left = ap list_fault w.same ∙ prepended-fault w.passed (names_from ordered (most - n) (some (part start at s)) 0 (drop at s))

    left_as : (ns : Names) → names_from ordered (most - n) (some (part start at s)) 0 (drop at s) ≡ ns → list_fault (names_of ordered most s) ≡ list_fault ns
    left_as ns e = fault-left ∙ ap list_fault e

    pub walked_all : length s ≤ at
        → (list_fault (names_of ordered most s) ≡ 0) × (length (listed (names_of ordered most s)) ≡ n) × (n ≤ most) × (start ≤ length s)
        × (last_or [] (listed (names_of ordered most s)) ≡ drop start s)
    unfolding names_from list_fault listed
    walked_all k = (fault, size, w.few, omega (arith, w.forward, w.within), end_name)
      where
        gone : drop at s ≡ []
        gone = drop_of_length-le s k

        fault : list_fault (names_of ordered most s) ≡ 0
        fault = fault-left ∙ ap (λ t. list_fault (names_from ordered (most - n) (some (part start at s)) 0 t)) gone

        all : listed (names_of ordered most s) ≡ w.passed ++ []
        all =
            ap listed w.same ∙ prepended-listed w.passed (names_from ordered (most - n) (some (part start at s)) 0 (drop at s))
            ∙ ap (λ t. w.passed ++ listed (names_from ordered (most - n) (some (part start at s)) 0 t)) gone

        size : length (listed (names_of ordered most s)) ≡ n
        size = ap length all ∙ length-append w.passed [] ∙ omega (arith, w.count)

        end_name : last_or [] (listed (names_of ordered most s)) ≡ drop start s
        end_name =
            ap (last_or []) (all ∙ append-nil w.passed) ∙ w.last
            ∙ take_all (at - start) (drop start s) (omega (arith, length-drop start s))

    -- one name more
    pub walked_unread : at < length s → most ≤ n → (list_fault (names_of ordered most s) ≡ 5) × (0 < 5)
    unfolding list_fault
    walked_unread h k =
        let z : most - n ≡ 0 = omega arith in
        (left_as (bad 5) (rw z (first_unread ordered (some (part start at s)) (drop at s) (omega (arith, length-drop at s)))), omega arith)

    module _ (h : at < length s) (k : n < most) where
      size_at_lem : size_at s at ≡ number (take 2 (drop at s))
      size_at_lem = ap number (sym (take-drop at 2 s))

      more : most - n ≡ suc (most - (n + 1))
      more = omega arith

      pub walked_torn : length s < at + 2 + size_at s at → (list_fault (names_of ordered most s) ≡ 2) × (0 < 2)
      unfolding list_fault
      walked_torn t = (
        left_as (bad 2) (rw more (first_torn ordered (some (part start at s)) (most - (n + 1)) (size_at s at) (drop at s) (omega (arith, length-drop at s)) size_at_lem (omega (arith, length-drop at s)))),
        omega arith,
      )

      module _ {from to : ℕ} (named : (from ≡ at + 2) × (to ≡ from + size_at s at) × (to ≤ length s)) where
        its_name : take (size_at s at) (drop 2 (drop at s)) ≡ part from to s
        its_name =
            let p : to - from ≡ size_at s at = omega (arith, named.1) in
            let q : from ≡ at + 2 = named.0 in
            rw (p, q, drop-drop 2 at s) refl

        fits : 2 + size_at s at ≤ length (drop at s)
        fits = omega (arith, length-drop at s, named.0, named.1, named.2)

        pub walked_fault : (f : ℕ) → f ≡ name_fault ordered (some (part start at s)) (part from to s) → (f ≡ 0 → ⊥)
            → (list_fault (names_of ordered most s) ≡ f) × (0 < f)
        unfolding list_fault
        walked_fault zero e z = absurd (z refl)
        walked_fault (suc f) e z = (
          left_as (bad (suc f)) (rw more (first-fault ordered (some (part start at s)) (most - (n + 1)) (size_at s at) f (drop at s) size_at_lem fits (ap (name_fault ordered (some (part start at s))) its_name ∙ sym e))),
          omega arith,
        )

        pub walked_name : 0 ≡ name_fault ordered (some (part start at s)) (part from to s) → Walked ordered most s (n + 1) from to
        walked_name e = record {
          passed = w.passed ++ (part from to s ∷ []);
          count = length-append w.passed (part from to s ∷ []) ∙ omega (arith, w.count);
          few = omega arith;
          forward = omega (arith, named.1);
          within = named.2;
          last = last_one [] w.passed (part from to s);
          same =
              w.same ∙ ap (prepended w.passed) turn
              ∙ sym (prepended-one w.passed (part from to s) (names_from ordered (most - (n + 1)) (some (part from to s)) 0 (drop to s)));
        }
          where
            rest : drop (suc (suc (size_at s at))) (drop at s) ≡ drop to s
            rest = let q : at + suc (suc (size_at s at)) ≡ to = omega (arith, named.0, named.1) in drop-drop (suc (suc (size_at s at))) at s ∙ ap (λ i. drop i s) q

            fine : name_fault ordered (some (part start at s)) (take (size_at s at) (drop 2 (drop at s))) ≡ 0
            fine = ap (name_fault ordered (some (part start at s))) its_name ∙ sym e

            one : names_from ordered (suc (most - (n + 1))) (some (part start at s)) 0 (drop at s)
                ≡ name (part from to s) (names_from ordered (most - (n + 1)) (some (part from to s)) 0 (drop to s))
            one =
                first_name ordered (some (part start at s)) (most - (n + 1)) (size_at s at) (drop at s) size_at_lem fits fine
                ∙ ap₂ (λ v t. name v (names_from ordered (most - (n + 1)) (some v) 0 t)) its_name rest

            turn : names_from ordered (most - n) (some (part start at s)) 0 (drop at s)
                ≡ name (part from to s) (names_from ordered (most - (n + 1)) (some (part from to s)) 0 (drop to s))
            turn = ap (λ m. names_from ordered m (some (part start at s)) 0 (drop at s)) more ∙ one

-- 3. A name's faults, one lemma an exit

module _ (ordered : Bool) (prior v : Bytes) {a : Bool} (text : a ≡ is_text v) where
  pub fault_text : not a ≡ true → 4 ≡ name_fault ordered (some prior) v
  unfolding name_fault
  fault_text h = rw (← text) (go a h)
    where
      go : (a : Bool) → not a ≡ true → 4 ≡ or_then (unless a 4) (or_then (unless (not ordered || in_order (some prior) v) 4) (unless (leb (length v) string_limit) 5))
      go true h = impossible cc
      go false h = refl

  module _ (passes : not a ≡ false) {b : Bool} (order : b ≡ out_of_order ordered prior v) where
    parts : name_fault ordered (some prior) v ≡ cond b 4 (unless (leb (length v) string_limit) 5)
    unfolding name_fault
    parts = rw (← text, order) (go a ordered (is_below (compare_bytes v prior)) passes)
      where
        go : (a o l : Bool) → not a ≡ false
            → or_then (unless a 4) (or_then (unless (not o || not l) 4) (unless (leb (length v) string_limit) 5)) ≡ cond (o && l) 4 (unless (leb (length v) string_limit) 5)
        go true true true h = refl
        go true true false h = refl
        go true false true h = refl
        go true false false h = refl
        go false o l h = impossible cc

    pub fault-below : b ≡ true → 4 ≡ name_fault ordered (some prior) v
    fault-below h = sym (parts ∙ rw h refl)

    module _ (rises : b ≡ false) where
      pub fault_long : 255 < length v → 5 ≡ name_fault ordered (some prior) v
      fault_long h = sym (parts ∙ rw (rises, lt-leb (length v) 255 h) refl)

      pub fault-none : length v ≤ 255 → 0 ≡ name_fault ordered (some prior) v
      fault-none h = sym (parts ∙ rw (rises, le-leb (length v) 255 h) refl)

-- a list in any order, and one that is to be in order
pub any_order : (ordered below : Bool) → not ordered ≡ true → false ≡ ordered && below
any_order true below h = impossible cc
any_order false below h = refl

pub by_order : (ordered below : Bool) → not ordered ≡ false → ordered && below ≡ below
by_order true below h = refl
by_order false below h = impossible cc

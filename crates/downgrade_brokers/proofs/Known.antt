-- What a metadata level knows of a broker: how long it is, and that it is the broker's own exactly where it is as long.
use mathlib.Core.Path.{◌≡◌, refl, sym, ap, ap₂, ◌∙◌}
use mathlib.Core.Bool.{Bool, true, false, cond}
use mathlib.Core.List.{List, [], ◌∷◌, ◌++◌}
use mathlib.Core.Option.{none, some}
use Prim.Native.Nat.{ℕ, ◌+◌, ◌≤◌}
use native.Mathlib.Omega.{arith}
use borrow.Author.Tests.{eq-eqb, ne_eqb, lt-ltb, le-ltb}
use lib.Dec.{eqb}
use lib.ListN.{length, get_elem?, length-append}
use Rattle.model.specs.Choice.{given}
use Rattle.model.specs.Number.{Bytes}
use Rattle.model.specs.Run.{Run, done, torn, item, bytes_of, field, values, set_field, drop_field}
use Rattle.model.specs.Kind.{kind_number}
use Rattle.model.specs.Shape.{rows_of, stored, shape_of, fault}
use Rattle.model.specs.Downgrade.{is_under, directories_level, cordoned_level, project}
use Rattle.model.specs.declared.Kind.TheVariants.{BrokerRegistration}
use Rattle.laws.specs.Choice.{impossible}
use Rattle.laws_records.specs.Runs.{length_item}
use Rattle.laws_records.specs.Fields.{Against, before, at, past, against, Ascending, field-values, field_below, values-below, values-there, set-ascending, drop-none}
use Rattle.laws_records.specs.Faults.{fault-ascends, fault_required, fault_once}
use Rattle.downgrade_brokers.specs.Known.{empty_tag, gone_tag, emptied, known, field_bytes, known_field, known_size}

-- 1. One field

module _ (empty gone t : ℕ) (v : Bytes) where
  pub known_item : (r : Run) → bytes_of (known empty gone (item t v r)) ≡ known_field empty gone t v ++ bytes_of (known empty gone r)
  unfolding emptied drop_field bytes_of
  known_item r = go (eqb t gone)
    where
      go : (b : Bool)
          → bytes_of (cond b (known empty gone r) (item t (cond (eqb t empty) [] v) (known empty gone r)))
          ≡ cond b [] (field_bytes t (cond (eqb t empty) [] v)) ++ bytes_of (known empty gone r)
      go true = refl
      go false = refl

  pub length-field : length (known_field empty gone t v) ≡ known_size empty gone t (length v)
  length-field = go (eqb t gone) (eqb t empty)
    where
      go : (b c : Bool) → length (cond b [] (field_bytes t (cond c [] v))) ≡ cond b 0 (cond c 3 (3 + length v))
      go true c = refl
      go false true = refl
      go false false = omega arith

  field_low : length (known_field empty gone t v) ≤ 3 + length v
  field_low = rw length-field (go (eqb t gone) (eqb t empty))
    where
      go : (b c : Bool) → cond b 0 (cond c 3 (3 + length v)) ≤ 3 + length v
      go true c = omega arith
      go false true = omega arith
      go false false = omega arith

-- its size, by its tag
module _ (empty gone t n : ℕ) where
  pub size-gone : t ≡ gone → 0 ≡ known_size empty gone t n
  size-gone e = rw (eq-eqb t gone e)

  pub size_empty : (t ≡ gone → ⊥) → t ≡ empty → 3 ≡ known_size empty gone t n
  size_empty there e = rw (ne_eqb t gone there, eq-eqb t empty e)

  pub size-whole : (t ≡ gone → ⊥) → (t ≡ empty → ⊥) → 3 + n ≡ known_size empty gone t n
  size-whole there other = rw (ne_eqb t gone there, ne_eqb t empty other)

-- 2. No field is longer, and where all are as long as before they are as before

pub known_low : (empty gone : ℕ) (r : Run) → length (bytes_of (known empty gone r)) ≤ length (bytes_of r)
unfolding emptied drop_field bytes_of
known_low empty gone done = omega arith
known_low empty gone torn = omega arith
known_low empty gone (item t v r) =
    omega (arith, ap length (known_item empty gone t v r), length-append (known_field empty gone t v) (bytes_of (known empty gone r)), field_low empty gone t v, length_item t v r, known_low empty gone r)

pub no_bytes : (v : Bytes) → length v ≡ 0 → ◌≡◌ {A = Bytes} [] v
no_bytes [] e = refl
no_bytes (x ∷ v) e = absurd (omega arith)

pub known_same : (empty gone : ℕ) (r : Run) → length (bytes_of (known empty gone r)) ≡ length (bytes_of r) → known empty gone r ≡ r
unfolding emptied drop_field
known_same empty gone done e = refl
known_same empty gone torn e = refl
known_same empty gone (item t v r) e =
    go (eqb t gone) (eqb t empty)
    (sym (length-append (known_field empty gone t v) (bytes_of (known empty gone r))) ∙ ap length (sym (known_item empty gone t v r)) ∙ e ∙ length_item t v r)
    (known_low empty gone r) (known_same empty gone r)
  where
    go : (b c : Bool) → length (cond b [] (field_bytes t (cond c [] v))) + length (bytes_of (known empty gone r)) ≡ 3 + (length v + length (bytes_of r))
        → length (bytes_of (known empty gone r)) ≤ length (bytes_of r)
        → (length (bytes_of (known empty gone r)) ≡ length (bytes_of r) → known empty gone r ≡ r)
        → cond b (known empty gone r) (item t (cond c [] v) (known empty gone r)) ≡ item t v r
    go true c s l i = absurd (omega arith)
    go false true s l i = ap₂ (item t) (no_bytes v (omega arith)) (i (omega arith))
    go false false s l i = ap (item t v) (i (omega arith))

-- 3. A level's broker

emptied-none : (tag : ℕ) (r : Run) → field tag r ≡ none → emptied tag r ≡ r
unfolding emptied field
emptied-none tag done f = refl
emptied-none tag torn f = refl
emptied-none tag (item t v r) f = go (eqb t tag) f (emptied-none tag r)
  where
    go : (b : Bool) → cond b (some v) (field tag r) ≡ none → (field tag r ≡ none → emptied tag r ≡ r)
        → item t (cond b [] v) (emptied tag r) ≡ item t v r
    go true g i = impossible cc
    go false g i = ap (item t v) (i g)

-- a field that comes once is emptied where it stands
set-emptied : (tag last : ℕ) (v : Bytes) (r : Run) → Ascending last r → values tag r ≡ v ∷ [] → set_field tag [] r ≡ emptied tag r
unfolding set_field emptied values
set-emptied tag last v done s e = impossible cc
set-emptied tag last v torn s e = impossible cc
set-emptied tag last v (item t u r) s e = go (against t tag) (set-emptied tag t v r s.1)
  where
    go : Against t tag → (values tag r ≡ v ∷ [] → set_field tag [] r ≡ emptied tag r) → set_field tag [] (item t u r) ≡ emptied tag (item t u r)
    go (before h) i =
        let apart : t ≡ tag → ⊥ = λ q. omega arith in
        rw (lt-ltb t tag h, ne_eqb t tag apart) (ap (item t u) (i (sym (values-there t u r tag apart) ∙ e)))
    go (at q) i =
        let all : ◌≡◌ {A = List Bytes} (u ∷ values tag r) (v ∷ []) = rw (eq-eqb t tag q) at e in
        let rest : values tag r ≡ [] = cc in
        let same = emptied-none tag r (field-values tag r ∙ ap (λ (l : List Bytes). get_elem? l 0) rest) in
        rw (le-ltb t tag (omega arith), eq-eqb t tag q, q, same)
    go (past h) i =
        let apart : t ≡ tag → ⊥ = λ q. omega arith in
        let nothing = sym (values-below t tag r s.1 h) ∙ sym (values-there t u r tag apart) ∙ e in
        impossible cc

module _ (level : ℕ) (b : Run) (ok : fault stored BrokerRegistration b ≡ 0) where
  ascends : Ascending 1 b
  ascends = fault-ascends stored BrokerRegistration b ok

  once : (v : Bytes) × (values 8 b ≡ v ∷ [])
  unfolding rows_of shape_of kind_number
  once =
      let there = fault_required stored BrokerRegistration b ok 8 refl refl in
      (there.0, fault_once stored BrokerRegistration b ok 8 refl refl ∙ ap (λ o. given o [] (λ v. v ∷ [])) there.1)

  emptying : (u : Bool) → cond u (set_field 8 [] b) b ≡ emptied (cond u 8 0) b
  emptying true = set-emptied 8 1 once.0 b ascends once.1
  emptying false = sym (emptied-none 0 b (field_below 1 0 b ascends (omega arith)))

  still-ascends : (u : Bool) → Ascending 1 (cond u (set_field 8 [] b) b)
  still-ascends true = set-ascending 8 [] 1 b (omega arith) ascends
  still-ascends false = ascends

  dropping : (u : Bool) (r : Run) → Ascending 1 r → cond u (drop_field 11 r) r ≡ drop_field (cond u 11 0) r
  dropping true r s = refl
  dropping false r s = sym (drop-none 0 r (field_below 1 0 r s (omega arith)))

  pub project-known : project level b ≡ known (empty_tag level) (gone_tag level) b
  unfolding project
  project-known =
      let u = is_under level directories_level in
      dropping (is_under level cordoned_level) (cond u (set_field 8 [] b) b) (still-ascends u) ∙ ap (drop_field (gone_tag level)) (emptying u)

-- Fields by their tags: what a field's value is after one is set or dropped, or after others are put in front.
use Rattle.std.specs.Prelude.{◌≡◌, Bool, ℕ, ◌≤◌, ◌<◌, ltb}
use Rattle.std.proofs.Math.Path.{refl, ap}
use Rattle.std.proofs.Common.{sym, ◌∙◌}
use mathlib.Core.List.{List, [], ◌∷◌, ◌++◌}
use Rattle.std.proofs.Math.Bool.{true, false, cond}
use Rattle.std.proofs.Math.Option.{none, some}
use native.Mathlib.Omega.{arith}
use borrow.Author.Tests.{eqb-true, eqb-false, ltb-true, ltb-false, eq-eqb, ne_eqb, lt-ltb, le-ltb}
use Rattle.std.proofs.Math.Dec.{eqb}
use Rattle.std.proofs.Math.ListN.{drop, get_elem?}
use Rattle.model.specs.Number.{Bytes, AreBytes}
use Rattle.model.specs.Run.{Run, done, torn, item, field, or_empty, value, values, set_field, drop_field, items}
use Rattle.laws.specs.Choice.{impossible}
use Rattle.laws.specs.Lists.{All}
use Rattle.laws_records.specs.Runs.{Whole, AreFields}

-- tags ascend, a tag perhaps coming again, from a least one on
abbrev pub Ascending : ℕ → Run → Type 0
Ascending last done = Unit {0}
Ascending last torn = Unit {0}
Ascending last (item t v r) = (last ≤ t) × Ascending t r

pub ascending_from : (a b : ℕ) (r : Run) → a ≤ b → Ascending b r → Ascending a r
ascending_from a b done h s = tt
ascending_from a b torn h s = tt
ascending_from a b (item t v r) h s = (omega arith, s.1)

-- 1. A field at the front

module _ (tag : ℕ) (v : Bytes) (r : Run) where
  pub field-here : field tag (item tag v r) ≡ some v
  unfolding field
  field-here = rw (eq-eqb tag tag refl)

  pub values-here : values tag (item tag v r) ≡ v ∷ values tag r
  unfolding values
  values-here = rw (eq-eqb tag tag refl)

  module _ (other : ℕ) (apart : tag ≡ other → ⊥) where
    pub field-there : field other (item tag v r) ≡ field other r
    unfolding field
    field-there = rw (ne_eqb tag other apart)

    pub values-there : values other (item tag v r) ≡ values other r
    unfolding values
    values-there = rw (ne_eqb tag other apart)

-- the first of the values
pub field-values : (tag : ℕ) (r : Run) → field tag r ≡ get_elem? (values tag r) 0
unfolding field values
field-values tag done = refl
field-values tag torn = refl
field-values tag (item t v r) = go (eqb t tag) (field-values tag r)
  where
    go : (b : Bool) → field tag r ≡ get_elem? (values tag r) 0
        → cond b (some v) (field tag r) ≡ get_elem? (cond b (v ∷ values tag r) (values tag r)) 0
    go true i = refl
    go false i = i

-- below the least tag there is nothing
pub values-below : (last tag : ℕ) (r : Run) → Ascending last r → tag < last → values tag r ≡ []
unfolding values
values-below last tag done s h = refl
values-below last tag torn s h = refl
values-below last tag (item t v r) s h =
    let a : t ≡ tag → ⊥ = λ e. omega arith in
    rw (ne_eqb t tag a) (values-below t tag r s.1 (omega arith))

pub field_below : (last tag : ℕ) (r : Run) → Ascending last r → tag < last → field tag r ≡ none
field_below last tag r s h = field-values tag r ∙ ap (λ (l : List Bytes). get_elem? l 0) (values-below last tag r s h)

-- 2. Setting a field

-- where a field of `t` stands, against the tag that is set
pub data Against (t tag : ℕ) : Type 0 where
  before : t < tag → Against t tag
  at : t ≡ tag → Against t tag
  past : tag < t → Against t tag

pub against : (t tag : ℕ) → Against t tag
against t tag = go (ltb t tag) refl (eqb t tag) refl
  where
    go : (a : Bool) → ltb t tag ≡ a → (b : Bool) → eqb t tag ≡ b → Against t tag
    go true e b f = before (ltb-true t tag e)
    go false e true f = at (eqb-true t tag f)
    go false e false f = let h = ltb-false t tag e in let g : t ≡ tag → ⊥ = eqb-false t tag f in past (omega arith)

module _ (tag : ℕ) (w : Bytes) where
  module _ (t : ℕ) (v : Bytes) (r : Run) where
    set_before : t < tag → set_field tag w (item t v r) ≡ item t v (set_field tag w r)
    unfolding set_field
    set_before h = rw (lt-ltb t tag h)

    set_at : t ≡ tag → set_field tag w (item t v r) ≡ item tag w r
    unfolding set_field
    set_at e = rw (le-ltb t tag (omega arith), eq-eqb t tag e)

    set_past : tag < t → set_field tag w (item t v r) ≡ item tag w (item t v r)
    unfolding set_field
    set_past h = let a : t ≡ tag → ⊥ = λ e. omega arith in rw (le-ltb t tag (omega arith), ne_eqb t tag a)

  pub field-set-same : (r : Run) → field tag (set_field tag w r) ≡ some w
  unfolding set_field
  field-set-same done = field-here tag w done
  field-set-same torn = field-here tag w torn
  field-set-same (item t v r) = go (against t tag) (field-set-same r)
    where
      go : Against t tag → field tag (set_field tag w r) ≡ some w → field tag (set_field tag w (item t v r)) ≡ some w
      go (before h) i = let a : t ≡ tag → ⊥ = λ e. omega arith in rw (set_before t v r h) (field-there t v (set_field tag w r) tag a ∙ i)
      go (at e) i = rw (set_at t v r e) (field-here tag w r)
      go (past h) i = rw (set_past t v r h) (field-here tag w (item t v r))

  -- the first value of the tag is replaced
  pub values-set-same : (last : ℕ) (r : Run) → Ascending last r → values tag (set_field tag w r) ≡ w ∷ drop 1 (values tag r)
  unfolding set_field values
  values-set-same last done s = values-here tag w done
  values-set-same last torn s = values-here tag w torn
  values-set-same last (item t v r) s = go (against t tag) (values-set-same t r s.1)
    where
      go : Against t tag → values tag (set_field tag w r) ≡ w ∷ drop 1 (values tag r)
          → values tag (set_field tag w (item t v r)) ≡ w ∷ drop 1 (values tag (item t v r))
      go (before h) i = let a : t ≡ tag → ⊥ = λ e. omega arith in rw (set_before t v r h, ne_eqb t tag a) i
      go (at e) i = rw (set_at t v r e, e, eq-eqb tag tag refl)
      go (past h) i =
          let a : t ≡ tag → ⊥ = λ e. omega arith in
          let z : values tag r ≡ [] = values-below t tag r s.1 h in
          rw (set_past t v r h, ne_eqb t tag a, eq-eqb tag tag refl, z)

  pub value-set-same : (r : Run) → value tag (set_field tag w r) ≡ w
  value-set-same r = ap or_empty (field-set-same r)

  module _ (other : ℕ) (apart : other ≡ tag → ⊥) where
    pub values-set_other : (r : Run) → values other (set_field tag w r) ≡ values other r
    unfolding set_field values
    values-set_other done = values-there tag w done other (λ e. apart (sym e))
    values-set_other torn = values-there tag w torn other (λ e. apart (sym e))
    values-set_other (item t v r) = go (against t tag) (values-set_other r)
      where
        a : tag ≡ other → ⊥
        a e = apart (sym e)

        go : Against t tag → values other (set_field tag w r) ≡ values other r
            → values other (set_field tag w (item t v r)) ≡ values other (item t v r)
        go (before h) i = rw (set_before t v r h, i)
        go (at e) i = rw (set_at t v r e, e, ne_eqb tag other a)
        go (past h) i = rw (set_past t v r h, ne_eqb tag other a)

    pub field-set_other : (r : Run) → field other (set_field tag w r) ≡ field other r
    field-set_other r = rw (field-values other (set_field tag w r), field-values other r, values-set_other r)

    pub value-set_other : (r : Run) → value other (set_field tag w r) ≡ value other r
    value-set_other r = ap or_empty (field-set_other r)

  -- the value that is there changes nothing
  pub set_field_lem : (last : ℕ) (r : Run) → Ascending last r → field tag r ≡ some w → set_field tag w r ≡ r
  unfolding set_field field
  set_field_lem last done s f = cc
  set_field_lem last torn s f = cc
  set_field_lem last (item t v r) s f = go (against t tag) (set_field_lem t r s.1)
    where
      go : Against t tag → (field tag r ≡ some w → set_field tag w r ≡ r) → set_field tag w (item t v r) ≡ item t v r
      go (before h) i =
          let a : t ≡ tag → ⊥ = λ e. omega arith in
          rw (set_before t v r h, i (rw (ne_eqb t tag a) at f))
      go (at e) i = let g : some v ≡ some w = rw (eq-eqb t tag e) at f in let k : v ≡ w = cc in rw (set_at t v r e, ← e, k)
      go (past h) i =
          let a : t ≡ tag → ⊥ = λ e. omega arith in
          let g : field tag r ≡ some w = rw (ne_eqb t tag a) at f in
          let k : field tag r ≡ none = field_below t tag r s.1 h in
          cc

  pub set-ascending : (last : ℕ) (r : Run) → last ≤ tag → Ascending last r → Ascending last (set_field tag w r)
  unfolding set_field
  set-ascending last done h s = (h, tt)
  set-ascending last torn h s = (h, tt)
  set-ascending last (item t v r) h s = go (against t tag) (λ k. set-ascending t r k s.1)
    where
      go : Against t tag → (t ≤ tag → Ascending t (set_field tag w r)) → Ascending last (set_field tag w (item t v r))
      go (before k) i = rw (set_before t v r k) (s.0, i (omega arith))
      go (at e) i = rw (set_at t v r e) (h, rw (← e) s.1)
      go (past k) i = rw (set_past t v r k) (h, (omega arith, s.1))

  pub set-whole : (r : Run) → Whole r → Whole (set_field tag w r)
  unfolding set_field
  set-whole done h = tt
  set-whole torn h = h
  set-whole (item t v r) h = go (against t tag) (set-whole r h)
    where
      go : Against t tag → Whole (set_field tag w r) → Whole (set_field tag w (item t v r))
      go (before k) i = rw (set_before t v r k) i
      go (at e) i = rw (set_at t v r e) h
      go (past k) i = rw (set_past t v r k) h

  pub set-fields : (r : Run) → tag < 256 → AreBytes w → AreFields r → AreFields (set_field tag w r)
  unfolding set_field
  set-fields done p q h = (p, q, tt)
  set-fields torn p q h = (p, q, tt)
  set-fields (item t v r) p q h = go (against t tag) (set-fields r p q h.2)
    where
      go : Against t tag → AreFields (set_field tag w r) → AreFields (set_field tag w (item t v r))
      go (before k) i = rw (set_before t v r k) (h.0, h.1, i)
      go (at e) i = rw (set_at t v r e) (p, q, h.2)
      go (past k) i = rw (set_past t v r k) (p, q, h)

-- the later setting stands
pub set-set : (tag : ℕ) (a b : Bytes) (r : Run) → set_field tag a (set_field tag b r) ≡ set_field tag a r
unfolding set_field
set-set tag a b done = set_at tag a tag b done refl
set-set tag a b torn = set_at tag a tag b torn refl
set-set tag a b (item t v r) = go (against t tag) (set-set tag a b r)
  where
    go : Against t tag → set_field tag a (set_field tag b r) ≡ set_field tag a r
        → set_field tag a (set_field tag b (item t v r)) ≡ set_field tag a (item t v r)
    go (before h) i = rw (set_before tag b t v r h, set_before tag a t v (set_field tag b r) h, set_before tag a t v r h, i)
    go (at e) i = rw (set_at tag b t v r e, set_at tag a t v r e) (set_at tag a tag b r refl)
    go (past h) i = ap (set_field tag a) (set_past tag b t v r h) ∙ set_at tag a tag b (item t v r) refl ∙ sym (set_past tag a t v r h)

-- 3. Dropping a field

module _ (tag : ℕ) where
  pub values-drop-same : (r : Run) → values tag (drop_field tag r) ≡ []
  unfolding drop_field values
  values-drop-same done = refl
  values-drop-same torn = refl
  values-drop-same (item t v r) = go (eqb t tag) refl (values-drop-same r)
    where
      go : (b : Bool) → eqb t tag ≡ b → values tag (drop_field tag r) ≡ []
          → values tag (cond b (drop_field tag r) (item t v (drop_field tag r))) ≡ []
      go true e i = i
      go false e i = rw e i

  pub field-drop-same : (r : Run) → field tag (drop_field tag r) ≡ none
  field-drop-same r = rw (field-values tag (drop_field tag r), values-drop-same r)

  module _ (other : ℕ) (apart : other ≡ tag → ⊥) where
    pub values-drop_other : (r : Run) → values other (drop_field tag r) ≡ values other r
    unfolding drop_field values
    values-drop_other done = refl
    values-drop_other torn = refl
    values-drop_other (item t v r) = go (eqb t tag) refl (values-drop_other r)
      where
        go : (b : Bool) → eqb t tag ≡ b → values other (drop_field tag r) ≡ values other r
            → values other (cond b (drop_field tag r) (item t v (drop_field tag r))) ≡ values other (item t v r)
        go true e i = let a : t ≡ other → ⊥ = λ f. apart (sym f ∙ eqb-true t tag e) in rw (ne_eqb t other a) i
        go false e i = rw i

    pub field-drop_other : (r : Run) → field other (drop_field tag r) ≡ field other r
    field-drop_other r = rw (field-values other (drop_field tag r), field-values other r, values-drop_other r)

    pub value-drop_other : (r : Run) → value other (drop_field tag r) ≡ value other r
    value-drop_other r = ap or_empty (field-drop_other r)

  -- a field that is not there
  pub drop-none : (r : Run) → field tag r ≡ none → drop_field tag r ≡ r
  unfolding drop_field field
  drop-none done f = refl
  drop-none torn f = refl
  drop-none (item t v r) f = go (eqb t tag) f (drop-none r)
    where
      go : (b : Bool) → cond b (some v) (field tag r) ≡ none → (field tag r ≡ none → drop_field tag r ≡ r)
          → cond b (drop_field tag r) (item t v (drop_field tag r)) ≡ item t v r
      go true g i = cc
      go false g i = rw (i g)

  pub drop-ascending : (last : ℕ) (r : Run) → Ascending last r → Ascending last (drop_field tag r)
  unfolding drop_field
  drop-ascending last done s = tt
  drop-ascending last torn s = tt
  drop-ascending last (item t v r) s = go (eqb t tag) (drop-ascending t r s.1)
    where
      go : (b : Bool) → Ascending t (drop_field tag r) → Ascending last (cond b (drop_field tag r) (item t v (drop_field tag r)))
      go true i = ascending_from last t (drop_field tag r) s.0 i
      go false i = (s.0, i)

  pub drop-whole : (r : Run) → Whole r → Whole (drop_field tag r)
  unfolding drop_field
  drop-whole done h = tt
  drop-whole torn h = h
  drop-whole (item t v r) h = go (eqb t tag) (drop-whole r h)
    where
      go : (b : Bool) → Whole (drop_field tag r) → Whole (cond b (drop_field tag r) (item t v (drop_field tag r)))
      go true i = i
      go false i = i

  pub drop-fields : (r : Run) → AreFields r → AreFields (drop_field tag r)
  unfolding drop_field
  drop-fields done h = tt
  drop-fields torn h = tt
  drop-fields (item t v r) h = go (eqb t tag) (drop-fields r h.2)
    where
      go : (b : Bool) → AreFields (drop_field tag r) → AreFields (cond b (drop_field tag r) (item t v (drop_field tag r)))
      go true i = i
      go false i = (h.0, h.1, i)

-- 4. Fields in front

module _ (tag : ℕ) where
  pub values-items-same : (vs : List Bytes) (r : Run) → values tag (items tag vs r) ≡ vs ++ values tag r
  unfolding items
  values-items-same [] r = refl
  values-items-same (v ∷ vs) r = values-here tag v (items tag vs r) ∙ ap (λ (l : List Bytes). v ∷ l) (values-items-same vs r)

  pub field-items-same : (v : Bytes) (vs : List Bytes) (r : Run) → field tag (items tag (v ∷ vs) r) ≡ some v
  unfolding items
  field-items-same v vs r = field-here tag v (items tag vs r)

  module _ (other : ℕ) (apart : other ≡ tag → ⊥) where
    pub values-items_other : (vs : List Bytes) (r : Run) → values other (items tag vs r) ≡ values other r
    unfolding items
    values-items_other [] r = refl
    values-items_other (v ∷ vs) r = values-there tag v (items tag vs r) other (λ e. apart (sym e)) ∙ values-items_other vs r

    pub field-items_other : (vs : List Bytes) (r : Run) → field other (items tag vs r) ≡ field other r
    field-items_other vs r = rw (field-values other (items tag vs r), field-values other r, values-items_other vs r)

    pub value-items_other : (vs : List Bytes) (r : Run) → value other (items tag vs r) ≡ value other r
    value-items_other vs r = ap or_empty (field-items_other vs r)

  pub items-ascending : (last : ℕ) (vs : List Bytes) (r : Run) → last ≤ tag → Ascending tag r → Ascending last (items tag vs r)
  unfolding items
  items-ascending last [] r h s = ascending_from last tag r h s
  items-ascending last (v ∷ vs) r h s = (h, items-ascending tag vs r (omega arith) s)

  pub items-whole : (vs : List Bytes) (r : Run) → Whole r → Whole (items tag vs r)
  unfolding items
  items-whole [] r h = h
  items-whole (v ∷ vs) r h = items-whole vs r h

  pub items-fields : (vs : List Bytes) (r : Run) → tag < 256 → All AreBytes vs → AreFields r → AreFields (items tag vs r)
  unfolding items
  items-fields [] r p q h = h
  items-fields (v ∷ vs) r p q h = (p, q.0, items-fields vs r p q.1 h)

-- 5. Runs by their values

pub values_are_bytes : (tag : ℕ) (r : Run) → AreFields r → All AreBytes (values tag r)
unfolding values
values_are_bytes tag done h = tt
values_are_bytes tag torn h = tt
values_are_bytes tag (item t v r) h = go (eqb t tag) (values_are_bytes tag r h.2)
  where
    go : (b : Bool) → All AreBytes (values tag r) → All AreBytes (cond b (v ∷ values tag r) (values tag r))
    go true i = (h.1, i)
    go false i = i

pub value_are_bytes : (tag : ℕ) (r : Run) → AreFields r → AreBytes (value tag r)
value_are_bytes tag r h = rw (field-values tag r) (go (values tag r) (values_are_bytes tag r h))
  where
    go : (vs : List Bytes) → All AreBytes vs → AreBytes (or_empty (get_elem? vs 0))
    go [] i = tt
    go (v ∷ vs) i = i.0

pub field_are_bytes : (tag : ℕ) (r : Run) (v : Bytes) → AreFields r → field tag r ≡ some v → AreBytes v
field_are_bytes tag r v h e = rw (ap or_empty e) at (value_are_bytes tag r h)

-- whole runs that ascend are equal where all their values are
module _ (t : ℕ) (v w : Bytes) (a b : Run) (h : (tag : ℕ) → values tag (item t v a) ≡ values tag (item t w b)) where
  same_heads : ◌≡◌ {A = List Bytes} (v ∷ values t a) (w ∷ values t b)
  same_heads = sym (values-here t v a) ∙ h t ∙ values-here t w b

  same_head : v ≡ w
  same_head = let e = same_heads in cc

  same_rest : (tag : ℕ) → values tag a ≡ values tag b
  same_rest tag = go (against t tag)
    where
      other : (t ≡ tag → ⊥) → values tag a ≡ values tag b
      other n = sym (values-there t v a tag n) ∙ h tag ∙ values-there t w b tag n

      go : Against t tag → values tag a ≡ values tag b
      go (before k) = other (λ e. omega arith)
      go (at e) = let f = same_heads in let g : values t a ≡ values t b = cc in rw (← e) g
      go (past k) = other (λ e. omega arith)

pub run_ext : (last : ℕ) (a b : Run) → Whole a → Whole b → Ascending last a → Ascending last b → ((tag : ℕ) → values tag a ≡ values tag b)
    → a ≡ b
unfolding values
run_ext last done done wa wb sa sb h = refl
run_ext last done (item u w b) wa wb sa sb h = let e = h u ∙ values-here u w b in impossible cc
run_ext last (item t v a) done wa wb sa sb h = let e = sym (values-here t v a) ∙ h t in impossible cc
run_ext last done torn wa wb sa sb h = absurd wb
run_ext last torn b wa wb sa sb h = absurd wa
run_ext last (item t v a) torn wa wb sa sb h = absurd wb
run_ext last (item t v a) (item u w b) wa wb sa sb h = go (against t u) (λ s k. run_ext t a b wa wb sa.1 s k)
  where
    go : Against t u → (Ascending t b → ((tag : ℕ) → values tag a ≡ values tag b) → a ≡ b) → item t v a ≡ item u w b
    go (before k) i =
        let n : u ≡ t → ⊥ = λ e. omega arith in
        let e = sym (values-here t v a) ∙ h t ∙ values-there u w b t n ∙ values-below u t b sb.1 k in
        impossible cc
    go (at e) i =
        let g : (tag : ℕ) → values tag (item t v a) ≡ values tag (item t w b) = λ tag. rw (← e) at (h tag) in
        let f = same_head t v w a b g in
        let k = i (rw e sb.1) (same_rest t v w a b g) in
        cc
    go (past k) i =
        let n : t ≡ u → ⊥ = λ e. omega arith in
        let e = sym (values-here u w b) ∙ sym (h u) ∙ values-there t v a u n ∙ values-below t u a sa.1 k in
        impossible cc

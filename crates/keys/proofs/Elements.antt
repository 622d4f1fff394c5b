-- The elements of a quota, one at a time: what a step over them tells, and how it decides the order of two lists.
use mathlib.Core.Path.{◌≡◌, sym, ap, ◌∙◌}
use mathlib.Core.List.{List, [], ◌∷◌}
use mathlib.Core.Option.{none, some}
use Prim.Native.Nat.{Ordering}
use Prim.Native.Nat.{ℕ, ◌+◌, ◌≤◌, ◌<◌}
use native.Mathlib.Omega.{arith}
use lib.ListN.{length}
use lib.Seq.{slice}
use Rattle.model.specs.Number.{Bytes}
use Rattle.model.specs.Order.{compare_bytes, compare_keys, is_below, then_by, ordering}
use Rattle.model.specs.Run.{Run, item, run_of, field, values}
use Rattle.model.specs.Contents.{entity_key}
use Rattle.std.specs.declared.cmp.Ordering.{Ordering as Order}
use Rattle.std.specs.declared.cmp.Ordering.TheVariants.{Less, Equal, Greater}
use Rattle.laws_records.specs.Fields.{Ascending, values-here, values-below}
use Rattle.fields.specs.Fields.{fields_from, Inside, told, Onward}
use Rattle.fields.specs.declared.Cursor.{Cursor}
use Rattle.fields.specs.declared.Step.{Step}
use Rattle.fields.specs.declared.Step.TheVariants.{Field, Torn, End}
use Rattle.fields.proofs.Took.{took, tore, ended, moved}
use Rattle.keys.specs.Entities.{type_order, name_order, entity_order, compare_entities, onward}
use Rattle.keys.specs.declared.entities.Entity.{Entity}
use Rattle.keys.specs.declared.entities.Entity.TheVariants.{At, Last}
use Rattle.keys.specs.Keys.{run_in}
use Rattle.keys.proofs.Found.{slice-rest}
use Rattle.keys.proofs.Orders.{first_less, first_equal, first_greater, then_same}

-- the fields of a record, from a cursor on its body
pub begins : (s : Bytes) → fields_from s (record { at = 3; to = length s }) ≡ run_in s
begins s = ap run_of (slice-rest 3 s)

-- 1. A step

front-tail : (v : Bytes) (r p : Run) → p ≡ item 1 v r → Ascending 1 p → Ascending 1 r
front-tail v r p e a = let q : Ascending 1 (item 1 v r) = rw e at a in q.1

front_other : (t : ℕ) (v : Bytes) (r p : Run) → p ≡ item t v r → (t ≡ 1 → ⊥) → Ascending 1 p → values 1 p ≡ []
front_other t v r p e h a =
    let q : Ascending 1 (item t v r) = rw e at a in
    let k : 1 < t = let z = q.0 in omega arith in
    rw e (values-below t 1 (item t v r) (omega arith, q.1) k)

module _ (s : Bytes) {c : Cursor} {r : Step} (e : told s r ≡ fields_from s c) (o : Onward c r) (inside : Inside s c) where
  pub at_element : {tag start len : ℕ} {next : Cursor} → r ≡ Field tag start len next → tag ≡ 1 → onward s c (At start (start + len) next)
  unfolding onward
  at_element {tag} {start} {len} {next} h one =
      let m = moved h o in
      let p : fields_from s c ≡ item 1 (slice start (start + len) s) (fields_from s next) = rw one at (took s e h) in (
        ap (values 1) p ∙ values-here 1 (slice start (start + len) s) (fields_from s next),
        omega arith,
        omega (arith, m.part, m.most, inside.1),
        m.onward,
        omega (arith, m.most, m.ends),
        m.ends,
        front-tail (slice start (start + len) s) (fields_from s next) (fields_from s c) p,
      )

  pub at_other : {tag start len : ℕ} {next : Cursor} → r ≡ Field tag start len next → (tag ≡ 1 → ⊥) → onward s c Last
  unfolding onward
  at_other {tag} {start} {len} {next} h other =
      front_other tag (slice start (start + len) s) (fields_from s next) (fields_from s c) (took s e h) other

  pub at_torn : r ≡ Torn → onward s c Last
  unfolding onward values
  at_torn h = λ a. ap (values 1) (tore s e h)

  pub at_end_lem : r ≡ End → onward s c Last
  unfolding onward values
  at_end_lem h = λ a. ap (values 1) (ended s e h)

-- what a caller learns
pub record Stands (s : Bytes) (c : Cursor) (start end : ℕ) (next : Cursor) : Type 0 where
  pub front : values 1 (fields_from s c) ≡ slice start end s ∷ values 1 (fields_from s next)
  pub forward : start ≤ end
  pub most : end ≤ length s
  pub onwards : c.at < next.at
  pub inside : next.at ≤ next.to
  pub ends : next.to ≡ c.to
  pub ascends : Ascending 1 (fields_from s c) → Ascending 1 (fields_from s next)

pub stands : {s : Bytes} {c : Cursor} {r : Entity} {start end : ℕ} {next : Cursor} → r ≡ At start end next → onward s c r → Stands s c start end next
unfolding onward
stands {s} {c} {r} {start} {end} {next} h o =
    let q : onward s c (At start end next) = rw h at o in
    record { front = q.0; forward = q.1; most = q.2; onwards = q.3; inside = q.4; ends = q.5; ascends = q.6 }

pub lasts : (s : Bytes) (c : Cursor) {r : Entity} → r ≡ Last → onward s c r → Ascending 1 (fields_from s c) → values 1 (fields_from s c) ≡ []
unfolding onward
lasts s c {r} h o = let q : onward s c Last = rw h at o in q

-- 2. Two lists

module _ (x y : List Bytes) where
  pub both_end : x ≡ [] → y ≡ [] → Ordering.eq ≡ compare_entities x y
  unfolding compare_entities
  both_end p q = rw (p, q)

  pub first_ends : (f : Bytes) (fs : List Bytes) → x ≡ [] → y ≡ f ∷ fs → Ordering.lt ≡ compare_entities x y
  unfolding compare_entities
  first_ends f fs p q = rw (p, q)

  pub second_ends : (e : Bytes) (es : List Bytes) → x ≡ e ∷ es → y ≡ [] → Ordering.gt ≡ compare_entities x y
  unfolding compare_entities
  second_ends e es p q = rw (p, q)

  module _ (e f : Bytes) (es fs : List Bytes) (p : x ≡ e ∷ es) (q : y ≡ f ∷ fs) {o : Order} (h : ordering o ≡ entity_order (run_of e) (run_of f)) where
    pub heads_less : o ≡ Less → Ordering.lt ≡ compare_entities x y
    unfolding compare_entities
    heads_less k = rw (p, q) (first_less (compare_entities es fs) k h)

    pub heads_equal : o ≡ Equal → compare_entities es fs ≡ compare_entities x y
    unfolding compare_entities
    heads_equal k = rw (p, q) (first_equal (compare_entities es fs) k h)

    pub heads_greater : o ≡ Greater → Ordering.gt ≡ compare_entities x y
    unfolding compare_entities
    heads_greater k = rw (p, q) (first_greater (compare_entities es fs) k h)

-- 3. Names: an absent one first

module _ (e f : Run) where
  pub names_both : (n m : Bytes) → field 2 e ≡ some n → field 2 f ≡ some m → compare_bytes n m ≡ name_order e f
  unfolding compare_bytes
  names_both n m p q = rw (p, q)

  pub name_second : (n : Bytes) → field 2 e ≡ some n → field 2 f ≡ none → Ordering.gt ≡ name_order e f
  unfolding compare_bytes
  name_second n p q = rw (p, q)

  pub name_first : (m : Bytes) → field 2 e ≡ none → field 2 f ≡ some m → Ordering.lt ≡ name_order e f
  unfolding compare_bytes
  name_first m p q = rw (p, q)

  pub names-none : field 2 e ≡ none → field 2 f ≡ none → Ordering.eq ≡ name_order e f
  unfolding compare_bytes
  names-none p q = rw (p, q)

-- 4. The order of two entities is that of their keys

pub entity_order_lem : (e f : Bytes) → compare_keys (entity_key e) (entity_key f) ≡ entity_order (run_of e) (run_of f)
unfolding compare_keys
entity_order_lem e f = ap (then_by (type_order (run_of e) (run_of f))) (then_same (name_order (run_of e) (run_of f)))

-- what a comparison tells of them
pub told_below : (e f : Bytes) {o x : Order} → ordering o ≡ entity_order (run_of e) (run_of f) → o ≡ x
    → is_below (ordering x) ≡ is_below (compare_keys (entity_key e) (entity_key f))
told_below e f h is = ap is_below (ap ordering (sym is) ∙ h ∙ sym (entity_order_lem e f))

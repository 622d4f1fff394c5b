-- A quota's entities, in order: those still to come, after the one before them.
use mathlib.Core.Path.{◌≡◌, refl, sym, ap, ◌∙◌}
use mathlib.Core.List.{List, [], ◌∷◌}
use mathlib.Core.Option.{Option, none, some}
use mathlib.Core.Bool.{Bool, true, false, ◌&&◌, not}
use Prim.Native.Nat.{ℕ, ◌+◌, ◌≤◌}
use native.Mathlib.Omega.{arith}
use lib.ListN.{length}
use lib.Seq.{slice}
use Rattle.model.specs.Choice.{is_some}
use Rattle.model.specs.Number.{Bytes}
use Rattle.model.specs.Order.{Key, compare_bytes, compare_keys, is_below}
use Rattle.model.specs.Run.{item, parse, run_of, field, value, values}
use Rattle.model.specs.Key.{name_part}
use Rattle.model.specs.Contents.{entity_key, entity_order, entities_in_order}
use Rattle.laws_records.specs.Fields.{Ascending}
use Rattle.fields.specs.Fields.{fields_from, Inside, held, told, Onward}
use Rattle.fields.specs.declared.Cursor.{Cursor}
use Rattle.fields.specs.declared.Found.{Found}
use Rattle.fields.specs.declared.Found.TheVariants.{Part, Missing}
use Rattle.fields.specs.declared.Step.{Step}
use Rattle.fields.specs.declared.Step.TheVariants.{Field, Torn, End}
use Rattle.fields.proofs.Took.{took}
use Rattle.keys.proofs.Found.{field-part, field-missing}
use Rattle.keys.proofs.Elements.{begins, at_element, at_other, at_torn, at_end_lem, Stands, stands, lasts}
use Rattle.entries.specs.Entries.{IsRecord, record_in}
use Rattle.image_entries.specs.Quotas.{EntitiesAs}
use Rattle.image_entries.specs.declared.entities.Entities.{Entities}
use Rattle.image_entries.specs.declared.entities.Entities.TheVariants.{InOrder, OutOfOrder}
use Rattle.image_entries.proofs.Records.{headed, run_in_lem, ascends}

-- 1. Lists

-- none is above the next, the first coming after a key
abbrev pub after : Key → List Bytes → Bool
after k [] = true
after k (e ∷ es) = not (is_below (compare_keys (entity_key e) k)) && after (entity_key e) es

after_entity : (e : Bytes) (es : List Bytes) → after (entity_key e) es ≡ entities_in_order (e ∷ es)
unfolding entities_in_order
after_entity e [] = refl
after_entity e (f ∷ es) = rw (after_entity f es)

-- no entity is below no type and no name
not_below-none : (t : Bytes) (n : Option Bytes) → is_below (compare_keys (t ∷ name_part n ∷ []) ([] ∷ name_part none ∷ [])) ≡ false
unfolding compare_bytes compare_keys
not_below-none [] none = refl
not_below-none [] (some n) = refl
not_below-none (x ∷ t) n = refl

pub none_below : (s e : Bytes) (b : Cursor) → b.at ≤ b.to → b.to ≡ 0 → false ≡ is_below (entity_order e (slice b.at b.to s))
unfolding parse field
none_below s e b inside end =
    let from : b.at ≡ 0 = omega arith in
    rw (from, end) (sym (not_below-none (value 1 (run_of e)) (field 2 (run_of e))))

after_none : (es : List Bytes) → after (entity_key []) es ≡ entities_in_order es
unfolding entities_in_order parse field
after_none [] = refl
after_none (e ∷ es) = rw (not_below-none (value 1 (run_of e)) (field 2 (run_of e))) (after_entity e es)

after_empty : (k : Key) (es : List Bytes) → es ≡ [] → true ≡ after k es
after_empty k es e = rw e

-- 2. The walk

pub record Ordered (s : Bytes) (c last : Cursor) : Type 0 where
  pub inside : Inside s c
  pub before : Inside s last
  pub ends : c.to ≡ length s
  pub ascend : Ascending 1 (fields_from s c)
  pub third : field 3 (fields_from s c) ≡ field 3 (record_in s).run
  pub same : after (entity_key (slice last.at last.to s)) (values 1 (fields_from s c)) ≡ entities_in_order (values 1 (record_in s).run)

pub ordered-start : (s : Bytes) → IsRecord s → Ordered s (record { at = 3; to = length s }) (record { at = 0; to = 0 })
ordered-start s i = record {
  inside = (headed s i, omega arith);
  before = (omega arith, omega arith);
  ends = refl;
  ascend = rw (begins s) (ascends s i);
  third = ap (field 3) (begins s ∙ run_in_lem s i);
  same = after_none (values 1 (fields_from s (record { at = 3; to = length s }))) ∙ ap (λ x. entities_in_order (values 1 x)) (begins s ∙ run_in_lem s i);
}

-- no entity is left: all are in order
none_left : {s : Bytes} {c last : Cursor} → Ordered s c last → values 1 (fields_from s c) ≡ [] → EntitiesAs s (InOrder c.at)
none_left {s} {c} {last} h gone = (
  sym (after_empty (entity_key (slice last.at last.to s)) (values 1 (fields_from s c)) gone ∙ h.same),
  omega (arith, h.inside.0, h.inside.1),
  rw (← h.ends) h.third,
)

module _ {s : Bytes} {c last : Cursor} (h : Ordered s c last) {r : Step} (e : (told s r ≡ fields_from s c) × Onward c r) where
  pub other_left : {tag start len : ℕ} {next : Cursor} → r ≡ Field tag start len next → (tag ≡ 1 → ⊥) → EntitiesAs s (InOrder c.at)
  other_left f other = none_left h (lasts s c refl (at_other s e.0 e.1 h.inside f other) h.ascend)

  pub torn_left : r ≡ Torn → EntitiesAs s (InOrder c.at)
  torn_left f = none_left h (lasts s c refl (at_torn s e.0 e.1 h.inside f) h.ascend)

  pub ended_left : r ≡ End → EntitiesAs s (InOrder c.at)
  ended_left f = none_left h (lasts s c refl (at_end_lem s e.0 e.1 h.inside f) h.ascend)

  module _ {tag start len : ℕ} {next : Cursor} (f : r ≡ Field tag start len next) (one : tag ≡ 1) where
    -- the entity at the cursor
    pub entity : Stands s c start (start + len) next
    entity = stands refl (at_element s e.0 e.1 h.inside f one)

    -- an entity is no third field
    third_behind : field 3 (fields_from s next) ≡ field 3 (record_in s).run
    unfolding field
    third_behind =
        let p : fields_from s c ≡ item 1 (slice start (start + len) s) (fields_from s next) = rw one at (took s e.0 f) in
        sym (ap (field 3) p) ∙ h.third

    -- against the one before
    module _ {b : Bool} (q : b ≡ is_below (entity_order (slice start (start + len) s) (slice last.at last.to s))) where
      split : not b && after (entity_key (slice start (start + len) s)) (values 1 (fields_from s next)) ≡ entities_in_order (values 1 (record_in s).run)
      split = rw q (sym (ap (after (entity_key (slice last.at last.to s))) entity.front) ∙ h.same)

      pub below : b ≡ true → EntitiesAs s OutOfOrder
      below t = sym (rw t at split)

      pub not_below : b ≡ false → Ordered s next (record { at = start; to = start + len })
      not_below t = record {
        inside = (entity.inside, omega (arith, entity.ends, h.inside.1));
        before = (entity.forward, entity.most);
        ends = entity.ends ∙ h.ends;
        ascend = entity.ascends h.ascend;
        third = third_behind;
        same = rw t at split;
      }

-- 3. What was looked at, by the variant

module _ (s : Bytes) {r : Entities} (e : EntitiesAs s r) where
  pub in_order : {at : ℕ} → r ≡ InOrder at → EntitiesAs s (InOrder at)
  in_order h = rw h at e

  pub out_of_order_lem : r ≡ OutOfOrder → EntitiesAs s OutOfOrder
  out_of_order_lem h = rw h at e

-- a quota's value, sought behind its entities
module _ (s : Bytes) {at : ℕ} (o : EntitiesAs s (InOrder at)) {f : Found} (h : held s f ≡ field 3 (fields_from s (record { at = at; to = length s }))) where
  pub valued : {start len : ℕ} → f ≡ Part start len → true ≡ is_some (field 3 (record_in s).run) && entities_in_order (values 1 (record_in s).run)
  valued p = rw (← o.2, field-part s 3 (fields_from s (record { at = at; to = length s })) h p, o.0) refl

  pub valueless : f ≡ Missing → false ≡ is_some (field 3 (record_in s).run) && entities_in_order (values 1 (record_in s).run)
  valueless p = rw (← o.2, field-missing s 3 (fields_from s (record { at = at; to = length s })) h p) refl

pub disordered : (s : Bytes) → EntitiesAs s OutOfOrder → false ≡ is_some (field 3 (record_in s).run) && entities_in_order (values 1 (record_in s).run)
disordered s o = rw o (go (is_some (field 3 (record_in s).run)))
  where
    go : (b : Bool) → false ≡ b && false
    go true = refl
    go false = refl

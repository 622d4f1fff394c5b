-- Quotas: sorted entities are the same ones, in order by type, and a quota with them reads back.
use Rattle.std.specs.Prelude.{◌≡◌, List, [], ◌∷◌, Bool, true, false, not, length}
use Rattle.std.proofs.Math.Path.{refl}
use Rattle.std.proofs.Common.{◌∙◌, ap, append-nil, arith, lit<}
use Rattle.std.proofs.Math.Option.{Option, none}
use Prim.Native.Nat.{suc, Ordering}
use Rattle.model.specs.Choice.{choose}
use Rattle.model.specs.Number.{Bytes, AreBytes}
use Rattle.model.specs.Order.{is_below}
use Rattle.model.specs.Run.{Run, field, values, drop_field, items}
use Rattle.model.specs.Shape.{nested, entity, entity_limit, Row, up_to, rows_of, value_fault, logged, shape_of, fault}
use Rattle.model.specs.Contents.{entity_key, entity_order, entities_in_order}
use Rattle.model.specs.Move.{insert_entity, sorted_entities, sorted_quota}
use Rattle.model.specs.declared.Kind.TheVariants.{ClientQuota}
use Rattle.laws.specs.Choice.{impossible, and_left, and_right, and_both}
use Rattle.laws.specs.Order.{lt_gt, keys_total}
use Rattle.laws.specs.Lists.{All, all_imp}
use Rattle.laws_records.specs.Runs.{AreFields}
use Rattle.laws_records.specs.Fields.{values_are_bytes, values-drop-same, drop-ascending, drop-fields}
use Rattle.laws_records.specs.Fields.{field-drop_other, values-items-same, field-items_other, items-fields}
use Rattle.laws_records.specs.Passing.{Elements}
use Rattle.laws_records.specs.Passes.{each_all, all_each}
use Rattle.laws_records.specs.Forms.{nested_keyless}
use Rattle.laws_records.specs.Faults.{fault-ascends, fault-values, items-fault}
use Rattle.laws_image.specs.Fits.{Readable}
use Rattle.laws_apply.specs.Readable.{logged_readable}

-- 1. Sorted entities

insert_all : (P : Bytes → Type 0) (e : Bytes) (l : List Bytes) → P e → All P l → All P (insert_entity e l)
unfolding insert_entity
insert_all P e [] h u = (h, tt)
insert_all P e (x ∷ l) h u = go (entity_order e x) (insert_all P e l h u.1)
  where
    go : (o : Ordering) → All P (insert_entity e l) → All P (choose o (e ∷ x ∷ l) (e ∷ x ∷ l) (x ∷ insert_entity e l))
    go Ordering.lt i = (h, u)
    go Ordering.eq i = (h, u)
    go Ordering.gt i = (u.0, i)

sorted_all : (P : Bytes → Type 0) (l : List Bytes) → All P l → All P (sorted_entities l)
unfolding sorted_entities
sorted_all P [] u = tt
sorted_all P (e ∷ l) u = insert_all P e (sorted_entities l) u.0 (sorted_all P l u.1)

insert_length : (e : Bytes) (l : List Bytes) → length (insert_entity e l) ≡ suc (length l)
unfolding insert_entity
insert_length e [] = refl
insert_length e (x ∷ l) = go (entity_order e x) (insert_length e l)
  where
    go : (o : Ordering) → length (insert_entity e l) ≡ suc (length l)
        → length (choose o (e ∷ x ∷ l) (e ∷ x ∷ l) (x ∷ insert_entity e l)) ≡ suc (suc (length l))
    go Ordering.lt i = refl
    go Ordering.eq i = refl
    go Ordering.gt i = ap suc i

sorted_length : (l : List Bytes) → length (sorted_entities l) ≡ length l
unfolding sorted_entities
sorted_length [] = refl
sorted_length (e ∷ l) = insert_length e (sorted_entities l) ∙ ap suc (sorted_length l)

-- 2. In order

-- none of a list's entities is below the one before it
order_tail : (x : Bytes) (l : List Bytes) → entities_in_order (x ∷ l) ≡ true → entities_in_order l ≡ true
unfolding entities_in_order
order_tail x [] h = refl
order_tail x (y ∷ l) h = and_right (not (is_below (entity_order y x))) (entities_in_order (y ∷ l)) h

order_cons : (x y : Bytes) (l : List Bytes) → is_below (entity_order y x) ≡ false → entities_in_order (y ∷ l) ≡ true
    → entities_in_order (x ∷ y ∷ l) ≡ true
unfolding entities_in_order
order_cons x y l p q = rw (p, q)

-- an entity that comes after the first, put among those after it
insert_after : (x e : Bytes) (l : List Bytes) → is_below (entity_order e x) ≡ false → entities_in_order (x ∷ l) ≡ true
    → entities_in_order (insert_entity e l) ≡ true → entities_in_order (x ∷ insert_entity e l) ≡ true
unfolding insert_entity entities_in_order
insert_after x e [] p h i = rw p
insert_after x e (y ∷ l) p h i = go (entity_order e y) i
  where
    below : Bool
    below = is_below (entity_order y x)

    go : (o : Ordering) → entities_in_order (choose o (e ∷ y ∷ l) (e ∷ y ∷ l) (y ∷ insert_entity e l)) ≡ true
        → entities_in_order (x ∷ choose o (e ∷ y ∷ l) (e ∷ y ∷ l) (y ∷ insert_entity e l)) ≡ true
    go Ordering.lt j = order_cons x e (y ∷ l) p j
    go Ordering.eq j = order_cons x e (y ∷ l) p j
    go Ordering.gt j = and_both (not below) (entities_in_order (y ∷ insert_entity e l)) (and_left (not below) (entities_in_order (y ∷ l)) h) j

insert_in_order : (e : Bytes) (l : List Bytes) → entities_in_order l ≡ true → entities_in_order (insert_entity e l) ≡ true
unfolding insert_entity entities_in_order
insert_in_order e [] h = h
insert_in_order e (x ∷ l) h = go (entity_order e x) refl (insert_in_order e l (order_tail x l h))
  where
    go : (o : Ordering) → entity_order e x ≡ o → entities_in_order (insert_entity e l) ≡ true
        → entities_in_order (choose o (e ∷ x ∷ l) (e ∷ x ∷ l) (x ∷ insert_entity e l)) ≡ true
    go Ordering.lt q i = order_cons e x l (rw (lt_gt keys_total (entity_key e) (entity_key x) q)) h
    go Ordering.eq q i = order_cons e x l (rw (keys_total.flip (entity_key e) (entity_key x), q)) h
    go Ordering.gt q i = insert_after x e l (rw q) h i

pub sorted_in_order : (l : List Bytes) → entities_in_order (sorted_entities l) ≡ true
unfolding sorted_entities
sorted_in_order [] = unfold entities_in_order in refl
sorted_in_order (e ∷ l) = insert_in_order e (sorted_entities l) (sorted_in_order l)

-- 3. A quota with its entities sorted

-- the row of its entities, and an entity that passes
abbrev entities : Row
entities = record { form = nested entity; presence = up_to entity_limit }

abbrev Passes : Bytes → Type 0
Passes v = value_fault none (nested entity) v ≡ 0

module _ (f : Run) where
  pub sorted_values : values 1 (sorted_quota f).run ≡ sorted_entities (values 1 f)
  unfolding sorted_quota
  sorted_values =
      values-items-same 1 (sorted_entities (values 1 f)) (drop_field 1 f)
      ∙ rw (values-drop-same 1 f, append-nil)

  pub sorted_value : field 3 (sorted_quota f).run ≡ field 3 f
  unfolding sorted_quota
  sorted_value =
      field-items_other 1 3 (λ e. omega arith) (sorted_entities (values 1 f)) (drop_field 1 f)
      ∙ field-drop_other 1 3 (λ e. omega arith) f

  -- an entity passes whatever came before it, so the sorted ones do
  sorted_elements : Elements value_fault entities 0 none (values 1 f) → Elements value_fault entities 0 none (sorted_entities (values 1 f))
  unfolding rows_of
  sorted_elements given = record {
    needed = λ q. impossible cc;
    few = omega (arith, given.few, sorted_length (values 1 f));
    each = all_each value_fault (nested entity) none (sorted_entities (values 1 f)) free (sorted_all Passes (values 1 f) alone);
  }
    where
      free : (k l : Option Bytes) (v : Bytes) → value_fault k (nested entity) v ≡ value_fault l (nested entity) v
      free k l v = nested_keyless k l entity v refl

      alone : All Passes (values 1 f)
      alone =
          all_imp (λ v. (k : Option Bytes) × (value_fault k (nested entity) v ≡ 0)) Passes (λ v p. free none p.0 v ∙ p.1) (values 1 f)
          (each_all value_fault (nested entity) none (values 1 f) given.each)

  pub sorted_readable : fault logged ClientQuota f ≡ 0 → AreFields f → Readable (sorted_quota f)
  unfolding sorted_quota rows_of shape_of
  sorted_readable ok b =
      let es = sorted_entities (values 1 f) in
      let rest = drop_field 1 f in
      let elements = sorted_elements (fault-values logged ClientQuota f ok 1 refl) in
      logged_readable ClientQuota (λ e. impossible cc) (items 1 es rest)
      (items-fault logged ClientQuota f ok 1 refl es (drop-ascending 1 1 f (fault-ascends logged ClientQuota f ok)) elements)
      (items-fields 1 es rest (lit< tt) (sorted_all AreBytes (values 1 f) (values_are_bytes 1 f b)) (drop-fields 1 f b))

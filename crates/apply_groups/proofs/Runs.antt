-- The fields of a member of a group and those of its group: some of tag 1, a name, and perhaps a value.
use mathlib.Core.Path.{◌≡◌, refl, sym, ap, ◌∙◌}
use mathlib.Core.List.{List, [], ◌∷◌, ◌++◌, append_assoc, append-nil}
use mathlib.Core.Option.{none}
use Prim.Native.Nat.{ℕ, zero, suc, ◌+◌, ◌≤◌}
use native.Mathlib.Omega.{arith}
use lib.Dec.{lit≤}
use lib.ListN.{length, length-append}
use Rattle.model.specs.Number.{Bytes, bytes}
use Rattle.model.specs.Run.{Run, done, item, bytes_of, value, values, set_field, drop_field, items}
use Rattle.model.specs.Kind.{kind_number}
use Rattle.model.specs.Shape.{rows_of, row_at, shape_of, stored, fault}
use Rattle.model.specs.Record.{rec}
use Rattle.model.specs.Contents.{group_of}
use Rattle.model.specs.declared.Kind.{Kind}
use Rattle.model.specs.declared.Kind.TheVariants.{BrokerConfig, ClientQuota}
use Rattle.laws_records.specs.Runs.{Whole, length_item}
use Rattle.laws_records.specs.Fields.{Ascending, values-there, values-items-same, values-items_other, items-ascending, items-whole, run_ext}
use Rattle.laws_records.specs.Faults.{fault-passing, fault-whole, fault-ascends}
use Rattle.laws_records.specs.Passes.{no_row}
use Rattle.laws_image.specs.Groups.{Grouped, config, quota}
use Rattle.laws_image.specs.Required.{required_values}
use Rattle.image_groups.specs.Groups.{leading}

-- 1. Three tags in order

abbrev threefold : List Bytes → Bytes → List Bytes → Run
threefold vs v ws = items 1 vs (item 2 v (items 3 ws done))

module _ (vs : List Bytes) (v : Bytes) (ws : List Bytes) where
  -- of a tag that is not 1 or 2, only the last fields can be
  after_name : (tag : ℕ) → (tag ≡ 1 → ⊥) → (tag ≡ 2 → ⊥) → values tag (threefold vs v ws) ≡ values tag (items 3 ws done)
  after_name tag a b =
      values-items_other 1 tag a vs (item 2 v (items 3 ws done))
      ∙ values-there 2 v (items 3 ws done) tag (λ e. b (sym e))

  values-first : values 1 (threefold vs v ws) ≡ vs
  unfolding values
  values-first =
      values-items-same 1 vs (item 2 v (items 3 ws done))
      ∙ ap (λ l. vs ++ l) (values-items_other 3 1 (λ e. omega arith) ws done)
      ∙ append-nil vs

  values_second : values 2 (threefold vs v ws) ≡ v ∷ []
  unfolding values
  values_second =
      values-items_other 1 2 (λ e. omega arith) vs (item 2 v (items 3 ws done))
      ∙ ap (λ l. v ∷ l) (values-items_other 3 2 (λ e. omega arith) ws done)

  values_third : values 3 (threefold vs v ws) ≡ ws
  unfolding values
  values_third = after_name 3 (λ e. omega arith) (λ e. omega arith) ∙ values-items-same 3 ws done ∙ append-nil ws

  values_other : (tag : ℕ) → (tag ≡ 1 → ⊥) → (tag ≡ 2 → ⊥) → (tag ≡ 3 → ⊥) → values tag (threefold vs v ws) ≡ []
  unfolding values
  values_other tag a b c = after_name tag a b ∙ values-items_other 3 tag c ws done

  threefold-ascends : Ascending 1 (threefold vs v ws)
  threefold-ascends = items-ascending 1 1 vs (item 2 v (items 3 ws done)) (lit≤ tt) (lit≤ tt, items-ascending 3 2 ws done (lit≤ tt) tt)

  threefold-whole : Whole (threefold vs v ws)
  threefold-whole = items-whole 1 vs (item 2 v (items 3 ws done)) (items-whole 3 ws done tt)

-- 2. What the leading ones are, and the group's

leading-first : (vs : List Bytes) (v : Bytes) (r : Run) → leading (items 1 vs (item 2 v r)) ≡ items 1 vs done
unfolding leading items
leading-first [] v r = refl
leading-first (x ∷ vs) v r = ap (item 1 x) (leading-first vs v r)

drop-last : (ws : List Bytes) → drop_field 3 (items 3 ws done) ≡ done
unfolding drop_field items
drop-last [] = refl
drop-last (x ∷ ws) = drop-last ws

bared-threefold : (vs : List Bytes) (v : Bytes) (ws : List Bytes) → set_field 2 [] (drop_field 3 (threefold vs v ws)) ≡ items 1 vs (item 2 [] done)
unfolding set_field drop_field items
bared-threefold [] v ws = ap (item 2 []) (drop-last ws)
bared-threefold (x ∷ vs) v ws = ap (item 1 x) (bared-threefold vs v ws)

items-bytes : (tag : ℕ) (vs : List Bytes) (r : Run) → bytes_of (items tag vs r) ≡ bytes_of (items tag vs done) ++ bytes_of r
unfolding bytes_of items
items-bytes tag [] r = refl
items-bytes tag (x ∷ vs) r =
    let front = tag ∷ bytes 2 (length x) ++ x in
    ap (λ s. front ++ s) (items-bytes tag vs r) ∙ sym (append_assoc front (bytes_of (items tag vs done)) (bytes_of r))

-- 3. A member's fields are such

no_later : {k : Kind} → Grouped k → (i : ℕ) → row_at (rows_of (shape_of stored k)) (suc (suc (suc (suc i)))) ≡ none
unfolding rows_of shape_of kind_number
no_later config i = refl
no_later quota i = refl

named : {k : Kind} → Grouped k → (r : Run) → fault stored k r ≡ 0 → values 2 r ≡ value 2 r ∷ []
unfolding rows_of shape_of kind_number
named config r ok = required_values stored BrokerConfig r ok 2 refl refl
named quota r ok = required_values stored ClientQuota r ok 2 refl refl

module _ {k : Kind} (g : Grouped k) (r : Run) (ok : fault stored k r ≡ 0) where
  abbrev same : Run
  same = threefold (values 1 r) (value 2 r) (values 3 r)

  same-values : (tag : ℕ) → values tag r ≡ values tag same
  same-values zero =
      no_row (fault-passing stored k r ok) 0 refl
      ∙ sym (values_other (values 1 r) (value 2 r) (values 3 r) 0 (λ e. omega arith) (λ e. omega arith) (λ e. omega arith))
  same-values (suc zero) = sym (values-first (values 1 r) (value 2 r) (values 3 r))
  same-values (suc (suc zero)) = named g r ok ∙ sym (values_second (values 1 r) (value 2 r) (values 3 r))
  same-values (suc (suc (suc zero))) = sym (values_third (values 1 r) (value 2 r) (values 3 r))
  same-values (suc (suc (suc (suc i)))) =
      no_row (fault-passing stored k r ok) (suc (suc (suc (suc i)))) (no_later g i)
      ∙ sym (values_other (values 1 r) (value 2 r) (values 3 r) (suc (suc (suc (suc i)))) (λ e. omega arith) (λ e. omega arith) (λ e. omega arith))

  member_run : r ≡ same
  member_run =
      run_ext 1 r same (fault-whole stored k r ok) (threefold-whole (values 1 r) (value 2 r) (values 3 r)) (fault-ascends stored k r ok)
      (threefold-ascends (values 1 r) (value 2 r) (values 3 r)) same-values

  -- the fields that it begins with
  abbrev first : Run
  first = items 1 (values 1 r) done

  leading_is : leading r ≡ first
  leading_is = ap leading member_run ∙ leading-first (values 1 r) (value 2 r) (items 3 (values 3 r) done)

  pub leading-whole : Whole (leading r)
  leading-whole = rw leading_is (items-whole 1 (values 1 r) done tt)

  -- the group has an empty name after them
  pub group_bytes : bytes_of (group_of (rec k r)).run ≡ bytes_of (leading r) ++ (2 ∷ 0 ∷ 0 ∷ [])
  unfolding group_of bytes_of
  group_bytes =
      ap (λ q. bytes_of (set_field 2 [] (drop_field 3 q))) member_run
      ∙ ap bytes_of (bared-threefold (values 1 r) (value 2 r) (values 3 r))
      ∙ items-bytes 1 (values 1 r) (item 2 [] done)
      ∙ ap (λ q. bytes_of q ++ (2 ∷ 0 ∷ 0 ∷ [])) (sym leading_is)

  -- and the member a name of its own
  pub leading-shorter : length (bytes_of (leading r)) + 3 ≤ length (bytes_of r)
  leading-shorter =
      let named = item 2 (value 2 r) (items 3 (values 3 r) done) in
      let all = ap (λ q. length (bytes_of q)) member_run ∙ ap length (items-bytes 1 (values 1 r) named) ∙ length-append (bytes_of first) (bytes_of named) in
      omega (arith, all, ap (λ q. length (bytes_of q)) leading_is, length_item 2 (value 2 r) (items 3 (values 3 r) done))

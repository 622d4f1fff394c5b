-- The indexes of a list: none, the prefixes' over them, the literal scopes' over these, and none for internal names. How many freezes are read.
use mathlib.Core.Path.{◌≡◌, refl, sym, ap, ◌∙◌}
use mathlib.Core.Bool.{Bool, true, false, cond}
use mathlib.Core.List.{List, [], ◌∷◌, ◌++◌}
use mathlib.Core.Option.{some}
use Prim.Native.Nat.{ℕ, ◌+◌, ◌*◌}
use native.Mathlib.Omega.{arith}
use lib.ListN.{length, drop, replicate}
use Rattle.model.specs.Choice.{joined}
use Rattle.model.specs.Number.{Bytes, bytes}
use Rattle.model.specs.Contents.{Entry, key}
use Rattle.model.specs.Lookup.{begins_with, internal, literal, prefixed, freeze_by, freeze}
use Rattle.model.specs.FreezeList.{no_freeze, freeze_index, last_name, freezes_read}
use Rattle.laws.specs.Map.{Asc}
use Rattle.laws_freezes.specs.Freezes.{last_at, prefix_test, literal_test, index_of_pass, read_walk, read-in_order}
use Rattle.names.specs.Lists.{last_or}
use Rattle.name_marks.specs.Marks.{fits_name, marked}
use Rattle.name_marks.specs.Laws.{marked-joined, filled}
use Rattle.lookup_freeze_list.specs.Passes.{passed}
use Rattle.lookup_freeze_list.proofs.Passes.{indexed, indexed-same, passed-joined}

-- 1. The last name

last_or_lem : (n : Bytes) (ns : List Bytes) → last_name (n ∷ ns) ≡ some (last_or n ns)
unfolding last_name last_or
last_or_lem n [] = refl
last_or_lem n (m ∷ ns) = last_or_lem m ns

pub last_name_lem : (names : List Bytes) {last : Bytes} {n : ℕ} → last_or [] names ≡ last → length names ≡ n → (n ≡ 0 → ⊥) → last_name names ≡ some last
unfolding last_or
last_name_lem [] e size some-names = absurd (some-names (sym size))
last_name_lem (m ∷ ns) e size some-names = last_or_lem m ns ∙ ap some e

-- 2. An empty list

pub no_names : (names : List Bytes) (l : List Entry) (out : Bytes) {n : ℕ} → length names ≡ n → n ≡ 0
    → (out ≡ joined (λ name. bytes 2 (freeze_index l name)) names ++ drop (2 * n) out) × (0 ≡ freezes_read names l)
unfolding freezes_read last_name
no_names [] l out size none = (rw none refl, refl)
no_names (m ∷ ns) l out size none = absurd (omega (arith, size, none))

-- 3. What is written

internal_index : (name : Bytes) (l : List Entry) → begins_with internal name ≡ true → no_freeze ≡ freeze_index l name
unfolding freeze_index freeze freeze_by
internal_index name l h = rw h refl

index_is : (name : Bytes) (l : List Entry) → Asc key l
    → cond (begins_with internal name) no_freeze (last_at (literal_test name) 0 (last_at (prefix_test name) 0 no_freeze l) l) ≡ freeze_index l name
index_is name l a = go (begins_with internal name) refl
  where
    go : (b : Bool) → begins_with internal name ≡ b
        → cond b no_freeze (last_at (literal_test name) 0 (last_at (prefix_test name) 0 no_freeze l) l) ≡ freeze_index l name
    go true h = internal_index name l h
    go false h = index_of_pass name l a h

module _ (names : List Bytes) (l : List Entry) (a : Asc key l) where
  pub indexes-written : {n : ℕ} (out : Bytes) {blank under over v : Bytes} → length names ≡ n → blank ≡ replicate (2 * n) 255 ++ drop (2 * n) out
      → under ≡ passed false names 0 l blank → over ≡ passed true names 0 l under → v ≡ marked (fits_name false internal) no_freeze names over
      → v ≡ joined (λ name. bytes 2 (freeze_index l name)) names ++ drop (2 * n) out
  indexes-written {n} out {blank} {under} {over} size e p q m =
      let t = drop (2 * n) out in
      let below : Bytes → ℕ = λ name. last_at (prefix_test name) 0 no_freeze l in
      let above : Bytes → ℕ = λ name. last_at (literal_test name) 0 (last_at (prefix_test name) 0 no_freeze l) l in
      let first : blank ≡ indexed false names t (λ name. no_freeze) = e ∙ ap (λ k. replicate (2 * k) 255 ++ t) (sym size) ∙ filled names t in
      let second : under ≡ indexed false names t below = p ∙ ap (passed false names 0 l) first ∙ passed-joined false names t 0 l (λ name. no_freeze) in
      let third : over ≡ indexed true names t above = q ∙ ap (passed true names 0 l) second ∙ passed-joined true names t 0 l below in
      m ∙ ap (marked (fits_name false internal) no_freeze names) third ∙ marked-joined (fits_name false internal) no_freeze above names t
      ∙ indexed-same true names t (λ name. cond (begins_with internal name) no_freeze (above name)) (freeze_index l) (λ name. index_is name l a)

  -- 4. How many are read

  pub all_read : {last : Bytes} {under over : ℕ} → last_name names ≡ some last → under ≡ read_walk prefixed last l → over ≡ read_walk literal last l
      → under + over ≡ freezes_read names l
  unfolding freezes_read
  all_read {last} is p q = rw is (omega (arith, p, q, read-in_order prefixed last l a, read-in_order literal last l a))

-- An index names the single lookup's freeze, and none is hex FFFF: an image has fewer freezes than bytes.
use Rattle.std.specs.Prelude.{◌≡◌, Bool, length}
use Rattle.std.proofs.Math.Path.{refl}
use Rattle.std.proofs.Common.{sym, ap, ◌∙◌, arith}
use Rattle.std.proofs.Math.Bool.{true, false, cond}
use mathlib.Core.List.{List, [], ◌∷◌, ◌++◌}
use Rattle.std.proofs.Math.Option.{Option, none, some}
use Prim.Native.Nat.{ℕ, zero, suc, ◌+◌, ◌≤◌, ◌<◌, Ordering}
use Rattle.model.specs.Choice.{given, or_else, choose, total}
use Rattle.model.specs.Number.{Bytes}
use Rattle.model.specs.Order.{Key, compare_keys}
use Rattle.model.specs.Record.{Rec, record_bytes}
use Rattle.model.specs.Key.{rank, key_rank, freeze_key}
use Rattle.model.specs.Map.{get, count, keep}
use Rattle.model.specs.Contents.{Entry, returned, key, record_key}
use Rattle.model.specs.Image.{contents_of}
use Rattle.model.specs.Lookup.{begins_with, internal, prefixed, literal, longest_by, freeze_by, freeze, returned_at}
use Rattle.model.specs.FreezeList.{is_freeze, freeze_before, no_freeze, freeze_index, stored_freezes, element_at, IndexNamesFreeze, IndexesApart}
use Rattle.laws.specs.Choice.{impossible}
use Rattle.laws.specs.Order.{keys_total, gt_lt}
use Rattle.laws.specs.Map.{Asc, get_in}
use Rattle.laws_image.specs.Groups.{key-returned}
use Rattle.laws_image.specs.Orderly.{orderly}
use Rattle.laws_image.specs.Tests.{capacity-most}
use Rattle.laws_image.specs.Exact.{image_fits}
use Rattle.laws_image.specs.Weight.{stored_size, length-entries, used_fits}
use Rattle.laws_freezes.specs.Freezes.{before_self, before-lt, none_before}

-- 1. How many there are

-- an entry has a byte at least, its kind
count-size : (l : List Entry) → count key is_freeze l ≤ total stored_size l
unfolding count total record_bytes
count-size [] = omega arith
count-size (e ∷ l) = go (is_freeze (key e)) (count-size l)
  where
    go : (b : Bool) → count key is_freeze l ≤ total stored_size l → cond b (suc (count key is_freeze l)) (count key is_freeze l) ≤ stored_size e + total stored_size l
    go true h = omega arith
    go false h = omega arith

pub indexes_apart : IndexesApart
indexes_apart image bytes is =
    let f = image_fits image bytes is in
    let c = contents_of image in
    omega (arith, count-size c.real, length-entries c, used_fits (length image) c f, capacity-most (length image) f.within)

-- 2. Where each stands

pub stands_at : (k : Key) (e : Entry) (l : List Entry) → Asc key l → get key k l ≡ some e → is_freeze k ≡ true
    → element_at (count key (freeze_before k) l) (stored_freezes l) ≡ some e
unfolding get count keep element_at
stands_at k e [] a q f = impossible cc
stands_at k e (x ∷ l) a q f = go (compare_keys k (key x)) refl q (λ h. stands_at k e l a.1 h f)
  where
    behind : (b : Bool) → element_at (count key (freeze_before k) l) (stored_freezes l) ≡ some e
        → element_at (cond b (suc (count key (freeze_before k) l)) (count key (freeze_before k) l)) (cond b (x ∷ stored_freezes l) (stored_freezes l)) ≡ some e
    behind true h = h
    behind false h = h

    go : (o : Ordering) → compare_keys k (key x) ≡ o → choose o none (some x) (get key k l) ≡ some e
        → (get key k l ≡ some e → element_at (count key (freeze_before k) l) (stored_freezes l) ≡ some e)
        → element_at (cond (freeze_before k (key x)) (suc (count key (freeze_before k) l)) (count key (freeze_before k) l))
        (cond (is_freeze (key x)) (x ∷ stored_freezes l) (stored_freezes l)) ≡ some e
    go Ordering.lt p h i = impossible cc
    go Ordering.eq p h i =
        let s = keys_total.eqv k (key x) p in
        rw (← s, before_self k, f, ap (λ j. count key (freeze_before j) l) s ∙ none_before (key x) l a.0) h
    go Ordering.gt p h i = rw (before-lt (key x) k (record { is = gt_lt keys_total k (key x) p })) (behind (is_freeze (key x)) (i h))

past_end : (n : ℕ) (l : List Entry) → count key is_freeze l ≤ n → element_at n (stored_freezes l) ≡ none
unfolding count keep element_at
past_end n [] h = refl
past_end n (e ∷ l) h = go (is_freeze (key e)) n h (λ m. past_end m l)
  where
    go : (b : Bool) (n : ℕ) → cond b (suc (count key is_freeze l)) (count key is_freeze l) ≤ n
        → ((m : ℕ) → count key is_freeze l ≤ m → element_at m (stored_freezes l) ≡ none)
        → element_at n (cond b (e ∷ stored_freezes l) (stored_freezes l)) ≡ none
    go true zero h i = absurd (omega arith)
    go true (suc n) h i = i n (omega arith)
    go false n h i = i n h

-- 3. What a lookup finds is a stored freeze

abbrev Stored : List Entry → Rec → Type 0
Stored l r = (e : Entry) × (k : Key) × (get key k l ≡ some e) × (is_freeze k ≡ true) × (returned e ≡ r)

module _ (l : List Entry) where
  at_key : (pattern s : Bytes) (r : Rec) → returned_at (freeze_key pattern s) l ≡ some r → Stored l r
  unfolding key_rank rank
  at_key pattern s r h = go (get key (freeze_key pattern s) l) refl h
    where
      go : (o : Option Entry) → get key (freeze_key pattern s) l ≡ o → given o none (λ e. some (returned e)) ≡ some r → Stored l r
      go none q h = impossible cc
      go (some e) q h = (e, freeze_key pattern s, q, refl, cc)

  of_longest : (before rest : Bytes) (r : Rec) → longest_by (λ s. returned_at (freeze_key prefixed s) l) before rest ≡ some r → Stored l r
  unfolding longest_by
  of_longest before [] r h = at_key prefixed before r h
  of_longest before (b ∷ rest) r h =
      go (longest_by (λ s. returned_at (freeze_key prefixed s) l) (before ++ (b ∷ [])) rest) h (of_longest (before ++ (b ∷ [])) rest r)
    where
      go : (o : Option Rec) → or_else o (returned_at (freeze_key prefixed before) l) ≡ some r → (o ≡ some r → Stored l r) → Stored l r
      go none h i = at_key prefixed before r h
      go (some x) h i = i h

  of_freeze : (name : Bytes) (r : Rec) → freeze name l ≡ some r → Stored l r
  unfolding freeze freeze_by
  of_freeze name r h = go (begins_with internal name) (returned_at (freeze_key literal name) l) refl h
    where
      go : (b : Bool) (o : Option Rec) → returned_at (freeze_key literal name) l ≡ o
          → cond b none (or_else o (longest_by (λ s. returned_at (freeze_key prefixed s) l) [] name)) ≡ some r → Stored l r
      go true o q h = impossible cc
      go false none q h = of_longest [] name r h
      go false (some x) q h = at_key literal name r (q ∙ h)

-- 4. Together

pub index_names : (name : Bytes) (l : List Entry) → Asc key l → count key is_freeze l < no_freeze
    → freeze name l ≡ given (element_at (freeze_index l name) (stored_freezes l)) none (λ e. some (returned e))
unfolding freeze_index
index_names name l a few = go (freeze name l) refl
  where
    go : (o : Option Rec) → freeze name l ≡ o
        → o ≡ given (element_at (given o no_freeze (λ r. count key (freeze_before (record_key r)) l)) (stored_freezes l)) none (λ e. some (returned e))
    go none q = rw (past_end no_freeze l (omega arith)) refl
    go (some r) q =
        let s = of_freeze l name r q in
        let e = s.0 in
        let k = s.1 in
        let same : record_key r ≡ k = ap record_key (sym s.4) ∙ sym (key-returned e) ∙ (get_in key k l e s.2).1 in
        rw (same, stands_at k e l a s.2 s.3, s.4) refl

pub index_names-freeze : IndexNamesFreeze
index_names-freeze image bytes is name =
    let f = image_fits image bytes is in
    index_names name (contents_of image).real (orderly (contents_of image) f.orderly).ascends (indexes_apart image bytes is)

-- How long an image's records can be, and how many there are.
use Rattle.std.specs.Prelude.{◌≡◌, refl, Bool, true, false, cond, List, [], ◌∷◌, ◌++◌, ℕ, suc, ◌+◌, ◌≤◌, length}
use Rattle.std.proofs.Common.{append-nil, arith}
use Rattle.std.proofs.Math.Option.{Option, none, some}
use Rattle.model.specs.Choice.{given, or_else, joined, total}
use Rattle.model.specs.Number.{Bytes}
use Rattle.model.specs.Shape.{Source, logged, fault}
use Rattle.model.specs.Record.{Rec, record_bytes}
use Rattle.model.specs.Order.{Key}
use Rattle.model.specs.Key.{freeze_key}
use Rattle.model.specs.Map.{get}
use Rattle.model.specs.Contents.{Entry, returned, kept, key, names_id, Contents}
use Rattle.model.specs.Image.{most_capacity}
use Rattle.model.specs.Lookup.{found, named_by, literal, prefixed, begins_with, internal, longest_by, freeze_by, returned_at, freeze, as_list, is_short, short_count}
use Rattle.laws.specs.Lists.{All, all_imp, all_both, in_all}
use Rattle.laws.specs.Map.{get_in}
use Rattle.laws_records.specs.Lengths.{longest_body}
use Rattle.laws_records.specs.Faults.{fault-length}
use Rattle.laws_records.specs.Records.{length_record}
use Rattle.laws_image.specs.Fits.{Proper, Fits}
use Rattle.laws_image.specs.Orderly.{Storable, orderly}
use Rattle.laws_image.specs.Snapshot.{returned_passes}
use Rattle.laws_image.specs.Tests.{capacity-most}
use Rattle.laws_image.specs.Weight.{stored_size, length-entries, used_fits}

-- 1. A record

abbrev pub longest_record : ℕ
longest_record = 3 + longest_body

abbrev pub Short : Rec → Type 0
Short r = length (record_bytes r) ≤ longest_record

pub record-short : (source : Source) (r : Rec) → fault source r.kind r.run ≡ 0 → Short r
record-short source r ok = omega (arith, length_record r, fault-length source r.kind r.run ok)

-- 2. The entries

abbrev pub ShownShort : Entry → Type 0
ShownShort e = Short (returned e)

-- each takes a byte at least
entries-take : (l : List Entry) → length l ≤ total stored_size l
unfolding total
entries-take [] = omega arith
entries-take (e ∷ l) = omega (arith, entries-take l, length_record (kept e))

module _ (capacity : ℕ) (c : Contents) (f : Fits capacity c) where
  pub entries-short : All ShownShort c.real
  entries-short =
      all_imp (λ e. Storable e × Proper e) ShownShort (λ e p. record-short logged (returned e) (returned_passes e p.0 p.1).0) c.real
      (all_both Storable Proper c.real (orderly c f.orderly).storables f.entries)

  pub entries_few : length c.real ≤ most_capacity
  entries_few = omega (arith, entries-take c.real, length-entries c, used_fits capacity c f, capacity-most capacity f.within)

-- 3. What a lookup finds

abbrev FoundShort : Option Entry → Type 0
FoundShort none = Unit {0}
FoundShort (some e) = ShownShort e

abbrev pub MaybeShort : Option Rec → Type 0
MaybeShort none = Unit {0}
MaybeShort (some r) = Short r

pub list_short : (o : Option Rec) → MaybeShort o → length (joined record_bytes (as_list o)) ≤ longest_record
list_short none h = omega arith
list_short (some r) h = rw (append-nil (record_bytes r)) h

pub found-short : (o : Option Entry) → FoundShort o → length (joined record_bytes (found o)) ≤ longest_record
found-short none h = omega arith
found-short (some e) h = rw (append-nil (record_bytes (returned e))) h

either_short : (a b : Option Rec) → MaybeShort a → MaybeShort b → MaybeShort (or_else a b)
either_short none b p q = q
either_short (some r) b p q = p

longest-short : (find : Bytes → Option Rec) → ((scope : Bytes) → MaybeShort (find scope)) → (before name : Bytes)
    → MaybeShort (longest_by find before name)
unfolding longest_by
longest-short find h before [] = h before
longest-short find h before (b ∷ name) =
    let longer = before ++ (b ∷ []) in
    either_short (longest_by find longer name) (find before) (longest-short find h longer name) (h before)

module _ (l : List Entry) (short : All ShownShort l) where
  pub get-short : (k : Key) → FoundShort (get key k l)
  get-short k = go (get key k l) refl
    where
      go : (o : Option Entry) → get key k l ≡ o → FoundShort o
      go none e = tt
      go (some x) e = in_all ShownShort l short x (get_in key k l x e).0

  returned-short : (k : Key) → MaybeShort (returned_at k l)
  returned-short k = go (get key k l) (get-short k)
    where
      go : (o : Option Entry) → FoundShort o → MaybeShort (given o none (λ e. some (returned e)))
      go none h = tt
      go (some e) h = h

  pub freeze-short : (name : Bytes) → MaybeShort (freeze name l)
  unfolding freeze freeze_by
  freeze-short name = go (begins_with internal name)
    where
      find : Bytes → Bytes → Option Rec
      find pattern scope = returned_at (freeze_key pattern scope) l

      found_at : (pattern scope : Bytes) → MaybeShort (find pattern scope)
      found_at pattern scope = returned-short (freeze_key pattern scope)

      go : (b : Bool) → MaybeShort (cond b none (or_else (find literal name) (longest_by (find prefixed) [] name)))
      go true = tt
      go false =
          either_short (find literal name) (longest_by (find prefixed) [] name) (found_at literal name)
          (longest-short (find prefixed) (found_at prefixed) [] name)

pub named-short : (id : Bytes) (l : List Entry) → All ShownShort l → FoundShort (named_by id l)
unfolding named_by
named-short id [] u = tt
named-short id (e ∷ l) u = go (names_id id e) (named-short id l u.1)
  where
    go : (b : Bool) → FoundShort (named_by id l) → FoundShort (cond b (some e) (named_by id l))
    go true h = u.0
    go false h = h

-- 4. Short partitions

pub short_few : (l : List Entry) → short_count l ≤ length l
unfolding short_count
short_few [] = omega arith
short_few (e ∷ l) = go (is_short e) (short_few l)
  where
    go : (b : Bool) → short_count l ≤ length l → cond b (suc (short_count l)) (short_count l) ≤ suc (length l)
    go true h = omega arith
    go false h = omega arith

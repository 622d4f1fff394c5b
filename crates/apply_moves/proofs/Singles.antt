-- One entry put in its place, or taken out.
use mathlib.Core.Path.{◌≡◌, sym, ap, ◌∙◌, subst}
use mathlib.Core.Bool.{Bool, true, false}
use mathlib.Core.List.{[], ◌∷◌, map}
use Prim.Native.Nat.{ℕ, ◌+◌, ◌≤◌}
use native.Mathlib.Omega.{arith}
use lib.ListN.{length}
use Rattle.model.specs.Number.{Bytes}
use Rattle.model.specs.Order.{Key}
use Rattle.model.specs.Record.{Rec}
use Rattle.model.specs.Map.{put, remove}
use Rattle.model.specs.Contents.{kept, record_key, storable}
use Rattle.model.specs.Image.{entry_of}
use Rattle.model.specs.Move.{Move, put_m, drop_m, set_or_drop, on_real, on_empties}
use Rattle.keys.specs.Keys.{key_in}
use Rattle.entries.specs.Entries.{IsRecord, record_in}
use Rattle.entries.proofs.Changes.{record-in, key_in_lem}
use Rattle.image_entries.specs.Stored.{storable_record}
use Rattle.apply_work.specs.Work.{reals_in, groups_in, Good, most_record, Made}
use Rattle.apply_work.specs.declared.Bounds.{Bounds}
use Rattle.apply_work.proofs.Entries.{entries-put, entries-remove, entry_plain}
use Rattle.apply_work.proofs.Made.{record-size, made_one}
use Rattle.apply_moves.specs.Moves.{IsPlain}

pub plain_kept : (r : Rec) → IsPlain r → kept (entry_of r) ≡ r
unfolding kept
plain_kept r p = rw (entry_plain r p.no_topic p.no_partition)

-- where a record is neither a topic nor a partition, what Apply stores is said by its kind and fields
plain_storable : (r : Rec) → IsPlain r → storable_record r ≡ storable r.kind r.run
plain_storable r p = rw (p.no_topic, p.no_partition)

module _ {w v : Bytes} {bounds r : Bounds} where
  -- the record's entry in its key's place
  pub made-put : (x : Rec) → IsPlain x → (n : ℕ) → n ≤ most_record
      → Good v r × (reals_in v r ≡ put record_key x (reals_in w bounds)) × (groups_in v r ≡ groups_in w bounds) × (r.used ≤ bounds.used + n)
      → Made (put_m x ∷ []) w bounds v r
  unfolding on_real on_empties
  made-put x p n few h =
      made_one (put_m x) h.0
      (ap (map entry_of) h.1 ∙ entries-put x (reals_in w bounds) ∙ rw (entry_plain x p.no_topic p.no_partition)) h.2 (omega (arith, h.3))

  pub made-drop : (k : Key)
      → Good v r × (reals_in v r ≡ remove record_key k (reals_in w bounds)) × (groups_in v r ≡ groups_in w bounds) × (r.used ≤ bounds.used)
      → Made (drop_m k ∷ []) w bounds v r
  unfolding on_real on_empties
  made-drop k h = made_one (drop_m k) h.0 (ap (map entry_of) h.1 ∙ entries-remove k (reals_in w bounds)) h.2 (omega (arith, h.3))

-- the move that `set` makes
abbrev pub set_move : Rec → Move
set_move x = set_or_drop (storable x.kind x.run) x

chosen : (x : Rec) → IsPlain x → {b : Bool} → b ≡ storable_record x → set_or_drop b x ≡ set_move x
chosen x p e = ap (λ t. set_or_drop t x) (e ∙ plain_storable x p)

module _ {w v : Bytes} {bounds r : Bounds} (s : Bytes) (i : IsRecord s) (p : IsPlain (record_in s)) {b : Bool} (e : b ≡ storable_record (record_in s)) where
  pub set-put : b ≡ true
      → Good v r × (reals_in v r ≡ put record_key (record_in s) (reals_in w bounds)) × (groups_in v r ≡ groups_in w bounds) × (r.used ≤ bounds.used + length s)
      → Made (set_move (record_in s) ∷ []) w bounds v r
  set-put t h =
      subst (λ m. Made (m ∷ []) w bounds v r) (ap (λ x. set_or_drop x (record_in s)) (sym t) ∙ chosen (record_in s) p e)
      (made-put (record_in s) p (length s) (record-size s i) h)

  pub set-drop : b ≡ false
      → Good v r × (reals_in v r ≡ remove record_key (key_in s) (reals_in w bounds)) × (groups_in v r ≡ groups_in w bounds) × (r.used ≤ bounds.used)
      → Made (set_move (record_in s) ∷ []) w bounds v r
  set-drop t h =
      let k : key_in s ≡ record_key (record_in s) = key_in_lem s i ∙ ap record_key (sym (record-in s i)) in
      subst (λ m. Made (m ∷ []) w bounds v r) (ap (λ x. set_or_drop x (record_in s)) (sym t) ∙ chosen (record_in s) p e)
      (made-drop (record_key (record_in s)) (rw k at h))

-- a probe's key
pub probe_drop : {w v : Bytes} {bounds r : Bounds} (q : Bytes) {k : Key} → key_in q ≡ k
    → Good v r × (reals_in v r ≡ remove record_key (key_in q) (reals_in w bounds)) × (groups_in v r ≡ groups_in w bounds) × (r.used ≤ bounds.used)
    → Made (drop_m k ∷ []) w bounds v r
probe_drop q {k} e h = made-drop k (rw e at h)

-- What a viewer's snapshot writes: the records that it sees of the real entries, or nothing where they do not fit.
use mathlib.Core.Path.{◌≡◌, refl, sym, ap, ◌∙◌}
use mathlib.Core.Bool.{Bool, true, false, cond}
use mathlib.Core.List.{List, [], ◌∷◌, ◌++◌, map}
use Prim.Native.Nat.{ℕ, zero, suc, ◌-◌}
use lib.ListN.{take, drop}
use Rattle.model.specs.Choice.{joined}
use Rattle.model.specs.Number.{Bytes}
use Rattle.model.specs.Record.{Rec, record_bytes}
use Rattle.model.specs.Map.{keep}
use Rattle.model.specs.Contents.{Entry, key, returned, record_key}
use Rattle.model.specs.Image.{head_size, entry_of, contents_of}
use Rattle.model.specs.Reply.{Reply, refused}
use Rattle.model.specs.Snapshot.{emit}
use Rattle.model.specs.Lookup.{named}
use Rattle.model.specs.View.{is_seen, view_records, prefixes_in, viewer_fault, view_snapshot_of}
use Rattle.laws_image.specs.Entries.{entry_key}
use Rattle.entries.specs.Entries.{records_in}
use Rattle.find.specs.Found.{AllKept}
use Rattle.find.specs.Returned.{returned_bytes}
use Rattle.find.specs.Reals.{Reals}
use Rattle.find.proofs.Records.{record-returned}
use Rattle.find.proofs.Lent.{lent-kept, lent-held}
use Rattle.view_snapshot.specs.Seen.{seen_bytes, seen_in}

-- the records that are seen, by the bytes of the entries
seen_bytes_lem : (ps : List Bytes) (l : List Rec) → AllKept l → joined record_bytes (view_records ps (map entry_of l)) ≡ joined (seen_bytes ps) l
unfolding view_records keep
seen_bytes_lem ps [] k = refl
seen_bytes_lem ps (r ∷ l) k = go (is_seen ps (record_key r)) (ap (is_seen ps) (entry_key r)) (seen_bytes_lem ps l k.1)
  where
    go : (b : Bool) → is_seen ps (key (entry_of r)) ≡ b → joined record_bytes (map returned (keep key (is_seen ps) (map entry_of l))) ≡ joined (seen_bytes ps) l
        → joined record_bytes (map returned (cond (is_seen ps (key (entry_of r))) (entry_of r ∷ keep key (is_seen ps) (map entry_of l)) (keep key (is_seen ps) (map entry_of l))))
        ≡ cond b (returned_bytes (record_bytes r)) [] ++ joined (seen_bytes ps) l
    go true e i = rw (e, i, record-returned r k.0) refl
    go false e i = rw (e, i) refl

module _ (image : Bytes) {end : ℕ} (r : Reals image end) (ps : List Bytes) where
  pub all-bytes : joined record_bytes (view_records ps (contents_of image).real) ≡ seen_in ps (take (end - head_size) (drop head_size image))
  all-bytes =
      ap (λ l. joined record_bytes (view_records ps l)) (sym (lent-held image r))
      ∙ seen_bytes_lem ps (records_in (take (end - head_size) (drop head_size image))) (lent-kept image r)

-- the exits
module _ (image list out : Bytes) {f : ℕ} (ef : f ≡ viewer_fault image list) where
  pub viewer_refused : (f ≡ 0 → ⊥) → (refused f ≡ (view_snapshot_of image list out).reply) × (out ≡ (view_snapshot_of image list out).buffer)
  unfolding view_snapshot_of
  viewer_refused wrong = rw (← ef) (go f wrong)
    where
      go : (n : ℕ) → (n ≡ 0 → ⊥)
          → (refused n ≡ (named n (view_records (prefixes_in list) (contents_of image).real) out).reply) × (out ≡ (named n (view_records (prefixes_in list) (contents_of image).real) out).buffer)
      go zero w = absurd (w refl)
      go (suc n) w = (refl, refl)

  pub said : f ≡ 0 → {x : Reply} {v : Bytes}
      → (x ≡ (emit (view_records (prefixes_in list) (contents_of image).real) out).reply) × (v ≡ (emit (view_records (prefixes_in list) (contents_of image).real) out).buffer)
      → (x ≡ (view_snapshot_of image list out).reply) × (v ≡ (view_snapshot_of image list out).buffer)
  unfolding view_snapshot_of
  said z q = rw (sym ef ∙ z) q

-- What a snapshot's answer says of its output: what it wrote is there, and a refusal is no 0.
use mathlib.Core.Path.{◌≡◌, sym, ap}
use mathlib.Core.Bool.{Bool, true, false, cond}
use mathlib.Core.List.{[], ◌∷◌, ◌++◌}
use Prim.Native.Nat.{ℕ, ◌≤◌}
use native.Mathlib.Omega.{arith}
use lib.Dec.{leb}
use lib.ListN.{length, drop, length-append}
use Rattle.model.specs.Choice.{joined}
use Rattle.model.specs.Number.{Bytes}
use Rattle.model.specs.Image.{is_image, contents_of}
use Rattle.model.specs.Reply.{Reply, accepted, refused, unchanged, emit_bytes}
use Rattle.model.specs.Record.{record_bytes}
use Rattle.model.specs.Snapshot.{emit, snapshot, snapshot_of}
use Rattle.laws_records.specs.Emits.{emits, not_refused}

module _ (image own : Bytes) where
  abbrev whole : Bytes
  whole = joined record_bytes (snapshot (contents_of image))

  -- the bytes that it wrote are in its output
  pub written_fits : (n : ℕ) (o : Bytes) → accepted (n ∷ []) ≡ (snapshot_of image own).reply → o ≡ (snapshot_of image own).buffer → n ≤ length o
  unfolding snapshot_of emit
  written_fits n o e f = rw f (go (is_image image) e)
    where
      go : (b : Bool) → accepted (n ∷ []) ≡ (cond b (emit (snapshot (contents_of image)) own) (unchanged 1 own)).reply
          → n ≤ length (cond b (emit (snapshot (contents_of image)) own) (unchanged 1 own)).buffer
      go true h = let m = emits _ own n (sym h) in rw m.buffer (simp length-append (omega (arith, m.size)))
      go false h = absurd (not_refused 0 (n ∷ []) (sym h))

  -- a refusal's number is not 0: what is accepted says how many bytes it wrote
  emitted : (n : ℕ) (b : Bool)
      → refused n ≡ (cond b (record { reply = accepted (length whole ∷ []); buffer = whole ++ drop (length whole) own }) (unchanged 19 own)).reply
      → n ≡ 0 → ⊥
  emitted n true q h = let z : ◌≡◌ {A = ℕ} 0 1 = ap (λ (r : Reply). length r.values) q in omega arith
  emitted n false q h = let z : n ≡ 19 = ap (λ (r : Reply). r.number) q in omega arith

  pub refusal_counts : (n : ℕ) → refused n ≡ (snapshot_of image own).reply → n ≡ 0 → ⊥
  unfolding snapshot_of emit emit_bytes
  refusal_counts n e h = go (is_image image) e
    where
      go : (b : Bool) → refused n ≡ (cond b (emit_bytes whole own) (unchanged 1 own)).reply → ⊥
      go true q = emitted n (leb (length whole) (length own)) q h
      go false q = let z : n ≡ 1 = ap (λ (r : Reply). r.number) q in omega arith

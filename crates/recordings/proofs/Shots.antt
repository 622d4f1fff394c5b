-- The snapshot of an image in an array that has room for any, and whether two are the same apart from the offset.
use mathlib.Core.Path.{◌≡◌, refl, ap, ◌∙◌}
use mathlib.Core.Bool.{Bool}
use mathlib.Core.List.{List, [], ◌∷◌, ◌++◌, append_assoc}
use Prim.Native.Nat.{ℕ, ◌+◌, ◌-◌, ◌≤◌}
use native.Mathlib.Omega.{arith}
use borrow.Author.Tests.{le-leb}
use lib.ListN.{length, take, drop, length-append}
use lib.Seq.{take_at, drop_at}
use Rattle.model.specs.Choice.{joined}
use Rattle.model.specs.Number.{Bytes}
use Rattle.model.specs.Order.{same_bytes}
use Rattle.model.specs.Run.{bytes_of}
use Rattle.model.specs.Record.{record_bytes}
use Rattle.model.specs.Contents.{Contents}
use Rattle.model.specs.Image.{contents_of}
use Rattle.model.specs.Reply.{accepted, refused, emit_bytes}
use Rattle.model.specs.Snapshot.{offset_rec, offset_size, body, snapshot, emit}
use Rattle.laws.specs.Choice.{impossible}
use Rattle.laws_image.specs.Tests.{image_holds, capacity-most}
use Rattle.laws_image.specs.Exact.{image_fits}
use Rattle.laws_image.specs.Snapshot.{snapshot_fits}
use Rattle.model.specs.Recordings.{same_snapshots}
use Rattle.recordings.specs.Turns.{Sound, Shot}

offset_long : (n : ℕ) → length (record_bytes (offset_rec n)) ≡ offset_size
unfolding record_bytes bytes_of
offset_long n = refl

-- behind the offset's record is the rest
behind : (c : Contents) → joined record_bytes (snapshot c) ≡ record_bytes (offset_rec c.fixed.offset) ++ joined record_bytes (body c)
unfolding snapshot
behind c = refl

module _ (image out : Bytes) (sound : Sound image) (room : length out ≡ 65536) where
  abbrev all : Bytes
  all = joined record_bytes (snapshot (contents_of image))

  abbrev first : Bytes
  first = record_bytes (offset_rec (contents_of image).fixed.offset)

  abbrev rest : Bytes
  rest = joined record_bytes (body (contents_of image))

  all_fits : length all ≤ length out
  all_fits =
      omega (
        arith,
        room,
        snapshot_fits (length image) (contents_of image) (image_fits image sound.are_bytes sound.is),
        capacity-most (length image) (image_holds image sound.is).within,
      )

  all_long : length all ≡ offset_size + length rest
  all_long = ap length (behind (contents_of image)) ∙ length-append first rest ∙ ap (λ n. n + length rest) (offset_long (contents_of image).fixed.offset)

  emitted : emit (snapshot (contents_of image)) out ≡ record { reply = accepted (length all ∷ []); buffer = all ++ drop (length all) out }
  unfolding emit emit_bytes
  emitted = rw (le-leb (length all) (length out) all_fits) refl

  pub shot : {n : ℕ} {v : Bytes} → accepted (n ∷ []) ≡ (emit (snapshot (contents_of image)) out).reply → v ≡ (emit (snapshot (contents_of image)) out).buffer
      → Shot image v n
  shot {n} {v} e q = record { least = omega (arith, long, all_long); most = omega (arith, long, whole); is = is }
    where
      long : n ≡ length all
      long = let p : ◌≡◌ {A = List ℕ} (n ∷ []) (length all ∷ []) = ap (λ x. x.values) (e ∙ ap (λ x. x.reply) emitted) in cc

      tail : Bytes
      tail = drop (length all) out

      written : v ≡ all ++ tail
      written = q ∙ ap (λ x. x.buffer) emitted

      whole : length v ≡ length all + length tail
      whole = ap length written ∙ length-append all tail

      parts : v ≡ first ++ (rest ++ tail)
      parts = written ∙ ap (λ x. x ++ tail) (behind (contents_of image)) ∙ append_assoc first rest tail

      is : take (n - offset_size) (drop offset_size v) ≡ rest
      is =
          ap (λ x. take (n - offset_size) (drop offset_size x)) parts
          ∙ ap (take (n - offset_size)) (drop_at first (rest ++ tail) offset_size (offset_long (contents_of image).fixed.offset))
          ∙ take_at rest tail (n - offset_size) (omega (arith, long, all_long))

  pub no_shot : {A : Type 0} {n : ℕ} → refused n ≡ (emit (snapshot (contents_of image)) out).reply → A
  no_shot e = let p : ◌≡◌ {A = List ℕ} [] (length all ∷ []) = ap (λ x. x.values) (e ∙ ap (λ x. x.reply) emitted) in impossible cc

pub same_shots : (first second x y : Bytes) {n m : ℕ} → Shot first x n → Shot second y m
    → {r : Bool} → r ≡ same_bytes (take (n - offset_size) (drop offset_size x)) (take (m - offset_size) (drop offset_size y))
    → r ≡ same_snapshots (contents_of first) (contents_of second)
unfolding same_snapshots
same_shots first second x y {n} {m} s t e = rw (← s.is, ← t.is) e

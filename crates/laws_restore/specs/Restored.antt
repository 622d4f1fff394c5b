-- A snapshot, applied to the fresh contents, makes the restored ones: 01's "restored image".
use Rattle.std.specs.Prelude.{◌≡◌, Bool, eqb, length}
use Rattle.std.proofs.Math.Path.{refl, ap}
use Rattle.std.proofs.Common.{sym, ◌∙◌, arith, eqb-true}
use mathlib.Core.List.{List, [], ◌∷◌, ◌++◌, map, append_assoc, append-nil}
use Rattle.std.proofs.Math.Bool.{true, false, cond}
use Prim.Native.Nat.{ℕ, ◌+◌, ◌≤◌, ◌<◌}
use Rattle.model.specs.Choice.{joined, total}
use Rattle.model.specs.Number.{Bytes, bytes, span, half, is_negative}
use Rattle.model.specs.Run.{done, item, field}
use Rattle.model.specs.Kind.{kind_number}
use Rattle.model.specs.Shape.{logged, framed, fault}
use Rattle.model.specs.Record.{Rec, rec, record_bytes}
use Rattle.model.specs.Items.{items_of}
use Rattle.model.specs.Map.{count}
use Rattle.model.specs.Reply.{accepted}
use Rattle.model.specs.Contents.{Entry, returned, key, Fixed, Contents, fresh, dated, fixed_room, size, weight}
use Rattle.model.specs.Image.{most_capacity, image_of}
use Rattle.model.specs.Move.{on_real, on_empties, on_fixed, move, moves, plan, moved, overflows}
use Rattle.model.specs.Apply.{becomes, apply}
use Rattle.model.specs.Snapshot.{epoch_records, kraft_records, trail, body, snapshot, replay_run, restore_of, levels, less_one, restored_epoch, restored}
use Rattle.model.specs.declared.Kind.TheVariants.{FeaturesEpoch, KRaftVersion}
use Rattle.laws.specs.Lists.{All, all_imp, total-append}
use Rattle.laws.specs.Map.{Asc, asc_under}
use Rattle.laws.specs.Numbers.{number_bytes_lem}
use Rattle.laws_records.specs.Items.{AllPass}
use Rattle.laws_image.specs.Fits.{Proper, Fits}
use Rattle.laws_image.specs.Orderly.{Storable, orderly}
use Rattle.laws_image.specs.Tests.{capacity-most}
use Rattle.laws_image.specs.Snapshot.{Loggable, body_passes}
use Rattle.laws_restore.specs.Replay.{replay_records, replay-cons, replay-after, replay-dated}
use Rattle.laws_restore.specs.Settled.{settled}
use Rattle.laws_restore.specs.Weight.{weight-settled, levels-total}
use Rattle.laws_restore.specs.Steps.{apply_fits, apply-more}

-- 1. The entries' records, one after the other

module _ (capacity : ℕ) (most : capacity ≤ most_capacity) (o : ℕ) where
  pub replay-entries : (l m : List Entry) (rs : List Rec) → Asc key (l ++ m) → All Storable m → All Proper m
      → fixed_room + total size (l ++ m) ≤ capacity
      → replay_records capacity (map returned m ++ rs) (settled o l) ≡ replay_records capacity rs (settled o (l ++ m))
  unfolding total
  replay-entries l [] rs a s p w = rw (append-nil l)
  replay-entries l (e ∷ m) rs a s p w =
      let next = l ++ (e ∷ []) in
      let again : next ++ m ≡ l ++ (e ∷ m) = append_assoc l (e ∷ []) m in
      let all = total-append size l (e ∷ m) in
      let some = total-append size l (e ∷ []) in
      let few : levels l < half 8 = omega (arith, levels-total l) in
      let one = apply-more capacity o l e s.0 p.0 (asc_under key l e m a) few (omega (arith, weight-settled o next)) in
      replay-cons capacity (returned e) (map returned m ++ rs) (settled o l) (settled o next) one
      ∙ replay-entries next m rs (rw again a) s.1 p.1 (rw again w)
      ∙ rw again

-- 2. The fixed parts' records: each sets its part, and nothing else

abbrev pub with_fixed : Fixed → Contents → Contents
with_fixed f c = record { real = c.real; empties = c.empties; fixed = f }

module _ (capacity : ℕ) (c : Contents) (room : weight c ≤ capacity) where
  apply-epoch : (e : ℕ) → e < span 8
      → apply capacity (rec FeaturesEpoch (item 1 (bytes 8 e) done)) c
      ≡ becomes (with_fixed (record { epoch = e; kraft = c.fixed.kraft; offset = c.fixed.offset }) c)
  unfolding moved moves plan move on_real on_empties on_fixed field weight overflows kind_number
  apply-epoch e h =
      let f : ℕ → Contents = λ n. with_fixed (record { epoch = n; kraft = c.fixed.kraft; offset = c.fixed.offset }) c in
      apply_fits capacity (rec FeaturesEpoch (item 1 (bytes 8 e) done)) c (f e) refl (ap f (number_bytes_lem 8 e h)) room

  apply-kraft : (v : ℕ) → v < span 2
      → apply capacity (rec KRaftVersion (item 1 (bytes 2 v) done)) c
      ≡ becomes (with_fixed (record { epoch = c.fixed.epoch; kraft = v; offset = c.fixed.offset }) c)
  unfolding moved moves plan move on_real on_empties on_fixed field weight overflows kind_number
  apply-kraft v h =
      let f : ℕ → Contents = λ n. with_fixed (record { epoch = c.fixed.epoch; kraft = n; offset = c.fixed.offset }) c in
      apply_fits capacity (rec KRaftVersion (item 1 (bytes 2 v) done)) c (f v) refl (ap f (number_bytes_lem 2 v h)) room

  pub replay-epoch : (e : ℕ) → e < span 8
      → replay_records capacity (epoch_records e) c
      ≡ becomes (with_fixed (record { epoch = cond (is_negative 8 e) c.fixed.epoch e; kraft = c.fixed.kraft; offset = c.fixed.offset }) c)
  unfolding epoch_records replay_records
  replay-epoch e h = go (is_negative 8 e)
    where
      go : (b : Bool) → replay_records capacity (cond b [] (rec FeaturesEpoch (item 1 (bytes 8 e) done) ∷ [])) c
          ≡ becomes (with_fixed (record { epoch = cond b c.fixed.epoch e; kraft = c.fixed.kraft; offset = c.fixed.offset }) c)
      go true = refl
      go false = rw (apply-epoch e h)

  pub replay-kraft : (v : ℕ) → v < span 2
      → replay_records capacity (kraft_records v) c
      ≡ becomes (with_fixed (record { epoch = c.fixed.epoch; kraft = cond (eqb v 0) c.fixed.kraft v; offset = c.fixed.offset }) c)
  unfolding kraft_records replay_records
  replay-kraft v h = go (eqb v 0)
    where
      go : (b : Bool) → replay_records capacity (cond b [] (rec KRaftVersion (item 1 (bytes 2 v) done) ∷ [])) c
          ≡ becomes (with_fixed (record { epoch = c.fixed.epoch; kraft = cond b c.fixed.kraft v; offset = c.fixed.offset }) c)
      go true = refl
      go false = rw (apply-kraft v h)

-- 3. The whole snapshot

-- a version of 0 is the one that is there
kraft-zero : (v : ℕ) → cond (eqb v 0) 0 v ≡ v
kraft-zero v = go (eqb v 0) refl
  where
    go : (b : Bool) → eqb v 0 ≡ b → cond b 0 v ≡ v
    go true e = sym (eqb-true v 0 e)
    go false e = refl

settled-fresh : (o : ℕ) → settled o [] ≡ dated o fresh
unfolding levels count less_one
settled-fresh o = refl

module _ (capacity : ℕ) (c : Contents) (fits : Fits capacity c) where
  -- the entries without the empty groups fit too
  pub settled-room : weight (settled c.fixed.offset c.real) ≤ capacity
  unfolding weight
  settled-room = omega (arith, weight-settled c.fixed.offset c.real, fits.room)

  pub restored_is : replay_records capacity (body c) (dated c.fixed.offset fresh) ≡ becomes (restored c)
  unfolding body restored restored_epoch weight
  restored_is =
      let l = c.real in
      let e = c.fixed.epoch in
      let v = c.fixed.kraft in
      let o = orderly c fits.orderly in
      let made = settled c.fixed.offset l in
      let raised = with_fixed (record { epoch = restored_epoch (levels l) e; kraft = 0; offset = c.fixed.offset }) made in
      ap (replay_records capacity (map returned l ++ trail c.fixed)) (sym (settled-fresh c.fixed.offset))
      ∙ replay-entries capacity (capacity-most capacity fits.within) c.fixed.offset [] l (trail c.fixed) o.ascends o.storables fits.entries
      (omega (arith, weight-settled c.fixed.offset l, settled-room))
      ∙ replay-after capacity (epoch_records e) (kraft_records v) made raised (replay-epoch capacity made settled-room e fits.epoch)
      ∙ replay-kraft capacity raised settled-room v fits.kraft
      ∙ ap (λ n. becomes (with_fixed (record { epoch = restored_epoch (levels l) e; kraft = n; offset = c.fixed.offset }) made)) (kraft-zero v)

  -- 4. Its bytes

  passing : AllPass logged (body c)
  passing = all_imp Loggable (λ r. fault logged r.kind r.run ≡ 0) (λ r p. p.0) (body c) (body_passes capacity c fits)

  pub restored-bytes : replay_run capacity (items_of framed (joined record_bytes (snapshot c)))
      ≡ record { reply = accepted []; contents = restored c }
  unfolding snapshot
  restored-bytes =
      replay-dated capacity c.fixed.offset fits.offset (body c) (restored c) passing restored_is

-- Restore, given a snapshot of contents that fit the buffer
pub restore_snapshot : (b : Bytes) (c : Contents) → Fits (length b) c
    → restore_of (joined record_bytes (snapshot c)) b ≡ record { reply = accepted []; buffer = image_of (length b) (restored c) }
unfolding restore_of
restore_snapshot b c fits = rw (fits.within, restored-bytes (length b) c fits)

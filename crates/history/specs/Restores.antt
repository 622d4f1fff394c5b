-- Whatever Restore is given, and whether or not it refuses a record of it, it leaves an image: each record leaves contents that fit.
use Rattle.std.specs.Prelude.{◌≡◌, true, false, length}
use Rattle.std.proofs.Math.Path.{refl}
use Rattle.std.proofs.Common.{sym, ◌∙◌}
use Rattle.std.proofs.Math.Bool.{Bool, cond}
use mathlib.Core.List.{[], ◌∷◌}
use Prim.Native.Nat.{ℕ, zero, suc, ◌+◌, ◌-◌}
use Rattle.model.specs.Number.{Bytes, AreBytes, number}
use Rattle.model.specs.Run.{value}
use Rattle.model.specs.Shape.{framed, fault}
use Rattle.model.specs.Record.{Rec, Got, bad, got, read, on_got}
use Rattle.model.specs.Items.{Items, bad as bad-item, item, items_of, items_from}
use Rattle.model.specs.Contents.{Contents, fresh, dated}
use Rattle.model.specs.Apply.{Applied, stays, becomes, apply}
use Rattle.model.specs.Snapshot.{is_offset_rec, stopped, on_applied, Replayed, replay, replay_run, restore_of}
use Rattle.model.specs.History.{RestoreLeavesImage}
use Rattle.laws_records.specs.Runs.{AreFields}
use Rattle.laws_records.specs.Records.{reads, fields_read}
use Rattle.laws_records.specs.Stored.{framed_logged}
use Rattle.laws_image.specs.Fits.{Fits, dated_fits}
use Rattle.laws_image.specs.Image.{image_is}
use Rattle.laws_image.specs.Open.{fresh_fits}
use Rattle.laws_image.specs.Snapshot.{offset-held}
use Rattle.laws_apply.specs.MovedFits.{contents_after, applied_fits}

-- a record that Restore reads
abbrev Framed : Got → Type 0
Framed (bad n) = Unit {0}
Framed (got r used) = (fault framed r.kind r.run ≡ 0) × AreFields r.run

is_framed : (s : Bytes) → AreBytes s → Framed (read framed s)
is_framed s b = go (read framed s) refl
  where
    go : (g : Got) → read framed s ≡ g → Framed g
    go (bad n) e = tt
    go (got r used) e = ((reads framed s r used e).passes, fields_read framed s r used b e)

module _ (capacity : ℕ) where
  -- one record's outcome, and the records behind it
  outcome_fits : (a : Applied) (place : ℕ) (rest : Items) (c : Contents) → Fits capacity (contents_after c a)
      → ((d : Contents) → Fits capacity d → Fits capacity (replay capacity rest d).contents)
      → Fits capacity (on_applied a (λ n. stopped n place c) (replay capacity rest)).contents
  outcome_fits (stays n) place rest c f later = f
  outcome_fits (becomes d) place rest c f later = later d f

  record-fits : (r : Rec) → (fault framed r.kind r.run ≡ 0) × AreFields r.run → (place : ℕ) (rest : Items) (c : Contents) → Fits capacity c
      → ((d : Contents) → Fits capacity d → Fits capacity (replay capacity rest d).contents)
      → Fits capacity (replay capacity (item place r rest) c).contents
  unfolding replay
  record-fits r q place rest c f later = go (is_offset_rec r) refl
    where
      end : Bool → Replayed
      end t = cond t (stopped 22 place c) (on_applied (apply capacity r c) (λ n. stopped n place c) (replay capacity rest))

      go : (t : Bool) → is_offset_rec r ≡ t → Fits capacity (end t).contents
      go true o = f
      go false o =
          let ok = sym (framed_logged r.kind r.run o) ∙ q.0 in
          outcome_fits (apply capacity r c) place rest c (applied_fits capacity c f r ok q.1) later

  replay_fits : (skip place : ℕ) (s : Bytes) → AreBytes s → (c : Contents) → Fits capacity c
      → Fits capacity (replay capacity (items_from framed skip place s) c).contents
  unfolding items_from replay
  replay_fits skip place [] b c f = f
  replay_fits (suc skip) place (x ∷ s) b c f = replay_fits skip (place + 1) s b.1 c f
  replay_fits zero place (x ∷ s) b c f = go (read framed (x ∷ s)) (is_framed (x ∷ s) b) (λ used d. replay_fits (used - 1) (place + 1) s b.1 d)
    where
      rest : ℕ → Items
      rest used = items_from framed (used - 1) (place + 1) s

      go : (g : Got) → Framed g
          → ((used : ℕ) (d : Contents) → Fits capacity d → Fits capacity (replay capacity (rest used) d).contents)
          → Fits capacity (replay capacity (on_got g (λ n. bad-item n place) (λ r used. item place r (rest used))) c).contents
      go (bad n) q later = f
      go (got r used) q later = record-fits r q place (rest used) c f (later used)

  -- the whole run: fresh contents, or those from the offset on that it starts with
  run_fits : (input : Bytes) → AreBytes input → Fits capacity fresh → Fits capacity (replay_run capacity (items_of framed input)).contents
  unfolding items_from replay_run
  run_fits [] b f = f
  run_fits (x ∷ s) b f = go (read framed (x ∷ s)) (is_framed (x ∷ s) b)
    where
      rest : ℕ → Items
      rest used = items_from framed (used - 1) (0 + 1) s

      end : Bool → Rec → ℕ → Replayed
      end t r used = cond t (replay capacity (rest used) (dated (number (value 1 r.run)) fresh)) (stopped 22 0 fresh)

      first : (r : Rec) (used : ℕ) → fault framed r.kind r.run ≡ 0 → (t : Bool) → is_offset_rec r ≡ t → Fits capacity (end t r used).contents
      first r used ok true o =
          let n = number (value 1 r.run) in
          replay_fits (used - 1) (0 + 1) s b.1 (dated n fresh) (dated_fits capacity n fresh (offset-held r o ok) f)
      first r used ok false o = f

      go : (g : Got) → Framed g → Fits capacity (replay_run capacity (on_got g (λ n. bad-item n 0) (λ r used. item 0 r (rest used)))).contents
      go (bad n) q = f
      go (got r used) q = first r used q.0 (is_offset_rec r) refl

pub restore_leaves_image : RestoreLeavesImage
unfolding restore_of
restore_leaves_image input buffer b within =
    let n = length buffer in
    rw within (image_is n (replay_run n (items_of framed input)).contents (run_fits n input b (fresh_fits n within)))

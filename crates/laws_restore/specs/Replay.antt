-- Records applied in order, and what a run of them restores: kind 26, then records that all apply.
use Rattle.std.specs.Prelude.{◌≡◌, true}
use Rattle.std.proofs.Math.Path.{refl, ap}
use Rattle.std.proofs.Common.{sym, ◌∙◌, arith, add-zero, length-append}
use mathlib.Core.List.{List, [], ◌∷◌, ◌++◌, append-nil}
use Prim.Native.Nat.{ℕ, ◌+◌}
use Rattle.std.proofs.Math.ListN.{length}
use Rattle.model.specs.Choice.{joined}
use Rattle.model.specs.Number.{Bytes, is_offset}
use Rattle.model.specs.Run.{field}
use Rattle.model.specs.Kind.{kind_number}
use Rattle.model.specs.Shape.{logged, framed}
use Rattle.model.specs.Record.{Rec, record_bytes}
use Rattle.model.specs.Items.{Items, items_from, items_of}
use Rattle.model.specs.Reply.{accepted}
use Rattle.model.specs.Contents.{Contents, fresh, dated}
use Rattle.model.specs.Apply.{Applied, stays, becomes, apply}
use Rattle.model.specs.Snapshot.{stopped, on_applied, offset_rec, replay, replay_run}
use Rattle.laws.specs.Choice.{impossible}
use Rattle.laws.specs.Numbers.{number_bytes_lem}
use Rattle.laws.specs.Offsets.{offset-span}
use Rattle.laws_records.specs.Items.{AllPass, placed, items_record, items-append}
use Rattle.laws_records.specs.Framed.{logged_no_offset, framed_pass}
use Rattle.laws_image.specs.Snapshot.{offset_passes}

-- each record applied to what the ones before it made, up to the first that stays
unfoldable pub replay_records : ℕ → List Rec → Contents → Applied
replay_records capacity [] c = becomes c
replay_records capacity (r ∷ rs) c = on_applied (apply capacity r c) stays (replay_records capacity rs)

module _ (capacity : ℕ) where
  -- 1. Records

  pub replay-append : (rs ss : List Rec) (c : Contents)
      → replay_records capacity (rs ++ ss) c ≡ on_applied (replay_records capacity rs c) stays (replay_records capacity ss)
  unfolding replay_records
  replay-append [] ss c = refl
  replay-append (r ∷ rs) ss c = go (apply capacity r c) (replay-append rs ss)
    where
      go : (a : Applied)
          → ((d : Contents)
          → replay_records capacity (rs ++ ss) d ≡ on_applied (replay_records capacity rs d) stays (replay_records capacity ss))
          → on_applied a stays (replay_records capacity (rs ++ ss))
          ≡ on_applied (on_applied a stays (replay_records capacity rs)) stays (replay_records capacity ss)
      go (stays n) i = refl
      go (becomes d) i = i d

  -- a record that does not stay is applied
  pub replay-cons : (r : Rec) (rs : List Rec) (c d : Contents) → apply capacity r c ≡ becomes d
      → replay_records capacity (r ∷ rs) c ≡ replay_records capacity rs d
  unfolding replay_records
  replay-cons r rs c d e = rw e

  pub replay-after : (rs ss : List Rec) (c d : Contents) → replay_records capacity rs c ≡ becomes d
      → replay_records capacity (rs ++ ss) c ≡ replay_records capacity ss d
  replay-after rs ss c d e = replay-append rs ss c ∙ rw e

  -- 2. Places

  pub replay-placed : (rs : List Rec) (place : ℕ) (rest : ℕ → Items) (c d : Contents) → AllPass logged rs → replay_records capacity rs c ≡ becomes d
      → replay capacity (placed place rs rest) c ≡ replay capacity (rest (place + length (joined record_bytes rs))) d
  unfolding replay_records replay
  replay-placed [] place rest c d ok e = let q : c ≡ d = cc in rw (q, add-zero)
  replay-placed (r ∷ rs) place rest c d ok e =
      rw (logged_no_offset r ok.0) (go (apply capacity r c) e (λ x. replay-placed rs (place + length (record_bytes r)) rest x d ok.1))
    where
      next : ℕ
      next = place + length (record_bytes r)

      ends : next + length (joined record_bytes rs) ≡ place + length (record_bytes r ++ joined record_bytes rs)
      ends = simp length-append (omega arith)

      go : (a : Applied) → on_applied a stays (replay_records capacity rs) ≡ becomes d
          → ((x : Contents) → replay_records capacity rs x ≡ becomes d
          → replay capacity (placed next rs rest) x ≡ replay capacity (rest (next + length (joined record_bytes rs))) d)
          → on_applied a (λ n. stopped n place c) (replay capacity (placed next rs rest))
          ≡ replay capacity (rest (place + length (record_bytes r ++ joined record_bytes rs))) d
      go (stays n) q i = impossible cc
      go (becomes x) q i = i x q ∙ rw ends

  -- 3. Bytes, as a snapshot has them

  -- records that apply, and whatever bytes follow them
  pub replay-bytes : (place : ℕ) (rs : List Rec) (s : Bytes) (c d : Contents) → AllPass logged rs → replay_records capacity rs c ≡ becomes d
      → replay capacity (items_from framed 0 place (joined record_bytes rs ++ s)) c
      ≡ replay capacity (items_from framed 0 (place + length (joined record_bytes rs)) s) d
  replay-bytes place rs s c d ok e =
      ap (λ i. replay capacity i c) (items-append framed place rs s (framed_pass rs ok))
      ∙ replay-placed rs place (λ p. items_from framed 0 p s) c d ok e

  -- kind 26, and records that apply
  pub replay-dated : (o : ℕ) → is_offset o ≡ true → (rs : List Rec) (d : Contents) → AllPass logged rs → replay_records capacity rs (dated o fresh) ≡ becomes d
      → replay_run capacity (items_of framed (record_bytes (offset_rec o) ++ joined record_bytes rs)) ≡ record { reply = accepted []; contents = d }
  unfolding replay_run replay items_from field kind_number
  replay-dated o h rs d ok e =
      let here = length (record_bytes (offset_rec o)) in
      ap (replay_run capacity) (items_record framed 0 (offset_rec o) (joined record_bytes rs) (offset_passes o h))
      ∙ ap (λ n. replay capacity (items_from framed 0 (0 + here) (joined record_bytes rs)) (dated n fresh)) (number_bytes_lem 8 o (offset-span o h))
      ∙ ap (λ s. replay capacity (items_from framed 0 (0 + here) s) (dated o fresh)) (sym (append-nil (joined record_bytes rs)))
      ∙ replay-bytes (0 + here) rs [] (dated o fresh) d ok e

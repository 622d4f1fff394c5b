-- "with the place as in Restore": what is said of the new form's records is what Restore says of the same bytes, at every capacity, unless a record
-- that is read does not apply there (17, 18).
use Rattle.std.specs.Prelude.{◌≡◌, Bool, [], ◌∷◌, ◌⊎◌, ℕ, leb, length}
use Rattle.std.proofs.Math.Path.{refl}
use Rattle.std.proofs.Math.Bool.{true, false, cond}
use Rattle.std.proofs.Math.Logic.{inl, inr}
use Rattle.model.specs.Number.{Bytes, number}
use Rattle.model.specs.Run.{value}
use Rattle.model.specs.Shape.{framed}
use Rattle.model.specs.Record.{Rec}
use Rattle.model.specs.Items.{Items, end, bad, item, items_of}
use Rattle.model.specs.Contents.{Contents, fresh, dated, weight}
use Rattle.model.specs.Image.{is_capacity}
use Rattle.model.specs.Move.{moved, overflows}
use Rattle.model.specs.Apply.{Applied, stays, becomes, apply}
use Rattle.model.specs.Reply.{Reply, accepted}
use Rattle.model.specs.Snapshot.{is_offset_rec, stopped, on_applied, replay, replay_run, restore_of}
use Rattle.model.specs.Convert.{Checked, passes, fails, run_checked, start_checked}
use Rattle.laws.specs.Choice.{impossible}

abbrev said : Checked → Reply
said passes = accepted []
said (fails n place) = record { number = n; values = place ∷ [] }

-- the same reply, or a record's 17 or 18
abbrev pub SaysAs : Checked → Reply → Type 0
SaysAs c r = (r ≡ said c) ⊎ ((r.number ≡ 17) ⊎ (r.number ≡ 18))

module _ (capacity : ℕ) where
  unapplied : (r : Rec) (c : Contents) (n : ℕ) → apply capacity r c ≡ stays n → (n ≡ 17) ⊎ (n ≡ 18)
  unfolding apply
  unapplied r c n e = go (overflows r c.real) (leb (weight (moved r c)) capacity) e
    where
      go : (a b : Bool) → cond a (stays 17) (cond b (becomes (moved r c)) (stays 18)) ≡ stays n → (n ≡ 17) ⊎ (n ≡ 18)
      go true b q = inl cc
      go false true q = impossible cc
      go false false q = inr cc

  replay_says : (i : Items) (c : Contents) → SaysAs (run_checked i) (replay capacity i c).reply
  unfolding run_checked replay
  replay_says end c = inl refl
  replay_says (bad n place) c = inl refl
  replay_says (item place r rest) c = go (is_offset_rec r) (apply capacity r c) refl (replay_says rest)
    where
      go : (b : Bool) (a : Applied) → apply capacity r c ≡ a → ((d : Contents) → SaysAs (run_checked rest) (replay capacity rest d).reply)
          → SaysAs (cond b (fails 22 place) (run_checked rest)) (cond b (stopped 22 place c) (on_applied a (λ n. stopped n place c) (replay capacity rest))).reply
      go true a e i = inl refl
      go false (stays n) e i = inr (unapplied r c n e)
      go false (becomes d) e i = i d

  run_says : (i : Items) → SaysAs (start_checked i) (replay_run capacity i).reply
  unfolding start_checked replay_run
  run_says end = inl refl
  run_says (bad n place) = inl refl
  run_says (item place r rest) = go (is_offset_rec r) (replay_says rest (dated (number (value 1 r.run)) fresh))
    where
      begun : Contents
      begun = dated (number (value 1 r.run)) fresh

      go : (b : Bool) → SaysAs (run_checked rest) (replay capacity rest begun).reply
          → SaysAs (cond b (run_checked rest) (fails 22 place)) (cond b (replay capacity rest begun) (stopped 22 place fresh)).reply
      go true i = i
      go false i = inl refl

pub restore_says : (run b : Bytes) → is_capacity (length b) ≡ true → SaysAs (start_checked (items_of framed run)) (restore_of run b).reply
unfolding restore_of
restore_says run b h = rw h (run_says (length b) (items_of framed run))

-- Records of a snapshot as Restore reads them: the log offset first, and behind it records of the log.
use mathlib.Core.Path.{◌≡◌, refl, sym, ap, ◌∙◌, subst}
use mathlib.Core.Bool.{true, false, cond}
use mathlib.Core.List.{[], ◌∷◌}
use Prim.Native.Nat.{ℕ, ◌+◌, ◌≤◌, ◌<◌}
use native.Mathlib.Omega.{arith}
use borrow.Author.Tests.{eqb-true}
use lib.ListN.{length, get_or, take, drop}
use lib.Seq.{length-take-le}
use Rattle.model.specs.Number.{Bytes, AreBytes, number, is_offset}
use Rattle.model.specs.Run.{value}
use Rattle.model.specs.Kind.{kind_number}
use Rattle.model.specs.Shape.{rows_of, shape_of, logged, framed, fault}
use Rattle.model.specs.Record.{Rec, record_bytes, bad, got, read, read_of}
use Rattle.model.specs.Items.{items_from}
use Rattle.model.specs.Contents.{fresh, dated}
use Rattle.model.specs.Reply.{accepted, refused}
use Rattle.model.specs.Snapshot.{is_offset_rec, stopped, replay, replay_run}
use Rattle.model.specs.declared.Kind.TheVariants.{LogOffset}
use Rattle.laws_records.specs.Runs.{run-bytes}
use Rattle.laws_records.specs.Kinds.{number_injective}
use Rattle.laws_records.specs.Faults.{fault-value, fault-whole, fault-short}
use Rattle.laws_records.specs.Records.{reads}
use Rattle.laws_records.specs.Items.{items_got, items_bad}
use Rattle.laws_records.specs.Framed.{same_read, offset_read, no_offset-read}
use Rattle.keys.specs.Keys.{run_in}
use Rattle.records.specs.Answers.{got_reply}
use Rattle.records.proofs.Replies.{used_got, refused_bad}
use Rattle.restore.specs.Restore.{replayed, BegunAs, EndsBy}
use Rattle.restore.specs.declared.Begun.TheVariants.{At}

-- 1. The log offset's record

module _ (r : Rec) (ok : fault framed r.kind r.run ≡ 0) (is : is_offset_rec r ≡ true) where
  kind_is : r.kind ≡ LogOffset
  kind_is = number_injective r.kind LogOffset (eqb-true (kind_number r.kind) 26 is ∙ sym twenty_six)
    where
      twenty_six : kind_number LogOffset ≡ 26
      twenty_six = unfold kind_number in refl

  offset-value : (length (value 1 r.run) ≡ 8) × (is_offset (number (value 1 r.run)) ≡ true)
  unfolding rows_of shape_of kind_number
  offset-value = fault-value framed LogOffset r.run (subst (λ k. fault framed k r.run ≡ 0) kind_is ok) 1 refl refl

  pub begun-offset : is_offset (number (value 1 r.run)) ≡ true
  begun-offset = offset-value.1

-- 2. A run over records

module _ (capacity : ℕ) where
  pub run_got : (s : Bytes) (r : Rec) (n : ℕ) → read framed s ≡ got r n → is_offset_rec r ≡ true
      → replayed capacity s ≡ replay capacity (items_from framed 0 n (drop n s)) (dated (number (value 1 r.run)) fresh)
  unfolding replay_run
  run_got s r n e is =
      ap (replay_run capacity) (items_got framed 0 s r n e)
      ∙ ap (λ b. cond b (replay capacity (items_from framed 0 (0 + n) (drop n s)) (dated (number (value 1 r.run)) fresh)) (stopped 22 0 fresh)) is
      ∙ (let z : 0 + n ≡ n = omega arith in ap (λ m. replay capacity (items_from framed 0 m (drop n s)) (dated (number (value 1 r.run)) fresh)) z)

  run_other : (s : Bytes) (r : Rec) (n : ℕ) → read framed s ≡ got r n → is_offset_rec r ≡ false → replayed capacity s ≡ stopped 22 0 fresh
  unfolding replay_run
  run_other s r n e is =
      ap (replay_run capacity) (items_got framed 0 s r n e)
      ∙ ap (λ b. cond b (replay capacity (items_from framed 0 (0 + n) (drop n s)) (dated (number (value 1 r.run)) fresh)) (stopped 22 0 fresh)) is

  run_bad : (s : Bytes) (n : ℕ) → 0 < length s → read framed s ≡ bad n → replayed capacity s ≡ stopped n 0 fresh
  unfolding replay_run
  run_bad [] n h e = absurd (omega arith)
  run_bad (b ∷ s) n h e = ap (replay_run capacity) (items_bad framed 0 b s n e)

  pub run_empty : (s : Bytes) → length s ≡ 0 → replayed capacity s ≡ stopped 22 0 fresh
  unfolding replay_run items_from
  run_empty [] h = refl
  run_empty (b ∷ s) h = absurd (omega arith)

-- 3. What the code learns of the first record

module _ (input : Bytes) where
  pub begun_unread : (length input ≡ 0 → ⊥) → {n : ℕ} → refused n ≡ read_of input → (capacity : ℕ) → replayed capacity input ≡ stopped n 0 fresh
  unfolding read_of
  begun_unread h {n} e capacity = run_bad capacity input n (omega (arith, h)) (refused_bad (read framed input) n e)

  pub inside_unread : {n : ℕ} → refused n ≡ read_of input → EndsBy n input
  unfolding read_of replay
  inside_unread {n} e capacity place c h = go input h (refused_bad (read framed input) n e)
    where
      go : (s : Bytes) → 0 < length s → read framed s ≡ bad n → replay capacity (items_from framed 0 place s) c ≡ stopped n place c
      go [] k q = absurd (omega arith)
      go (b ∷ s) k q = ap (λ i. replay capacity i c) (items_bad framed place b s n q)

  module _ (are : AreBytes input) {n : ℕ} (e : accepted (n ∷ []) ≡ read_of input) where
    it : (r : Rec) × (read framed input ≡ got r n)
    unfolding read_of
    it = used_got (read framed input) n e

    pub first_is_lem : 0 < length input
    first_is_lem = let d = reads framed input it.0 n it.1 in omega (arith, d.fits, d.head)

    pub begun-length : n ≡ length (take n input)
    begun-length = sym (length-take-le n input (reads framed input it.0 n it.1).fits)

    pub begun_other : (get_or input 0 0 ≡ 26 → ⊥) → (capacity : ℕ) → replayed capacity input ≡ stopped 22 0 fresh
    begun_other h capacity = run_other capacity input it.0 n it.1 (no_offset-read framed input are it.0 n it.1 h)

    pub inside_offset : get_or input 0 0 ≡ 26 → EndsBy 22 input
    unfolding replay
    inside_offset h capacity place c k =
        ap (λ i. replay capacity i c) (items_got framed place input it.0 n it.1)
        ∙ rw (offset_read framed input are it.0 n it.1 h) refl

    pub inside_other : (get_or input 0 0 ≡ 26 → ⊥) → accepted (n ∷ []) ≡ got_reply (read logged input)
    unfolding read_of
    inside_other h = e ∙ ap got_reply (same_read input h)

    module _ (h : get_or input 0 0 ≡ 26) where
      passes : fault framed it.0.kind it.0.run ≡ 0
      passes = (reads framed input it.0 n it.1).passes

      run-read : run_in (take n input) ≡ it.0.run
      unfolding record_bytes
      run-read =
          ap run_in ((reads framed input it.0 n it.1).spelt are)
          ∙ run-bytes it.0.run (fault-whole framed it.0.kind it.0.run passes) (fault-short framed it.0.kind it.0.run passes)

      pub number_fits : (3 ≤ length (take n input)) × (8 ≤ 8) × (length (value 1 (run_in (take n input))) ≡ 8)
      number_fits =
          let d = reads framed input it.0 n it.1 in
          (omega (arith, begun-length, d.head), omega arith, rw run-read (offset-value it.0 passes (offset_read framed input are it.0 n it.1 h)).0)

      pub begun-at : {o : ℕ} → o ≡ number (value 1 (run_in (take n input))) → BegunAs input (At o n)
      begun-at eo = (it.0, it.1, offset_read framed input are it.0 n it.1 h, eo ∙ ap (λ x. number (value 1 x)) run-read)

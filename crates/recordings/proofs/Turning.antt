-- A turn of both runs: they go on, part or agree.
use mathlib.Core.Path.{◌≡◌, refl, sym, ap, ◌∙◌, subst}
use mathlib.Core.Bool.{Bool, true, false, not}
use mathlib.Core.List.{◌++◌}
use Prim.Native.Nat.{ℕ, zero, suc}
use native.Mathlib.Omega.{arith}
use borrow.Author.Tests.{not-true, not-false, eq-eqb, ne_eqb}
use lib.Dec.{eqb}
use lib.ListN.{length, take, drop, take-append-drop}
use Rattle.model.specs.Choice.{joined}
use Rattle.model.specs.Number.{Bytes}
use Rattle.model.specs.Order.{same_bytes}
use Rattle.model.specs.Shape.{logged}
use Rattle.model.specs.Record.{Rec, record_bytes, got, read}
use Rattle.model.specs.Items.{items_from}
use Rattle.model.specs.Contents.{Contents}
use Rattle.model.specs.Image.{contents_of}
use Rattle.model.specs.Snapshot.{body}
use Rattle.laws.specs.Order.{same_bytes_self, same_bytes_true}
use Rattle.laws_records.specs.Records.{read-later}
use Rattle.model.specs.Recordings.{Standing, goes_on, standing, same_standing, same_snapshots, closing, is_over}
use Rattle.laws_recordings.specs.Turns.{parting_over, parting_apart, parting_unlike}
use Rattle.recordings.specs.Turns.{over_by, Stands, Moved, AdvancedAs, SharedAs, Closes, AskedAs, ClosedAs, TurnAs}
use Rattle.recordings.specs.declared.Stand.{Stand}
use Rattle.recordings.specs.declared.Stand.TheVariants as stand
use Rattle.recordings.specs.declared.Shared.TheVariants as shared
use Rattle.recordings.specs.declared.Turn.{Turn}
use Rattle.recordings.specs.declared.Turn.TheVariants as turn
use Rattle.recordings.proofs.Advances.{moved-stands}

-- 1. A run that is over

over_by_lem : (n : ℕ) → is_over (over_by n) ≡ true
over_by_lem zero = refl
over_by_lem (suc n) = refl

over_on : (n : ℕ) → same_standing (over_by n) goes_on ≡ false
unfolding same_standing
over_on zero = refl
over_on (suc n) = refl

-- two that are over stand alike where their numbers are the same
over-same : (n m : ℕ) → same_standing (over_by n) (over_by m) ≡ eqb n m
unfolding same_standing
over-same zero zero = refl
over-same zero (suc m) = sym (ne_eqb 0 (suc m) (λ h. omega arith))
over-same (suc n) zero = sym (ne_eqb (suc n) 0 (λ h. omega arith))
over-same (suc n) (suc m) = refl

-- a run is asked on a copy of its image
pub on_copy : {u image : Bytes} → u ≡ image → (k : ℕ) (run v : Bytes) (s : Stand) → AdvancedAs u k run v s → (o : Stand) → s ≡ o
    → AdvancedAs image k run v o
on_copy {u} {image} copy k run v s a o e = subst (AdvancedAs image k run v) e (subst (λ x. AdvancedAs x k run v s) copy a)

module _ (second : Bytes) (k : ℕ) (other : Bytes) (number : ℕ) where
  beside : (s : Standing) → Stands second k other s → {t : Bool} → same_standing (over_by number) s ≡ t → (q : ℕ)
      → same_standing (over_by number) (standing (length second) k (items_from logged 0 q other) (contents_of second)) ≡ t
  beside s h e q = ap (same_standing (over_by number)) (h q) ∙ e

  -- the second run was asked on a copy of its image
  module _ {u : Bytes} (copy : u ≡ second) (v : Bytes) (s : Stand) (a : AdvancedAs u k other v s) where
    pub closed_on : {m : ℕ} → s ≡ stand.On m → ClosedAs second k number other turn.Parted
    closed_on {m} e = beside goes_on (moved-stands second k other (on_copy copy k other v s a (stand.On m) e)) (over_on number)

    pub closed_alike : {m : ℕ} → s ≡ stand.Over m → number ≡ m → ClosedAs second k number other turn.Agree
    closed_alike {m} e h = beside (over_by m) (on_copy copy k other v s a (stand.Over m) e).0 (over-same number m ∙ eq-eqb number m h)

    pub closed_unlike : {m : ℕ} → s ≡ stand.Over m → (number ≡ m → ⊥) → ClosedAs second k number other turn.Parted
    closed_unlike {m} e h = beside (over_by m) (on_copy copy k other v s a (stand.Over m) e).0 (over-same number m ∙ ne_eqb number m h)

-- 2. The same record on the same image

module _ (image : Bytes) (k : ℕ) (one other : Bytes) {n : ℕ} where
  -- what begins with the record's bytes reads as it
  same_read : {r : Rec} → read logged one ≡ got r n → same_bytes (take n one) (take n other) ≡ true → read logged other ≡ got r n
  same_read {r} e h =
      ap (read logged) (sym (take-append-drop n other) ∙ ap (λ x. x ++ drop n other) (sym (same_bytes_true (take n one) (take n other) h)))
      ∙ read-later logged one r n e (drop n other)

  pub both_moved : {b : Bool} → b ≡ same_bytes (take n one) (take n other) → not b ≡ false → {v w : Bytes} → Moved image k one n v → w ≡ v
      → SharedAs image k one other v w (shared.Moved n)
  both_moved {b} e h {v} {w} m q =
      (m, subst (Moved image k other n) (sym q) (record { value = m.value; reads = same_read m.reads (sym e ∙ not-false b h); applies = m.applies; sound = m.sound; long = m.long }), q)

-- 3. Turns

module _ (first second : Bytes) (k : ℕ) (one other : Bytes) (long : length second ≡ length first) where
  pub turn_unlike : {b : Bool} → b ≡ same_snapshots (contents_of first) (contents_of second) → not b ≡ true → TurnAs first second k one other first second turn.Parted
  turn_unlike {b} e h =
      ((λ p q. parting_unlike (length first) k (items_from logged 0 p one) (contents_of first) (items_from logged 0 q other) (contents_of second) (sym e ∙ not-true b h)), refl, refl)

  -- the second run stands at the same capacity
  at_length : {s : Standing} → Stands second k other s → (q : ℕ) → standing (length first) k (items_from logged 0 q other) (contents_of second) ≡ s
  at_length {s} h q = subst (λ n. standing n k (items_from logged 0 q other) (contents_of second) ≡ s) long (h q)

  module _ {b : Bool} (e : b ≡ same_snapshots (contents_of first) (contents_of second)) (h : not b ≡ false) where
    shots_same : same_snapshots (contents_of first) (contents_of second) ≡ true
    shots_same = sym e ∙ not-false b h

    -- the first run is over
    closed : (number : ℕ) → Stands first k one (over_by number) → {t : Bool}
        → ((q : ℕ) → same_standing (over_by number) (standing (length second) k (items_from logged 0 q other) (contents_of second)) ≡ t)
        → Closes first second k one other t
    closed number mine {t} s p q =
        let there : same_standing (over_by number) (standing (length first) k (items_from logged 0 q other) (contents_of second)) ≡ t =
        subst (λ n. same_standing (over_by number) (standing n k (items_from logged 0 q other) (contents_of second)) ≡ t) long (s q) in
        parting_over (length first) k (items_from logged 0 p one) (contents_of first) (items_from logged 0 q other) (contents_of second) (ap is_over (mine p) ∙ over_by_lem number)
        ∙ rw (shots_same, mine p) (ap (λ x. closing x k (contents_of first) (contents_of second)) there)

    pub turn_closed : (number : ℕ) → Stands first k one (over_by number) → (r : Turn) → ClosedAs second k number other r
        → TurnAs first second k one other first second r
    turn_closed number mine (turn.On n m s) c = absurd c
    turn_closed number mine turn.Parted c = (closed number mine c, refl, refl)
    turn_closed number mine turn.Agree c = (closed number mine c, refl, refl)

    -- it goes on, and the second is asked
    pub turn_asked : {u : Bytes} {n : ℕ} → Moved first k one n u → (v w : Bytes) (r : Turn) → AskedAs first second u k n other v w r
        → TurnAs first second k one other v w r
    turn_asked {u} {n} m v w (turn.On j i s) a = record {
      one-moved = subst (λ x. Moved first k one x v) (sym a.0) (subst (Moved first k one n) (sym a.1) m);
      other_moved = a.2;
      shots = shots_same;
      known = a.3;
    }
    turn_asked {u} {n} m v w turn.Parted a = (
      (λ p q.
          parting_apart (length first) k (items_from logged 0 p one) (contents_of first) (items_from logged 0 q other) (contents_of second)
          (moved-stands first k one m p) (ap is_over (at_length a.1 q) ∙ over_by_lem a.0)),
      a.2,
      a.3,
    )
    turn_asked m v w turn.Agree a = absurd a

-- the second run is asked
module _ (first second u : Bytes) (k n : ℕ) (other : Bytes) {w : Bytes} where
  pub asked_on : {v : Bytes} → v ≡ u → {m : ℕ} → Moved second k other m w → {r : Bool} → r ≡ same_bytes v w
      → AskedAs first second u k n other v w (turn.On n m r)
  asked_on {v} e moved q = (refl, e, moved, λ h. sym (same_bytes_true v w (sym q ∙ h)))

  pub asked_over : (number : ℕ) → AdvancedAs second k other w (stand.Over number) → AskedAs first second u k n other first w turn.Parted
  asked_over number a = (number, a.0, refl, a.1)

-- where nothing was changed before
pub turn_again : {first second v w : Bytes} (k : ℕ) (one other : Bytes) → (v ≡ first) × (w ≡ second) → (x y : Bytes) (r : Turn) → TurnAs v w k one other x y r
    → TurnAs first second k one other x y r
turn_again {first} {second} {v} {w} k one other e x y r t = subst (λ a. TurnAs a second k one other x y r) e.0 (subst (λ a. TurnAs v a k one other x y r) e.1 t)

same_snapshots_lem : (c : Contents) → same_snapshots c c ≡ true
unfolding same_snapshots
same_snapshots_lem c = same_bytes_self (joined record_bytes (body c))

-- one try served both
pub turn_shared : {first second : Bytes} → second ≡ first → {k : ℕ} {one other v w : Bytes} {n : ℕ} → SharedAs first k one other v w (shared.Moved n)
    → TurnAs first second k one other v w (turn.On n n true)
turn_shared {first} e {k} {one} {other} {v} {w} {n} s = record {
  one-moved = s.0;
  other_moved = subst (λ x. Moved x k other n w) (sym e) s.1;
  shots = subst (λ x. same_snapshots (contents_of first) (contents_of x) ≡ true) (sym e) (same_snapshots_lem (contents_of first));
  known = λ h. s.2;
}

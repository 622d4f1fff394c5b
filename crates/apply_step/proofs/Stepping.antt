-- A record's step on a work array: what its moves ask for, what they make, and its outcome.
use mathlib.Core.Path.{◌≡◌, refl, sym, ap, ◌∙◌, subst}
use mathlib.Core.Bool.{Bool, true, false, not}
use Prim.Native.Nat.{ℕ, ◌+◌, ◌*◌, ◌≤◌}
use native.Mathlib.Omega.{arith}
use borrow.Author.Tests.{leb-true, not-true, not-false}
use lib.Dec.{leb}
use lib.ListN.{length, drop}
use Rattle.model.specs.Number.{Bytes, AreBytes}
use Rattle.model.specs.Shape.{logged, fault}
use Rattle.model.specs.Contents.{Entry, topic, part, plain, key, Fixed, Contents, partitions, weight}
use Rattle.model.specs.Image.{most_capacity}
use Rattle.model.specs.Move.{count_of, moved}
use Rattle.model.specs.Apply.{stays, becomes, apply}
use Rattle.laws.specs.Lists.{All, In, all_in}
use Rattle.laws.specs.Map.{Asc, in_get}
use Rattle.laws.specs.Numbers.{drop_are_bytes}
use Rattle.laws_records.specs.Runs.{AreFields, fields-run}
use Rattle.laws_image.specs.Tests.{capacity-most}
use Rattle.laws_restore.specs.Weight.{partitions-total}
use Rattle.laws_apply.specs.Moves.{Holds}
use Rattle.laws_apply.specs.MovedFits.{moved_holds}
use Rattle.find.specs.Logged.{IsLogged, logged_in}
use Rattle.find.proofs.Logged.{run_in_lem, passes}
use Rattle.apply_patches.specs.Patches.{CountFits}
use Rattle.apply_work.specs.Work.{held_in, contents_in, fixed_parts, state_in, most_record}
use Rattle.apply_work.specs.declared.State.{State}
use Rattle.apply_work.specs.declared.Tried.TheVariants.{Refused, Moved}
use Rattle.apply_plan.specs.Plans.{Planned}
use Rattle.apply_step.specs.Step.{work_room, Holding}
use Rattle.apply_step.proofs.Light.{used_light}

-- 1. Before the moves

module _ (w : Bytes) (s : State) (capacity : ℕ) (h : Holding w s capacity) where
  pub capacity_fits : capacity ≤ most_capacity
  capacity_fits = capacity-most capacity h.within

  pub space : length w ≡ work_room → s.bounds.used + 3 * most_record ≤ length w
  space e = omega (arith, e, h.fits, capacity_fits)

  -- a topic's count is at most its partitions' number, which is at most what they weigh
  count_fits_lem : (e : Entry) → In e (held_in w s.bounds) → CountFits e
  unfolding weight count_of key
  count_fits_lem (topic name id count factor named) i =
      let l = held_in w s.bounds in
      let e = topic name id count factor named in
      let few : count ≤ partitions name l = rw (in_get key l h.holds.ascends e i) at (h.holds.topics.counts name) in
      let light = h.light in
      omega (arith, partitions-total name l, capacity_fits)
  count_fits_lem (part r) i = tt
  count_fits_lem (plain r) i = tt

  pub counts_fit : All CountFits (held_in w s.bounds)
  counts_fit = all_in CountFits (held_in w s.bounds) count_fits_lem

-- 2. After them

-- an advance whose sum leaves i64
pub overflowing : (w v : Bytes) (s : State) (capacity : ℕ) (rec : Bytes) {n : ℕ} → Planned (logged_in rec) w s v (Refused n)
    → stays n ≡ apply capacity (logged_in rec) (state_in w s)
unfolding apply
overflowing w v s capacity rec h = rw (h.0, h.1) refl

module _ (w v : Bytes) (s t : State) (capacity : ℕ) (h : Holding w s capacity) (rec : Bytes) (i : IsLogged rec) (areRec : AreBytes rec)
    (made : Planned (logged_in rec) w s v (Moved t)) where
  record-passes : fault logged (logged_in rec).kind (logged_in rec).run ≡ 0
  record-passes = subst (λ f. fault logged (logged_in rec).kind f ≡ 0) (run_in_lem rec i) (passes rec i)

  record-fields : AreFields (logged_in rec).run
  record-fields = subst AreFields (run_in_lem rec i) (fields-run (drop 3 rec) (drop_are_bytes 3 rec areRec))

  -- the contents that the moves make
  state_after : state_in v t ≡ moved (logged_in rec) (state_in w s)
  unfolding moved
  state_after =
      ap (contents_in v t.bounds) made.2
      ∙ rw (made.1.real (fixed_parts s), made.1.empties (fixed_parts s)) refl

  held_after : Holds (moved (logged_in rec) (state_in w s))
  held_after = moved_holds (state_in w s) (logged_in rec) record-passes record-fields h.holds

  pub ascends-after : Asc key (held_in v t.bounds)
  ascends-after = subst (λ (x : Contents). Asc key x.real) (sym state_after) held_after.ascends

  -- the outcomes
  module _ {b : Bool} (e : (f : Fixed) → b ≡ leb (weight (contents_in v t.bounds f)) capacity) where
    weighed : b ≡ leb (weight (moved (logged_in rec) (state_in w s))) capacity
    weighed = e (fixed_parts t) ∙ ap (λ x. leb (weight x) capacity) state_after

    pub too_heavy : not b ≡ true → stays 18 ≡ apply capacity (logged_in rec) (state_in w s)
    unfolding apply
    too_heavy q = rw (made.0, sym weighed ∙ not-true b q) refl

    module _ (q : not b ≡ false) where
      pub becomes_after : becomes (state_in v t) ≡ apply capacity (logged_in rec) (state_in w s)
      unfolding apply
      becomes_after = ap becomes state_after ∙ rw (made.0, sym weighed ∙ not-false b q) refl

      light_after : weight (state_in v t) ≤ capacity
      light_after = rw state_after (leb-true (weight (moved (logged_in rec) (state_in w s))) capacity (sym weighed ∙ not-false b q))

      pub holding-after : AreBytes v → Holding v t capacity
      holding-after are = record {
        good = made.1.good;
        holds = subst Holds (sym state_after) held_after;
        within = h.within;
        light = light_after;
        fits = omega (arith, used_light v t.bounds are made.1.good (fixed_parts t) ascends-after, light_after);
      }

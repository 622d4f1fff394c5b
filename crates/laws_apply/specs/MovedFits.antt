-- Contents that fit fit after a record, where there is room for what it makes.
use Rattle.std.specs.Prelude.{◌≡◌, refl, List, [], ◌∷◌, Bool, true, false, cond, ℕ, ◌≤◌, ◌<◌, leb}
use Rattle.std.proofs.Common.{arith, leb-true, leb-false}
use Rattle.model.specs.Number.{span, is_offset}
use Rattle.model.specs.Shape.{logged, fault}
use Rattle.model.specs.Record.{Rec}
use Rattle.model.specs.Map.{any}
use Rattle.model.specs.Contents.{Entry, topic, part, plain, key, in_group_of, Contents, partitions, weight, is_group}
use Rattle.model.specs.Image.{most_capacity, is_capacity}
use Rattle.model.specs.Move.{count_of, plan, moved, overflows}
use Rattle.model.specs.Apply.{Applied, stays, becomes, apply, dated_by, is_later, apply_at}
use Rattle.laws.specs.Offsets.{later-offset}
use Rattle.laws.specs.Lists.{All, In, all_in, in_all, all_imp, all_both}
use Rattle.laws.specs.Map.{in_get}
use Rattle.laws_records.specs.Runs.{AreFields}
use Rattle.laws_image.specs.Fits.{Readable, NumbersFit, Proper, Fits, dated_fits}
use Rattle.laws_image.specs.Orderly.{Storable, orderly, sound_orderly}
use Rattle.laws_image.specs.Tests.{capacity-most}
use Rattle.laws_restore.specs.Weight.{partitions-total}
use Rattle.laws_apply.specs.Entries.{FactorFits, Stored}
use Rattle.laws_apply.specs.Groups.{Vacant}
use Rattle.laws_apply.specs.Moves.{Holds, moves_hold}
use Rattle.laws_apply.specs.Plans.{plan_lawful}

-- 1. What holds of contents that fit is all that fits, but for the room

factor_of_lem : (e : Entry) → NumbersFit e → FactorFits e
factor_of_lem (topic name id count factor named) n = n.1
factor_of_lem (part r) n = tt
factor_of_lem (plain r) n = tt

pub fits_holds : (capacity : ℕ) (c : Contents) → Fits capacity c → Holds c
fits_holds capacity c fits =
    let o = orderly c fits.orderly in
    record {
      ascends = o.ascends;
      entries =
          all_imp (λ e. Proper e × Storable e) Stored
          (λ e p. record { readable = p.0.readable; factor = factor_of_lem e p.0.numbers; storable = p.1 }) c.real
          (all_both Proper Storable c.real fits.entries o.storables);
      topics = record { counts = o.counts; named = o.named };
      empties = record { ascends = o.empties_ascend; each = vacant c.empties fits.groups o.groups o.vacant };
      epoch = fits.epoch;
      kraft = fits.kraft;
      offset = fits.offset;
    }
  where
    vacant : (g : List Rec) → All Readable g → All (λ r. is_group r ≡ true) g → All (λ r. any key (in_group_of r) c.real ≡ false) g
        → All (Vacant c.real) g
    vacant [] p q r = tt
    vacant (x ∷ g) p q r = (record { readable = p.0; group = q.0; memberless = r.0 }, vacant g p.1 q.1 r.1)

module _ (c : Contents) (h : Holds c) where
  -- a topic's count is at most its partitions' number, which is at most what they weigh
  numbers_fit : weight c ≤ most_capacity → (e : Entry) → In e c.real → NumbersFit e
  unfolding weight count_of key
  numbers_fit light (topic name id count factor named) i =
      let l = c.real in
      let e = topic name id count factor named in
      let few : count ≤ partitions name l = rw (in_get key l h.ascends e i) at (h.topics.counts name) in
      (omega (arith, partitions-total name l), (in_all Stored l h.entries e i).factor)
  numbers_fit light (part r) i = tt
  numbers_fit light (plain r) i = tt

  pub holds_fits : (capacity : ℕ) → is_capacity capacity ≡ true → weight c ≤ capacity → Fits capacity c
  holds_fits capacity within room =
      let l = c.real in
      let g = c.empties in
      let light : weight c ≤ most_capacity = omega (arith, capacity-most capacity within) in
      record {
        within = within;
        entries = all_in Proper l λ e i. record {
          readable = (in_all Stored l h.entries e i).readable;
          numbers = numbers_fit light e i;
        };
        groups = all_imp (Vacant l) Readable (λ r v. v.readable) g h.empties.each;
        orderly = sound_orderly c (record {
          ascends = h.ascends;
          storables = all_imp Stored Storable (λ e s. s.storable) l h.entries;
          counts = h.topics.counts;
          named = h.topics.named;
          empties_ascend = h.empties.ascends;
          groups = all_imp (Vacant l) (λ r. is_group r ≡ true) (λ r v. v.group) g h.empties.each;
          vacant = all_imp (Vacant l) (λ r. any key (in_group_of r) l ≡ false) (λ r v. v.memberless) g h.empties.each;
        });
        epoch = h.epoch;
        kraft = h.kraft;
        offset = h.offset;
        room = room;
      }

-- 2. A record

module _ (c : Contents) (r : Rec) (ok : fault logged r.kind r.run ≡ 0) (b : AreFields r.run) where
  pub moved_holds : Holds c → Holds (moved r c)
  unfolding moved
  moved_holds h =
      moves_hold (plan r.kind r.run c.real) (plan_lawful r.kind r.run c.real ok b h.entries) c h

pub moved_fits : (capacity : ℕ) (c : Contents) → Fits capacity c → (r : Rec) → fault logged r.kind r.run ≡ 0 → AreFields r.run
    → weight (moved r c) ≤ capacity → Fits capacity (moved r c)
moved_fits capacity c fits r ok b room =
    holds_fits (moved r c) (moved_holds c r ok b (fits_holds capacity c fits)) capacity fits.within room

-- 3. Apply

-- the three outcomes
pub data Outcome (capacity : ℕ) (r : Rec) (c : Contents) : Applied → Type 0 where
  overflowing : overflows r c.real ≡ true → Outcome capacity r c (stays 17)
  overweight : overflows r c.real ≡ false → capacity < weight (moved r c) → Outcome capacity r c (stays 18)
  fitting : overflows r c.real ≡ false → weight (moved r c) ≤ capacity → Outcome capacity r c (becomes (moved r c))

pub outcome : (capacity : ℕ) (r : Rec) (c : Contents) → Outcome capacity r c (apply capacity r c)
unfolding apply
outcome capacity r c = go (overflows r c.real) refl (leb (weight (moved r c)) capacity) refl
  where
    go : (a : Bool) → overflows r c.real ≡ a → (b : Bool) → leb (weight (moved r c)) capacity ≡ b
        → Outcome capacity r c (cond a (stays 17) (cond b (becomes (moved r c)) (stays 18)))
    go true e b f = overflowing e
    go false e true f = fitting e (leb-true (weight (moved r c)) capacity f)
    go false e false f = overweight e (leb-false (weight (moved r c)) capacity f)

-- the contents afterwards
abbrev pub contents_after : Contents → Applied → Contents
contents_after c (stays n) = c
contents_after c (becomes d) = d

pub applied_fits : (capacity : ℕ) (c : Contents) → Fits capacity c → (r : Rec) → fault logged r.kind r.run ≡ 0 → AreFields r.run
    → Fits capacity (contents_after c (apply capacity r c))
applied_fits capacity c fits r ok b = go (outcome capacity r c)
  where
    go : {a : Applied} → Outcome capacity r c a → Fits capacity (contents_after c a)
    go (overflowing e) = fits
    go (overweight e w) = fits
    go (fitting e w) = moved_fits capacity c fits r ok b w

-- at an offset that is above the stored one
pub applied-at_fits : (capacity n : ℕ) (c : Contents) → Fits capacity c → n < span 8 → (r : Rec) → fault logged r.kind r.run ≡ 0
    → AreFields r.run → Fits capacity (contents_after c (apply_at capacity n r c))
unfolding apply_at
applied-at_fits capacity n c fits k r ok b = go (is_later c.fixed.offset n) refl
  where
    each : (a : Applied) → is_offset n ≡ true → Fits capacity (contents_after c a) → Fits capacity (contents_after c (dated_by n a))
    each (stays m) h f = fits
    each (becomes d) h f = dated_fits capacity n d h f

    go : (t : Bool) → is_later c.fixed.offset n ≡ t → Fits capacity (contents_after c (cond t (dated_by n (apply capacity r c)) (stays 21)))
    go true e = each (apply capacity r c) (later-offset c.fixed.offset n fits.offset k e) (applied_fits capacity c fits r ok b)
    go false e = fits

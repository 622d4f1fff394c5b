-- The values of a tag, one at a time, and whether those of one record begin with those of another.
use mathlib.Core.Path.{◌≡◌, refl, sym, ap, ap₂, ◌∙◌}
use mathlib.Core.Bool.{Bool, true, false, ◌&&◌, not}
use mathlib.Core.List.{List, [], ◌∷◌}
use Prim.Native.Nat.{ℕ, ◌+◌, ◌-◌, ◌≤◌, ◌<◌}
use native.Mathlib.Omega.{arith}
use borrow.Author.Tests.{not-true, not-false}
use lib.ListN.{length, take, drop}
use lib.Seq.{slice}
use Rattle.model.specs.Number.{Bytes}
use Rattle.model.specs.Order.{same_bytes}
use Rattle.model.specs.Run.{values}
use Rattle.model.specs.Validate.{extends}
use Rattle.laws_records.specs.Fields.{values-here, values-there}
use Rattle.fields.specs.Fields.{fields_from, Inside, told, Onward}
use Rattle.fields.specs.declared.Cursor.{Cursor}
use Rattle.fields.specs.declared.Step.{Step}
use Rattle.fields.specs.declared.Step.TheVariants.{Field, Torn, End}
use Rattle.fields.proofs.Took.{took, tore, ended, Moved, moved}
use Rattle.keys.specs.Keys.{run_in}
use Rattle.keys.proofs.Found.{lent_slice}
use Rattle.keys.proofs.Elements.{begins}
use Rattle.judge.specs.Judge.{NextOf}
use Rattle.judge.specs.declared.proposals.Value.{Value}
use Rattle.judge.specs.declared.proposals.Value.TheVariants.{At, Last}

-- 1. The walk to the next value

-- no value stands between two cursors
pub record Passed (s : Bytes) (tag : ℕ) (from c : Cursor) : Type 0 where
  pub inside : Inside s c
  pub onward : from.at ≤ c.at
  pub ends : c.to ≡ from.to
  pub same : values tag (fields_from s c) ≡ values tag (fields_from s from)

pub passed_start : (s : Bytes) (tag : ℕ) (from : Cursor) → Inside s from → Passed s tag from from
passed_start s tag from i = record { inside = i; onward = omega arith; ends = refl; same = refl }

module _ {s : Bytes} {tag : ℕ} {from c : Cursor} (h : Passed s tag from c) {r : Step} (e : (told s r ≡ fields_from s c) × Onward c r) where
  module _ {t start len : ℕ} {next : Cursor} (f : r ≡ Field t start len next) where
    step : Moved c t start len next
    step = moved f e.1

    pub step_room : start + len ≤ length s
    step_room = omega (arith, step.part, step.most, h.inside.1)

    pub step_falls : next.to - next.at < c.to - c.at
    step_falls = omega (arith, step.onward, step.most, step.ends)

    pub found : t ≡ tag → NextOf s from tag (At start (start + len) next)
    unfolding NextOf
    found is =
        let v = slice start (start + len) s in
        let front : values tag (fields_from s c) ≡ v ∷ values tag (fields_from s next) =
        ap (values tag) (rw is at (took s e.0 f)) ∙ values-here tag v (fields_from s next) in (
          sym h.same ∙ front,
          omega arith,
          step_room,
          omega (arith, step.onward, h.onward),
          omega (arith, step.most, step.ends),
          step.ends ∙ h.ends,
        )

    pub passed : (t ≡ tag → ⊥) → Passed s tag from next
    passed apart =
        let v = slice start (start + len) s in
        record {
          inside = (omega (arith, step.most, step.ends), omega (arith, step.ends, h.inside.1));
          onward = omega (arith, step.onward, h.onward);
          ends = step.ends ∙ h.ends;
          same = sym (ap (values tag) (took s e.0 f) ∙ values-there t v (fields_from s next) tag apart) ∙ h.same;
        }

  pub none_torn : r ≡ Torn → NextOf s from tag Last
  unfolding NextOf values
  none_torn f = sym h.same ∙ ap (values tag) (tore s e.0 f)

  pub none_left : r ≡ End → NextOf s from tag Last
  unfolding NextOf values
  none_left f = sym h.same ∙ ap (values tag) (ended s e.0 f)

-- what a caller learns
pub record Next (s : Bytes) (c : Cursor) (tag start end : ℕ) (next : Cursor) : Type 0 where
  pub front : values tag (fields_from s c) ≡ slice start end s ∷ values tag (fields_from s next)
  pub forward : start ≤ end
  pub most : end ≤ length s
  pub onward : c.at < next.at
  pub inside : next.at ≤ next.to
  pub ends : next.to ≡ c.to

pub next-at : {s : Bytes} {c : Cursor} {tag : ℕ} {r : Value} {start end : ℕ} {next : Cursor} → r ≡ At start end next → NextOf s c tag r
    → Next s c tag start end next
unfolding NextOf
next-at {s} {c} {tag} {r} {start} {end} {next} h o =
    let q : NextOf s c tag (At start end next) = rw h at o in
    record { front = q.0; forward = q.1; most = q.2; onward = q.3; inside = q.4; ends = q.5 }

none-next : (s : Bytes) (c : Cursor) (tag : ℕ) {r : Value} → r ≡ Last → NextOf s c tag r → values tag (fields_from s c) ≡ []
unfolding NextOf
none-next s c tag {r} h o = let q : NextOf s c tag Last = rw h at o in q

-- 2. Lists that begin with others

module _ (x y : List Bytes) where
  old_ends : x ≡ [] → true ≡ extends x y
  unfolding extends
  old_ends p = rw p

  new_ends : (a : Bytes) (l : List Bytes) → x ≡ a ∷ l → y ≡ [] → false ≡ extends x y
  unfolding extends
  new_ends a l p q = rw (p, q)

  both_on : (a b : Bytes) (l m : List Bytes) → x ≡ a ∷ l → y ≡ b ∷ m → same_bytes a b && extends l m ≡ extends x y
  unfolding extends
  both_on a b l m p q = rw (p, q)

-- 3. The walk over two records

pub record Extending (old new : Bytes) (c d : Cursor) : Type 0 where
  pub old_inside : Inside old c
  pub new_inside : Inside new d
  pub same : extends (values 8 (fields_from old c)) (values 8 (fields_from new d)) ≡ extends (values 8 (run_in old)) (values 8 (run_in new))

pub extending_start : (old new : Bytes) → 3 ≤ length old → 3 ≤ length new
    → Extending old new (record { at = 3; to = length old }) (record { at = 3; to = length new })
extending_start old new p q = record {
  old_inside = (p, omega arith);
  new_inside = (q, omega arith);
  same = ap₂ (λ x y. extends (values 8 x) (values 8 y)) (begins old) (begins new);
}

module _ {old new : Bytes} {c d : Cursor} (h : Extending old new c d) where
  pub all_there : {r : Value} → r ≡ Last → NextOf old c 8 r → true ≡ extends (values 8 (run_in old)) (values 8 (run_in new))
  all_there is o = old_ends _ _ (none-next old c 8 is o) ∙ h.same

  module _ {start end : ℕ} {next : Cursor} (n : Next old c 8 start end next) where
    pub one-missing : {r : Value} → r ≡ Last → NextOf new d 8 r → false ≡ extends (values 8 (run_in old)) (values 8 (run_in new))
    one-missing is o = new_ends _ _ _ _ n.front (none-next new d 8 is o) ∙ h.same

    module _ {from to : ℕ} {after : Cursor} (m : Next new d 8 from to after) {b : Bool}
        (e : b ≡ same_bytes (take (end - start) (drop start old)) (take (to - from) (drop from new))) where
      split : b && extends (values 8 (fields_from old next)) (values 8 (fields_from new after)) ≡ extends (values 8 (run_in old)) (values 8 (run_in new))
      split =
          ap (λ x. x && extends (values 8 (fields_from old next)) (values 8 (fields_from new after)))
          (e ∙ ap₂ same_bytes (lent_slice old start end n.forward) (lent_slice new from to m.forward))
          ∙ both_on _ _ _ _ _ _ n.front m.front
          ∙ h.same

      pub one_differs : not b ≡ true → false ≡ extends (values 8 (run_in old)) (values 8 (run_in new))
      one_differs t = let f = not-true b t in rw f at split

      pub both_moved : not b ≡ false → Extending old new next after
      both_moved t =
          let f = not-false b t in
          record {
            old_inside = (n.inside, omega (arith, n.ends, h.old_inside.1));
            new_inside = (m.inside, omega (arith, m.ends, h.new_inside.1));
            same = rw f at split;
          }

-- Two walks side by side, over topics and over partitions: the partitions of every topic to come are still ahead.
use mathlib.Core.Path.{◌≡◌, refl, sym, ap, ◌∙◌, subst}
use mathlib.Core.List.{◌∷◌}
use mathlib.Core.Bool.{Bool, true, false, ◌&&◌}
use Prim.Native.Nat.{ℕ, ◌+◌, ◌-◌, ◌≤◌, ◌<◌}
use native.Mathlib.Omega.{arith}
use lib.ListN.{length, get_or, take, drop, length-drop, drop_of_length-le}
use lib.Seq.{drop-drop}
use Rattle.model.specs.Choice.{every}
use Rattle.model.specs.Number.{Bytes, number}
use Rattle.model.specs.Run.{value}
use Rattle.model.specs.Record.{Rec}
use Rattle.model.specs.Map.{count, ascending}
use Rattle.model.specs.Contents.{record_key, of_topic}
use Rattle.laws.specs.Order.{Lt}
use Rattle.laws.specs.Lists.{All, all_any, all_imp, all_both}
use Rattle.laws.specs.Map.{Asc, ascending_asc}
use Rattle.keys.specs.Keys.{run_in}
use Rattle.keys.proofs.Found.{rest-lent}
use Rattle.entries.specs.Entries.{records_in, Entries}
use Rattle.entries.specs.declared.Cursor.{Cursor}
use Rattle.entries.proofs.Seeks.{no_records}
use Rattle.entries.proofs.Turns.{Stands}
use Rattle.image_counts.specs.Counts.{count_fits, Counted}
use Rattle.image_counts.proofs.Tallies.{next-end, list, rest}
use Rattle.image_counts.proofs.Topics.{IsTopic, topics_ascend, other_fits, topic_fits, topic_exceeds, kind_here, run-here}

-- the partitions of a topic's name are all at a place or after it
abbrev Ahead : Bytes → ℕ → Rec → Type 0
Ahead s from r = IsTopic r → count record_key (of_topic (value 1 r.run)) (records_in (drop from s)) ≡ count record_key (of_topic (value 1 r.run)) (records_in s)

-- the walk over topics is at `at`, and that over partitions at `from`
pub record Merged (s : Bytes) (at from : ℕ) : Type 0 where
  pub entries : Entries (drop at s)
  pub ascends : Asc record_key (records_in (drop at s))
  pub far : from ≤ length s
  pub left : Entries (drop from s)
  pub left-ascends : ascending record_key (records_in (drop from s)) ≡ true
  pub same : every (count_fits (records_in s)) (records_in (drop at s)) ≡ every (count_fits (records_in s)) (records_in s)
  pub ahead : All (Ahead s from) (records_in (drop at s))

pub merged_start : (s : Bytes) → Entries s → ascending record_key (records_in s) ≡ true → Merged s 0 0
merged_start s e up = record {
  entries = e;
  ascends = ascending_asc record_key (records_in s) up;
  far = omega arith;
  left = e;
  left-ascends = up;
  same = refl;
  ahead = all_any (Ahead s 0) (λ r h. refl) (records_in s);
}

pub merged_end : {s : Bytes} {at from : ℕ} → Merged s at from → length s ≤ at → true ≡ every (count_fits (records_in s)) (records_in s)
merged_end {s} {at} h past =
    ap (every (count_fits (records_in s))) (sym (no_records (drop at s) (drop_of_length-le s past))) ∙ h.same

pub left-lent : {s : Bytes} {at from : ℕ} → Merged s at from
    → Entries (take (length s - from) (drop from s)) × (ascending record_key (records_in (take (length s - from) (drop from s))) ≡ true)
left-lent {s} {at} {from} h = rw (rest-lent from s) (h.left, h.left-ascends)

-- a turn: the step from the topics' place found an entry
module _ {s : Bytes} {at from start end : ℕ} {next : Cursor} (h : Merged s at from) (t : Stands s at start end next) where
  asc : Asc record_key (t.entry.entry ∷ records_in (drop end s))
  asc = subst (λ l. Asc record_key l) (list t) h.ascends

  ahead_all : All (Ahead s from) (t.entry.entry ∷ records_in (drop end s))
  ahead_all = subst (λ l. All (Ahead s from) l) (list t) h.ahead

  -- whether the entry fits and the rest decide for all
  decides : (b : Bool) → count_fits (records_in s) t.entry.entry ≡ b
      → b && every (count_fits (records_in s)) (records_in (drop end s)) ≡ every (count_fits (records_in s)) (records_in s)
  decides b e =
      ap (λ x. x && every (count_fits (records_in s)) (records_in (drop end s))) (sym e)
      ∙ ap (every (count_fits (records_in s))) (sym (list t))
      ∙ h.same

  -- one entry further
  moved : (to : ℕ) → count_fits (records_in s) t.entry.entry ≡ true → to ≤ length s → Entries (drop to s)
      → ascending record_key (records_in (drop to s)) ≡ true → All (Ahead s to) (records_in (drop end s)) → Merged s next.at to
  moved to fits far left up ahead =
      let m : Merged s end to = record {
        entries = rest t;
        ascends = asc.1;
        far = far;
        left = left;
        left-ascends = up;
        same = decides true fits;
        ahead = ahead;
      } in
      subst (λ x. Merged s x to) (sym (next-end t)) m

  pub merged_other : (get_or s start 0 ≡ 1 → ⊥) → Merged s next.at from
  merged_other differs =
      moved from (other_fits (records_in s) t.entry.entry (λ e. differs (kind_here t ∙ e))) h.far h.left h.left-ascends ahead_all.1

  -- a topic: its partitions are counted from the partitions' place on
  module _ (is : get_or s start 0 ≡ 1) {n to : ℕ}
      (c : Counted (take (length s - from) (drop from s)) (value 1 (run_in (take (end - start) (drop start s)))) n to) where
    topic : IsTopic t.entry.entry
    topic = sym (kind_here t) ∙ is

    counted : Counted (drop from s) (value 1 t.entry.entry.run) n to
    counted =
        subst (λ x. Counted x (value 1 t.entry.entry.run) n to) (rest-lent from s)
        (subst (λ x. Counted (take (length s - from) (drop from s)) (value 1 x) n to) (run-here t) c)

    pub number_is : n ≡ count record_key (of_topic (value 1 t.entry.entry.run)) (records_in s)
    number_is = counted.number ∙ ahead_all.0 topic

    pub to_fits : from + to ≤ length s
    to_fits = omega (arith, counted.most, length-drop from s, h.far)

    -- the partitions of later topics stand behind the counted ones
    ahead_next : All (Ahead s (from + to)) (records_in (drop end s))
    ahead_next =
        all_imp (λ q. Lt (record_key t.entry.entry) (record_key q) × Ahead s from q) (Ahead s (from + to)) step (records_in (drop end s))
        (all_both (λ q. Lt (record_key t.entry.entry) (record_key q)) (Ahead s from) (records_in (drop end s)) asc.0 ahead_all.1)
      where
        step : (q : Rec) → Lt (record_key t.entry.entry) (record_key q) × Ahead s from q → Ahead s (from + to) q
        step q p e =
            ap (λ x. count record_key (of_topic (value 1 q.run)) (records_in x)) (sym (drop-drop to from s))
            ∙ counted.later (value 1 q.run) (topics_ascend t.entry.entry q topic e p.0)
            ∙ p.1 e

    module _ (k : ℕ) (says : k ≡ number (value 3 (run_in (take (end - start) (drop start s))))) where
      number-said : number (value 3 t.entry.entry.run) ≡ k
      number-said = sym (says ∙ ap (λ x. number (value 3 x)) (run-here t))

      pub merged_exceeds : n < k → false ≡ every (count_fits (records_in s)) (records_in s)
      merged_exceeds more =
          decides false (topic_exceeds (records_in s) t.entry.entry topic (omega (arith, number_is, number-said)))

      pub merged_topic : k ≤ n → Merged s next.at (from + to)
      merged_topic few =
          moved (from + to) (topic_fits (records_in s) t.entry.entry topic (omega (arith, number_is, number-said))) to_fits
          (rw (← drop-drop to from s) counted.entries) (rw (← drop-drop to from s) counted.ascends) ahead_next

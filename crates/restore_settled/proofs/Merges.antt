-- Two walks side by side: the topics so far are settled or not, and the partitions of those to come are still ahead.
use mathlib.Core.Path.{◌≡◌, refl, sym, ap, ◌∙◌, subst}
use mathlib.Core.Bool.{Bool, true, false, cond, ◌&&◌}
use mathlib.Core.List.{List, [], ◌∷◌, map}
use Prim.Native.Nat.{ℕ, ◌+◌, ◌-◌, ◌≤◌}
use native.Mathlib.Omega.{arith}
use borrow.Author.Tests.{eq-eqb, ne_eqb, eqb-true}
use lib.Dec.{eqb}
use lib.ListN.{length, get_or, take, drop, drop_of_length-le}
use lib.Seq.{drop-drop}
use Rattle.model.specs.Choice.{every}
use Rattle.model.specs.Number.{Bytes, number}
use Rattle.model.specs.Run.{value}
use Rattle.model.specs.Kind.{kind_number}
use Rattle.model.specs.Shape.{stored, fault, rows_of, shape_of}
use Rattle.model.specs.Record.{Rec}
use Rattle.model.specs.Map.{count}
use Rattle.model.specs.Contents.{part, plain, record_key, of_topic, partitions}
use Rattle.model.specs.Image.{entry_of}
use Rattle.model.specs.declared.Kind.TheVariants.{Topic}
use Rattle.laws.specs.Choice.{and_left, and_right}
use Rattle.laws.specs.Order.{Lt}
use Rattle.laws.specs.Lists.{All, all_any, all_imp, all_both}
use Rattle.laws.specs.Map.{Asc}
use Rattle.laws_records.specs.Faults.{fault-value}
use Rattle.laws_image.specs.Entries.{entry_key}
use Rattle.keys.specs.Keys.{run_in}
use Rattle.entries.specs.Entries.{records_in}
use Rattle.entries.specs.declared.Cursor.{Cursor}
use Rattle.entries.proofs.Seeks.{no_records}
use Rattle.entries.proofs.Turns.{Stands}
use Rattle.image_counts.specs.Counts.{Counted}
use Rattle.image_counts.proofs.Tallies.{next-end, list}
use Rattle.image_counts.proofs.Topics.{IsTopic, topic_kind, topics_ascend, kind_here, run-here}
use Rattle.image_counts.proofs.Merges.{Merged, number_is}
use Rattle.keys.proofs.Found.{rest-lent}
use Rattle.restore_settled.specs.Settled.{settled_entry, settled_record, factor_of, Factored}

-- 1. Records

partitions_are : (name : Bytes) (l : List Rec) → partitions name (map entry_of l) ≡ count record_key (of_topic name) l
unfolding partitions count
partitions_are name [] = refl
partitions_are name (r ∷ l) = rw (entry_key r, partitions_are name l)

module _ (l : List Rec) (r : Rec) where
  other_settled : (IsTopic r → ⊥) → settled_record l r ≡ true
  unfolding entry_of settled_entry
  other_settled h = rw (ne_eqb (kind_number r.kind) 1 h) (go (eqb (kind_number r.kind) 2))
    where
      go : (p : Bool) → settled_entry (map entry_of l) (cond p (part r.run) (plain r)) ≡ true
      go true = refl
      go false = refl

  topic_settled : IsTopic r
      → eqb (number (value 5 r.run)) 1 && eqb (number (value 3 r.run)) (count record_key (of_topic (value 1 r.run)) l) && eqb (number (value 4 r.run)) (factor_of (value 1 r.run) (number (value 4 r.run)) l)
      ≡ settled_record l r
  unfolding entry_of settled_entry
  topic_settled h = rw (eq-eqb (kind_number r.kind) 1 h, partitions_are (value 1 r.run) l) refl

-- the widths of a topic's fields
topic_widths : (r : Rec) → IsTopic r → fault stored r.kind r.run ≡ 0
    → (length (value 3 r.run) ≡ 4) × (length (value 4 r.run) ≡ 2) × (length (value 5 r.run) ≡ 5)
unfolding rows_of shape_of kind_number
topic_widths r e ok =
    let good : fault stored Topic r.run ≡ 0 = rw (topic_kind r.kind e) at ok in
    (fault-value stored Topic r.run good 3 refl refl, fault-value stored Topic r.run good 4 refl refl, fault-value stored Topic r.run good 5 refl refl)

-- 2. The walks

abbrev Ahead : Bytes → ℕ → Rec → Type 0
Ahead s from r = IsTopic r → (g : ℕ) → factor_of (value 1 r.run) g (records_in (drop from s)) ≡ factor_of (value 1 r.run) g (records_in s)

pub record Aligned (s : Bytes) (at from : ℕ) : Type 0 where
  pub merged : Merged s at from
  pub same : every (settled_record (records_in s)) (records_in (drop at s)) ≡ every (settled_record (records_in s)) (records_in s)
  pub ahead : All (Ahead s from) (records_in (drop at s))

pub aligned_start : (s : Bytes) → Merged s 0 0 → Aligned s 0 0
aligned_start s m = record { merged = m; same = refl; ahead = all_any (Ahead s 0) (λ r h g. refl) (records_in s) }

pub aligned_end : {s : Bytes} {at from : ℕ} → Aligned s at from → length s ≤ at → true ≡ every (settled_record (records_in s)) (records_in s)
aligned_end {s} {at} h past =
    ap (every (settled_record (records_in s))) (sym (no_records (drop at s) (drop_of_length-le s past))) ∙ h.same

-- a turn: the step from the topics' place found an entry
module _ {s : Bytes} {at from start end : ℕ} {next : Cursor} (h : Aligned s at from) (t : Stands s at start end next) where
  ahead_all : All (Ahead s from) (t.entry.entry ∷ records_in (drop end s))
  ahead_all = subst (λ l. All (Ahead s from) l) (list t) h.ahead

  asc : Asc record_key (t.entry.entry ∷ records_in (drop end s))
  asc = subst (λ l. Asc record_key l) (list t) h.merged.ascends

  -- whether the entry is settled and the rest decide for all
  decides : (b : Bool) → settled_record (records_in s) t.entry.entry ≡ b
      → b && every (settled_record (records_in s)) (records_in (drop end s)) ≡ every (settled_record (records_in s)) (records_in s)
  decides b e =
      ap (λ x. x && every (settled_record (records_in s)) (records_in (drop end s))) (sym e)
      ∙ ap (every (settled_record (records_in s))) (sym (list t))
      ∙ h.same

  moved : (to : ℕ) → settled_record (records_in s) t.entry.entry ≡ true → Merged s next.at to → All (Ahead s to) (records_in (drop end s))
      → Aligned s next.at to
  moved to fits m ahead = record {
    merged = m;
    same = ap (λ x. every (settled_record (records_in s)) (records_in (drop x s))) (next-end t) ∙ decides true fits;
    ahead = subst (λ x. All (Ahead s to) (records_in (drop x s))) (sym (next-end t)) ahead;
  }

  pub aligned_other : (get_or s start 0 ≡ 1 → ⊥) → Merged s next.at from → Aligned s next.at from
  aligned_other differs m = moved from (other_settled (records_in s) t.entry.entry (λ e. differs (kind_here t ∙ e))) m ahead_all.1

  -- a topic
  module _ (is : get_or s start 0 ≡ 1) where
    topic_is : IsTopic t.entry.entry
    topic_is = sym (kind_here t) ∙ is

    pub widths_here : (length (value 3 (run_in (take (end - start) (drop start s)))) ≡ 4) × (length (value 4 (run_in (take (end - start) (drop start s)))) ≡ 2) × (length (value 5 (run_in (take (end - start) (drop start s)))) ≡ 5)
    widths_here = rw (run-here t) (topic_widths t.entry.entry topic_is t.entry.passes)

    -- its partitions are told from the partitions' place on
    module _ {n f to : ℕ}
        (p : Counted (take (length s - from) (drop from s)) (value 1 (run_in (take (end - start) (drop start s)))) n to × Factored (take (length s - from) (drop from s)) (value 1 (run_in (take (end - start) (drop start s)))) (number (value 4 (run_in (take (end - start) (drop start s))))) f to) where
      factored : Factored (drop from s) (value 1 t.entry.entry.run) (number (value 4 t.entry.entry.run)) f to
      factored =
          subst (λ x. Factored x (value 1 t.entry.entry.run) (number (value 4 t.entry.entry.run)) f to) (rest-lent from s)
          (subst (λ x. Factored (take (length s - from) (drop from s)) (value 1 x) (number (value 4 x)) f to) (run-here t) p.1)

      factor_is_lem : f ≡ factor_of (value 1 t.entry.entry.run) (number (value 4 t.entry.entry.run)) (records_in s)
      factor_is_lem = factored.is ∙ ahead_all.0 topic_is (number (value 4 t.entry.entry.run))

      ahead_next : All (Ahead s (from + to)) (records_in (drop end s))
      ahead_next =
          all_imp (λ q. Lt (record_key t.entry.entry) (record_key q) × Ahead s from q) (Ahead s (from + to)) step (records_in (drop end s))
          (all_both (λ q. Lt (record_key t.entry.entry) (record_key q)) (Ahead s from) (records_in (drop end s)) asc.0 ahead_all.1)
        where
          step : (q : Rec) → Lt (record_key t.entry.entry) (record_key q) × Ahead s from q → Ahead s (from + to) q
          step q w e g =
              ap (λ x. factor_of (value 1 q.run) g (records_in x)) (sym (drop-drop to from s))
              ∙ factored.later (value 1 q.run) g (topics_ascend t.entry.entry q topic_is e w.0)
              ∙ w.1 e g

      module _ (b : Bool)
          (says : b ≡ eqb (number (value 5 (run_in (take (end - start) (drop start s))))) 1 && eqb (number (value 3 (run_in (take (end - start) (drop start s))))) n && eqb (number (value 4 (run_in (take (end - start) (drop start s))))) f) where
        settled_is : settled_record (records_in s) t.entry.entry ≡ b
        settled_is =
            sym (says
            ∙ rw (run-here t, number_is h.merged t is p.0, factor_is_lem) (topic_settled (records_in s) t.entry.entry topic_is))

        pub aligned_fails : b ≡ false → false ≡ every (settled_record (records_in s)) (records_in s)
        aligned_fails e = decides false (settled_is ∙ e)

        pub aligned_topic : b ≡ true → Merged s next.at (from + to) → Aligned s next.at (from + to)
        aligned_topic e m = moved (from + to) (settled_is ∙ e) m ahead_next

        -- a count that is right is no greater than the partitions' number
        pub count_low : b ≡ true → number (value 3 (run_in (take (end - start) (drop start s)))) ≤ n
        count_low e =
            let run = run_in (take (end - start) (drop start s)) in
            let named = eqb (number (value 5 run)) 1 in
            let right = eqb (number (value 3 run)) n in
            let both : named && right ≡ true = and_left (named && right) (eqb (number (value 4 run)) f) (sym says ∙ e) in
            let same : number (value 3 run) ≡ n = eqb-true (number (value 3 run)) n (and_right named right both) in
            omega arith

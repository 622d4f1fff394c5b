-- Topics among entries: they are told by their kind and ascend by name, and their count has four bytes.
use mathlib.Core.Path.{◌≡◌, refl, sym, ap, ap₂, ◌∙◌}
use mathlib.Core.List.{List, [], ◌∷◌}
use mathlib.Core.Bool.{true, false}
use Prim.Native.Nat.{Ordering}
use Prim.Native.Nat.{ℕ, ◌-◌, ◌≤◌, ◌<◌}
use native.Mathlib.Nat.{add-zero}
use native.Mathlib.Omega.{arith}
use borrow.Author.Tests.{eq-eqb, ne_eqb, le-leb, lt-leb}
use lib.ListN.{length, get_or, take, drop}
use lib.Seq.{get_or-take, get_or-drop}
use Rattle.model.specs.Number.{Bytes, number}
use Rattle.model.specs.Order.{compare_bytes, compare_keys}
use Rattle.model.specs.Run.{value}
use Rattle.model.specs.Kind.{kind_number}
use Rattle.model.specs.Shape.{stored, fault, rows_of, shape_of}
use Rattle.model.specs.Record.{Rec, record_bytes}
use Rattle.model.specs.Key.{rank_part, subject, key_of, topic_key}
use Rattle.model.specs.Map.{count}
use Rattle.model.specs.Contents.{record_key, of_topic}
use Rattle.model.specs.declared.Kind.{Kind}
use Rattle.model.specs.declared.Kind.TheVariants.{Topic}
use Rattle.laws.specs.Order.{then_by_eq, Lt}
use Rattle.laws_records.specs.Faults.{fault-value}
use Rattle.laws_records.specs.Kinds.{number_injective}
use Rattle.keys.specs.Keys.{run_in}
use Rattle.entries.specs.declared.Cursor.{Cursor}
use Rattle.entries.proofs.Records.{record-run}
use Rattle.entries.proofs.Turns.{Stands, lent, lent-keyed}
use Rattle.image_counts.specs.Counts.{count_fits}
use Rattle.image_counts.proofs.Sides.{same_start}

-- 1. Records

abbrev pub IsTopic : Rec → Type 0
IsTopic r = kind_number r.kind ≡ 1

pub topic_kind : (k : Kind) → kind_number k ≡ 1 → k ≡ Topic
unfolding kind_number
topic_kind k e = number_injective k Topic e

topic_key_lem : (r : Rec) → IsTopic r → record_key r ≡ topic_key (value 1 r.run)
unfolding key_of subject
topic_key_lem r e = rw (topic_kind r.kind e)

topic_keys : (a b : Bytes) → compare_keys (topic_key a) (topic_key b) ≡ compare_bytes a b
unfolding compare_keys
topic_keys a b = same_start (rank_part Topic) (a ∷ []) (b ∷ []) ∙ then_by_eq (compare_bytes a b)

pub topics_ascend : (r q : Rec) → IsTopic r → IsTopic q → Lt (record_key r) (record_key q)
    → compare_bytes (value 1 r.run) (value 1 q.run) ≡ Ordering.lt
topics_ascend r q e f h =
    sym (topic_keys (value 1 r.run) (value 1 q.run)) ∙ ap₂ compare_keys (sym (topic_key_lem r e)) (sym (topic_key_lem q f)) ∙ h.is

topic_width : (r : Rec) → IsTopic r → fault stored r.kind r.run ≡ 0 → length (value 3 r.run) ≡ 4
unfolding rows_of shape_of kind_number
topic_width r e ok = fault-value stored Topic r.run (rw (topic_kind r.kind e) at ok) 3 refl refl

module _ (l : List Rec) (r : Rec) where
  pub other_fits : (IsTopic r → ⊥) → count_fits l r ≡ true
  unfolding count_fits
  other_fits h = rw (ne_eqb _ _ h)

  pub topic_fits : IsTopic r → number (value 3 r.run) ≤ count record_key (of_topic (value 1 r.run)) l → count_fits l r ≡ true
  unfolding count_fits
  topic_fits e h = rw (eq-eqb _ _ e, le-leb _ _ h)

  pub topic_exceeds : IsTopic r → count record_key (of_topic (value 1 r.run)) l < number (value 3 r.run) → count_fits l r ≡ false
  unfolding count_fits
  topic_exceeds e h = rw (eq-eqb _ _ e, lt-leb _ _ h)

-- 2. By an entry's bytes

first_byte : (r : Rec) → get_or (record_bytes r) 0 0 ≡ kind_number r.kind
unfolding record_bytes
first_byte r = refl

module _ {s : Bytes} {at start end : ℕ} {next : Cursor} (t : Stands s at start end next) where
  pub kind_here : get_or s start 0 ≡ kind_number t.entry.entry.kind
  kind_here =
      let longer : 0 < end - start = omega (arith, t.first, t.last) in
      sym (get_or-take (end - start) (drop start s) 0 0 longer ∙ get_or-drop start s 0 0 ∙ ap (λ i. get_or s i 0) (add-zero start))
      ∙ ap (λ b. get_or b 0 0) (lent s at start end next t)
      ∙ first_byte t.entry.entry

  pub run-here : run_in (take (end - start) (drop start s)) ≡ t.entry.entry.run
  run-here = ap run_in (lent s at start end next t) ∙ record-run t.entry.entry t.entry.passes

  pub headed_here : 3 ≤ length (take (end - start) (drop start s))
  headed_here = (lent-keyed s at start end next t).headed

  pub width_here : get_or s start 0 ≡ 1 → length (value 3 (run_in (take (end - start) (drop start s)))) ≡ 4
  width_here e =
      ap (λ x. length (value 3 x)) run-here
      ∙ topic_width t.entry.entry (sym kind_here ∙ e) t.entry.passes

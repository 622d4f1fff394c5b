-- The factor along a walk: what is taken so far, with the entries still to come, gives all entries' factor.
use mathlib.Core.Path.{◌≡◌, refl, sym, ap, ◌∙◌, subst}
use mathlib.Core.Bool.{false}
use mathlib.Core.List.{◌∷◌}
use Prim.Native.Nat.{Ordering}
use Prim.Native.Nat.{ℕ, ◌-◌, ◌≤◌}
use native.Mathlib.Omega.{arith}
use lib.ListN.{length, take, drop, drop_of_length-le}
use Rattle.model.specs.Number.{Bytes}
use Rattle.model.specs.Order.{compare_bytes, ordering, is_same}
use Rattle.model.specs.Record.{Rec}
use Rattle.model.specs.Contents.{record_key, of_topic}
use Rattle.model.specs.Move.{replicas, node_count}
use Rattle.std.specs.declared.cmp.Ordering.{Ordering as Order}
use Rattle.std.specs.declared.cmp.Ordering.TheVariants.{Less, Equal, Greater}
use Rattle.laws.specs.Order.{lt≢gt, eq≢gt, Lt}
use Rattle.laws.specs.Lists.{All, all_imp}
use Rattle.laws.specs.Map.{Asc}
use Rattle.keys.specs.Keys.{key_in, run_in}
use Rattle.entries.specs.Entries.{records_in}
use Rattle.entries.specs.declared.Cursor.{Cursor}
use Rattle.entries.proofs.Seeks.{no_records}
use Rattle.entries.proofs.Turns.{Stands}
use Rattle.image_counts.specs.Counts.{beside_topic}
use Rattle.image_counts.proofs.Sides.{of_beside, before-later, later-after}
use Rattle.image_counts.proofs.Tallies.{next-end, lent_key, list}
use Rattle.image_counts.proofs.Topics.{run-here}
use Rattle.restore_settled.specs.Settled.{factor_of, Factored}
use Rattle.restore_settled.proofs.Factors.{factor_skips, factor_takes, factor_stays}

-- the walk is at `at`, and `f` is the factor so far
pub record Folded (s name : Bytes) (given at f : ℕ) : Type 0 where
  pub so_far : factor_of name f (records_in (drop at s)) ≡ factor_of name given (records_in s)
  pub later : (other : Bytes) (g : ℕ) → compare_bytes name other ≡ Ordering.lt
      → factor_of other g (records_in (drop at s)) ≡ factor_of other g (records_in s)

pub folded_start : (s name : Bytes) (given : ℕ) → Folded s name given 0 given
folded_start s name given = record { so_far = refl; later = λ other g h. refl }

-- where the rest has none of the topic's partitions, the factor is all entries'
told : {s name : Bytes} {given at f : ℕ} → Folded s name given at f → All (λ r. of_topic name (record_key r) ≡ false) (records_in (drop at s))
    → Factored s name given f at
told {s} {name} {given} {at} {f} h none = record {
  is = sym (factor_stays name f (records_in (drop at s)) none) ∙ h.so_far;
  later = h.later;
}

pub folded-end : {s name : Bytes} {given at f : ℕ} → Folded s name given at f → at ≤ length s → length s ≤ at → Factored s name given f (length s)
folded-end {s} {name} {given} {at} {f} h most past =
    let e : at ≡ length s = omega arith in
    let none : All (λ r. of_topic name (record_key r) ≡ false) (records_in (drop at s)) = rw (no_records (drop at s) (drop_of_length-le s past)) tt in
    subst (λ x. Factored s name given f x) e (told h none)

pub factored_as : {s name other : Bytes} {given given' factor at : ℕ} → name ≡ other → given ≡ given' → Factored s name given factor at → Factored s other given' factor at
factored_as {s} {name} {other} {given} {given'} {factor} {at} e g h =
    subst (λ x. Factored s x given' factor at) e (subst (λ x. Factored s name x factor at) g h)

-- a turn: the step from the walk's place found an entry
module _ {s name : Bytes} {given at f start end : ℕ} {next : Cursor} (h : Folded s name given at f) (t : Stands s at start end next) where
  -- one entry further
  moved : (g : ℕ) → factor_of name g (records_in (drop end s)) ≡ factor_of name f (t.entry.entry ∷ records_in (drop end s))
      → (beside_topic name (record_key t.entry.entry) ≡ Ordering.gt → ⊥) → Folded s name given next.at g
  moved g same below =
      let p : Folded s name given end g = record {
        so_far = same ∙ ap (factor_of name f) (sym (list t)) ∙ h.so_far;
        later = λ other x up.
            let apart = of_beside other (record_key t.entry.entry) ∙ ap is_same (before-later name other (record_key t.entry.entry) up below) in
            sym (factor_skips other t.entry.entry x (records_in (drop end s)) apart)
            ∙ ap (factor_of other x) (sym (list t))
            ∙ h.later other x up;
      } in
      subst (λ x. Folded s name given x g) (sym (next-end t)) p

  module _ (o : Order) (e : ordering o ≡ beside_topic name (key_in (take (end - start) (drop start s)))) where
    stands_so : {x : Order} → o ≡ x → beside_topic name (record_key t.entry.entry) ≡ ordering x
    stands_so is = ap (beside_topic name) (sym (lent_key t)) ∙ sym e ∙ ap ordering is

    is_of : {x : Order} → o ≡ x → of_topic name (record_key t.entry.entry) ≡ is_same (ordering x)
    is_of is = of_beside name (record_key t.entry.entry) ∙ ap is_same (stands_so is)

    pub folded_less : o ≡ Less → Folded s name given next.at f
    folded_less is =
        moved f (sym (factor_skips name t.entry.entry f (records_in (drop end s)) (is_of is))) (λ g. lt≢gt (sym (stands_so is) ∙ g))

    pub folded_equal : o ≡ Equal → (n : ℕ) → n ≡ node_count (replicas (run_in (take (end - start) (drop start s)))) → Folded s name given next.at n
    folded_equal is n en =
        let count : n ≡ node_count (replicas t.entry.entry.run) = en ∙ ap (λ x. node_count (replicas x)) (run-here t) in
        moved n
        (ap (λ x. factor_of name x (records_in (drop end s))) count ∙ sym (factor_takes name t.entry.entry f (records_in (drop end s)) (is_of is)))
        (λ g. eq≢gt (sym (stands_so is) ∙ g))

    pub folded_greater : o ≡ Greater → Asc record_key (records_in (drop at s)) → Factored s name given f start
    folded_greater is up =
        let asc = subst (λ l. Asc record_key l) (list t) up in
        let none : All (λ r. of_topic name (record_key r) ≡ false) (records_in (drop at s)) =
        rw (list t) (is_of is, all_imp _ _ after (records_in (drop end s)) asc.0) in
        subst (λ x. Factored s name given f x) (sym t.first) (told h none)
      where
        after : (q : Rec) → Lt (record_key t.entry.entry) (record_key q) → of_topic name (record_key q) ≡ false
        after q l = of_beside name (record_key q) ∙ ap is_same (later-after name t.entry.entry q l (stands_so is))

-- The steps of a change: what each sets, and where it leaves the broker as it is.
use mathlib.Core.Path.{◌≡◌, refl, sym, ap, ◌∙◌, subst}
use mathlib.Core.Bool.{true, false}
use mathlib.Core.List.{[], ◌∷◌}
use mathlib.Core.Option.{Option, none, some}
use Prim.Native.Nat.{ℕ, ◌-◌, ◌/◌, ◌%◌, ◌≤◌, ◌<◌}
use native.Mathlib.Omega.{arith}
use borrow.Author.Tests.{eq-eqb, ne_eqb}
use lib.ListN.{length, take, drop}
use Rattle.model.specs.Choice.{given, is_some}
use Rattle.model.specs.Number.{Bytes, number}
use Rattle.model.specs.Run.{Run, field, value, set_field, or_empty}
use Rattle.model.specs.Kind.{kind_number}
use Rattle.model.specs.Shape.{Row, rows_of, row_at, is_required, stored, shape_of, fault}
use Rattle.model.specs.Move.{fenced_after, changed_broker}
use Rattle.model.specs.declared.Kind.TheVariants.{BrokerRegistration, BrokerRegistrationChange}
use Rattle.laws.specs.Choice.{impossible}
use Rattle.laws_records.specs.Fields.{value-set_other}
use Rattle.laws_records.specs.Faults.{fault_required, fault-value, fault-field, fault-set_field}
use Rattle.keys.specs.Keys.{run_in}
use Rattle.entries.specs.Entries.{record_in}
use Rattle.entries.proofs.Changes.{record-in}
use Rattle.image_entries.proofs.Records.{run_in_lem}
use Rattle.image_entries.proofs.Fields.{is_empty_lem}
use Rattle.keys.proofs.Fields.{PartOf, lent-value}
use Rattle.apply_brokers.specs.Change.{IsChange, BrokerIn, Suits, fenced_by, shut_by, with_dirs, with_cordoned}
use Rattle.apply_brokers.proofs.Drafts.{run_is}

-- 1. A change's fields

module _ (s : Bytes) (i : IsChange s) where
  change_passes : fault stored BrokerRegistrationChange (record_in s).run ≡ 0
  change_passes =
      subst (λ k. fault stored k (record_in s).run ≡ 0) i.kind
      (subst (λ r. fault stored r.kind r.run ≡ 0) (sym (record-in s i.is)) i.is.passes)

  pub node_width_lem : length (value 1 (run_in s)) ≡ 8
  unfolding rows_of shape_of kind_number
  node_width_lem =
      ap (λ r. length (value 1 r)) (run_in_lem s i.is) ∙ fault-value stored BrokerRegistrationChange (record_in s).run change_passes 1 refl refl

  pub fencing_width : length (value 3 (record_in s).run) ≡ 1
  unfolding rows_of shape_of kind_number
  fencing_width = ap length (fault-value stored BrokerRegistrationChange (record_in s).run change_passes 3 refl refl).only

  pub shut_width : length (value 4 (record_in s).run) ≡ 1
  unfolding rows_of shape_of kind_number
  shut_width = ap length (fault-value stored BrokerRegistrationChange (record_in s).run change_passes 4 refl refl).only

  -- a field's part is its value
  part-value : (tag start end : ℕ) → PartOf s tag start end → take (end - start) (drop start s) ≡ value tag (record_in s).run
  part-value tag start end p = lent-value s tag start end p ∙ ap (value tag) (run_in_lem s i.is)

  few_dirs : (v : Bytes) → (length v % 16 ≡ 0) × (length v / 16 ≤ 64) → length v ≤ 1024
  few_dirs v h = omega (arith, h.0, h.1)

  pub dirs_suit : (start end : ℕ) → PartOf s 5 start end → Suits 8 (take (end - start) (drop start s))
  unfolding rows_of shape_of kind_number
  dirs_suit start end p =
      let h = fault-value stored BrokerRegistrationChange (record_in s).run change_passes 5 refl refl in
      subst (Suits 8) (sym (part-value 5 start end p))
      (record { row = _; found = refl; once = refl; fits = h; few = few_dirs (value 5 (record_in s).run) h })

  pub cordoned_suit : (start end : ℕ) → PartOf s 6 start end → is_some (field 6 (record_in s).run) ≡ true
      → Suits 11 (take (end - start) (drop start s))
  unfolding rows_of shape_of kind_number
  cordoned_suit start end p there =
      subst (Suits 11) (sym (part-value 6 start end p)) (go (field 6 (record_in s).run) refl there)
    where
      go : (o : Option Bytes) → field 6 (record_in s).run ≡ o → is_some o ≡ true → Suits 11 (or_empty o)
      go none e t = impossible cc
      go (some v) e t =
          let h = fault-field stored BrokerRegistrationChange (record_in s).run change_passes 6 refl v e in
          record { row = _; found = refl; once = refl; fits = h; few = few_dirs v h }

-- a flag suits the two fields that are flags
pub fenced_suits : (x : ℕ) → x < 2 → Suits 9 (x ∷ [])
unfolding rows_of shape_of kind_number
fenced_suits x h = record { row = _; found = refl; once = refl; fits = record { byte = x; only = refl; low = h }; few = omega arith }

pub shut_suits : (x : ℕ) → x < 2 → Suits 10 (x ∷ [])
unfolding rows_of shape_of kind_number
shut_suits x h = record { row = _; found = refl; once = refl; fits = record { byte = x; only = refl; low = h }; few = omega arith }

-- 2. What a step leaves

module _ (run : Run) (ok : fault stored BrokerRegistration run ≡ 0) where
  -- the value that a field has changes nothing
  same-value : (tag : ℕ) {row : Row} → row_at (rows_of (shape_of stored BrokerRegistration)) tag ≡ some row → is_required row.presence ≡ true
      → set_field tag (value tag run) run ≡ run
  same-value tag found must =
      let h = fault_required stored BrokerRegistration run ok tag found must in
      let e : value tag run ≡ h.0 = ap or_empty h.1 in
      ap (λ v. set_field tag v run) e ∙ fault-set_field stored BrokerRegistration run ok tag h.0 h.1

  same_fenced : set_field 9 (value 9 run) run ≡ run
  unfolding rows_of shape_of kind_number
  same_fenced = same-value 9 refl refl

  same_shut : set_field 10 (value 10 run) run ≡ run
  unfolding rows_of shape_of kind_number
  same_shut = same-value 10 refl refl

module _ (change : Run) {n : ℕ} (e : n ≡ number (value 3 change)) {w : Bytes} {r : ℕ} (run : Run) where
  pub unfenced : n ≡ 0 → BrokerIn w r (set_field 9 (0 ∷ []) run) → BrokerIn w r (fenced_by change run)
  unfolding fenced_by
  unfenced z d = rw (← e, eq-eqb n 0 z) d

  pub still_fenced : n ≡ 1 → BrokerIn w r run → BrokerIn w r (fenced_by change run)
  unfolding fenced_by
  still_fenced z d =
      let apart : n ≡ 0 → ⊥ = λ q. omega arith in
      rw (← e, ne_eqb n 0 apart, eq-eqb n 1 z) (subst (BrokerIn w r) (sym (same_fenced run d.passes)) d)

  pub fenced : (n ≡ 0 → ⊥) → (n ≡ 1 → ⊥) → BrokerIn w r (set_field 9 (1 ∷ []) run) → BrokerIn w r (fenced_by change run)
  unfolding fenced_by
  fenced a b d = rw (← e, ne_eqb n 0 a, ne_eqb n 1 b) d

module _ (change : Run) {n : ℕ} (e : n ≡ number (value 4 change)) {w : Bytes} {r : ℕ} (run : Run) where
  pub shut_down : n ≡ 1 → BrokerIn w r (set_field 10 (1 ∷ []) run) → BrokerIn w r (shut_by change run)
  unfolding shut_by
  shut_down z d = rw (← e, eq-eqb n 1 z) d

  pub still_up : (n ≡ 1 → ⊥) → BrokerIn w r run → BrokerIn w r (shut_by change run)
  unfolding shut_by
  still_up a d = rw (← e, ne_eqb n 1 a) (subst (BrokerIn w r) (sym (same_shut run d.passes)) d)

module _ (s : Bytes) (i : IsChange s) {w : Bytes} {r : ℕ} (run : Run) (start end : ℕ) where
  pub no_dirs : PartOf s 5 start end → start ≡ end → BrokerIn w r run → BrokerIn w r (with_dirs (record_in s).run run)
  unfolding with_dirs
  no_dirs p z d = rw (← is_empty_lem s i.is 5 start end p, eq-eqb start end z) d

  pub dirs_set : PartOf s 5 start end → (start ≡ end → ⊥) → BrokerIn w r (set_field 8 (take (end - start) (drop start s)) run)
      → BrokerIn w r (with_dirs (record_in s).run run)
  unfolding with_dirs
  dirs_set p a d =
      rw (← is_empty_lem s i.is 5 start end p, ne_eqb start end a) (subst (λ v. BrokerIn w r (set_field 8 v run)) (part-value s i 5 start end p) d)

  pub cordoned_set : PartOf s 6 start end → is_some (field 6 (record_in s).run) ≡ true
      → BrokerIn w r (set_field 11 (take (end - start) (drop start s)) run) → BrokerIn w r (with_cordoned (record_in s).run run)
  unfolding with_cordoned
  cordoned_set p there d = go (field 6 (record_in s).run) there (subst (λ v. BrokerIn w r (set_field 11 v run)) (part-value s i 6 start end p) d)
    where
      go : (o : Option Bytes) → is_some o ≡ true → BrokerIn w r (set_field 11 (or_empty o) run)
          → BrokerIn w r (given o run (λ v. set_field 11 v run))
      go none t q = impossible cc
      go (some v) t q = q

pub no_cordoned : (change : Run) {w : Bytes} {r : ℕ} {run : Run} → is_some (field 6 change) ≡ false → BrokerIn w r run → BrokerIn w r (with_cordoned change run)
unfolding with_cordoned
no_cordoned change {w} {r} {run} none-there d = go (field 6 change) none-there
  where
    go : (o : Option Bytes) → is_some o ≡ false → BrokerIn w r (given o run (λ v. set_field 11 v run))
    go none t = d
    go (some v) t = impossible cc

-- 3. All steps

pub all_steps : (change run : Run) → with_cordoned change (with_dirs change (shut_by change (fenced_by change run))) ≡ changed_broker change run
unfolding with_cordoned with_dirs shut_by fenced_by changed_broker
all_steps change run = rw (value-set_other 9 (fenced_after (number (value 3 change)) (value 9 run)) 10 (λ e. omega arith) run)

-- a step after another, each by the fields as they are read
pub step_on : (f : Run → Run) {b : Bytes} {n : ℕ} {run : Run} → BrokerIn b n run → {w : Bytes} {r : ℕ} → BrokerIn w r (f (run_in (take n b)))
    → BrokerIn w r (f run)
step_on f d {w} {r} e = subst (λ x. BrokerIn w r (f x)) (run_is d) e

pub all_set : (change run : Run) {b c d e : Bytes} {k m n r : ℕ} → BrokerIn b k (fenced_by change run)
    → BrokerIn c m (shut_by change (run_in (take k b))) → BrokerIn d n (with_dirs change (run_in (take m c)))
    → BrokerIn e r (with_cordoned change (run_in (take n d))) → BrokerIn e r (changed_broker change run)
all_set change run {e = e} {r = r} f s d c =
    subst (BrokerIn e r) (all_steps change run) (step_on (with_cordoned change) (step_on (with_dirs change) (step_on (shut_by change) f s) d) c)

-- What a change makes of an entry: which records it is for, and that the changed entry's record still reads back, as long as it was.
use mathlib.Core.Path.{◌≡◌, refl, sym, ap, ◌∙◌, subst}
use mathlib.Core.Bool.{Bool, true, false, cond, ◌&&◌}
use mathlib.Core.List.{◌++◌}
use Prim.Native.Nat.{ℕ, ◌+◌, ◌-◌, ◌≤◌, ◌<◌}
use native.Mathlib.Omega.{arith}
use borrow.Author.Tests.{eq-eqb, ne_eqb}
use lib.Dec.{eqb}
use lib.ListN.{length, get_or, take, drop}
use lib.Seq.{slice}
use Rattle.model.specs.Number.{Bytes, number, bytes, span}
use Rattle.model.specs.Order.{same_bytes}
use Rattle.model.specs.Run.{field, value, item, done}
use Rattle.model.specs.Kind.{kind_number}
use Rattle.model.specs.Shape.{stored, fault}
use Rattle.model.specs.Record.{Rec, record_bytes}
use Rattle.model.specs.Contents.{Entry, topic, part, plain, kept, topic_run, flag_bytes}
use Rattle.model.specs.Image.{entry_of}
use Rattle.model.specs.Move.{clear_named, count_partition}
use Rattle.model.specs.declared.Kind.TheVariants.{Topic}
use Rattle.laws.specs.Choice.{and_left}
use Rattle.laws.specs.Numbers.{bytes_are_bytes, number_bound, number_bytes_lem}
use Rattle.laws_records.specs.Stored.{topic_passes}
use Rattle.laws_image.specs.Entries.{entry_kept}
use Rattle.keys.specs.Keys.{run_in}
use Rattle.entries.specs.Entries.{IsRecord, record_in}
use Rattle.entries.proofs.Changes.{record-in}
use Rattle.image_entries.proofs.Records.{run_in_lem, kind_in_lem}
use Rattle.apply_work.proofs.Entries.{topic_entry}
use Rattle.apply_patches.specs.Patches.{is_topic_with, CountFits, StandsFor, patched}
use Rattle.apply_patches.proofs.Topics.{length_topic, numbers_fit, flag_cleared, count_changed, factor_changed, count-read}

-- 1. Which records a change is for

-- a topic's fields as its entry has them
abbrev name_of : Rec → Bytes
name_of r = value 1 r.run

abbrev id_of : Rec → Bytes
id_of r = value 2 r.run

abbrev count_in : Rec → ℕ
count_in r = number (value 3 r.run)

abbrev factor_in : Rec → ℕ
factor_in r = number (value 4 r.run)

abbrev flag_in : Rec → Bool
flag_in r = eqb (number (value 5 r.run)) 1

abbrev IsTopic : Rec → Type 0
IsTopic r = eqb (kind_number r.kind) 1 ≡ true

chosen_topic : (tag : ℕ) (v : Bytes) (r : Rec) → is_topic_with tag v r ≡ true → IsTopic r
unfolding is_topic_with
chosen_topic tag v r h = and_left (eqb (kind_number r.kind) 1) (same_bytes (value tag r.run) v) h

abbrev unnamed : Rec → Entry
unnamed r = topic (name_of r) (id_of r) (count_in r) (factor_in r) false

clear_named_is : (i : Bytes) (r : Rec) → clear_named i (entry_of r) ≡ cond (is_topic_with 2 i r) (unnamed r) (entry_of r)
unfolding clear_named entry_of is_topic_with
clear_named_is i r = go (eqb (kind_number r.kind) 1) (eqb (kind_number r.kind) 2) (same_bytes (id_of r) i) refl
  where
    go : (a b c : Bool) → same_bytes (id_of r) i ≡ c
        → clear_named i (cond a (topic (name_of r) (id_of r) (count_in r) (factor_in r) (flag_in r)) (cond b (part r.run) (plain r)))
        ≡ cond (a && c) (unnamed r) (cond a (topic (name_of r) (id_of r) (count_in r) (factor_in r) (flag_in r)) (cond b (part r.run) (plain r)))
    go true b true e = rw e
    go true b false e = rw e
    go false true c e = refl
    go false false c e = refl

abbrev told : ℕ → ℕ → Rec → Entry
told new replicas r = topic (name_of r) (id_of r) (count_in r + new) replicas (flag_in r)

count_partition_is : (name : Bytes) (new replicas : ℕ) (r : Rec) → count_partition name new replicas (entry_of r) ≡ cond (is_topic_with 1 name r) (told new replicas r) (entry_of r)
unfolding count_partition entry_of is_topic_with
count_partition_is name new replicas r = go (eqb (kind_number r.kind) 1) (eqb (kind_number r.kind) 2) (same_bytes (name_of r) name) refl
  where
    go : (a b c : Bool) → same_bytes (name_of r) name ≡ c
        → count_partition name new replicas (cond a (topic (name_of r) (id_of r) (count_in r) (factor_in r) (flag_in r)) (cond b (part r.run) (plain r)))
        ≡ cond (a && c) (told new replicas r) (cond a (topic (name_of r) (id_of r) (count_in r) (factor_in r) (flag_in r)) (cond b (part r.run) (plain r)))
    go true b true e = rw e
    go true b false e = rw e
    go false true c e = refl
    go false false c e = refl

-- 2. The changed entry's record

-- an entry that can stand in a record's place
pub record Fits (r : Rec) (e : Entry) : Type 0 where
  pub passes : fault stored (kept e).kind (kept e).run ≡ 0
  pub back : entry_of (kept e) ≡ e
  pub long : length (record_bytes (kept e)) ≡ length (record_bytes r)

-- a record that passes and stands for its entry
pub record Sound (r : Rec) : Type 0 where
  pub passes : fault stored r.kind r.run ≡ 0
  pub keeps : kept (entry_of r) ≡ r

module _ (r : Rec) (s : Sound r) where
  fits_same : Fits r (entry_of r)
  fits_same = record {
    passes = rw s.keeps s.passes;
    back = ap entry_of s.keeps;
    long = ap (λ x. length (record_bytes x)) s.keeps;
  }

  module _ (t : IsTopic r) where
    as_kept : kept (topic (name_of r) (id_of r) (count_in r) (factor_in r) (flag_in r)) ≡ r
    as_kept = ap kept (sym (topic_entry r t)) ∙ s.keeps

    passes_as : fault stored Topic (topic_run (name_of r) (id_of r) (count_in r) (factor_in r) (item 5 (flag_bytes (flag_in r)) done)) ≡ 0
    unfolding kept
    passes_as = ap (λ x. fault stored x.kind x.run) as_kept ∙ s.passes

    count-field : bytes 4 (count_in r) ≡ value 3 r.run
    unfolding kept field
    count-field = ap (λ x. value 3 x.run) as_kept

    factor_field : bytes 2 (factor_in r) ≡ value 4 r.run
    unfolding kept field
    factor_field = ap (λ x. value 4 x.run) as_kept

    count_low : count_in r < span 4
    count_low = subst (λ x. number x < span 4) count-field (number_bound (bytes 4 (count_in r)) (bytes_are_bytes 4 (count_in r)))

    factor_low : factor_in r < span 2
    factor_low = subst (λ x. number x < span 2) factor_field (number_bound (bytes 2 (factor_in r)) (bytes_are_bytes 2 (factor_in r)))

    fits_topic : (count factor : ℕ) (named : Bool) → count < span 4 → factor < span 2 → Fits r (topic (name_of r) (id_of r) count factor named)
    unfolding kept
    fits_topic count factor named c f = record {
      passes = topic_passes (name_of r) (id_of r) (count_in r) (factor_in r) count factor (flag_in r) named ∙ passes_as;
      back = entry_kept (topic (name_of r) (id_of r) count factor named) tt (c, f);
      long =
          length_topic (name_of r) (id_of r) count factor named
          ∙ sym (length_topic (name_of r) (id_of r) (count_in r) (factor_in r) (flag_in r))
          ∙ ap (λ x. length (record_bytes x)) as_kept;
    }

  pub clear_named_fits : (i : Bytes) → Fits r (clear_named i (entry_of r))
  clear_named_fits i = rw (clear_named_is i r) (go (is_topic_with 2 i r) refl)
    where
      go : (b : Bool) → is_topic_with 2 i r ≡ b → Fits r (cond b (unnamed r) (entry_of r))
      go true e = let t = chosen_topic 2 i r e in fits_topic t (count_in r) (factor_in r) false (count_low t) (factor_low t)
      go false e = fits_same

  pub count_partition_fits : (name : Bytes) (new replicas : ℕ) → CountFits (entry_of r) → new ≤ 1 → replicas < 65536 → Fits r (count_partition name new replicas (entry_of r))
  count_partition_fits name new replicas most low few = rw (count_partition_is name new replicas r) (go (is_topic_with 1 name r) refl)
    where
      go : (b : Bool) → is_topic_with 1 name r ≡ b → Fits r (cond b (told new replicas r) (entry_of r))
      go true e =
          let t = chosen_topic 1 name r e in
          let m : count_in r + 1 < span 4 = subst CountFits (topic_entry r t) most in
          fits_topic t (count_in r + new) replicas (flag_in r) (omega arith) few
      go false e = fits_same

-- 3. By the bytes

module _ {s : Bytes} (i : IsRecord s) where
  pub other_kind : (tag : ℕ) (v : Bytes) → (get_or s 0 0 ≡ 1 → ⊥) → false ≡ is_topic_with tag v (record_in s)
  unfolding is_topic_with
  other_kind tag v h = rw (ne_eqb (kind_number (record_in s).kind) 1 (λ e. h (kind_in_lem s i ∙ e)))

  pub field_says : (tag : ℕ) (v : Bytes) {x : Bytes} {b : Bool} → get_or s 0 0 ≡ 1 → x ≡ value tag (run_in s) → b ≡ same_bytes x v → b ≡ is_topic_with tag v (record_in s)
  unfolding is_topic_with
  field_says tag v h here said =
      rw (eq-eqb (kind_number (record_in s).kind) 1 (sym (kind_in_lem s i) ∙ h)) (said ∙ ap (λ y. same_bytes y v) (here ∙ ap (value tag) (run_in_lem s i)))

module _ {s : Bytes} (h : StandsFor s) where
  abbrev r : Rec
  r = record_in s

  sound_in : Sound (record_in s)
  sound_in = record { passes = rw (record-in s h.is) h.is.passes; keeps = h.keeps }

  bytes_in : s ≡ record_bytes (record_in s)
  bytes_in = h.is.bytes ∙ ap record_bytes (sym (record-in s h.is))

  as_topic : IsTopic (record_in s) → s ≡ record_bytes (kept (topic (name_of r) (id_of r) (count_in r) (factor_in r) (flag_in r)))
  as_topic t = bytes_in ∙ ap record_bytes (sym (as_kept r sound_in t))

  -- an entry that a change is not for stays
  stays : (f : Entry → Entry) → f (entry_of r) ≡ entry_of r → s ≡ patched f s
  stays f e = bytes_in ∙ ap record_bytes (sym (ap kept e ∙ h.keeps))

  module _ (tag : ℕ) (v : Bytes) {b : Bool} (said : b ≡ is_topic_with tag v (record_in s)) where
    is_chosen : b ≡ true → IsTopic r
    is_chosen e = chosen_topic tag v r (sym said ∙ e)

    pub numbers_there : b ≡ true → 20 ≤ length s
    numbers_there e = numbers_fit (name_of r) (id_of r) (count_in r) (factor_in r) (flag_in r) (as_topic (is_chosen e))

  module _ (id : Bytes) {b : Bool} (said : b ≡ is_topic_with 2 id (record_in s)) where
    pub clear_named_stays : b ≡ false → s ≡ patched (clear_named id) s
    clear_named_stays e = stays (clear_named id) (clear_named_is id r ∙ ap (λ x. cond x (unnamed r) (entry_of r)) (sym said ∙ e))

    pub clear_named-put : b ≡ true → {v : Bytes} → v ≡ take (length s - 1) s ++ bytes 1 0 ++ drop (length s - 1 + 1) s → v ≡ patched (clear_named id) s
    clear_named-put e put =
        flag_cleared (name_of r) (id_of r) (count_in r) (factor_in r) (flag_in r) (as_topic (is_chosen 2 id said e)) put
        ∙ ap (λ x. record_bytes (kept x)) (sym (clear_named_is id r ∙ ap (λ x. cond x (unnamed r) (entry_of r)) (sym said ∙ e)))

  module _ (name : Bytes) (new replicas : ℕ) {b : Bool} (said : b ≡ is_topic_with 1 name (record_in s)) where
    pub count_partition_stays : b ≡ false → s ≡ patched (count_partition name new replicas) s
    count_partition_stays e =
        stays (count_partition name new replicas) (count_partition_is name new replicas r ∙ ap (λ x. cond x (told new replicas r) (entry_of r)) (sym said ∙ e))

    pub count_partition-put : b ≡ true → {n : ℕ} {u v : Bytes} → n ≡ number (slice (length s - 17) (length s - 17 + 4) s)
        → u ≡ take (length s - 17) s ++ bytes 4 (n + new) ++ drop (length s - 17 + 4) s
        → v ≡ take (length s - 10) u ++ bytes 2 replicas ++ drop (length s - 10 + 2) u → v ≡ patched (count_partition name new replicas) s
    count_partition-put e {n} {u} {v} get put_count put-factor =
        let t = is_chosen 1 name said e in
        let count : n ≡ count_in r =
        count-read (name_of r) (id_of r) (count_in r) (factor_in r) (flag_in r) (as_topic t) get ∙ number_bytes_lem 4 (count_in r) (count_low r sound_in t) in
        let u-is : u ≡ record_bytes (kept (topic (name_of r) (id_of r) (count_in r + new) (factor_in r) (flag_in r))) =
        count_changed (name_of r) (id_of r) (count_in r) (factor_in r) (flag_in r) (as_topic t) (n + new) put_count
        ∙ ap (λ c. record_bytes (kept (topic (name_of r) (id_of r) (c + new) (factor_in r) (flag_in r)))) count in
        let long : length s ≡ length u =
        ap length (as_topic t) ∙ length_topic (name_of r) (id_of r) (count_in r) (factor_in r) (flag_in r)
        ∙ sym (ap length u-is ∙ length_topic (name_of r) (id_of r) (count_in r + new) (factor_in r) (flag_in r)) in
        factor_changed (name_of r) (id_of r) (count_in r + new) (factor_in r) (flag_in r) u-is replicas
        (put-factor ∙ ap (λ m. take (m - 10) u ++ bytes 2 replicas ++ drop (m - 10 + 2) u) long)
        ∙ ap (λ x. record_bytes (kept x)) (sym (count_partition_is name new replicas r ∙ ap (λ x. cond x (told new replicas r) (entry_of r)) (sym said ∙ e)))

-- The record of an empty group by its bytes: how they are written, and that it is a record.
use mathlib.Core.Path.{◌≡◌, refl, sym, ap, ap₂, ◌∙◌, subst}
use mathlib.Core.List.{[], ◌∷◌, ◌++◌, append_assoc}
use Prim.Native.Nat.{ℕ, ◌+◌, ◌-◌, ◌≤◌}
use native.Mathlib.Omega.{arith}
use lib.ListN.{length, take, drop, length-append}
use lib.Seq.{slice, length-slice, length-take-le, take_at}
use Rattle.model.specs.Number.{Bytes, AreBytes, bytes}
use Rattle.model.specs.Run.{run_of, bytes_of}
use Rattle.model.specs.Kind.{kind_number}
use Rattle.model.specs.Shape.{stored, fault}
use Rattle.model.specs.Record.{record_bytes}
use Rattle.model.specs.Contents.{record_key, group_of}
use Rattle.laws.specs.Numbers.{slice_are_bytes, drop_are_bytes}
use Rattle.laws_records.specs.Runs.{AreFields, bytes_run, fields-run}
use Rattle.laws_records.specs.Records.{length_record}
use Rattle.laws_image.specs.Fits.{Readable}
use Rattle.laws_image.specs.Groups.{Grouped, group_readable}
use Rattle.keys.specs.Keys.{run_in, key_in}
use Rattle.keys.proofs.Found.{lent_slice}
use Rattle.entries.specs.Entries.{IsRecord, record_in}
use Rattle.entries.proofs.Changes.{record-in, key_in_lem}
use Rattle.image_groups.specs.Groups.{leading}
use Rattle.image_groups.proofs.Leading.{run_in_lem}
use Rattle.apply_groups.proofs.Runs.{leading-whole, group_bytes, leading-shorter}

-- a part more of a buffer that is written from its start on
wrote : (x y v w : Bytes) (at : ℕ) → at ≤ length v → take at v ≡ x → w ≡ take at v ++ y ++ drop (at + length y) v → take (at + length y) w ≡ x ++ y
wrote x y v w at fits e written =
    let long : length (x ++ y) ≡ at + length y =
    length-append x y
    ∙ ap (λ n. n + length y) (sym (ap length e) ∙ length-take-le at v fits) in
    ap (take (at + length y)) (written ∙ ap (λ p. p ++ y ++ drop (at + length y) v) e)
    ∙ take_at (x ++ y) (drop (at + length y) v) (at + length y) long

-- 1. A member, by its bytes

module _ (s : Bytes) (i : IsRecord s) where
  record-passes : fault stored (record_in s).kind (record_in s).run ≡ 0
  record-passes = rw (record-in s i) i.passes

  run_of_lem : run_in s ≡ (record_in s).run
  run_of_lem = run_in_lem s i ∙ sym (ap (λ r. r.run) (record-in s i))

  kind_first : take 1 s ≡ kind_number (record_in s).kind ∷ []
  unfolding record_bytes
  kind_first = ap (take 1) i.bytes ∙ ap (λ r. kind_number r.kind ∷ []) (sym (record-in s i))

  record-long : length s ≡ 3 + length (bytes_of (record_in s).run)
  record-long = ap length i.bytes ∙ length_record i.value ∙ ap (λ r. 3 + length (bytes_of r.run)) (sym (record-in s i))

-- 2. Its group's record, written

module _ (s : Bytes) (are : AreBytes s) (i : IsRecord s) (g : Grouped (record_in s).kind) (n : ℕ)
    (cut : (run_in (take n s) ≡ leading (run_in s)) × (3 ≤ n) × (n ≤ length s)) where
  front : slice 3 n s ≡ bytes_of (leading (record_in s).run)
  front =
      let run : run_of (slice 3 n s) ≡ leading (record_in s).run = cut.0 ∙ ap leading (run_of_lem s i) in
      sym (bytes_run (slice 3 n s) (slice_are_bytes 3 n s are) (rw run (leading-whole g (record_in s).run (record-passes s i)))) ∙ ap bytes_of run

  front_long : length (slice 3 n s) ≡ n - 3
  front_long = length-slice 3 n s cut.2

  pub no_longer : n + 3 ≤ length s
  no_longer = omega (arith, leading-shorter g (record_in s).run (record-passes s i), ap length front, front_long, record-long s i, cut.1)

  abbrev empty_name : Bytes
  empty_name = 2 ∷ 0 ∷ 0 ∷ []

  body : bytes_of (group_of (record_in s)).run ≡ slice 3 n s ++ empty_name
  unfolding group_of
  body = group_bytes g (record_in s).run (record-passes s i) ∙ ap (λ x. x ++ empty_name) (sym front)

  body_long : length (bytes_of (group_of (record_in s)).run) ≡ n
  body_long = ap length body ∙ length-append (slice 3 n s) empty_name ∙ omega (arith, front_long, cut.1)

  parts : take 1 s ++ bytes 2 n ++ slice 3 n s ++ empty_name ≡ record_bytes (group_of (record_in s))
  unfolding record_bytes group_of
  parts =
      let kind = kind_number (record_in s).kind in
      ap (λ x. x ++ bytes 2 n ++ slice 3 n s ++ empty_name) (kind_first s i)
      ∙ append_assoc (kind ∷ bytes 2 n) (slice 3 n s) empty_name
      ∙ sym (ap₂ (λ m x. kind ∷ bytes 2 m ++ x) body_long body)

  module _ (b b1 b2 b3 b4 : Bytes) (fits : length s + 3 ≤ length b)
      (e1 : b1 ≡ take 0 b ++ take 1 s ++ drop (0 + length (take 1 s)) b)
      (l1 : length b1 ≡ length b)
      (e2 : b2 ≡ take 1 b1 ++ bytes 2 n ++ drop 3 b1)
      (l2 : length b2 ≡ length b1)
      (e3 : b3 ≡ take 3 b2 ++ take (n - 3) (drop 3 s) ++ drop (3 + length (take (n - 3) (drop 3 s))) b2)
      (l3 : length b3 ≡ length b2)
      (e4 : b4 ≡ take n b3 ++ empty_name ++ drop (n + 3) b3) where
    first : take 1 b1 ≡ take 1 s
    first =
        let one : 0 + length (take 1 s) ≡ 1 = omega (arith, length-take-le 1 s (omega (arith, no_longer))) in
        ap (λ m. take m b1) (sym one) ∙ wrote [] (take 1 s) b b1 0 (omega arith) refl e1

    third : take n b3 ≡ take 1 s ++ bytes 2 n ++ slice 3 n s
    third =
        let lent = take (n - 3) (drop 3 s) in
        let same : lent ≡ slice 3 n s = lent_slice s 3 n cut.1 in
        let all : 3 + length lent ≡ n = ap (λ x. 3 + length x) same ∙ omega (arith, front_long, cut.1) in
        ap (λ m. take m b3) (sym all)
        ∙ wrote (take 1 s ++ bytes 2 n) lent b2 b3 3 (omega (arith, no_longer)) (wrote (take 1 s) (bytes 2 n) b1 b2 1 (omega (arith, no_longer)) first e2) e3
        ∙ ap (λ x. take 1 s ++ bytes 2 n ++ x) same

    pub group_written : (take (n + 3) b4 ≡ record_bytes (group_of (record_in s))) × (n + 3 ≤ length s)
    group_written = (wrote (take 1 s ++ bytes 2 n ++ slice 3 n s) empty_name b3 b4 n (omega (arith, no_longer)) third e4 ∙ parts, no_longer)

-- 3. It is a record

module _ (s g : Bytes) (are : AreBytes s) (i : IsRecord s) (grouped : Grouped (record_in s).kind) (e : g ≡ record_bytes (group_of (record_in s))) where
  readable : Readable (record_in s)
  readable = record {
    passes = record-passes s i;
    fields = subst (λ r. AreFields r) (run_of_lem s i) (fields-run (drop 3 s) (drop_are_bytes 3 s are));
  }

  pub group_is : IsRecord g
  group_is = record { value = group_of (record_in s); bytes = e; passes = (group_readable (record_in s) readable grouped).passes }

  pub group_in : record_in g ≡ group_of (record_in s)
  unfolding group_is
  group_in = record-in g group_is

  pub group_key_in : key_in g ≡ record_key (group_of (record_in s))
  unfolding group_is
  group_key_in = key_in_lem g group_is

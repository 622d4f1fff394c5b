-- Read, exit by exit.
use mathlib.Core.Path.{◌≡◌, refl, sym, ap, ◌∙◌}
use mathlib.Core.List.{[], ◌∷◌}
use mathlib.Core.Bool.{cond, false}
use mathlib.Core.Option.{none}
use Prim.Native.Nat.{ℕ, zero, suc, ◌+◌, ◌*◌, ◌-◌, ◌≤◌, ◌<◌}
use native.Mathlib.Omega.{arith}
use borrow.Author.Tests.{lt-ltb, le-ltb}
use lib.Dec.{ltb}
use lib.ListN.{length, get_or}
use lib.Seq.{slice}
use Rattle.model.specs.Choice.{given}
use Rattle.model.specs.Kind.{kind_of}
use Rattle.model.specs.Number.{Bytes, number}
use Rattle.model.specs.Run.{run_of}
use Rattle.model.specs.Shape.{Source, start, run_fault, fault}
use Rattle.model.specs.Record.{Rec, bad, rec, read, whole}
use Rattle.model.specs.Reply.{accepted, refused}
use Rattle.shapes.specs.Table.{row_count, kind_base, rows_from}
use Rattle.shape_faults.specs.Walk.{check_at}
use Rattle.laws_records.specs.Halves.{three_add}
use Rattle.records.specs.Answers.{got_reply}
use Rattle.records.proofs.Bases.{no_kind, some_kind, kind_fault}

-- a refusal of a shape, and what passes
refused-fault : (f used : ℕ) (r : Rec) → (f ≡ 0 → ⊥) → refused f ≡ got_reply (whole f r used)
refused-fault zero used r n = absurd (n refl)
refused-fault (suc f) used r n = refl

accepted-whole : {f : ℕ} (used : ℕ) (r : Rec) → f ≡ 0 → accepted (used ∷ []) ≡ got_reply (whole f r used)
accepted-whole used r z = rw z

module _ (source : Source) where
  pub read_short : (s : Bytes) → length s < 3 → refused 2 ≡ got_reply (read source s)
  unfolding read
  read_short [] h = refl
  read_short (k ∷ []) h = refl
  read_short (k ∷ h ∷ []) l = refl
  read_short (k ∷ h ∷ l ∷ s) m = absurd (omega arith)

  -- what is read of three bytes or more
  opened : (s : Bytes) (n : ℕ) → 3 ≤ length s → n ≡ number (slice 1 3 s)
      → read source s ≡
      cond (ltb (length s - 3) n) (bad 2)
      (given (kind_of (get_or s 0 0)) (bad 3)
      (λ kind. whole (fault source kind (run_of (slice 3 (3 + n) s))) (rec kind (run_of (slice 3 (3 + n) s))) (3 + n)))
  unfolding read
  opened [] n h e = absurd (omega arith)
  opened (k ∷ []) n h e = absurd (omega arith)
  opened (k ∷ h ∷ []) n m e = absurd (omega arith)
  opened (k ∷ h ∷ l ∷ s) n m e =
      let p : length (k ∷ h ∷ l ∷ s) - 3 ≡ length s = omega arith in
      let q : h * 256 + l ≡ n = omega arith in
      rw (q, p, three_add n)

  module _ (s : Bytes) (n : ℕ) (en : n ≡ number (slice 1 3 s)) (h : 3 ≤ length s) where
    pub read_cut : length s - 3 < n → refused 2 ≡ got_reply (read source s)
    read_cut k = rw (opened s n h en, lt-ltb _ _ k)

    module _ (fits : n ≤ length s - 3) {base : ℕ} (eb : base ≡ kind_base source (get_or s 0 0)) where
      pub read-unknown : base ≡ row_count → refused 3 ≡ got_reply (read source s)
      read-unknown k = rw (opened s n h en, le-ltb _ _ fits, no_kind source (get_or s 0 0) eb k (run_of (slice 3 (3 + n) s)) (3 + n))

      module _ (known : base ≡ row_count → ⊥) {f : ℕ} (ef : f ≡ run_fault (check_at false none) (rows_from base) start (run_of (slice 3 (3 + n) s))) where
        whole-read : (r : Rec) × (read source s ≡ whole f r (3 + n))
        whole-read =
            let k = some_kind source (get_or s 0 0) eb known in
            let run = run_of (slice 3 (3 + n) s) in
            let e = ef ∙ kind_fault source k.0 k.2 k.3 run in
            (rec k.0 run, opened s n h en ∙ rw (le-ltb _ _ fits, k.1, e))

        pub read_faulty : (f ≡ 0 → ⊥) → refused f ≡ got_reply (read source s)
        read_faulty m = let w = whole-read in refused-fault f (3 + n) w.0 m ∙ ap got_reply (sym w.1)

        pub read_right : f ≡ 0 → accepted ((3 + n) ∷ []) ≡ got_reply (read source s)
        read_right z = let w = whole-read in accepted-whole (3 + n) w.0 z ∙ ap got_reply (sym w.1)

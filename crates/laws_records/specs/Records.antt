-- Read and a record's bytes undo each other.
use Rattle.std.specs.Prelude.{◌≡◌, refl, Bool, true, false, cond, ltb, length, drop}
use Rattle.std.proofs.Math.Path.{sym, ap}
use Rattle.std.proofs.Common.{subst, ◌∙◌, arith, length-append, take_at, length-take-le}
use mathlib.Core.List.{[], ◌∷◌, ◌++◌}
use Rattle.std.proofs.Math.Option.{Option, none, some}
use Prim.Native.Nat.{ℕ, zero, suc, ◌+◌, ◌*◌, ◌≤◌, ◌<◌}
use borrow.Author.Tests.{le-ltb, ltb-false}
use Rattle.std.proofs.Math.ListN.{take}
use Rattle.std.proofs.Math.Seq.{take-append_seam, drop-append_seam}
use Rattle.model.specs.Choice.{given}
use Rattle.model.specs.Number.{Bytes, AreBytes, bytes}
use Rattle.model.specs.Run.{Run, run_of, bytes_of}
use Rattle.model.specs.Kind.{kind_of, kind_number}
use Rattle.model.specs.declared.Kind.{Kind}
use Rattle.model.specs.Shape.{Source, fault}
use Rattle.model.specs.Record.{Rec, rec, record_bytes, Got, bad, got, whole, read}
use Rattle.laws.specs.Choice.{impossible}
use Rattle.laws.specs.Numbers.{take_are_bytes}
use Rattle.laws_records.specs.Halves.{join_halves, split_halves, three_add}
use Rattle.laws_records.specs.Runs.{Whole, run-bytes, bytes_run, length_run, AreFields, fields-run, run-fields}
use Rattle.laws_records.specs.Kinds.{kind_number_lem, number_kind, number_range}
use Rattle.laws_records.specs.Faults.{fault-whole, fault-length, fault-short}

pub length_record : (r : Rec) → length (record_bytes r) ≡ 3 + length (bytes_of r.run)
unfolding record_bytes
length_record r = omega arith

-- 1. Reading what is written

pub read_record : (source : Source) (r : Rec) (rest : Bytes) → fault source r.kind r.run ≡ 0
    → read source (record_bytes r ++ rest) ≡ got r (length (record_bytes r))
unfolding read record_bytes
read_record source r rest ok =
    let b = bytes_of r.run in
    let n : ℕ = length b in
    let k : n ≤ length (b ++ rest) = rw length-append (omega arith) in
    let l = fault-length source r.kind r.run ok in
    let w = run-bytes r.run (fault-whole source r.kind r.run ok) (fault-short source r.kind r.run ok) in
    rw (join_halves n (omega arith), le-ltb _ _ k, kind_number_lem r.kind, take-append_seam b rest, w, ok, three_add n)

-- 2. What was read

-- a head of three bytes, and the body after it
pub record Head (source : Source) (k m : ℕ) (s : Bytes) (r : Rec) (n : ℕ) : Type 0 where
  pub room : m ≤ length s
  pub known : kind_of k ≡ some r.kind
  pub spelt : run_of (take m s) ≡ r.run
  pub passes : fault source r.kind r.run ≡ 0
  pub used : n ≡ 3 + m

cond_got : (b : Bool) (c n : ℕ) (g : Got) (r : Rec) → cond b (bad c) g ≡ got r n → (b ≡ false) × (g ≡ got r n)
cond_got true c n g r e = impossible cc
cond_got false c n g r e = (refl, e)

given_got : (o : Option Kind) (c n : ℕ) (f : Kind → Got) (r : Rec) → given o (bad c) f ≡ got r n
    → (k : Kind) × (o ≡ some k) × (f k ≡ got r n)
given_got none c n f r e = impossible cc
given_got (some k) c n f r e = (k, refl, e)

whole_got : (c : ℕ) (q : Rec) (m : ℕ) (r : Rec) (n : ℕ) → whole c q m ≡ got r n → (c ≡ 0) × (q ≡ r) × (m ≡ n)
whole_got zero q m r n e = (refl, cc, cc)
whole_got (suc c) q m r n e = impossible cc

module _ (source : Source) (k h l : ℕ) (s : Bytes) (r : Rec) (n : ℕ) where
  pub head_of : read source (k ∷ h ∷ l ∷ s) ≡ got r n → Head source k (h * 256 + l) s r n
  unfolding read
  head_of e =
      let m : ℕ = h * 256 + l in
      let run = run_of (take m s) in
      let a = cond_got (ltb (length s) m) 2 n _ r e in
      let b = given_got (kind_of k) 3 n _ r a.1 in
      let c = whole_got (fault source b.0 run) (rec b.0 run) (3 + m) r n b.2 in
      let p : b.0 ≡ r.kind = ap (λ (q : Rec). q.kind) c.1 in
      let q : run ≡ r.run = ap (λ (q : Rec). q.run) c.1 in
      record {
        room = ltb-false (length s) m a.0;
        known = b.1 ∙ ap some p;
        spelt = q;
        passes = ap (λ (z : Rec). fault source z.kind z.run) (sym c.1) ∙ c.0;
        used = sym c.2;
      }

  of_head : Head source k (h * 256 + l) s r n → read source (k ∷ h ∷ l ∷ s) ≡ got r n
  unfolding read
  of_head d = rw (le-ltb _ _ d.room, d.known, d.spelt, d.passes, d.used)

-- what Read accepts: a record that passes, as long as what was used; later bytes are not looked at
pub record Reads (source : Source) (s : Bytes) (r : Rec) (n : ℕ) : Type 0 where
  pub passes : fault source r.kind r.run ≡ 0
  pub fits : n ≤ length s
  pub used : n ≡ length (record_bytes r)
  pub head : 3 ≤ n
  pub later : (t : Bytes) → read source (take n s ++ t) ≡ got r n
  pub spelt : AreBytes s → take n s ≡ record_bytes r

module _ (source : Source) (k h l : ℕ) (s : Bytes) (r : Rec) (n : ℕ) (d : Head source k (h * 256 + l) s r n) where
  head-take : take n (k ∷ h ∷ l ∷ s) ≡ k ∷ h ∷ l ∷ take (h * 256 + l) s
  head-take = rw (d.used, three_add (h * 256 + l))

  head-whole : Whole (run_of (take (h * 256 + l) s))
  head-whole = rw d.spelt (fault-whole source r.kind r.run d.passes)

  head_size_lem : length (bytes_of r.run) ≡ h * 256 + l
  head_size_lem =
      ap (λ (z : Run). length (bytes_of z)) (sym d.spelt)
      ∙ length_run (take (h * 256 + l) s) head-whole
      ∙ length-take-le (h * 256 + l) s d.room

  head-later : (t : Bytes) → read source (take n (k ∷ h ∷ l ∷ s) ++ t) ≡ got r n
  head-later t =
      let m : ℕ = h * 256 + l in
      let e : length (take m s) ≡ m = length-take-le m s d.room in
      ap (λ (z : Bytes). read source (z ++ t)) head-take ∙ of_head source k h l (take m s ++ t) r n (record {
        room = rw (length-append (take m s) t, e) (omega arith);
        known = d.known;
        spelt = rw (take_at (take m s) t m e) d.spelt;
        passes = d.passes;
        used = d.used;
      })

  head-spelt : AreBytes (k ∷ h ∷ l ∷ s) → take n (k ∷ h ∷ l ∷ s) ≡ record_bytes r
  unfolding record_bytes
  head-spelt p =
      let b = bytes_of r.run in
      let e : kind_number r.kind ≡ k = number_kind k r.kind d.known in
      let f : bytes 2 (length b) ≡ h ∷ l ∷ [] = ap (bytes 2) head_size_lem ∙ split_halves h l p.1.0 p.1.1.0 in
      let q = take_are_bytes (h * 256 + l) s p.1.1.1 in
      let g : b ≡ take (h * 256 + l) s = ap bytes_of (sym d.spelt) ∙ bytes_run (take (h * 256 + l) s) q head-whole in
      head-take ∙ sym (
      ap (λ (z : ℕ). z ∷ bytes 2 (length b) ++ b) e
      ∙ ap (λ (z : Bytes). k ∷ z ++ b) f
      ∙ ap (λ (z : Bytes). k ∷ h ∷ l ∷ z) g
      )

  head_reads : Reads source (k ∷ h ∷ l ∷ s) r n
  head_reads = record {
    passes = d.passes;
    fits = omega (arith, d.used, d.room);
    used = omega (arith, d.used, head_size_lem, length_record r);
    head = omega (arith, d.used);
    later = head-later;
    spelt = head-spelt;
  }

pub reads : (source : Source) (s : Bytes) (r : Rec) (n : ℕ) → read source s ≡ got r n → Reads source s r n
unfolding read
reads source [] r n e = impossible cc
reads source (k ∷ []) r n e = impossible cc
reads source (k ∷ h ∷ []) r n e = impossible cc
reads source (k ∷ h ∷ l ∷ s) r n e = head_reads source k h l s r n (head_of source k h l s r n e)

pub record-read : (source : Source) (s : Bytes) (r : Rec) (n : ℕ) → AreBytes s → read source s ≡ got r n
    → (take n s ≡ record_bytes r) × (fault source r.kind r.run ≡ 0) × (n ≤ length s)
record-read source s r n p e = let d = reads source s r n e in (d.spelt p, d.passes, d.fits)

pub read-later : (source : Source) (s : Bytes) (r : Rec) (n : ℕ) → read source s ≡ got r n → (t : Bytes)
    → read source (take n s ++ t) ≡ got r n
read-later source s r n e = (reads source s r n e).later

pub read-used : (source : Source) (s : Bytes) (r : Rec) (n : ℕ) → read source s ≡ got r n → (n ≡ length (record_bytes r)) × (3 ≤ n)
read-used source s r n e = let d = reads source s r n e in (d.used, d.head)

-- a refusal's number is not 0
Numbered : Got → Type 0
Numbered (bad n) = 0 < n
Numbered (got r n) = Unit {0}

numbered : (source : Source) (s : Bytes) → Numbered (read source s)
unfolding read Numbered
numbered source [] = omega arith
numbered source (k ∷ []) = omega arith
numbered source (k ∷ h ∷ []) = omega arith
numbered source (k ∷ h ∷ l ∷ s) = long (ltb (length s) (h * 256 + l))
  where
    run : Run
    run = run_of (take (h * 256 + l) s)

    passed : (c : ℕ) (r : Rec) → Numbered (whole c r (3 + (h * 256 + l)))
    passed zero r = tt
    passed (suc c) r = omega arith

    known : (o : Option Kind) → Numbered (given o (bad 3) (λ kind. whole (fault source kind run) (rec kind run) (3 + (h * 256 + l))))
    known none = omega arith
    known (some kind) = passed (fault source kind run) (rec kind run)

    long : (b : Bool)
        → Numbered (cond b (bad 2) (given (kind_of k) (bad 3) (λ kind. whole (fault source kind run) (rec kind run) (3 + (h * 256 + l)))))
    long true = omega arith
    long false = known (kind_of k)

pub refusal_positive : (source : Source) (s : Bytes) (n : ℕ) → read source s ≡ bad n → 0 < n
unfolding Numbered
refusal_positive source s n e = subst Numbered e (numbered source s)

-- 3. Records apart

-- records that pass are told apart by their bytes, whatever follows
pub records_apart : (source : Source) (a b : Rec) (s t : Bytes) → fault source a.kind a.run ≡ 0 → fault source b.kind b.run ≡ 0
    → record_bytes a ++ s ≡ record_bytes b ++ t → (a ≡ b) × (s ≡ t)
records_apart source a b s t p q e =
    let f : got a (length (record_bytes a)) ≡ got b (length (record_bytes b)) =
    sym (read_record source a s p) ∙ ap (read source) e ∙ read_record source b t q in
    let g : a ≡ b = cc in
    let h : record_bytes a ++ s ≡ record_bytes a ++ t = e ∙ ap (λ (z : Rec). record_bytes z ++ t) (sym g) in
    (g, sym (drop-append_seam (record_bytes a) s) ∙ ap (drop (length (record_bytes a))) h ∙ drop-append_seam (record_bytes a) t)

pub bytes_record : (r : Rec) → AreFields r.run → AreBytes (record_bytes r)
unfolding record_bytes
bytes_record r h = (omega (arith, number_range r.kind), (omega arith, (omega arith, run-fields r.run h)))

-- a record that was read from bytes
pub fields_read : (source : Source) (s : Bytes) (r : Rec) (n : ℕ) → AreBytes s → read source s ≡ got r n → AreFields r.run
unfolding read
fields_read source [] r n p e = impossible cc
fields_read source (k ∷ []) r n p e = impossible cc
fields_read source (k ∷ h ∷ []) r n p e = impossible cc
fields_read source (k ∷ h ∷ l ∷ s) r n p e =
    let d = head_of source k h l s r n e in
    rw d.spelt at (fields-run (take (h * 256 + l) s) (take_are_bytes (h * 256 + l) s p.1.1.1))

-- a refusal's number is not 0
pub read_nonzero : (source : Source) (s : Bytes) (n : ℕ) → read source s ≡ bad n → n ≡ 0 → ⊥
unfolding read
read_nonzero source [] n e z = impossible cc
read_nonzero source (k ∷ []) n e z = impossible cc
read_nonzero source (k ∷ h ∷ []) n e z = impossible cc
read_nonzero source (k ∷ h ∷ l ∷ s) n e z = go (ltb (length s) (h * 256 + l)) e
  where
    run : Run
    run = run_of (take (h * 256 + l) s)

    used : ℕ
    used = 3 + (h * 256 + l)

    by_fault : (f : ℕ) (r : Rec) → whole f r used ≡ bad n → ⊥
    by_fault zero r q = impossible cc
    by_fault (suc m) r q = let same : suc m ≡ n = cc in omega arith

    by_kind_lem : (o : Option Kind) → given o (bad 3) (λ kind. whole (fault source kind run) (rec kind run) used) ≡ bad n → ⊥
    by_kind_lem none q = impossible cc
    by_kind_lem (some kind) q = by_fault (fault source kind run) (rec kind run) q

    go : (b : Bool) → cond b (bad 2) (given (kind_of k) (bad 3) (λ kind. whole (fault source kind run) (rec kind run) used)) ≡ bad n → ⊥
    go true q = impossible cc
    go false q = by_kind_lem (kind_of k) q

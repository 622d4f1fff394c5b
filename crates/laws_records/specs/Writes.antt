-- Read and Write undo each other.
use Rattle.std.specs.Prelude.{◌≡◌, List, [], ◌∷◌, ◌++◌, Bool, true, false, cond, ℕ, zero, suc, ◌≤◌, leb, length, take, drop}
use Rattle.std.proofs.Math.Path.{refl}
use Rattle.std.proofs.Common.{sym, ap, ◌∙◌, arith, le-leb, leb-true, length-append, take-append-drop, take_at, length-take-le}
use Rattle.std.proofs.Math.Seq.{take-append_seam, drop-append_seam}
use Rattle.model.specs.Number.{Bytes, AreBytes}
use Rattle.model.specs.Run.{Run, done, torn, item, tags_of, lengths_of, values_of}
use Rattle.model.specs.Shape.{framed, fault}
use Rattle.model.specs.Reply.{Reply, accepted, refused, Ended}
use Rattle.model.specs.Record.{Rec, rec, record_bytes, Got, bad, got, read, on_got, read_of, gathered, writing, write_of}
use Rattle.model.specs.declared.Kind.{Kind}
use Rattle.laws.specs.Choice.{impossible}
use Rattle.laws_records.specs.Runs.{Whole}
use Rattle.laws_records.specs.Faults.{fault-whole}
use Rattle.laws_records.specs.Emits.{Emits, emits, emit_fits, one_value, not_refused}
use Rattle.laws_records.specs.Records.{read_record, reads}

-- 1. Fields and the three lists that spell them

pub gathered-fields : (r : Run) → Whole r → gathered (tags_of r) (lengths_of r) (values_of r) ≡ r
unfolding gathered tags_of lengths_of values_of
gathered-fields done w = refl
gathered-fields torn w = absurd w
gathered-fields (item t v r) w =
    let k : length v ≤ length (v ++ values_of r) = rw length-append (omega arith) in
    rw (le-leb _ _ k, take-append_seam v (values_of r), drop-append_seam v (values_of r), gathered-fields r w)

-- the three lists of a run
pub record Lists (r : Run) (tags : Bytes) (lengths : List ℕ) (vals : Bytes) : Type 0 where
  pub of_tags : tags_of r ≡ tags
  pub of_lengths : lengths_of r ≡ lengths
  pub of_values : values_of r ≡ vals

pub fields-gathered : (tags : Bytes) (lengths : List ℕ) (vals : Bytes) → Whole (gathered tags lengths vals)
    → Lists (gathered tags lengths vals) tags lengths vals
unfolding gathered tags_of lengths_of values_of
fields-gathered [] [] [] w = record { of_tags = refl; of_lengths = refl; of_values = refl }
fields-gathered [] [] (x ∷ s) w = absurd w
fields-gathered [] (n ∷ ns) s w = absurd w
fields-gathered (t ∷ ts) [] s w = absurd w
fields-gathered (t ∷ ts) (n ∷ ns) s w = go (leb n (length s)) refl w (fields-gathered ts ns (drop n s))
  where
    go : (b : Bool) → leb n (length s) ≡ b → Whole (cond b (item t (take n s) (gathered ts ns (drop n s))) torn)
        → (Whole (gathered ts ns (drop n s)) → Lists (gathered ts ns (drop n s)) ts ns (drop n s))
        → Lists (cond b (item t (take n s) (gathered ts ns (drop n s))) torn) (t ∷ ts) (n ∷ ns) s
    go true e u i =
        let l = i u in
        let k : length (take n s) ≡ n = length-take-le n s (leb-true n (length s) e) in
        record {
          of_tags = ap (λ (z : Bytes). t ∷ z) l.of_tags;
          of_lengths = rw (k, l.of_lengths);
          of_values = ap (λ (z : Bytes). take n s ++ z) l.of_values ∙ take-append-drop n s;
        }
    go false e u i = absurd u

-- 2. Write

-- what an accepted Write tells
pub record Writes (r : Rec) (out : Bytes) (w : Ended) (n : ℕ) : Type 0 where
  pub passes : fault framed r.kind r.run ≡ 0
  pub wrote : Emits (record_bytes r) out w n

writing_writes : (f : ℕ) (r : Rec) (out : Bytes) (n : ℕ) → fault framed r.kind r.run ≡ f → (writing f r out).reply ≡ accepted (n ∷ [])
    → Writes r out (writing f r out) n
writing_writes zero r out n f e = record { passes = f; wrote = emits (record_bytes r) out n e }
writing_writes (suc m) r out n f e = absurd (not_refused m (n ∷ []) e)

module _ (kind : Kind) (tags : Bytes) (lengths : List ℕ) (vals out : Bytes) where
  pub writes : (n : ℕ) → (write_of kind tags lengths vals out).reply ≡ accepted (n ∷ [])
      → Writes (rec kind (gathered tags lengths vals)) out (write_of kind tags lengths vals out) n
  unfolding write_of
  writes n e = let run = gathered tags lengths vals in writing_writes (fault framed kind run) (rec kind run) out n refl e

-- the record of a run's own lists is written, where it passes and the output has room
pub write_record : (r : Rec) (out : Bytes) → fault framed r.kind r.run ≡ 0 → length (record_bytes r) ≤ length out
    → write_of r.kind (tags_of r.run) (lengths_of r.run) (values_of r.run) out
    ≡ record { reply = accepted (length (record_bytes r) ∷ []); buffer = record_bytes r ++ drop (length (record_bytes r)) out }
unfolding write_of
write_record r out ok h =
    rw (gathered-fields r.run (fault-whole framed r.kind r.run ok), ok) (emit_fits (record_bytes r) out h)

-- 3. Read, then Write; Write, then Read

-- what Read accepts writes back
pub write_read : (s : Bytes) (r : Rec) (n : ℕ) (out : Bytes) → AreBytes s → read framed s ≡ got r n → n ≤ length out
    → write_of r.kind (tags_of r.run) (lengths_of r.run) (values_of r.run) out
    ≡ record { reply = accepted (n ∷ []); buffer = take n s ++ drop n out }
write_read s r n out p e h =
    let d = reads framed s r n e in
    write_record r out d.passes (omega (arith, d.used)) ∙ rw (← d.used, ← d.spelt p)

-- what Write wrote reads back, whatever follows it
module _ (kind : Kind) (tags : Bytes) (lengths : List ℕ) (vals out : Bytes) (n : ℕ)
    (e : (write_of kind tags lengths vals out).reply ≡ accepted (n ∷ [])) where
  pub written : take n (write_of kind tags lengths vals out).buffer ≡ record_bytes (rec kind (gathered tags lengths vals))
  written =
      let r = rec kind (gathered tags lengths vals) in
      let w = (writes kind tags lengths vals out n e).wrote in
      ap (take n) w.buffer ∙ take_at (record_bytes r) (drop n out) n (sym w.size)

  pub written_lists : Lists (gathered tags lengths vals) tags lengths vals
  written_lists =
      let run = gathered tags lengths vals in
      fields-gathered tags lengths vals (fault-whole framed kind run (writes kind tags lengths vals out n e).passes)

  pub read_write : (rest : Bytes)
      → read framed (take n (write_of kind tags lengths vals out).buffer ++ rest) ≡ got (rec kind (gathered tags lengths vals)) n
  read_write rest =
      let r = rec kind (gathered tags lengths vals) in
      let w = writes kind tags lengths vals out n e in
      ap (λ (z : Bytes). read framed (z ++ rest)) written ∙ read_record framed r rest w.passes ∙ ap (got r) (sym w.wrote.size)

  pub read_of_write : (rest : Bytes) → read_of (take n (write_of kind tags lengths vals out).buffer ++ rest) ≡ accepted (n ∷ [])
  unfolding read_of
  read_of_write rest = rw (read_write rest)

  pub read_back : (rest : Bytes) → let run = gathered tags lengths vals in
      (read framed (take n (write_of kind tags lengths vals out).buffer ++ rest) ≡ got (rec kind run) n)
      × (tags_of run ≡ tags) × (lengths_of run ≡ lengths) × (values_of run ≡ vals)
  read_back rest = let l = written_lists in (read_write rest, l.of_tags, l.of_lengths, l.of_values)

-- an accepted Read has a record
pub read_of-read : (s : Bytes) (n : ℕ) → read_of s ≡ accepted (n ∷ []) → (r : Rec) × (read framed s ≡ got r n)
unfolding read_of
read_of-read s n e = go (read framed s) refl e
  where
    go : (g : Got) → read framed s ≡ g → on_got g refused (λ r used. accepted (used ∷ [])) ≡ accepted (n ∷ [])
        → (r : Rec) × (read framed s ≡ got r n)
    go (bad m) f h = let q : ◌≡◌ {A = List ℕ} [] (n ∷ []) = ap (λ (r : Reply). r.values) h in impossible cc
    go (got r m) f h = (r, f ∙ ap (got r) (one_value m n h))

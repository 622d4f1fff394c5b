-- Records, Read and Write: 01, "A record is a kind byte, a two-byte body length, and fields".
use Rattle.std.specs.Prelude.{ℕ, zero, suc, ◌+◌, ◌*◌, Bool, true, cond, List, [], ◌∷◌, ◌++◌, leb, ltb, eqb, length, take, drop}
use Rattle.model.specs.Choice.{given}
use Rattle.model.specs.Number.{Bytes, bytes}
use Rattle.model.specs.Run.{Run, done, torn, item, run_of, bytes_of, value}
use Rattle.model.specs.Kind.{kind_of, kind_number}
use Rattle.model.specs.Nodes.{nodes_of, no_repeats}
use Rattle.model.specs.Shape.{Source, framed, fault}
use Rattle.model.specs.Reply.{Reply, accepted, refused, Ended, unchanged, emit_bytes}
use Rattle.model.specs.declared.Kind.{Kind}

pub record Rec : Type 0 where
  pub kind : Kind
  pub run : Run

abbrev pub rec : Kind → Run → Rec
rec k r = record { kind = k; run = r }

-- a record's bytes
unfoldable pub record_bytes : Rec → Bytes
record_bytes r = kind_number r.kind ∷ bytes 2 (length (bytes_of r.run)) ++ bytes_of r.run

-- 1. Read

-- what is read: a refusal, or a record and the bytes used
pub data Got : Type 0 where
  bad : ℕ → Got
  got : Rec → ℕ → Got

abbrev pub whole : ℕ → Rec → ℕ → Got
whole zero r used = got r used
whole (suc n) r used = bad (suc n)

-- *Read*: "2, header or body runs past the input. 3, unknown kind. Then fields in byte order"; "later bytes are not looked at"
unfoldable pub read : Source → Bytes → Got
read source [] = bad 2
read source (k ∷ []) = bad 2
read source (k ∷ h ∷ []) = bad 2
read source (k ∷ h ∷ l ∷ s) =
    cond (ltb (length s) (h * 256 + l)) (bad 2)
    (given (kind_of k) (bad 3) λ kind.
    let run = run_of (take (h * 256 + l) s) in
    whole (fault source kind run) (rec kind run) (3 + (h * 256 + l)))

abbrev pub on_got : {A : Type 0} → Got → (ℕ → A) → (Rec → ℕ → A) → A
on_got (bad n) f g = f n
on_got (got r used) f g = g r used

-- "Success says the bytes used". Read and Write know all 26 kinds.
unfoldable pub read_of : Bytes → Reply
read_of s = on_got (read framed s) refused (λ r used. accepted (used ∷ []))

-- 02, 2: "Reading Partition and PartitionUpdate promises a replica list without repeats"
unfoldable pub apart_by : ℕ → Run → Bool
apart_by k run =
    cond (eqb k 2) (no_repeats (nodes_of (value 4 run))) (cond (eqb k 23) (no_repeats (nodes_of (value 4 (run_of (value 1 run))))) true)

abbrev pub replicas_apart : Rec → Bool
replicas_apart r = apart_by (kind_number r.kind) r.run

-- the same of the record that bytes begin with, by the kind and the length that stand there, whether or not Read accepts it
unfoldable pub begins_apart : Bytes → Bool
begins_apart [] = true
begins_apart (k ∷ []) = true
begins_apart (k ∷ h ∷ []) = true
begins_apart (k ∷ h ∷ l ∷ s) = apart_by k (run_of (take (h * 256 + l) s))

-- 2. Write

-- the fields of three lists: tags, lengths, and the values back to back. A field whose length is missing or runs past the values is torn, and
-- so is what comes after the last field where lengths or values are left over
unfoldable pub gathered : Bytes → List ℕ → Bytes → Run
gathered [] [] [] = done
gathered [] [] (x ∷ s) = torn
gathered [] (n ∷ ns) s = torn
gathered (t ∷ ts) [] s = torn
gathered (t ∷ ts) (n ∷ ns) s = cond (leb n (length s)) (item t (take n s) (gathered ts ns (drop n s))) torn

abbrev pub writing : ℕ → Rec → Bytes → Ended
writing zero r out = emit_bytes (record_bytes r) out
writing (suc n) r out = unchanged (suc n) out

-- *Write*: "4 and 5 of the given values, in field order; then 19"; 02, 2: 20 directly after those of its field
unfoldable pub write_of : Kind → Bytes → List ℕ → Bytes → Bytes → Ended
write_of kind tags lengths vals out =
    let run = gathered tags lengths vals in
    writing (fault framed kind run) (rec kind run) out

-- Weight and used length: they differ by the room that is held for the fixed parts and the producer ids.
use Rattle.std.specs.Prelude.{◌≡◌, List, Bool, true, cond, ℕ, ◌+◌, ◌-◌, ◌*◌, ◌≤◌, length}
use Rattle.std.proofs.Math.Path.{refl}
use Rattle.std.proofs.Common.{sym, ◌∙◌, ap, arith, lit<, lit≤, length-append}
use Rattle.std.proofs.Math.Option.{Option, none, some}
use Rattle.std.proofs.Math.Bool.{false}
use Rattle.model.specs.Choice.{given, joined, total}
use Rattle.model.specs.Number.{Bytes}
use Rattle.model.specs.Run.{Run, done, item, value, bytes_of}
use Rattle.model.specs.Kind.{kind_number}
use Rattle.model.specs.Shape.{rows_of, shape_of, stored, fault}
use Rattle.model.specs.Record.{rec, record_bytes}
use Rattle.model.specs.Key.{rank, key_rank, subject, key_of, producer_key}
use Rattle.model.specs.Map.{get}
use Rattle.model.specs.Contents.{Entry, topic, part, plain, returned, kept, key, Contents, fixed_room, is_producer_ids, size, weight, flag_bytes}
use Rattle.model.specs.Image.{head_size, entry_bytes, used}
use Rattle.model.specs.declared.Kind.{Kind}
use Rattle.model.specs.declared.Kind.TheVariants.{ProducerIds}
use Rattle.laws.specs.Choice.{impossible, present}
use Rattle.laws.specs.Order.{Lt, lt_ne}
use Rattle.laws.specs.Lists.{All, in_all, all_imp, total-all, length-joined}
use Rattle.laws.specs.Map.{Asc, get_in}
use Rattle.laws.specs.Split.{below, above, below-under, above-over, total_split}
use Rattle.laws_records.specs.Runs.{length_item}
use Rattle.laws_records.specs.Records.{length_record}
use Rattle.laws_records.specs.Faults.{fault-value}
use Rattle.laws_image.specs.Fits.{Proper, Fits}
use Rattle.laws_image.specs.Orderly.{orderly}
use Rattle.laws_image.specs.Required.{required_run}
use Rattle.laws_image.specs.Kinds.{is_kind}
use Rattle.laws_image.specs.Ranks.{rank_injective}

-- the bytes that an entry takes in an image
abbrev pub stored_size : Entry → ℕ
stored_size e = length (record_bytes (kept e))

-- the bytes of a record of producer ids, which weighs nothing
abbrev pub producer_size : ℕ
producer_size = 36

-- 1. Entries

length_done : length (bytes_of done) ≡ 0
unfolding bytes_of
length_done = refl

length-flag : (named : Bool) → length (flag_bytes named) ≡ 5
length-flag true = refl
length-flag false = refl

-- a topic's record in an image has one field of five bytes more
pub topic_size : (name id : Bytes) (count factor : ℕ) (named : Bool)
    → length (record_bytes (returned (topic name id count factor named))) + 8 ≡ stored_size (topic name id count factor named)
unfolding kept returned
topic_size name id count factor named = simp (length_record, length_item, length_done, length-flag) (omega arith)

size_other : (e : Entry) → (key e ≡ producer_key → ⊥) → size e ≡ stored_size e
unfolding size kept key
size_other (topic name id count factor named) h = topic_size name id count factor named
size_other (part r) h = refl
size_other (plain r) h = go (is_producer_ids r) refl
  where
    go : (b : Bool) → is_producer_ids r ≡ b → cond b 0 (length (record_bytes r)) ≡ length (record_bytes r)
    go true e = absurd (h (unfold key_of subject in rw (is_kind r.kind ProducerIds e)))
    go false e = refl

-- a record of producer ids has three fields of eight bytes
producer_length : (run : Run) → fault stored ProducerIds run ≡ 0 → length (record_bytes (rec ProducerIds run)) ≡ producer_size
unfolding rows_of shape_of kind_number
producer_length run ok =
    let l : length (value 1 run) ≡ 8 = fault-value stored ProducerIds run ok 1 refl refl in
    let m : length (value 2 run) ≡ 8 = fault-value stored ProducerIds run ok 2 refl refl in
    let n : length (value 3 run) ≡ 8 = fault-value stored ProducerIds run ok 3 refl refl in
    let e : run ≡ item 1 (value 1 run) (item 2 (value 2 run) (item 3 (value 3 run) done)) = required_run stored ProducerIds run ok refl in
    ap (λ (z : Run). length (record_bytes (rec ProducerIds z))) e ∙ simp (length_record, length_item, length_done) (omega arith)

plain_producer : (k : Kind) (run : Run) → k ≡ ProducerIds → fault stored k run ≡ 0
    → (size (plain (rec k run)) ≡ 0) × (length (record_bytes (rec k run)) ≡ producer_size)
unfolding size kind_number
plain_producer k run e = rw e (λ ok. (refl, producer_length run ok))

producer_entry : (e : Entry) → Proper e → key e ≡ producer_key → (size e ≡ 0) × (stored_size e ≡ producer_size)
unfolding kept key key_of rank key_rank
producer_entry (topic name id count factor named) p h = impossible cc
producer_entry (part r) p h = impossible cc
producer_entry (plain r) p h =
    plain_producer r.kind r.run (rank_injective r.kind ProducerIds (ap key_rank h) (lit< tt)) p.readable.passes

-- 2. Lists of entries

-- how many entries hold producer ids: none or one
abbrev pub producers : List Entry → ℕ
producers l = present (get key producer_key l)

-- every other entry weighs what it takes
sizes_other : (P : Entry → Type 0) → ((e : Entry) → P e → key e ≡ producer_key → ⊥) → (l : List Entry) → All P l
    → total size l ≡ total stored_size l
sizes_other P apart l u = total-all size stored_size l (all_imp P (λ e. size e ≡ stored_size e) (λ e p. size_other e (apart e p)) l u)

module _ (l : List Entry) (ascends : Asc key l) (proper : All Proper l) where
  size_below : total size (below key producer_key l) ≡ total stored_size (below key producer_key l)
  size_below = sizes_other (λ e. Lt (key e) producer_key) (λ e p. lt_ne p) (below key producer_key l) (below-under key producer_key l)

  size_above : total size (above key producer_key l) ≡ total stored_size (above key producer_key l)
  size_above =
      sizes_other (λ e. Lt producer_key (key e)) (λ e p h. lt_ne p (sym h)) (above key producer_key l) (above-over key producer_key l ascends)

  size-here : given (get key producer_key l) 0 size + producer_size * producers l ≡ given (get key producer_key l) 0 stored_size
  size-here = go (get key producer_key l) refl
    where
      go : (o : Option Entry) → get key producer_key l ≡ o → given o 0 size + producer_size * present o ≡ given o 0 stored_size
      go none q = refl
      go (some e) q =
          let i = get_in key producer_key l e q in
          let s = producer_entry e (in_all Proper l proper e i.0) i.1 in
          omega arith

  pub size_stored : total size l + producer_size * producers l ≡ total stored_size l
  size_stored =
      let k = producer_key in
      let a = total_split key size k l in
      let b = total_split key stored_size k l in
      omega (arith, size_below, size_above, size-here)

-- 3. Contents

pub length-entries : (c : Contents) → length (entry_bytes c) ≡ total stored_size c.real + total (λ r. length (record_bytes r)) c.empties
unfolding entry_bytes
length-entries c =
    length-append (joined (λ e. record_bytes (kept e)) c.real) (joined record_bytes c.empties)
    ∙ rw (length-joined (λ e. record_bytes (kept e)) c.real, length-joined record_bytes c.empties)

pub weight-used : (c : Contents) → Asc key c.real → All Proper c.real
    → weight c + producer_size * producers c.real ≡ used c + (fixed_room - head_size)
unfolding weight
weight-used c ascends proper = omega (arith, size_stored c.real ascends proper, length-entries c)

present-one : {A : Type 0} (o : Option A) → present o ≤ 1
present-one none = omega arith
present-one (some x) = omega arith

-- the room that is held for the fixed parts has the header and the producer ids
room-held : head_size + producer_size ≤ fixed_room
room-held = lit≤ tt

pub used-weight : (c : Contents) → Asc key c.real → All Proper c.real → used c ≤ weight c
used-weight c ascends proper =
    let one = present-one (get key producer_key c.real) in
    omega (arith, weight-used c ascends proper, room-held)

pub used_fits : (capacity : ℕ) (c : Contents) → Fits capacity c → used c ≤ capacity
used_fits capacity c f = omega (arith, used-weight c (orderly c f.orderly).ascends f.entries, f.room)

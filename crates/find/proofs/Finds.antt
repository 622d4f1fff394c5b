-- The probe of a query, and what its place among entries gives.
use mathlib.Core.Path.{◌≡◌, refl, sym, ap, ◌∙◌, subst}
use mathlib.Core.Bool.{Bool, true, false, cond}
use mathlib.Core.List.{[], ◌∷◌, append-nil}
use mathlib.Core.Option.{some}
use Prim.Native.Nat.{ℕ, suc, ◌+◌, ◌-◌, ◌≤◌, ◌<◌}
use native.Mathlib.Omega.{arith}
use borrow.Author.Tests.{eq-eqb, le-leb, lt-ltb, le-ltb}
use native.Mathlib.Decide.{dec_lt}
use lib.Dec.{eqb, ltb}
use lib.ListN.{length, take, drop, get_or}
use lib.Seq.{slice}
use Rattle.model.specs.Choice.{joined}
use Rattle.model.specs.Number.{Bytes, AreBytes}
use Rattle.model.specs.Order.{Key}
use Rattle.model.specs.Run.{Run, done, torn, item, field, value, or_empty, bytes_of}
use Rattle.model.specs.Kind.{kind_number}
use Rattle.model.specs.Shape.{stored, fault, rows_of, shape_of}
use Rattle.model.specs.Record.{record_bytes}
use Rattle.model.specs.Map.{get}
use Rattle.model.specs.Contents.{key, kept, returned, record_key}
use Rattle.model.specs.Image.{entry_of}
use Rattle.model.specs.Reply.{Reply, accepted, emit_bytes}
use Rattle.model.specs.Snapshot.{emit}
use Rattle.model.specs.Lookup.{found}
use Rattle.model.specs.declared.Kind.{Kind}
use Rattle.model.specs.declared.Kind.TheVariants.{Topic}
use Rattle.laws.specs.Choice.{over}
use Rattle.laws.specs.Lists.{in_all}
use Rattle.laws.specs.Map.{get-map, get_in}
use Rattle.laws_records.specs.Runs.{length_item}
use Rattle.laws_records.specs.Faults.{fault-value}
use Rattle.laws_records.specs.Records.{length_record}
use Rattle.laws_image.specs.Kinds.{is_kind}
use Rattle.laws_image.specs.Entries.{entry_key}
use Rattle.keys.specs.Keys.{key_in, Keyed}
use Rattle.keys.proofs.Found.{lent_slice}
use Rattle.entries.specs.Entries.{records_in, Entries, Placed, IsRecord, record_in}
use Rattle.entries.proofs.Changes.{record-in}
use Rattle.entries.proofs.Lookups.{absent, present}
use Rattle.find.specs.Probe.{probe_size, probe_bytes}
use Rattle.find.proofs.Probes.{probe_keyed, probe_key}
use Rattle.find.specs.Returned.{Entire, returned_bytes}
use Rattle.find.proofs.Records.{record-returned}
use Rattle.find.specs.Found.{Query, query_key, found_in, AllKept, record_at, PlaceHolds}

-- 1. The probe

module _ (kind : ℕ) (first second : Bytes) (q : Query kind first second) where
  pub query_size : probe_size first second ≤ 519
  query_size = omega (arith, q.first_fits, q.second_fits)

  pub query_keyed : Keyed (probe_bytes kind first second)
  query_keyed = probe_keyed kind q.of q.known first second (omega (arith, query_size)) q.widths

  pub query_key_lem : key_in (probe_bytes kind first second) ≡ query_key kind first second
  unfolding query_key
  query_key_lem = probe_key kind q.of q.known first second (omega (arith, query_size)) ∙ rw q.known

  length_done : length (bytes_of done) ≡ 0
  unfolding bytes_of
  length_done = refl

  -- as it is lent
  module _ {n : ℕ} (p : Bytes) (en : n ≡ probe_size first second) (ep : take n p ≡ probe_bytes kind first second) where
    pub lent_length : n ≡ length (take n p)
    lent_length =
        let all = ap length ep in
        let body = length_item 1 first (item 2 second done) in
        let rest = length_item 2 second done in
        let end = length_done in
        omega arith

    pub lent_probe : Keyed (take n p)
    lent_probe = rw ep query_keyed

    pub lent-place : (s : Bytes) (at end : ℕ) → Placed s (key_in (take n p)) at end → Placed s (query_key kind first second) at end
    lent-place s at end h = subst (λ k. Placed s k at end) (ap key_in ep ∙ query_key_lem) h

-- 2. A record's bytes have room for its head, and a topic's for its flag

value_room : (tag n : ℕ) (run : Run) → length (value tag run) ≡ suc n → 4 + n ≤ length (bytes_of run)
unfolding field bytes_of
value_room tag n done e = absurd (omega arith)
value_room tag n torn e = absurd (omega arith)
value_room tag n (item t v r) e = go (eqb t tag) (value_room tag n r) e
  where
    go : (b : Bool) → (length (value tag r) ≡ suc n → 4 + n ≤ length (bytes_of r)) → length (or_empty (cond b (some v) (field tag r))) ≡ suc n → 4 + n ≤ length (bytes_of (item t v r))
    go true i q = omega (arith, length_item t v r)
    go false i q = omega (arith, length_item t v r, i q)

topic_room : (k : Kind) (run : Run) → k ≡ Topic → fault stored k run ≡ 0 → 8 ≤ length (bytes_of run)
unfolding rows_of shape_of kind_number
topic_room k run e = rw e (λ ok. value_room 5 4 run (fault-value stored Topic run ok 5 refl refl))

pub entire : (e : Bytes) → IsRecord e → Entire e
unfolding record_bytes kind_number
entire e i =
    let l = ap length i.bytes ∙ length_record i.value in
    record {
      headed = omega arith;
      flagged = λ q. omega (arith, topic_room i.value.kind i.value.run (is_kind i.value.kind Topic (eq-eqb _ _ (sym (ap (λ x. get_or x 0 0) i.bytes) ∙ q))) i.passes);
    }

-- 3. The entry at a place, into an output

pub emit_nothing : (out : Bytes) → (accepted (0 ∷ []) ≡ (emit [] out).reply) × (out ≡ (emit [] out).buffer)
unfolding emit emit_bytes
emit_nothing out = rw (le-leb 0 (length out) (omega arith)) (refl, refl)

module _ (s : Bytes) (at end : ℕ) (h : PlaceHolds s at end) where
  pub emit-none : end ≤ at → (out : Bytes) → (accepted (0 ∷ []) ≡ (emit (record_at s at end) out).reply) × (out ≡ (emit (record_at s at end) out).buffer)
  unfolding record_at
  emit-none q out = rw (le-ltb at end q) (emit_nothing out)

  module _ (longer : at < end) where
    place-bytes : joined record_bytes (record_at s at end) ≡ returned_bytes (slice at end s)
    unfolding record_at
    place-bytes =
        let e = slice at end s in
        let r = record_in e in
        let i = (h longer).is in
        let bytes : record_bytes r ≡ e = ap record_bytes (record-in e i) ∙ sym i.bytes in
        rw (lt-ltb at end longer) (append-nil (record_bytes (returned (entry_of r))) ∙ record-returned r (h longer).keeps ∙ ap returned_bytes bytes)

    pub emit_entry : (out : Bytes) {r : Reply} {o : Bytes} → r ≡ (emit_bytes (returned_bytes (take (end - at) (drop at s))) out).reply
        → o ≡ (emit_bytes (returned_bytes (take (end - at) (drop at s))) out).buffer
        → (r ≡ (emit (record_at s at end) out).reply) × (o ≡ (emit (record_at s at end) out).buffer)
    unfolding emit
    emit_entry out e f =
        let same : returned_bytes (take (end - at) (drop at s)) ≡ joined record_bytes (record_at s at end) = ap returned_bytes (lent_slice s at end (omega arith)) ∙ sym place-bytes in
        (e ∙ ap (λ x. (emit_bytes x out).reply) same, f ∙ ap (λ x. (emit_bytes x out).buffer) same)

    pub lent_entire : Entire (take (end - at) (drop at s))
    lent_entire = rw (lent_slice s at end (omega arith)) (entire (slice at end s) (h longer).is)

-- 4. The place of a key's entry

found-key : (k : Key) (s : Bytes) → found_in k s ≡ found (over entry_of (get record_key k (records_in s)))
unfolding found_in
found-key k s = ap found (get-map record_key key entry_of entry_key k (records_in s))

module _ (s : Bytes) (k : Key) (at end : ℕ) (p : Placed s k at end) (are_bytes : AreBytes s) (whole : Entries s) where
  pub found-holds : AllKept (records_in s) → PlaceHolds s at end
  found-holds keeps longer =
      let t = present s k at end p are_bytes whole longer in
      let r = record_in (slice at end s) in
      let here = get_in record_key k (records_in s) r t.1 in
      record { is = t.0; keeps = in_all (λ x. kept (entry_of x) ≡ x) (records_in s) keeps r here.0; within = p.most }

  pub found_record : record_at s at end ≡ found_in k s
  unfolding record_at
  found_record = elim (dec_lt at end) [ yes q ↦ there q | no q ↦ nothing (omega arith) ]
    where
      there : at < end → cond (ltb at end) (returned (entry_of (record_in (slice at end s))) ∷ []) [] ≡ found_in k s
      there q = rw (lt-ltb at end q) (sym (found-key k s ∙ ap (λ o. found (over entry_of o)) (present s k at end p are_bytes whole q).1))

      nothing : end ≤ at → cond (ltb at end) (returned (entry_of (record_in (slice at end s))) ∷ []) [] ≡ found_in k s
      nothing q = rw (le-ltb at end q) (sym (found-key k s ∙ ap (λ o. found (over entry_of o)) (absent s k at end p q)))

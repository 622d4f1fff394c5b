-- A snapshot is no longer than its image, and its records read back.
use Rattle.std.specs.Prelude.{◌≡◌, refl, List, [], ◌∷◌, map, Bool, true, false, cond, ℕ, ◌≤◌, eqb, length}
use Rattle.std.proofs.Common.{sym, ap, ◌∙◌, arith, lit<, lit≤}
use Rattle.std.proofs.Math.ListN.{length-append}
use Rattle.model.specs.Choice.{joined, total}
use Rattle.model.specs.Number.{number, bytes, is_negative, is_offset}
use Rattle.model.specs.Run.{done, item, bytes_of, value}
use Rattle.model.specs.Kind.{kind_number}
use Rattle.model.specs.Shape.{rows_of, any_required, may_follow, leaf_fault, run_fault, value_fault, logged, framed, shape_of, fault}
use Rattle.model.specs.Record.{Rec, rec, record_bytes}
use Rattle.model.specs.Items.{items_of, records, is_whole}
use Rattle.model.specs.Contents.{Entry, topic, part, plain, returned, kept, Fixed, Contents}
use Rattle.model.specs.Snapshot.{offset_rec, is_offset_rec, epoch_records, kraft_records, trail, body, snapshot}
use Rattle.model.specs.declared.Kind.TheVariants.{Topic, Partition, FeaturesEpoch, KRaftVersion, LogOffset}
use Rattle.laws.specs.Choice.{impossible}
use Rattle.laws.specs.Lists.{All, all_imp, all_both, all_append, all_map, joined-append, joined-map, length-joined}
use Rattle.laws.specs.Numbers.{bytes_are_bytes, number_bytes_lem}
use Rattle.laws.specs.Offsets.{offset-span}
use Rattle.laws_records.specs.Runs.{AreFields}
use Rattle.laws_records.specs.Faults.{fault-value}
use Rattle.laws_records.specs.Items.{AllPass, records-items}
use Rattle.laws_records.specs.Stored.{fault_stored, fault_topic, logged_framed}
use Rattle.laws_image.specs.Kinds.{is_kind}
use Rattle.laws_image.specs.Fits.{Proper, Fits}
use Rattle.laws_image.specs.Orderly.{Storable, orderly}
use Rattle.laws_image.specs.Entries.{not_topic}
use Rattle.laws_image.specs.Weight.{stored_size, topic_size, length-entries, used_fits}

-- a record that reads back from a log
abbrev pub Loggable : Rec → Type 0
Loggable r = (fault logged r.kind r.run ≡ 0) × AreFields r.run

-- 1. The records pass

partition_topic_lem : Partition ≡ Topic → ⊥
partition_topic_lem e = impossible cc

pub returned_passes : (e : Entry) → Storable e → Proper e → Loggable (returned e)
unfolding returned kept
returned_passes (topic name id count factor named) s p =
    let f = p.readable.fields in
    let third = f.2.2 in (
      sym (fault_topic name id count factor named) ∙ p.readable.passes,
      (f.0, f.1, (f.2.0, f.2.1, (third.0, third.1, (third.2.0, third.2.1, tt)))),
    )
returned_passes (part r) s p = (sym (fault_stored Partition partition_topic_lem r) ∙ p.readable.passes, p.readable.fields)
returned_passes (plain r) s p =
    (sym (fault_stored r.kind (not_topic r.kind r.run s) r.run) ∙ p.readable.passes, p.readable.fields)

epoch_passes : (e : ℕ) → All Loggable (epoch_records e)
unfolding epoch_records kind_number rows_of shape_of any_required may_follow leaf_fault run_fault value_fault
epoch_passes e = go (is_negative 8 e)
  where
    go : (b : Bool) → All Loggable (cond b [] (rec FeaturesEpoch (item 1 (bytes 8 e) done) ∷ []))
    go true = tt
    go false = ((refl, (lit< tt, bytes_are_bytes 8 e, tt)), tt)

kraft_passes : (v : ℕ) → All Loggable (kraft_records v)
unfolding kraft_records kind_number rows_of shape_of any_required may_follow leaf_fault run_fault value_fault
kraft_passes v = go (eqb v 0)
  where
    go : (b : Bool) → All Loggable (cond b [] (rec KRaftVersion (item 1 (bytes 2 v) done) ∷ []))
    go true = tt
    go false = ((refl, (lit< tt, bytes_are_bytes 2 v, tt)), tt)

-- 2. Their length

returned_size_lem : (e : Entry) → length (record_bytes (returned e)) ≤ stored_size e
unfolding returned kept
returned_size_lem (topic name id count factor named) = omega (arith, topic_size name id count factor named)
returned_size_lem (part r) = omega arith
returned_size_lem (plain r) = omega arith

returned-total : (l : List Entry) → total (λ e. length (record_bytes (returned e))) l ≤ total stored_size l
unfolding total
returned-total [] = omega arith
returned-total (e ∷ l) = let h = returned-total l in let k = returned_size_lem e in omega arith

epoch-length : (e : ℕ) → length (joined record_bytes (epoch_records e)) ≤ 14
unfolding epoch_records record_bytes bytes_of
epoch-length e = go (is_negative 8 e)
  where
    go : (b : Bool) → length (joined record_bytes (cond b [] (rec FeaturesEpoch (item 1 (bytes 8 e) done) ∷ []))) ≤ 14
    go true = lit≤ tt
    go false = lit≤ tt

kraft-length : (v : ℕ) → length (joined record_bytes (kraft_records v)) ≤ 8
unfolding kraft_records record_bytes bytes_of
kraft-length v = go (eqb v 0)
  where
    go : (b : Bool) → length (joined record_bytes (cond b [] (rec KRaftVersion (item 1 (bytes 2 v) done) ∷ []))) ≤ 8
    go true = lit≤ tt
    go false = lit≤ tt

-- kind 26
pub offset_passes : (n : ℕ) → is_offset n ≡ true → fault framed LogOffset (item 1 (bytes 8 n) done) ≡ 0
unfolding rows_of shape_of any_required may_follow leaf_fault run_fault value_fault
offset_passes n h = rw (number_bytes_lem 8 n (offset-span n h), h) refl

-- what it holds is an offset
pub offset-held : (r : Rec) → is_offset_rec r ≡ true → fault framed r.kind r.run ≡ 0 → is_offset (number (value 1 r.run)) ≡ true
unfolding rows_of shape_of kind_number
offset-held r is ok =
    let k = is_kind r.kind LogOffset is in
    (fault-value framed LogOffset r.run (ap (λ x. fault framed x r.run) (sym k) ∙ ok) 1 refl refl).1

offset-length : (n : ℕ) → length (record_bytes (offset_rec n)) ≡ 14
unfolding record_bytes bytes_of
offset-length n = refl

-- the records after the entries' are 22 bytes long at most: with kind 26 no longer than the header
trail-length : (f : Fixed) → length (joined record_bytes (trail f)) ≤ 22
trail-length f =
    rw (joined-append record_bytes (epoch_records f.epoch) (kraft_records f.kraft), length-append)
    (omega (arith, epoch-length f.epoch, kraft-length f.kraft))

module _ (capacity : ℕ) (c : Contents) (f : Fits capacity c) where
  pub body_passes : All Loggable (body c)
  unfolding body
  body_passes =
      let epoch = c.fixed.epoch in
      let kraft = c.fixed.kraft in
      let both = all_both Storable Proper c.real (orderly c f.orderly).storables f.entries in
      let entries = all_map (λ e. Storable e × Proper e) Loggable returned (λ e p. returned_passes e p.0 p.1) c.real both in
      let last = all_append Loggable (epoch_records epoch) (kraft_records kraft) (epoch_passes epoch) (kraft_passes kraft) in
      all_append Loggable (map returned c.real) (trail c.fixed) entries last

  pub snapshot_fits : length (joined record_bytes (snapshot c)) ≤ capacity
  unfolding snapshot body
  snapshot_fits =
      rw (
        length-append,
        offset-length c.fixed.offset,
        joined-append record_bytes (map returned c.real) (trail c.fixed),
        length-append,
        joined-map record_bytes returned c.real,
        length-joined (λ e. record_bytes (returned e)) c.real,
      )
      (omega (arith, returned-total c.real, trail-length c.fixed, length-entries c, used_fits capacity c f))

  -- its bytes are read back as its records
  pub snapshot_passes : AllPass framed (snapshot c)
  unfolding snapshot
  snapshot_passes =
      let later = all_imp Loggable (λ r. fault framed r.kind r.run ≡ 0) (λ r p. logged_framed r.kind r.run p.0) (body c) body_passes in
      (offset_passes c.fixed.offset f.offset, later)

  pub snapshot_back : (records (items_of framed (joined record_bytes (snapshot c))) ≡ snapshot c)
      × (is_whole (items_of framed (joined record_bytes (snapshot c))) ≡ true)
  snapshot_back = records-items framed (snapshot c) snapshot_passes

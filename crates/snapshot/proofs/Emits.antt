-- What Snapshot writes: the records of the log offset, of the entries, of the epoch and of the kraft version, one after the other.
use mathlib.Core.Path.{◌≡◌, refl, sym, ap, ap₂, ◌∙◌}
use mathlib.Core.Bool.{Bool, true, false, not}
use mathlib.Core.List.{[], ◌∷◌, ◌++◌, map, append-nil}
use Prim.Native.Nat.{ℕ, ◌+◌, ◌-◌, ◌≤◌}
use native.Mathlib.Omega.{arith}
use borrow.Author.Tests.{le-leb, lt-leb, le-ltb, ltb-true, ltb-false, not-true, not-false}
use lib.Dec.{ltb}
use lib.ListN.{length, take, drop, length-append, length-drop}
use lib.Seq.{length-take-le}
use Rattle.model.specs.Choice.{joined, total}
use Rattle.model.specs.Number.{Bytes, AreBytes}
use Rattle.model.specs.Record.{record_bytes}
use Rattle.model.specs.Contents.{returned}
use Rattle.model.specs.Image.{head_size, entry_of, fixed_in, contents_of, is_image}
use Rattle.model.specs.Reply.{Reply, accepted, refused, emit_bytes}
use Rattle.model.specs.Snapshot.{offset_size, lengths, epoch_records, kraft_records, trail, body, snapshot, emit, snapshot_of}
use Rattle.laws.specs.Numbers.{take_are_bytes, drop_are_bytes}
use Rattle.laws.specs.Lists.{joined-append, joined-map, map-map, total-append, length-joined}
use Rattle.records.specs.Answers.{put_at}
use Rattle.entries.specs.Entries.{records_in}
use Rattle.find.specs.Reals.{Reals}
use Rattle.find.proofs.Lent.{lent-entries, lent-kept, lent-held}
use Rattle.snapshot.specs.Returned.{returned_records, returned_in, first_records, epoch_in, kraft_in, offset_bytes, epoch_bytes, kraft_bytes}
use Rattle.snapshot.proofs.Totals.{lengths-returned, returned_low}
use Rattle.snapshot.proofs.Trails.{offset_long, epoch-most, kraft-most}
use Rattle.records.proofs.Growing.{Growing, grow_start, part_fits, rest_fits, grow, grown}

module _ (image : Bytes) {end : ℕ} (r : Reals image end) where
  -- the entries as they are lent
  abbrev lent : Bytes
  lent = take (end - head_size) (drop head_size image)

  abbrev epoch : ℕ
  epoch = (fixed_in image).epoch

  abbrev kraft : ℕ
  kraft = (fixed_in image).kraft

  abbrev offset : ℕ
  offset = (fixed_in image).offset

  -- the bytes of all records, and of those behind the offset's and the entries'
  abbrev trails : Bytes
  trails = epoch_bytes epoch ++ kraft_bytes kraft

  abbrev all : Bytes
  all = offset_bytes offset ++ (returned_in lent ++ trails)

  all-bytes : joined record_bytes (snapshot (contents_of image)) ≡ all
  unfolding snapshot body contents_of
  all-bytes =
      let entries : joined record_bytes (map returned (contents_of image).real) ≡ returned_in lent =
      joined-map record_bytes returned (contents_of image).real
      ∙ ap (joined (λ e. record_bytes (returned e))) (sym (lent-held image r))
      ∙ joined-map (λ e. record_bytes (returned e)) entry_of (records_in lent) in
      ap (λ x. offset_bytes offset ++ x)
      (joined-append record_bytes (map returned (contents_of image).real) (trail (fixed_in image))
      ∙ ap₂ (λ x y. x ++ y) entries (joined-append record_bytes (epoch_records epoch) (kraft_records kraft)))

  -- how long they are
  all_long : lengths (snapshot (contents_of image)) ≡ offset_size + length (returned_in lent) + length (epoch_bytes epoch) + length (kraft_bytes kraft)
  all_long =
      omega (
        arith,
        length-joined record_bytes (snapshot (contents_of image)),
        ap length all-bytes,
        length-append (offset_bytes offset) (returned_in lent ++ trails),
        offset_long offset,
        length-append (returned_in lent) trails,
        length-append (epoch_bytes epoch) (kraft_bytes kraft),
      )

  -- 1. Whether an output is too short

  pub room_enough : AreBytes image → {room : ℕ} → end - head_size + 36 ≤ room → false ≡ ltb room (lengths (snapshot (contents_of image)))
  room_enough are_bytes {room} h =
      let few = returned_low lent (take_are_bytes (end - head_size) (drop head_size image) (drop_are_bytes head_size image are_bytes)) (lent-entries image r) (lent-kept image r) in
      let long : length lent ≡ end - head_size = length-take-le (end - head_size) (drop head_size image) (omega (arith, length-drop head_size image, r.high)) in
      sym (le-ltb room (lengths (snapshot (contents_of image))) (omega (arith, all_long, few, long, epoch-most epoch, kraft-most kraft)))

  pub room-told : (room : ℕ) {a b c e k : ℕ} → a ≡ length (returned_in lent) → e ≡ epoch → b ≡ length (epoch_bytes e) → k ≡ kraft → c ≡ length (kraft_bytes k)
      → ltb room (offset_size + a + b + c) ≡ ltb room (lengths (snapshot (contents_of image)))
  room-told room {a} {b} {c} ea ee eb ek ec =
      let same : offset_size + a + b + c ≡ lengths (snapshot (contents_of image)) = omega (arith, all_long, ea, eb ∙ ap (λ x. length (epoch_bytes x)) ee, ec ∙ ap (λ x. length (kraft_bytes x)) ek) in
      ap (ltb room) same

  -- 2. What is written, one part after the other

  module _ (out : Bytes) {short : Bool} (es : short ≡ ltb (length out) (lengths (snapshot (contents_of image)))) where
    pub too_short : short ≡ true → (refused 19 ≡ (emit (snapshot (contents_of image)) out).reply) × (out ≡ (emit (snapshot (contents_of image)) out).buffer)
    unfolding emit emit_bytes
    too_short h =
        let less = ltb-true (length out) (lengths (snapshot (contents_of image))) (sym es ∙ h) in
        let s = joined record_bytes (snapshot (contents_of image)) in
        rw (lt-leb (length s) (length out) (omega (arith, length-joined record_bytes (snapshot (contents_of image))))) (refl, refl)

    module _ (h : short ≡ false) where
      enough : lengths (snapshot (contents_of image)) ≤ length out
      enough = ltb-false (length out) (lengths (snapshot (contents_of image))) (sym es ∙ h)

      pub offset_fits : offset_size ≤ length out
      offset_fits = omega (arith, enough, all_long)

      start : Growing out out 0 0 all all
      start = grow_start out 0 all (omega (arith, enough, length-joined record_bytes (snapshot (contents_of image)), ap length all-bytes))

      -- the log offset's record
      module _ {x : Bytes} {o : ℕ} (po : (o ≡ offset_size) × (x ≡ put_at out 0 (offset_bytes offset))) where
        zeroth : Growing out x 0 o all (returned_in lent ++ trails)
        zeroth = grow start (offset_bytes offset) (returned_in lent ++ trails) refl (omega (arith, po.0, offset_long offset), po.1)

        pub entries_fit : o + length (returned_in lent) ≤ length x
        entries_fit = part_fits zeroth (returned_in lent) trails refl

        -- with the entries'
        module _ {w : Bytes} {n : ℕ} (pe : (n ≡ o + lengths (returned_records lent)) × (w ≡ put_at x o (returned_in lent))) where
          entries-lengths : lengths (returned_records lent) ≡ lengths (map returned (contents_of image).real)
          entries-lengths =
              ap lengths (sym (map-map returned entry_of (records_in lent)))
              ∙ ap (λ l. lengths (map returned l)) (lent-held image r)

          pub entries-total : n ≡ lengths (first_records image)
          unfolding total
          entries-total = omega (arith, pe.0, po.0, entries-lengths, offset_long offset)

          first : Growing out w 0 n all trails
          first = grow zeroth (returned_in lent) trails refl (omega (arith, pe.0, lengths-returned lent), pe.1)

          pub epoch_fits : n + lengths (epoch_in image) ≤ length w
          epoch_fits = omega (arith, part_fits first (epoch_bytes epoch) (kraft_bytes kraft) refl, length-joined record_bytes (epoch_in image))

          -- with the epoch's
          module _ {v : Bytes} {m : ℕ} (pp : (m ≡ n + lengths (epoch_in image)) × (v ≡ put_at w n (joined record_bytes (epoch_in image)))) where
            pub epoch-total : m ≡ lengths (first_records image ++ epoch_in image)
            epoch-total = omega (arith, pp.0, entries-total, total-append (λ x. length (record_bytes x)) (first_records image) (epoch_in image))

            second : Growing out v 0 m all (kraft_bytes kraft)
            second = grow first (epoch_bytes epoch) (kraft_bytes kraft) refl (omega (arith, pp.0, length-joined record_bytes (epoch_in image)), pp.1)

            pub kraft_fits : m + lengths (kraft_in image) ≤ length v
            kraft_fits = omega (arith, rest_fits second, length-joined record_bytes (kraft_in image))

            -- and with the kraft version's
            pub emitted : {u : Bytes} {k : ℕ} → (k ≡ m + lengths (kraft_in image)) × (u ≡ put_at v m (joined record_bytes (kraft_in image)))
                → (accepted (k ∷ []) ≡ (emit (snapshot (contents_of image)) out).reply) × (u ≡ (emit (snapshot (contents_of image)) out).buffer)
            unfolding emit emit_bytes
            emitted {u} {k} pk =
                let own : (k ≡ m + length (kraft_bytes kraft)) × (u ≡ put_at v m (kraft_bytes kraft)) = (omega (arith, pk.0, length-joined record_bytes (kraft_in image)), pk.1) in
                let done = grown (grow second (kraft_bytes kraft) [] (sym (append-nil (kraft_bytes kraft))) own) refl in
                let whole : 0 + length all ≡ length all = omega arith in
                rw (all-bytes, le-leb (length all) (length out) (omega (arith, enough, length-joined record_bytes (snapshot (contents_of image)), ap length all-bytes)))
                (ap (λ x. accepted (x ∷ [])) (done.0 ∙ whole), done.1 ∙ ap (λ x. all ++ drop x out) whole)

-- the exits of Snapshot
module _ (image out : Bytes) {b : Bool} (eb : b ≡ is_image image) where
  pub no_image : not b ≡ true → (refused 1 ≡ (snapshot_of image out).reply) × (out ≡ (snapshot_of image out).buffer)
  unfolding snapshot_of
  no_image h = rw (sym eb ∙ not-true b h) (refl, refl)

  module _ (h : not b ≡ false) where
    pub image_is : is_image image ≡ true
    image_is = sym eb ∙ not-false b h

    pub said : {x : Reply} {v : Bytes} → (x ≡ (emit (snapshot (contents_of image)) out).reply) × (v ≡ (emit (snapshot (contents_of image)) out).buffer)
        → (x ≡ (snapshot_of image out).reply) × (v ≡ (snapshot_of image out).buffer)
    unfolding snapshot_of
    said q = rw image_is q

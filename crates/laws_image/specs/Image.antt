-- An image's bytes and its contents are two forms of one thing.
use Rattle.std.specs.Prelude.{◌≡◌, true, false, ℕ, ◌+◌, ◌-◌, length, take, drop}
use Rattle.std.proofs.Common.{sym, ◌∙◌, arith, length-append}
use Rattle.std.proofs.Math.Path.{ap}
use mathlib.Core.List.{List, ◌++◌, map, append_assoc}
use Rattle.std.proofs.lemmas.List.{length-replicate}
use Rattle.std.proofs.Math.Seq.{slice, take_at, drop_at}
use Rattle.model.specs.Choice.{joined}
use Rattle.model.specs.Number.{Bytes, AreBytes, is_offset}
use Rattle.model.specs.Shape.{stored, fault}
use Rattle.model.specs.Record.{Rec, record_bytes}
use Rattle.model.specs.Items.{items_of, records, is_whole}
use Rattle.model.specs.Contents.{kept, Fixed, Contents, is_group, is_bare}
use Rattle.model.specs.Image.{head_size, zeros, header, entry_bytes, used, image_of}
use Rattle.model.specs.Image.{used_in, fixed_in, items_in, entry_of, flag_reads, real_of, empties_of, contents_of, is_image}
use Rattle.laws.specs.Lists.{All, all_imp, all_both, all_append, all_map, map_same, map-map, joined-append, joined-map}
use Rattle.laws.specs.Offsets.{offset-span}
use Rattle.laws.specs.Numbers.{append_are_bytes, joined_are_bytes}
use Rattle.laws_records.specs.Records.{bytes_record}
use Rattle.laws_records.specs.Items.{AllPass, records-items}
use Rattle.laws_image.specs.Fits.{Readable, Proper, Fits}
use Rattle.laws_image.specs.Orderly.{Storable, orderly}
use Rattle.laws_image.specs.Entries.{entry_kept, kept_reads, kept_bare, bare_reads, group_bare, real_append, empties_append}
use Rattle.laws_image.specs.Header.{length-header, header-bytes, zero-bytes, used-header, fixed_header}
use Rattle.laws_image.specs.Weight.{used_fits}
use Rattle.laws_image.specs.Tests.{capacity-most, HeaderHolds, holds_image}

-- the records that stand in an image: the entries', then the empty groups'
abbrev pub standing : Contents → List Rec
standing c = map kept c.real ++ c.empties

pub entry_bytes_lem : (c : Contents) → entry_bytes c ≡ joined record_bytes (standing c)
unfolding entry_bytes
entry_bytes_lem c =
    sym (joined-append record_bytes (map kept c.real) c.empties
    ∙ ap (λ (s : Bytes). s ++ joined record_bytes c.empties) (joined-map record_bytes kept c.real))

-- 1. The image of contents

module _ (capacity : ℕ) (c : Contents) (f : Fits capacity c) where
  readable : All Readable (standing c)
  readable =
      all_append Readable (map kept c.real) c.empties
      (all_map Proper Readable kept (λ e p. p.readable) c.real f.entries) f.groups

  pub image_length : length (image_of capacity c) ≡ capacity
  unfolding image_of
  image_length =
      let h = used_fits capacity c f in
      simp (length-append, length-header, length-replicate) (omega arith)

  entries-bytes : AreBytes (entry_bytes c)
  entries-bytes =
      let each = all_imp Readable (λ r. AreBytes (record_bytes r)) (λ r p. bytes_record r p.fields) (standing c) readable in
      rw (entry_bytes_lem c) (joined_are_bytes record_bytes (standing c) each)

  pub image_bytes : AreBytes (image_of capacity c)
  unfolding image_of
  image_bytes =
      append_are_bytes (header (used c) c.fixed ++ entry_bytes c) (zeros (capacity - used c))
      (append_are_bytes (header (used c) c.fixed) (entry_bytes c) (header-bytes (used c) c.fixed) entries-bytes)
      (zero-bytes (capacity - used c))

  -- the header, then the rest
  image_parts : image_of capacity c ≡ header (used c) c.fixed ++ (entry_bytes c ++ zeros (capacity - used c))
  unfolding image_of
  image_parts = append_assoc (header (used c) c.fixed) (entry_bytes c) (zeros (capacity - used c))

  pub image_used : used_in (image_of capacity c) ≡ used c
  image_used =
      let h = used_fits capacity c f in
      let k = capacity-most capacity f.within in
      ap used_in image_parts ∙ used-header (used c) c.fixed (entry_bytes c ++ zeros (capacity - used c)) (omega arith)

  pub image_fixed : fixed_in (image_of capacity c) ≡ c.fixed
  image_fixed =
      ap fixed_in image_parts ∙ fixed_header (used c) c.fixed (entry_bytes c ++ zeros (capacity - used c)) f.epoch f.kraft (offset-span c.fixed.offset f.offset)

  length-used : length (header (used c) c.fixed ++ entry_bytes c) ≡ used c
  length-used =
      length-append (header (used c) c.fixed) (entry_bytes c)
      ∙ ap (λ (n : ℕ). n + length (entry_bytes c)) (length-header (used c) c.fixed)

  image_used-part : take (used c) (image_of capacity c) ≡ header (used c) c.fixed ++ entry_bytes c
  unfolding image_of
  image_used-part = take_at (header (used c) c.fixed ++ entry_bytes c) (zeros (capacity - used c)) (used c) length-used

  pub image_entries : slice head_size (used_in (image_of capacity c)) (image_of capacity c) ≡ entry_bytes c
  image_entries =
      ap (λ (n : ℕ). slice head_size n (image_of capacity c)) image_used
      ∙ ap (drop head_size) image_used-part
      ∙ drop_at (header (used c) c.fixed) (entry_bytes c) head_size (length-header (used c) c.fixed)

  -- 2. Its contents

  passing : AllPass stored (standing c)
  passing = all_imp Readable (λ r. fault stored r.kind r.run ≡ 0) (λ r p. p.passes) (standing c) readable

  image_items : items_in (image_of capacity c) ≡ items_of stored (joined record_bytes (standing c))
  image_items = ap (items_of stored) (image_entries ∙ entry_bytes_lem c)

  pub image_records : records (items_in (image_of capacity c)) ≡ standing c
  image_records = ap records image_items ∙ (records-items stored (standing c) passing).0

  pub image_whole : is_whole (items_in (image_of capacity c)) ≡ true
  image_whole = ap is_whole image_items ∙ (records-items stored (standing c) passing).1

  none_bare : All (λ r. is_bare r ≡ false) (map kept c.real)
  none_bare = all_map Storable (λ r. is_bare r ≡ false) kept kept_bare c.real (orderly c f.orderly).storables

  all_bare : All (λ r. is_bare r ≡ true) c.empties
  all_bare = all_imp (λ r. is_group r ≡ true) (λ r. is_bare r ≡ true) group_bare c.empties (orderly c f.orderly).groups

  entries_back : map entry_of (map kept c.real) ≡ c.real
  entries_back =
      map-map entry_of kept c.real
      ∙ map_same (λ e. entry_of (kept e)) c.real
      (all_imp (λ e. Storable e × Proper e) (λ e. entry_of (kept e) ≡ e) (λ e p. entry_kept e p.0 p.1.numbers) c.real
      (all_both Storable Proper c.real (orderly c f.orderly).storables f.entries))

  pub image_contents : contents_of (image_of capacity c) ≡ c
  unfolding contents_of
  image_contents =
      let real : map entry_of (real_of (records (items_in (image_of capacity c)))) ≡ c.real =
      ap (λ (rs : List Rec). map entry_of (real_of rs)) image_records
      ∙ ap (map entry_of) (real_append c.empties all_bare (map kept c.real) none_bare)
      ∙ entries_back in
      let empties : empties_of (records (items_in (image_of capacity c))) ≡ c.empties =
      ap empties_of image_records ∙ empties_append c.empties all_bare (map kept c.real) none_bare in
      λ i. record { real = real i; empties = empties i; fixed = image_fixed i }

  -- 3. It is an image

  image_front : take head_size (image_of capacity c) ≡ header (used c) c.fixed
  image_front =
      ap (take head_size) image_parts
      ∙ take_at (header (used c) c.fixed) (entry_bytes c ++ zeros (capacity - used c)) head_size (length-header (used c) c.fixed)

  image_clear : drop (used c) (image_of capacity c) ≡ zeros (capacity - used c)
  unfolding image_of
  image_clear = drop_at (header (used c) c.fixed ++ entry_bytes c) (zeros (capacity - used c)) (used c) length-used

  image_header : HeaderHolds (image_of capacity c)
  image_header =
      let b = image_of capacity c in
      let h = used_fits capacity c f in
      record {
        front = image_front ∙ sym (λ i. header (image_used i) (image_fixed i));
        least = rw image_used (omega arith);
        most = rw (image_used, image_length) h;
        clear = ap (λ (n : ℕ). drop n b) image_used ∙ image_clear ∙ sym (λ i. zeros (image_length i - image_used i));
        offset = ap (λ (x : Fixed). is_offset x.offset) image_fixed ∙ f.offset;
      }

  flags_read : All (λ r. flag_reads r ≡ true) (standing c)
  flags_read =
      all_append (λ r. flag_reads r ≡ true) (map kept c.real) c.empties
      (all_map Storable (λ r. flag_reads r ≡ true) kept kept_reads c.real (orderly c f.orderly).storables)
      (all_imp (λ r. is_bare r ≡ true) (λ r. flag_reads r ≡ true) bare_reads c.empties all_bare)

  pub image_is : is_image (image_of capacity c) ≡ true
  image_is = holds_image (image_of capacity c) (record {
    within = rw image_length f.within;
    head = image_header;
    whole = image_whole;
    flags = rw image_records flags_read;
    orderly = rw image_contents f.orderly;
    room = rw (image_contents, image_length) f.room;
  })

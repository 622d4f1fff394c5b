-- A buffer is an image exactly if it holds the bytes of contents that fit it, and these are its contents.
use Rattle.std.specs.Prelude.{◌≡◌, true, ◌↔◌, ℕ, ◌+◌, ◌-◌, ◌*◌, ◌≤◌, ◌<◌, length, drop}
use Rattle.std.proofs.Common.{sym, ◌∙◌, arith, take-append-drop, take-take}
use Rattle.std.proofs.Math.Path.{ap}
use mathlib.Core.List.{List, [], ◌∷◌, ◌++◌, map}
use Rattle.std.proofs.Math.ListN.{take}
use Rattle.std.proofs.Math.Seq.{slice, length-slice}
use Rattle.model.specs.Choice.{joined}
use Rattle.model.specs.Number.{Bytes, AreBytes, number, span}
use Rattle.model.specs.Run.{bytes_of}
use Rattle.model.specs.Shape.{Source, stored, fault}
use Rattle.model.specs.Record.{Rec, record_bytes, replicas_apart}
use Rattle.model.specs.Items.{records, is_whole}
use Rattle.model.specs.Contents.{kept, Contents, fixed_room, weight, sound}
use Rattle.model.specs.Image.{head_size, zeros, header, entry_bytes, used, image_of, used_in, fixed_in, items_in}
use Rattle.model.specs.Image.{entry_of, flag_reads, real_of, empties_of, contents_of, is_image}
use Rattle.laws.specs.Lists.{All, all_imp, all_both, all-append-left, all-append_right, all_map, map_same, map-map}
use Rattle.laws.specs.Numbers.{slice_are_bytes, number_bound, left_are_bytes, right_are_bytes}
use Rattle.laws_records.specs.Runs.{AreFields, fields-run, run-bytes}
use Rattle.laws_records.specs.Faults.{fault-whole, fault-short}
use Rattle.laws_records.specs.Apart.{passes_apart}
use Rattle.laws_records.specs.Items.{AllPass, Spells, spells-items}
use Rattle.laws_image.specs.Fits.{Readable, Proper, Fits}
use Rattle.laws_image.specs.Entries.{kept_entry, entry_proper, real_empties}
use Rattle.laws_image.specs.Tests.{capacity-least, HeaderHolds, ImageHolds, image_holds}
use Rattle.laws_image.specs.Orderly.{orderly}
use Rattle.laws_image.specs.Weight.{producer_size, producers, weight-used}
use Rattle.laws_image.specs.Image.{standing, entry_bytes_lem, image_contents, image_is}

-- 1. Records that were read from bytes

pub fields_record : (source : Source) (r : Rec) → fault source r.kind r.run ≡ 0 → AreBytes (record_bytes r) → AreFields r.run
unfolding record_bytes
fields_record source r ok h =
    rw (run-bytes r.run (fault-whole source r.kind r.run ok) (fault-short source r.kind r.run ok)) at
    (fields-run (bytes_of r.run) h.1.1.1)

pub readable_records : (rs : List Rec) → AllPass stored rs → AreBytes (joined record_bytes rs) → All Readable rs
readable_records [] ok h = tt
readable_records (r ∷ rs) ok h =
    let here = left_are_bytes (record_bytes r) (joined record_bytes rs) h in
    let rest = right_are_bytes (record_bytes r) (joined record_bytes rs) h in
    (record { passes = ok.0; fields = fields_record stored r ok.0 here }, readable_records rs ok.1 rest)

-- 2. The contents of an image, and their image

-- a record that reads back as an entry does
abbrev Read : Rec → Type 0
Read r = Readable r × (flag_reads r ≡ true)

module _ (b : Bytes) (are_bytes : AreBytes b) (head : HeaderHolds b) (whole : is_whole (items_in b) ≡ true)
    (flags : All (λ r. flag_reads r ≡ true) (records (items_in b))) where
  entries-part : AreBytes (slice head_size (used_in b) b)
  entries-part = slice_are_bytes head_size (used_in b) b are_bytes

  spells : Spells stored (records (items_in b)) (slice head_size (used_in b) b)
  spells = spells-items stored (slice head_size (used_in b) b) entries-part whole

  reads : All Read (real_of (records (items_in b)) ++ empties_of (records (items_in b)))
  reads =
      let rs = records (items_in b) in
      let readable = readable_records rs spells.pass (rw spells.spelt entries-part) in
      rw (real_empties rs) (all_both Readable (λ r. flag_reads r ≡ true) rs readable flags)

  real_reads : All Read (real_of (records (items_in b)))
  real_reads = all-append-left Read (real_of (records (items_in b))) (empties_of (records (items_in b))) reads

  empties_read : All Read (empties_of (records (items_in b)))
  empties_read = all-append_right Read (real_of (records (items_in b))) (empties_of (records (items_in b))) reads

  pub kept_back : All (λ r. kept (entry_of r) ≡ r) (real_of (records (items_in b)))
  kept_back = all_imp Read (λ r. kept (entry_of r) ≡ r) (λ r p. kept_entry r p.0 p.1) (real_of (records (items_in b))) real_reads

  -- the same records stand in the image of the contents
  standing_back : standing (contents_of b) ≡ records (items_in b)
  unfolding contents_of
  standing_back =
      let rs = records (items_in b) in
      let back : map kept (map entry_of (real_of rs)) ≡ real_of rs =
      map-map kept entry_of (real_of rs)
      ∙ map_same (λ r. kept (entry_of r)) (real_of rs) kept_back in
      ap (λ (l : List Rec). l ++ empties_of rs) back ∙ real_empties rs

  entries_back : entry_bytes (contents_of b) ≡ slice head_size (used_in b) b
  entries_back = entry_bytes_lem (contents_of b) ∙ ap (joined record_bytes) standing_back ∙ spells.spelt

  pub used_back : used (contents_of b) ≡ used_in b
  used_back =
      let h = ap length entries_back ∙ length-slice head_size (used_in b) b head.most in
      let least = head.least in
      omega arith

  -- the three parts of a buffer
  parts : take head_size b ++ slice head_size (used_in b) b ++ drop (used_in b) b ≡ b
  parts =
      ap (λ (s : Bytes). s ++ slice head_size (used_in b) b ++ drop (used_in b) b) (sym (take-take head_size (used_in b) b head.least))
      ∙ ap (λ (s : Bytes). s ++ drop (used_in b) b) (take-append-drop head_size (take (used_in b) b))
      ∙ take-append-drop (used_in b) b

  back : image_of (length b) (contents_of b) ≡ b
  unfolding image_of contents_of
  back =
      ap (λ (n : ℕ). header n (fixed_in b) ++ entry_bytes (contents_of b) ++ zeros (length b - n)) used_back
      ∙ ap (λ (s : Bytes). header (used_in b) (fixed_in b) ++ s ++ zeros (length b - used_in b)) entries_back
      ∙ ap (λ (s : Bytes). s ++ slice head_size (used_in b) b ++ zeros (length b - used_in b)) (sym head.front)
      ∙ ap (λ (s : Bytes). take head_size b ++ slice head_size (used_in b) b ++ s) (sym head.clear)
      ∙ parts

  proper_entries : All Proper (contents_of b).real
  unfolding contents_of
  proper_entries = all_map Read Proper entry_of (λ r p. entry_proper r p.0 p.1) (real_of (records (items_in b))) real_reads

  pub weight_back : sound (contents_of b) ≡ true
      → weight (contents_of b) + producer_size * producers (contents_of b).real ≡ used_in b + (fixed_room - head_size)
  weight_back h = weight-used (contents_of b) (orderly (contents_of b) h).ascends proper_entries ∙ ap (λ n. n + (fixed_room - head_size)) used_back

module _ (b : Bytes) (are_bytes : AreBytes b) (d : ImageHolds b) where
  number_part_lem : (from upto : ℕ) → upto ≤ length b → number (slice from upto b) < span (upto - from)
  number_part_lem from upto h =
      rw (length-slice from upto b h) at (number_bound (slice from upto b) (slice_are_bytes from upto b are_bytes))

  fits : Fits (length b) (contents_of b)
  unfolding contents_of
  fits =
      let least = capacity-least (length b) d.within in
      let groups = empties_read b are_bytes d.head d.whole d.flags in
      record {
        within = d.within;
        entries = proper_entries b are_bytes d.head d.whole d.flags;
        groups = all_imp Read Readable (λ r p. p.0) (empties_of (records (items_in b))) groups;
        orderly = d.orderly;
        epoch = number_part_lem 16 24 (omega arith);
        kraft = number_part_lem 24 26 (omega arith);
        offset = d.head.offset;
        room = d.room;
      }

-- 3. Exactly

pub image_fits : (b : Bytes) → AreBytes b → is_image b ≡ true → Fits (length b) (contents_of b)
image_fits b p h = fits b p (image_holds b h)

pub image_back : (b : Bytes) → AreBytes b → is_image b ≡ true → image_of (length b) (contents_of b) ≡ b
image_back b p h = let d = image_holds b h in back b p d.head d.whole d.flags

pub image_exactly : (b : Bytes) → AreBytes b → (is_image b ≡ true) ↔ ((c : Contents) × Fits (length b) c × (image_of (length b) c ≡ b))
image_exactly b p = (
  λ h. (contents_of b, image_fits b p h, image_back b p h),
  λ t. ap is_image (sym t.2) ∙ image_is (length b) t.0 t.1,
)

-- equal images are of equal contents
pub contents_injective : (capacity : ℕ) (c d : Contents) → Fits capacity c → Fits capacity d → image_of capacity c ≡ image_of capacity d
    → c ≡ d
contents_injective capacity c d f g e = sym (image_contents capacity c f) ∙ ap contents_of e ∙ image_contents capacity d g

-- no stored partition has a repeat in its replicas
pub image_apart : (b : Bytes) → AreBytes b → is_image b ≡ true → All (λ e. replicas_apart (kept e) ≡ true) (contents_of b).real
image_apart b p h = all_imp Proper (λ e. replicas_apart (kept e) ≡ true) (λ e q. passes_apart stored (kept e) q.readable.passes) (contents_of b).real (image_fits b p h).entries

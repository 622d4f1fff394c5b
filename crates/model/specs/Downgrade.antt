-- *Downgrade*: "changed broker projections by node, then, below 17, one DirAssignment per non-`MIGRATING` slot below both lengths, by topic,
-- partition, slot. Log dirs clear below 17, cordoned dirs below 30."
use Rattle.std.specs.Prelude.{ℕ, zero, suc, ◌+◌, ◌*◌, ◌/◌, ◌<◌, min, ◌≡◌, Bool, true, false, cond, ◌&&◌, not, List, [], ◌∷◌, ◌++◌, map, ltb, eqb, length, take, drop, replicate}
use Rattle.std.proofs.Math.Option.{Option, none, some}
use Rattle.model.specs.Choice.{is_empty, joined}
use Rattle.model.specs.Number.{Bytes, AreBytes, span, half, place}
use Rattle.model.specs.Order.{Key, same_bytes}
use Rattle.model.specs.Run.{Run, done, item, bytes_of, value, set_field, drop_field}
use Rattle.model.specs.Kind.{kind_number}
use Rattle.model.specs.Shape.{framed}
use Rattle.model.specs.Record.{Rec, rec, record_bytes}
use Rattle.model.specs.Items.{items_of, records, is_whole}
use Rattle.model.specs.Key.{rank, key_rank}
use Rattle.model.specs.Map.{keep}
use Rattle.model.specs.Contents.{Entry, topic, part, plain, key, Contents, dated}
use Rattle.model.specs.Image.{is_image, contents_of}
use Rattle.model.specs.Move.{replicas, directories, node_width, id_width, node_count}
use Rattle.model.specs.Validate.{validate_of}
use Rattle.model.specs.Apply.{is_later, apply_of}
use Rattle.model.specs.Snapshot.{emit}
use Rattle.model.specs.Reply.{Ended, accepted, unchanged, emit_bytes}
use Rattle.model.specs.declared.Kind.TheVariants.{Partition, BrokerRegistration, PartitionDirAssignment}

-- `metadata_version.rs`: levels 17 (directories) and 30 (cordoned dirs)
abbrev pub directories_level : ℕ
directories_level = 17

abbrev pub cordoned_level : ℕ
cordoned_level = 30

-- a level, an i16, is compared as signed
abbrev pub is_under : ℕ → ℕ → Bool
is_under level least = ltb (place 2 level) (least + half 2)

-- `MIGRATING`, the all-zero 16-byte id
abbrev pub migrating : Bytes
migrating = replicate id_width 0

-- a broker as a level knows it
unfoldable pub project : ℕ → Run → Run
project level b =
    let dirs = cond (is_under level directories_level) (set_field 8 [] b) b in
    cond (is_under level cordoned_level) (drop_field 11 dirs) dirs

abbrev pub projected : ℕ → Run → List Rec
projected level b = cond (same_bytes (bytes_of (project level b)) (bytes_of b)) [] (rec BrokerRegistration (project level b) ∷ [])

-- the slots of a partition, the first `count` of them
abbrev pub assignment : Run → Bytes → Rec
assignment p node = rec PartitionDirAssignment (item 1 (value 1 p) (item 2 (value 2 p) (item 3 node (item 4 migrating done))))

unfoldable pub assignments : Run → ℕ → Bytes → Bytes → List Rec
assignments p zero nodes dirs = []
assignments p (suc count) nodes dirs =
    cond (same_bytes (take id_width dirs) migrating) [] (assignment p (take node_width nodes) ∷ []) ++
    assignments p count (drop node_width nodes) (drop id_width dirs)

abbrev pub slots : Run → ℕ
slots p = min (node_count (replicas p)) (length (directories p) / id_width)

unfoldable pub listed : ℕ → Entry → List Rec
listed level (topic name id count factor named) = []
listed level (part p) = cond (is_under level directories_level) (assignments p (slots p) (replicas p) (directories p)) []
listed level (plain r) = cond (eqb (kind_number r.kind) (kind_number BrokerRegistration)) (projected level r.run) []

unfoldable pub downgrade : ℕ → Contents → List Rec
downgrade level c = joined (listed level) c.real

unfoldable pub downgrade_of : Bytes → ℕ → Bytes → Ended
downgrade_of image level out = cond (is_image image) (emit (downgrade level (contents_of image)) out) (unchanged 1 out)

-- 02, request 9: "for every level, applying the listed records in order without a refusal leaves an image whose listing for that level is
-- empty ... Topics, partition offsets, configs and freezes are unchanged by the pass." `crates/laws_downgrade` proves the claims below.

-- 1. The pass

-- records given to Apply one after the other, each with its log offset: the image afterwards, none where one is refused or where there are not
-- as many offsets as records
unfoldable pub applied_all : List ℕ → List Rec → Bytes → Option Bytes
applied_all [] [] image = some image
applied_all [] (r ∷ rs) image = none
applied_all (n ∷ ns) [] image = none
applied_all (n ∷ ns) (r ∷ rs) image =
    cond (eqb (apply_of image n (record_bytes r)).reply.number 0) (applied_all ns rs (apply_of image n (record_bytes r)).buffer) none

-- each offset is of eight bytes
abbrev pub AreOffsets : List ℕ → Type 0
AreOffsets [] = Unit {0}
AreOffsets (n ∷ ns) = (n < span 8) × AreOffsets ns

-- the last offset given, or the one before where none is
unfoldable pub last_offset : ℕ → List ℕ → ℕ
last_offset before [] = before
last_offset before (n ∷ ns) = last_offset n ns

-- A pass under way: some of the listed records, from the first, were applied without a refusal, with whatever offsets; the image that they
-- reached, and those left.
pub record UnderWay (level : ℕ) (image : Bytes) (offsets : List ℕ) (reached : Bytes) (left : List Rec) : Type 0 where
  pub given : List Rec
  pub listing : downgrade level (contents_of image) ≡ given ++ left
  pub are_offsets : AreOffsets offsets
  pub applied : applied_all offsets given image ≡ some reached

-- 2. What it leaves

-- of a partition: every replica's slot `MIGRATING`, directories past the replicas as they are
abbrev pub cleared : Run → Run
cleared p = set_field 9 (replicate (node_count (replicas p) * id_width) 0 ++ drop (node_count (replicas p) * id_width) (directories p)) p

-- of an entry: as it is, where nothing is listed for it; else a partition cleared, a broker as the level knows it
unfoldable pub lowered : ℕ → Entry → Entry
lowered level (topic name id count factor named) = topic name id count factor named
lowered level (part p) = cond (is_empty (listed level (part p))) (part p) (part (cleared p))
lowered level (plain r) = cond (is_empty (listed level (plain r))) (plain r) (plain (rec BrokerRegistration (project level r.run)))

abbrev pub lowered_contents : ℕ → Contents → Contents
lowered_contents level c = record { real = map (lowered level) c.real; empties = c.empties; fixed = c.fixed }

-- the log offset is the one of the last record
abbrev pub dated_last : List ℕ → Contents → Contents
dated_last offsets c = dated (last_offset c.fixed.offset offsets) c

-- neither a broker nor a partition
unfoldable pub is_other : Key → Bool
is_other k = not (eqb (key_rank k) (rank BrokerRegistration)) && not (eqb (key_rank k) (rank Partition))

-- 3. The claims

-- "for every level, applying the listed records in order without a refusal leaves an image whose listing for that level is empty"; the image is
-- of the same capacity, and its contents are the lowered ones at the last offset given
abbrev pub DowngradeDone : Type 0
DowngradeDone =
    (level : ℕ) (image after : Bytes) (offsets : List ℕ) → AreBytes image → is_image image ≡ true → AreOffsets offsets →
    applied_all offsets (downgrade level (contents_of image)) image ≡ some after →
    (downgrade level (contents_of after) ≡ []) × (is_image after ≡ true) × (length after ≡ length image) ×
    (contents_of after ≡ dated_last offsets (lowered_contents level (contents_of image)))

-- "Topics, partition offsets, configs and freezes are unchanged by the pass": every entry that is neither a broker nor a partition, the empty
-- groups and the fixed parts but for the log offset, which is the last one given; after the pass and after each record of it, so also where a
-- refusal stops it. What is reached is an image.
abbrev pub DowngradeKeeps : Type 0
DowngradeKeeps =
    (level : ℕ) (image reached : Bytes) (offsets : List ℕ) (left : List Rec) → AreBytes image → is_image image ≡ true →
    UnderWay level image offsets reached left →
    (is_image reached ≡ true) × (length reached ≡ length image) ×
    (keep key is_other (contents_of reached).real ≡ keep key is_other (contents_of image).real) ×
    ((contents_of reached).empties ≡ (contents_of image).empties) × ((contents_of reached).fixed ≡ (dated_last offsets (contents_of image)).fixed)

-- Validate says 0 to each listed record, at its place in the pass
abbrev pub ListedAdmitted : Type 0
ListedAdmitted =
    (level : ℕ) (image reached : Bytes) (offsets : List ℕ) (r : Rec) (left : List Rec) → AreBytes image → is_image image ≡ true →
    UnderWay level image offsets reached (r ∷ left) → validate_of reached (record_bytes r) ≡ accepted []

-- the only refusal of a listed record, at its place in the pass and with an offset above the stored one, is 18; any other offset is 21. Either
-- leaves the image that was reached.
abbrev pub OnlyRoomRefuses : Type 0
OnlyRoomRefuses =
    (level : ℕ) (image reached : Bytes) (offsets : List ℕ) (r : Rec) (left : List Rec) (offset : ℕ) → AreBytes image → is_image image ≡ true →
    UnderWay level image offsets reached (r ∷ left) → eqb (apply_of reached offset (record_bytes r)).reply.number 0 ≡ false →
    apply_of reached offset (record_bytes r) ≡ unchanged (cond (is_later (contents_of reached).fixed.offset offset) 18 21) reached

-- the bytes that Downgrade writes are the listed records: Read finds these in them and nothing else
abbrev pub ListingReadsBack : Type 0
ListingReadsBack =
    (level : ℕ) (image out : Bytes) → AreBytes image → is_image image ≡ true →
    let listing = downgrade level (contents_of image) in
    let s = joined record_bytes listing in
    (downgrade_of image level out ≡ emit_bytes s out) × (records (items_of framed s) ≡ listing) × (is_whole (items_of framed s) ≡ true)

-- and after the pass it writes nothing, whatever the output
abbrev pub NothingWrittenAfter : Type 0
NothingWrittenAfter =
    (level : ℕ) (image after : Bytes) (offsets : List ℕ) (out : Bytes) → AreBytes image → is_image image ≡ true → AreOffsets offsets →
    applied_all offsets (downgrade level (contents_of image)) image ≡ some after →
    downgrade_of after level out ≡ record { reply = accepted (0 ∷ []); buffer = out }

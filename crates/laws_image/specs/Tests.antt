-- What the exact test of an image says, part by part.
use Rattle.std.specs.Prelude.{◌≡◌, refl, [], ◌∷◌, true, ◌&&◌, ℕ, ◌-◌, ◌≤◌, leb, eqb, length, take, drop}
use Rattle.std.proofs.Common.{◌∙◌, ap, length-drop, leb-true, le-leb, eqb-true}
use Rattle.model.specs.Choice.{every}
use Rattle.model.specs.Number.{Bytes, is_offset}
use Rattle.model.specs.Order.{same_bytes}
use Rattle.model.specs.Items.{records, is_whole}
use Rattle.model.specs.Contents.{weight, sound}
use Rattle.model.specs.Image.{least_capacity, most_capacity, is_capacity, head_size, zeros, header, used_in, fixed_in, items_in, flag_reads}
use Rattle.model.specs.Image.{contents_of, header_ok, entries_ok, is_image}
use Rattle.laws.specs.Choice.{and_left, and_right, and_both}
use Rattle.laws.specs.Order.{same_bytes_self, same_bytes_true}
use Rattle.laws.specs.Lists.{All, every_true, all-every, all_replicate}

-- 1. The capacity

pub capacity-least : (n : ℕ) → is_capacity n ≡ true → least_capacity ≤ n
unfolding is_capacity
capacity-least n h = leb-true least_capacity n (and_left (leb least_capacity n) (leb n most_capacity) h)

pub capacity-most : (n : ℕ) → is_capacity n ≡ true → n ≤ most_capacity
unfolding is_capacity
capacity-most n h = leb-true n most_capacity (and_right (leb least_capacity n) (leb n most_capacity) h)

-- 2. The header, and the unused bytes

pub record HeaderHolds (b : Bytes) : Type 0 where
  pub front : take head_size b ≡ header (used_in b) (fixed_in b)
  pub least : head_size ≤ used_in b
  pub most : used_in b ≤ length b
  pub clear : drop (used_in b) b ≡ zeros (length b - used_in b)
  pub offset : is_offset (fixed_in b).offset ≡ true

zeros-all : (s : Bytes) → All (λ x. eqb x 0 ≡ true) s → s ≡ zeros (length s)
zeros-all [] u = refl
zeros-all (x ∷ s) u = cc (eqb-true x 0 u.0, zeros-all s u.1)

every-zero : (n : ℕ) → every (λ x. eqb x 0) (zeros n) ≡ true
every-zero n = all-every (λ x. eqb x 0) (zeros n) (all_replicate (λ x. eqb x 0 ≡ true) n 0 refl)

pub header-holds : (b : Bytes) → header_ok b ≡ true → HeaderHolds b
unfolding header_ok
header-holds b h =
    let same = same_bytes (take head_size b) (header (used_in b) (fixed_in b)) in
    let low = leb head_size (used_in b) in
    let high = leb (used_in b) (length b) in
    let empty = every (λ x. eqb x 0) (drop (used_in b) b) in
    let dated = is_offset (fixed_in b).offset in
    let four = and_left (same && low && high && empty) dated h in
    let three = and_left (same && low && high) empty four in
    let two = and_left (same && low) high three in
    let rest = zeros-all (drop (used_in b) b) (every_true (λ x. eqb x 0) (drop (used_in b) b) (and_right (same && low && high) empty four)) in
    record {
      front = same_bytes_true (take head_size b) (header (used_in b) (fixed_in b)) (and_left same low two);
      least = leb-true head_size (used_in b) (and_right same low two);
      most = leb-true (used_in b) (length b) (and_right (same && low) high three);
      clear = rest ∙ ap zeros (length-drop (used_in b) b);
      offset = and_right (same && low && high && empty) dated h;
    }

same_bytes_lem : (s t : Bytes) → s ≡ t → same_bytes s t ≡ true
same_bytes_lem s t e = rw e (same_bytes_self t)

pub holds-header : (b : Bytes) → HeaderHolds b → header_ok b ≡ true
unfolding header_ok
holds-header b d =
    let same = same_bytes (take head_size b) (header (used_in b) (fixed_in b)) in
    let low = leb head_size (used_in b) in
    let high = leb (used_in b) (length b) in
    let empty = every (λ x. eqb x 0) (drop (used_in b) b) in
    let zero_rest = ap (every (λ x. eqb x 0)) d.clear ∙ every-zero (length b - used_in b) in
    and_both (same && low && high && empty) (is_offset (fixed_in b).offset) (and_both (same && low && high) empty
    (and_both (same && low) high
    (and_both same low (same_bytes_lem (take head_size b) (header (used_in b) (fixed_in b)) d.front) (le-leb head_size (used_in b) d.least))
    (le-leb (used_in b) (length b) d.most))
    zero_rest) d.offset

-- 3. The whole

pub record ImageHolds (b : Bytes) : Type 0 where
  pub within : is_capacity (length b) ≡ true
  pub head : HeaderHolds b
  pub whole : is_whole (items_in b) ≡ true
  pub flags : All (λ r. flag_reads r ≡ true) (records (items_in b))
  pub orderly : sound (contents_of b) ≡ true
  pub room : weight (contents_of b) ≤ length b

pub image_holds : (b : Bytes) → is_image b ≡ true → ImageHolds b
unfolding is_image entries_ok
image_holds b h =
    let capacity = is_capacity (length b) in
    let parsed = is_whole (items_in b) in
    let flagged = every flag_reads (records (items_in b)) in
    let proper = sound (contents_of b) in
    let light = leb (weight (contents_of b)) (length b) in
    let three = and_left (capacity && header_ok b && (parsed && flagged && proper)) light h in
    let two = and_left (capacity && header_ok b) (parsed && flagged && proper) three in
    let entries = and_right (capacity && header_ok b) (parsed && flagged && proper) three in
    let read = and_left (parsed && flagged) proper entries in
    record {
      within = and_left capacity (header_ok b) two;
      head = header-holds b (and_right capacity (header_ok b) two);
      whole = and_left parsed flagged read;
      flags = every_true flag_reads (records (items_in b)) (and_right parsed flagged read);
      orderly = and_right (parsed && flagged) proper entries;
      room = leb-true (weight (contents_of b)) (length b) (and_right (capacity && header_ok b && (parsed && flagged && proper)) light h);
    }

pub holds_image : (b : Bytes) → ImageHolds b → is_image b ≡ true
unfolding is_image entries_ok
holds_image b d =
    let capacity = is_capacity (length b) in
    let parsed = is_whole (items_in b) in
    let flagged = every flag_reads (records (items_in b)) in
    let proper = sound (contents_of b) in
    let read = and_both parsed flagged d.whole (all-every flag_reads (records (items_in b)) d.flags) in
    let entries = and_both (parsed && flagged) proper read d.orderly in
    let two = and_both capacity (header_ok b) d.within (holds-header b d.head) in
    and_both (capacity && header_ok b && (parsed && flagged && proper)) (leb (weight (contents_of b)) (length b))
    (and_both (capacity && header_ok b) (parsed && flagged && proper) two entries)
    (le-leb (weight (contents_of b)) (length b) d.room)

pub weight_fits : (b : Bytes) → is_image b ≡ true → weight (contents_of b) ≤ length b
weight_fits b h = (image_holds b h).room

-- The entries of an image at the start of a work array.
use mathlib.Core.Path.{◌≡◌, sym, ap, ◌∙◌}
use mathlib.Core.Bool.{true}
use mathlib.Core.List.{map, ◌++◌}
use Prim.Native.Nat.{ℕ, ◌+◌, ◌-◌, ◌≤◌}
use native.Mathlib.Omega.{arith}
use lib.ListN.{length, take, drop, length-append}
use lib.Seq.{slice, length-slice, take-append-le, take_at}
use Rattle.model.specs.Number.{Bytes, AreBytes}
use Rattle.model.specs.Image.{head_size, used_in, entry_of, empties_of, contents_of, is_image}
use Rattle.fields.proofs.Parse.{take-slice}
use Rattle.keys.proofs.Found.{lent_slice}
use Rattle.entries.specs.Entries.{records_in}
use Rattle.image_entries.specs.Stored.{Parted}
use Rattle.find.specs.Reals.{Reals}
use Rattle.find.proofs.Ends.{empties_held, used_low, used_high, reals_end}
use Rattle.apply_work.specs.Work.{reals_in, groups_in, Good}
use Rattle.apply_work.specs.declared.Bounds.{Bounds}

module _ (b : Bytes) (are_bytes : AreBytes b) (is : is_image b ≡ true) {used : ℕ} (eu : used ≡ used_in b) where
  -- the entries, as they are lent
  abbrev lent : Bytes
  lent = take (used - head_size) (drop head_size b)

  low : head_size ≤ used
  low = used_low b are_bytes is eu

  whole : lent ≡ slice head_size used b
  whole = lent_slice b head_size used low

  long : length lent ≡ used - head_size
  long = ap length whole ∙ length-slice head_size used b (used_high b are_bytes is eu)

  pub bounds_fits : (w : Bytes) → length b ≤ length w → 0 + length lent ≤ length w
  bounds_fits w h = omega (arith, long, used_high b are_bytes is eu)

  module _ (w v : Bytes) (mid : ℕ) (p : Parted lent mid) (e : v ≡ take 0 w ++ lent ++ drop (0 + length lent) w) where
    abbrev bounds : Bounds
    bounds = record { mid = mid; used = used - head_size }

    most : mid ≤ used - head_size
    most = omega (arith, long, p.most)

    first : take mid v ≡ take mid lent
    first = ap (take mid) e ∙ take-append-le mid lent (drop (0 + length lent) w) p.most

    second : slice mid (used - head_size) v ≡ drop mid lent
    second = ap (drop mid) (ap (take (used - head_size)) e ∙ take_at lent (drop (0 + length lent) w) (used - head_size) long)

    held : Reals b (head_size + mid)
    held = reals_end b are_bytes is eu mid p

    -- the real entries stand in the image as they do here
    same_reals : take mid v ≡ slice head_size (head_size + mid) b
    same_reals = first ∙ ap (take mid) whole ∙ take-slice b head_size mid used (omega (arith, most, low))

    same_groups : records_in (slice mid (used - head_size) v) ≡ (contents_of b).empties
    same_groups =
        ap records_in second
        ∙ p.empties
        ∙ ap (λ s. empties_of (records_in s)) (whole ∙ ap (λ u. slice head_size u b) eu)
        ∙ sym (empties_held b)

    fits : used - head_size ≤ length v
    fits = omega (arith, long, ap length e ∙ length-append lent (drop (0 + length lent) w))

    pub loaded : Good v bounds × (map entry_of (reals_in v bounds) ≡ (contents_of b).real) × (groups_in v bounds ≡ (contents_of b).empties) ×
        (used - head_size + head_size ≡ used_in b)
    loaded = (
      record {
        order = most;
        fits = fits;
        reals = rw first p.real_entries;
        groups = rw second p.empty_entries;
        keeps = rw same_reals held.keeps;
      },
      ap (λ s. map entry_of (records_in s)) same_reals ∙ sym held.held,
      same_groups,
      omega (arith, low, eu),
    )

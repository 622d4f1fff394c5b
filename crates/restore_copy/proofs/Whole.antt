-- An image with no empty group: all its entries are real ones.
use mathlib.Core.Path.{◌≡◌, refl, sym, ap, ◌∙◌, subst}
use mathlib.Core.Bool.{Bool, true, false}
use mathlib.Core.List.{[], map}
use Prim.Native.Nat.{ℕ, ◌+◌, ◌-◌, ◌≤◌, ◌<◌}
use native.Mathlib.Omega.{arith}
use borrow.Author.Tests.{lt-leb}
use lib.ListN.{length, take, drop, drop_of_length-le}
use lib.Seq.{slice, length-slice}
use Rattle.model.specs.Choice.{every}
use Rattle.model.specs.Number.{Bytes, AreBytes, span, half}
use Rattle.model.specs.Map.{ascending}
use Rattle.model.specs.Contents.{record_key}
use Rattle.model.specs.Image.{head_size, used_in, fixed_in, entry_of, empties_of, contents_of, is_image}
use Rattle.model.specs.Snapshot.{levels, restored_epoch, restored}
use Rattle.laws.specs.Lists.{every_map}
use Rattle.laws_image.specs.Exact.{image_fits}
use Rattle.laws_image.specs.Orderly.{orderly}
use Rattle.keys.proofs.Found.{lent_slice}
use Rattle.entries.specs.Entries.{records_in, Entries}
use Rattle.entries.proofs.Seeks.{no_records}
use Rattle.image_entries.specs.Stored.{Parted}
use Rattle.find.specs.Reals.{Reals}
use Rattle.find.proofs.Ends.{empties_held, used_low, used_high, reals_end}
use Rattle.restore_settled.specs.Settled.{settled_entry, settled_record, is_no_level}
use Rattle.restore_settled.proofs.Levels.{no_levels}
use Rattle.restore_copy.specs.Rebuild.{Steady}
use Rattle.restore_copy.proofs.Steady.{still, epoch_raised, epoch_unraised}

fixed_held : (b : Bytes) → (contents_of b).fixed ≡ fixed_in b
unfolding contents_of
fixed_held b = refl

module _ (b : Bytes) (are_bytes : AreBytes b) (is : is_image b ≡ true) {used : ℕ} (eu : used ≡ used_in b) where
  abbrev s : Bytes
  s = take (used - head_size) (drop head_size b)

  lent : s ≡ slice head_size used b
  lent = lent_slice b head_size used (used_low b are_bytes is eu)

  long : length s ≡ used - head_size
  long = ap length lent ∙ length-slice head_size used b (used_high b are_bytes is eu)

  module _ {mid : ℕ} (p : Parted s mid) (whole : mid ≡ used - head_size) where
    reals : Reals b used
    reals =
        let e : head_size + mid ≡ used = omega (arith, used_low b are_bytes is eu) in
        subst (λ x. Reals b x) e (reals_end b are_bytes is eu mid p)

    pub entries : Entries s
    entries = rw lent reals.entries

    pub ascends : ascending record_key (records_in s) ≡ true
    ascends = rw lent reals.ascends

    held : (contents_of b).real ≡ map entry_of (records_in s)
    held = reals.held ∙ ap (λ x. map entry_of (records_in x)) (sym lent)

    none : (contents_of b).empties ≡ []
    none =
        let past : length s ≤ mid = omega (arith, long) in
        empties_held b
        ∙ ap (λ x. empties_of (records_in x)) (sym (lent ∙ ap (λ u. slice head_size u b) eu))
        ∙ sym p.empties
        ∙ no_records (drop mid s) (drop_of_length-le s past)

    module _ (all : every (settled_record (records_in s)) (records_in s) ≡ true) where
      settled : every (settled_entry (contents_of b).real) (contents_of b).real ≡ true
      settled = rw held (every_map (settled_entry (map entry_of (records_in s))) entry_of (records_in s) ∙ all)

      whole-still : restored_epoch (levels (contents_of b).real) (fixed_in b).epoch ≡ (fixed_in b).epoch → restored (contents_of b) ≡ contents_of b
      whole-still e =
          still (contents_of b) (orderly (contents_of b) (image_fits b are_bytes is).orderly) settled none
          (rw (fixed_held b) e)

      module _ {epoch : ℕ} (ee : epoch ≡ (fixed_in b).epoch) where
        pub raised : epoch < half 8 → restored (contents_of b) ≡ contents_of b
        raised h = whole-still (epoch_raised (levels (contents_of b).real) (fixed_in b).epoch (rw (← ee) (lt-leb (half 8) epoch h)))

        unraised : epoch ≡ span 8 - 1 → every is_no_level (records_in s) ≡ true → restored (contents_of b) ≡ contents_of b
        unraised h free =
            whole-still (epoch_unraised (levels (contents_of b).real) (fixed_in b).epoch (rw held (no_levels (records_in s) free)) (sym ee ∙ h))

        -- the last exit, by what it answers
        pub unraised_as : epoch ≡ span 8 - 1 → (r : Bool) → r ≡ every is_no_level (records_in s) → Steady b r
        unraised_as h true e = unraised h (sym e)
        unraised_as h false e = tt

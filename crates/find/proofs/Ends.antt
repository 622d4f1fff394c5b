-- Where the empty groups begin, the real entries end.
use mathlib.Core.Path.{◌≡◌, refl, sym, ap, ◌∙◌, subst}
use mathlib.Core.Bool.{true, not, ◌&&◌}
use mathlib.Core.List.{map}
use Prim.Native.Nat.{ℕ, ◌+◌, ◌-◌, ◌≤◌}
use native.Mathlib.Omega.{arith}
use lib.ListN.{length, take, drop}
use lib.Seq.{slice, length-slice}
use Rattle.model.specs.Number.{Bytes, AreBytes}
use Rattle.model.specs.Image.{head_size, used_in, items_in, entry_of, real_of, empties_of, contents_of, is_image}
use Rattle.model.specs.Items.{records}
use Rattle.model.specs.Choice.{every}
use Rattle.model.specs.Map.{any, ascending}
use Rattle.model.specs.Contents.{key, record_key, is_group, in_group_of, named_apart, storable_entry, sound}
use Rattle.laws.specs.Choice.{and_left}
use Rattle.laws_image.specs.Entries.{ascending-entries}
use Rattle.laws_image.specs.Tests.{capacity-least, image_holds}
use Rattle.laws_image.specs.Exact.{kept_back}
use Rattle.fields.proofs.Parse.{take-slice}
use Rattle.keys.proofs.Found.{lent_slice}
use Rattle.entries.specs.Entries.{records_in, Entries}
use Rattle.image_entries.specs.Stored.{Parted}
use Rattle.find.specs.Reals.{Reals}

real_held : (b : Bytes) → (contents_of b).real ≡ map entry_of (real_of (records (items_in b)))
unfolding contents_of
real_held b = refl

pub empties_held : (b : Bytes) → (contents_of b).empties ≡ empties_of (records (items_in b))
unfolding contents_of
empties_held b = refl

real_ascends : (b : Bytes) → is_image b ≡ true → ascending key (map entry_of (real_of (records (items_in b)))) ≡ true
unfolding sound contents_of
real_ascends b is =
    let l = map entry_of (real_of (records (items_in b))) in
    let a = ascending key l in
    let s = every (storable_entry l) l in
    let n = named_apart l in
    let gs = empties_of (records (items_in b)) in
    let g = ascending record_key gs in
    let v = every (λ r. is_group r && not (any key (in_group_of r) l)) gs in
    and_left a s (and_left (a && s) n (and_left (a && s && n) g (and_left (a && s && n && g) v (image_holds b is).orderly)))

module _ (b : Bytes) (are_bytes : AreBytes b) (is : is_image b ≡ true) where
  pub head_fits : head_size ≤ length b
  head_fits = omega (arith, capacity-least (length b) (image_holds b is).within)

  module _ {used : ℕ} (eu : used ≡ used_in b) where
    pub used_low : head_size ≤ used
    used_low = omega (arith, (image_holds b is).head.least)

    pub used_high : used ≤ length b
    used_high = omega (arith, (image_holds b is).head.most)

    entries-lent : take (used - head_size) (drop head_size b) ≡ slice head_size (used_in b) b
    entries-lent = lent_slice b head_size used used_low ∙ ap (λ u. slice head_size u b) eu

    pub entries-there : Entries (take (used - head_size) (drop head_size b))
    entries-there = rw entries-lent (image_holds b is).whole

    pub reals_end : (mid : ℕ) → Parted (take (used - head_size) (drop head_size b)) mid → Reals b (head_size + mid)
    reals_end mid p =
        let s = slice head_size (used_in b) b in
        let q : Parted s mid = subst (λ x. Parted x mid) entries-lent p in
        let d = image_holds b is in
        let n = length-slice head_size (used_in b) b d.head.most in
        let low = d.head.least in
        let high = d.head.most in
        let most = q.most in
        let front : slice head_size (head_size + mid) b ≡ take mid s = sym (take-slice b head_size mid (used_in b) (omega arith)) in
        record {
          low = omega arith;
          high = omega arith;
          entries = rw front q.real_entries;
          keeps = rw (front, q.reals) (kept_back b are_bytes d.head d.whole d.flags);
          ascends = rw (front, q.reals) (sym (ascending-entries (real_of (records (items_in b)))) ∙ real_ascends b is);
          held = real_held b ∙ ap (map entry_of) (sym (ap records_in front ∙ q.reals));
        }

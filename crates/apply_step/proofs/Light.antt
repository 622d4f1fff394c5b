-- What a work array's contents weigh, by the bytes that they take.
use mathlib.Core.Path.{◌≡◌, ap, ◌∙◌}
use Prim.Native.Nat.{ℕ, ◌+◌, ◌*◌, ◌≤◌}
use native.Mathlib.Omega.{arith}
use lib.ListN.{length}
use lib.Seq.{length-take-le}
use Rattle.model.specs.Number.{Bytes, AreBytes}
use Rattle.model.specs.Contents.{key, Fixed, fixed_room, weight}
use Rattle.model.specs.Image.{head_size, used}
use Rattle.laws.specs.Map.{Asc}
use Rattle.laws_image.specs.Weight.{producer_size, weight-used, used-weight}
use Rattle.image.specs.Test.{producers_in}
use Rattle.image.proofs.Steps.{producers-held}
use Rattle.apply_work.proofs.Lays.{entries-used}
use Rattle.apply_work.specs.Work.{reals_in, Good, held_in, contents_in}
use Rattle.apply_work.specs.declared.Bounds.{Bounds}
use Rattle.apply_work.proofs.Proper.{held_proper}

module _ (w : Bytes) (bounds : Bounds) (are : AreBytes w) (good : Good w bounds) (f : Fixed) where
  used_is : used (contents_in w bounds f) ≡ head_size + bounds.used
  used_is = ap (λ s. head_size + length s) (entries-used are good f) ∙ ap (λ n. head_size + n) (length-take-le bounds.used w good.fits)

  module _ (ascends : Asc key (held_in w bounds)) where
    -- the entries fit where the contents do
    pub used_light : head_size + bounds.used ≤ weight (contents_in w bounds f)
    used_light = omega (arith, used_is, used-weight (contents_in w bounds f) ascends (held_proper w bounds are good))

    pub weight_is : (n : ℕ) → n + producer_size * producers_in (reals_in w bounds) ≡ fixed_room + bounds.used → n ≡ weight (contents_in w bounds f)
    weight_is n e =
        let same = producers-held (reals_in w bounds) in
        let all = weight-used (contents_in w bounds f) ascends (held_proper w bounds are good) in
        omega (arith, e, same, all, used_is)

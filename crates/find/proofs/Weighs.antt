-- What an image weighs, by the bytes of its entries.
use mathlib.Core.Path.{◌≡◌, sym, ap, ◌∙◌}
use mathlib.Core.Bool.{true}
use Prim.Native.Nat.{ℕ, ◌+◌, ◌-◌, ◌*◌}
use native.Mathlib.Omega.{arith}
use lib.ListN.{take, drop}
use Rattle.model.specs.Number.{Bytes, AreBytes}
use Rattle.model.specs.Contents.{fixed_room, weight}
use Rattle.model.specs.Image.{head_size, used_in, contents_of, is_image}
use Rattle.laws_image.specs.Weight.{producer_size, producers}
use Rattle.laws_image.specs.Tests.{image_holds}
use Rattle.laws_image.specs.Exact.{weight_back}
use Rattle.entries.specs.Entries.{records_in}
use Rattle.image.specs.Test.{producers_in}
use Rattle.image.proofs.Steps.{producers-held}
use Rattle.find.specs.Reals.{Reals}
use Rattle.find.proofs.Lent.{lent-held}

pub weighs : (b : Bytes) → AreBytes b → is_image b ≡ true → (end : ℕ) → Reals b end → (used : ℕ) → used ≡ used_in b
    → (n : ℕ) → n + producer_size * producers_in (records_in (take (end - head_size) (drop head_size b))) ≡ fixed_room + (used - head_size)
    → n ≡ weight (contents_of b)
weighs b are_bytes is end r used eu n e =
    let d = image_holds b is in
    let same = sym (producers-held (records_in (take (end - head_size) (drop head_size b)))) ∙ ap producers (lent-held b r) in
    omega (arith, e, same, eu, d.head.least, weight_back b are_bytes d.head d.whole d.flags d.orderly)

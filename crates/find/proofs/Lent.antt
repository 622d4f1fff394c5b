-- The real entries of an image, as they are lent.
use mathlib.Core.Path.{◌≡◌, sym, ap, ◌∙◌}
use mathlib.Core.Bool.{true, ◌&&◌}
use mathlib.Core.List.{map}
use Prim.Native.Nat.{ℕ, ◌-◌, ◌≤◌}
use native.Mathlib.Omega.{arith}
use lib.Dec.{leb}
use lib.ListN.{length, take, drop}
use lib.Seq.{slice, length-slice}
use Rattle.model.specs.Number.{Bytes}
use Rattle.model.specs.Contents.{kept, weight}
use Rattle.model.specs.Image.{head_size, entry_of, contents_of, is_capacity, header_ok, entries_ok, is_image}
use Rattle.laws.specs.Choice.{and_left}
use Rattle.laws.specs.Lists.{All}
use Rattle.laws_image.specs.Tests.{capacity-most}
use Rattle.keys.proofs.Found.{lent_slice}
use Rattle.entries.specs.Entries.{records_in, Entries}
use Rattle.find.specs.Reals.{Reals}

module _ (image : Bytes) {end : ℕ} (r : Reals image end) where
  pub lent-part : take (end - head_size) (drop head_size image) ≡ slice head_size end image
  lent-part = lent_slice image head_size end r.low

  pub lent-entries : Entries (take (end - head_size) (drop head_size image))
  lent-entries = rw lent-part r.entries

  pub lent-kept : All (λ r. kept (entry_of r) ≡ r) (records_in (take (end - head_size) (drop head_size image)))
  lent-kept = rw lent-part r.keeps

  pub lent-held : map entry_of (records_in (take (end - head_size) (drop head_size image))) ≡ (contents_of image).real
  lent-held = ap (λ s. map entry_of (records_in s)) lent-part ∙ sym r.held

  pub lent-short : is_image image ≡ true → length (take (end - head_size) (drop head_size image)) ≤ 65536
  unfolding is_image
  lent-short is =
      let a = is_capacity (length image) in
      let b = header_ok image in
      let c = entries_ok image in
      let d = leb (weight (contents_of image)) (length image) in
      let capacity = and_left a b (and_left (a && b) c (and_left (a && b && c) d is)) in
      omega (arith, ap length lent-part ∙ length-slice head_size end image r.high, capacity-most (length image) capacity, r.high)

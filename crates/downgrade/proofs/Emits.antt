-- What Downgrade writes: the records of the real entries, or nothing where they do not fit.
use mathlib.Core.Path.{◌≡◌, refl, sym, ap, ◌∙◌}
use mathlib.Core.Bool.{Bool, true, false, not}
use mathlib.Core.List.{List, [], ◌∷◌, ◌++◌, map}
use Prim.Native.Nat.{ℕ, ◌-◌}
use borrow.Author.Tests.{not-true, not-false}
use lib.ListN.{take, drop}
use lib.Seq.{slice}
use Rattle.model.specs.Choice.{joined}
use Rattle.model.specs.Number.{Bytes}
use Rattle.model.specs.Record.{Rec, record_bytes}
use Rattle.model.specs.Image.{head_size, entry_of, contents_of, is_image}
use Rattle.model.specs.Reply.{Reply, refused}
use Rattle.model.specs.Snapshot.{emit}
use Rattle.model.specs.Downgrade.{listed, downgrade, downgrade_of}
use Rattle.laws.specs.Lists.{joined-append}
use Rattle.entries.specs.Entries.{records_in}
use Rattle.find.specs.Reals.{Reals}
use Rattle.find.proofs.Lent.{lent-part}
use Rattle.downgrade.specs.Listed.{listed_bytes, listed_in}

-- records that are joined, and their bytes
joined_twice : (level : ℕ) (l : List Rec) → joined record_bytes (joined (listed level) (map entry_of l)) ≡ joined (listed_bytes level) l
joined_twice level [] = refl
joined_twice level (r ∷ l) =
    joined-append record_bytes (listed level (entry_of r)) (joined (listed level) (map entry_of l)) ∙ ap (λ x. listed_bytes level r ++ x) (joined_twice level l)

module _ (image : Bytes) {end : ℕ} (r : Reals image end) where
  pub all-bytes : (level : ℕ) → joined record_bytes (downgrade level (contents_of image)) ≡ listed_in level (take (end - head_size) (drop head_size image))
  unfolding downgrade
  all-bytes level =
      ap (λ l. joined record_bytes (joined (listed level) l)) r.held
      ∙ joined_twice level (records_in (slice head_size end image))
      ∙ ap (listed_in level) (sym (lent-part image r))

-- the exits of Downgrade
module _ (image : Bytes) (level : ℕ) (out : Bytes) {b : Bool} (eb : b ≡ is_image image) where
  pub no_image : not b ≡ true → (refused 1 ≡ (downgrade_of image level out).reply) × (out ≡ (downgrade_of image level out).buffer)
  unfolding downgrade_of
  no_image h = rw (sym eb ∙ not-true b h) (refl, refl)

  module _ (h : not b ≡ false) where
    pub image_is : is_image image ≡ true
    image_is = sym eb ∙ not-false b h

    pub said : {x : Reply} {v : Bytes} → (x ≡ (emit (downgrade level (contents_of image)) out).reply) × (v ≡ (emit (downgrade level (contents_of image)) out).buffer)
        → (x ≡ (downgrade_of image level out).reply) × (v ≡ (downgrade_of image level out).buffer)
    unfolding downgrade_of
    said q = rw image_is q

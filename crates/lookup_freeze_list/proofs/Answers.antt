-- The freezes of a list, exit by exit.
use mathlib.Core.Path.{◌≡◌, refl, sym, ap, ap₂, ◌∙◌}
use mathlib.Core.Bool.{Bool, true, false, not}
use mathlib.Core.List.{List, [], ◌∷◌, ◌++◌}
use Prim.Native.Nat.{ℕ, zero, suc, ◌-◌, ◌*◌, ◌≤◌, ◌<◌}
use native.Mathlib.Omega.{arith}
use borrow.Author.Tests.{not-true, not-false, le-leb, lt-leb}
use lib.ListN.{length, take, drop}
use Rattle.model.specs.Choice.{joined}
use Rattle.model.specs.Number.{Bytes, bytes}
use Rattle.model.specs.Contents.{Entry, key, record_key}
use Rattle.model.specs.Image.{head_size, entry_of, is_image, contents_of}
use Rattle.model.specs.Reply.{Reply, accepted, refused, Ended, emit_bytes, also_says}
use Rattle.model.specs.FreezeList.{job_limit, freeze_index, freezes_read, answered, freeze_list_of}
use Rattle.laws.specs.Map.{Asc, ascending_asc, map_asc}
use Rattle.laws_image.specs.Entries.{entry_key}
use Rattle.laws_freezes.specs.Sizes.{indexes-length}
use Rattle.entries.specs.Entries.{records_in}
use Rattle.entries.specs.Held.{entries_in}
use Rattle.find.specs.Reals.{Reals}
use Rattle.find.proofs.Lent.{lent-part}
use Rattle.names.specs.Lists.{CheckedAs}
use Rattle.names.specs.declared.Checked.TheVariants.{Names, Refused}
use Rattle.name_marks.specs.Marks.{jobs}

-- 1. The entries as they are lent ascend

pub lent-ascends : (image : Bytes) {end : ℕ} → Reals image end → Asc key (entries_in (take (end - head_size) (drop head_size image)))
lent-ascends image {end} r =
    let s = take (end - head_size) (drop head_size image) in
    map_asc record_key key entry_of entry_key (records_in s) (ascending_asc record_key (records_in s) (rw (lent-part image r) r.ascends))

-- 2. The bytes, and how many freezes were read

abbrev Same : Reply → Bytes → Ended → Type 0
Same r o e = (r ≡ e.reply) × (o ≡ e.buffer)

module _ (s out : Bytes) (vs : List ℕ) where
  said-short : length out < length s → Same (refused 19) out (also_says vs (emit_bytes s out))
  unfolding emit_bytes
  said-short h = rw (lt-leb (length s) (length out) h) (refl, refl)

  said-whole : length s ≤ length out → Same (accepted (length s ∷ vs)) (s ++ drop (length s) out) (also_says vs (emit_bytes s out))
  unfolding emit_bytes
  said-whole h = rw (le-leb (length s) (length out) h) (refl, refl)

-- 3. The answers

module _ (image list out : Bytes) {is : Bool} (ei : is ≡ is_image image) where
  pub no_image : not is ≡ true → Same (refused 1) out (freeze_list_of image list out)
  unfolding freeze_list_of
  no_image h = rw (← ei, not-true is h) (refl, refl)

  module _ (yes' : not is ≡ false) where
    pub image_is : is_image image ≡ true
    image_is = sym ei ∙ not-false is yes'

    pub list_refused : {n : ℕ} → CheckedAs true job_limit list (Refused n) → Same (refused n) out (freeze_list_of image list out)
    unfolding freeze_list_of
    list_refused {n} c = rw (image_is, c.0) (go n c.1)
      where
        go : (n : ℕ) → 0 < n → Same (refused n) out (answered n (jobs list) (contents_of image).real out)
        go zero h = absurd (omega arith)
        go (suc n) h = (refl, refl)

    module _ {n start : ℕ} (c : CheckedAs true job_limit list (Names n start)) where
      abbrev indexes : List Entry → Bytes
      indexes l = joined (λ name. bytes 2 (freeze_index l name)) (jobs list)

      size : (l : List Entry) → length (indexes l) ≡ 2 * n
      size l = indexes-length (freeze_index l) (jobs list) ∙ ap (λ k. 2 * k) c.1

      pub too_short : length out < 2 * n → Same (refused 19) out (freeze_list_of image list out)
      unfolding freeze_list_of
      too_short h =
          let l = (contents_of image).real in
          rw (image_is, c.0) (said-short (indexes l) out (freezes_read (jobs list) l ∷ []) (omega (arith, h, size l)))

      pub all-written : 2 * n ≤ length out → {l : List Entry} → l ≡ (contents_of image).real → {read : ℕ} {v : Bytes} → read ≡ freezes_read (jobs list) l
          → v ≡ indexes l ++ drop (2 * n) out → Same (accepted (2 * n ∷ read ∷ [])) v (freeze_list_of image list out)
      unfolding freeze_list_of
      all-written h {l} e r w =
          let s = said-whole (indexes l) out (freezes_read (jobs list) l ∷ []) (omega (arith, h, size l)) in
          rw (image_is, c.0, ← e) (
            ap₂ (λ k m. accepted (k ∷ m ∷ [])) (sym (size l)) r ∙ s.0,
            w ∙ ap (λ k. indexes l ++ drop k out) (sym (size l)) ∙ s.1,
          )

-- The image of a work array's contents: a header, the bytes that are used, and zeros.
use mathlib.Core.Path.{◌≡◌, sym, ap, ap₂, ◌∙◌}
use mathlib.Core.List.{[], ◌++◌, map, append_assoc, append-nil}
use Prim.Native.Nat.{ℕ, ◌+◌, ◌-◌, ◌≤◌}
use native.Mathlib.Omega.{arith}
use borrow.Rule.Slice.PartMut.{mid_of, post_of, put_mid, Post-is, mid_len}
use lib.ListN.{length, take, drop, length-append, take-append-drop}
use lib.Seq.{slice, length-take-le, take_at, drop_at, take-take, drop-length}
use Rattle.model.specs.Choice.{joined}
use Rattle.model.specs.Number.{Bytes, AreBytes}
use Rattle.model.specs.Record.{record_bytes}
use Rattle.model.specs.Contents.{kept, Fixed}
use Rattle.model.specs.Image.{head_size, zeros, header, entry_bytes, entry_of, image_of}
use Rattle.laws.specs.Numbers.{take_are_bytes, slice_are_bytes}
use Rattle.laws.specs.Lists.{map_same, map-map, joined-append}
use Rattle.laws_image.specs.Image.{entry_bytes_lem}
use Rattle.entries.proofs.Seeks.{entries-spelt}
use Rattle.apply_work.specs.Work.{reals_in, groups_in, Good, contents_in}
use Rattle.apply_work.specs.declared.Bounds.{Bounds}

module _ {w : Bytes} {bounds : Bounds} (are : AreBytes w) (good : Good w bounds) where
  -- the used bytes, and where they end in the image
  abbrev entries : Bytes
  entries = take bounds.used w

  abbrev end : ℕ
  end = head_size + bounds.used

  -- they are the entries'
  pub entries-used : (f : Fixed) → entry_bytes (contents_in w bounds f) ≡ entries
  entries-used f =
      let reals = reals_in w bounds in
      let groups = groups_in w bounds in
      let back : map kept (map entry_of reals) ≡ reals = map-map kept entry_of reals ∙ map_same (λ r. kept (entry_of r)) reals good.keeps in
      entry_bytes_lem (contents_in w bounds f)
      ∙ ap (λ l. joined record_bytes (l ++ groups)) back
      ∙ joined-append record_bytes reals groups
      ∙ ap₂ (λ a b. a ++ b)
      (entries-spelt (take bounds.mid w) (take_are_bytes bounds.mid w are) good.reals
      ∙ sym (take-take bounds.mid bounds.used w good.order))
      (entries-spelt (slice bounds.mid bounds.used w) (slice_are_bytes bounds.mid bounds.used w are) good.groups)
      ∙ take-append-drop bounds.mid entries

  pub used-whole : bounds.used ≡ length entries
  used-whole = sym (length-take-le bounds.used w good.fits)

  module _ (b : Bytes) (fits : end ≤ length b) where
    -- the entries are copied in, and what comes after them is cleared
    module _ (v x : Bytes) (e : v ≡ take head_size b ++ entries ++ drop (head_size + length entries) b) (same : length v ≡ length b) where
      front : take end v ≡ take head_size b ++ entries
      front =
          let long : length (take head_size b ++ entries) ≡ end =
          length-append (take head_size b) entries
          ∙ ap₂ (λ p q. p + q) (length-take-le head_size b (omega arith)) (sym used-whole) in
          ap (take end) e ∙ take_at (take head_size b ++ entries) (drop (head_size + length entries) b) end long

      module _ (cleared : x ≡ zeros (length (mid_of end (length v - end) v))) where
        after : x ++ post_of end (length v - end) v ≡ zeros (length b - end)
        after =
            let none : post_of end (length v - end) v ≡ [] = Post-is end (length v) v (omega arith) ∙ drop-length v in
            ap₂ (λ p q. p ++ q) (cleared ∙ ap zeros (mid_len end (length v) v (omega arith)) ∙ ap (λ n. zeros (n - end)) same) none
            ∙ append-nil (zeros (length b - end))

        past_header : drop head_size (put_mid end (length v - end) v x) ≡ entries ++ zeros (length b - end)
        past_header =
            ap₂ (λ p q. drop head_size (p ++ q)) front after
            ∙ ap (drop head_size) (append_assoc (take head_size b) entries (zeros (length b - end)))
            ∙ drop_at (take head_size b) (entries ++ zeros (length b - end)) head_size (length-take-le head_size b (omega arith))

        -- the header is written
        pub laid : {u : Bytes} (f : Fixed) → u ≡ header end f ++ drop head_size (put_mid end (length v - end) v x)
            → u ≡ image_of (length b) (contents_in w bounds f)
        unfolding image_of
        laid f headed =
            let far : head_size + length (entry_bytes (contents_in w bounds f)) ≡ end =
            ap (λ s. head_size + length s) (entries-used f)
            ∙ ap (λ n. head_size + n) (sym used-whole) in
            headed
            ∙ ap (λ s. header end f ++ s) past_header
            ∙ sym (append_assoc (header end f) entries (zeros (length b - end)))
            ∙ sym (ap₂ (λ n s. header n f ++ s ++ zeros (length b - n)) far (entries-used f))

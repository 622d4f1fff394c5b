-- The exact test of a buffer, exit by exit.
use mathlib.Core.Path.{◌≡◌, refl, sym, ap, ◌∙◌}
use mathlib.Core.Bool.{Bool, true, false, not, ◌&&◌}
use Prim.Native.Nat.{ℕ, ◌+◌, ◌-◌, ◌*◌, ◌≤◌}
use native.Mathlib.Omega.{arith}
use borrow.Author.Tests.{not-true}
use lib.Dec.{leb}
use lib.ListN.{length, take, drop}
use lib.Seq.{slice, length-slice}
use Rattle.model.specs.Choice.{every}
use Rattle.model.specs.Number.{Bytes, AreBytes}
use Rattle.model.specs.Key.{producer_key}
use Rattle.model.specs.Items.{records, is_whole}
use Rattle.model.specs.Map.{get}
use Rattle.model.specs.Contents.{key, record_key, fixed_room, weight, sound}
use Rattle.model.specs.Image.{is_capacity, head_size, used_in, items_in, entry_of, flag_reads, real_of, contents_of, header_ok, entries_ok, is_image}
use Rattle.laws.specs.Choice.{and_left, and_right, present, present-over}
use Rattle.laws.specs.Lists.{every_true}
use Rattle.laws.specs.Map.{get-map}
use Rattle.laws_image.specs.Entries.{entry_key}
use Rattle.laws_image.specs.Tests.{capacity-least, capacity-most, header-holds}
use Rattle.laws_image.specs.Weight.{producer_size, producers}
use Rattle.laws_image.specs.Exact.{weight_back}
use Rattle.keys.proofs.Found.{lent_slice}
use Rattle.image.specs.Test.{entries_sound, producers_in, is_light}
use Rattle.image.proofs.Steps.{producers-held, same-bound}

module _ (b : Bytes) where
  pub head-there : is_capacity (length b) ≡ true → head_size ≤ length b
  head-there h = omega (arith, capacity-least (length b) h)

  pub at_most : is_capacity (length b) ≡ true → length b ≤ 65536
  at_most h = capacity-most (length b) h

  -- the entries' part, as it is lent
  module _ (head : header_ok b ≡ true) {used : ℕ} (eu : used ≡ used_in b) where
    pub used_low : head_size ≤ used
    used_low = omega (arith, (header-holds b head).least)

    pub used_high : used ≤ length b
    used_high = omega (arith, (header-holds b head).most)

    pub lent-part : take (used - head_size) (drop head_size b) ≡ slice head_size (used_in b) b
    lent-part = lent_slice b head_size used used_low ∙ ap (λ u. slice head_size u b) eu

    pub part-short : length (take (used - head_size) (drop head_size b)) ≤ length b
    part-short = rw lent-part (omega (arith, length-slice head_size (used_in b) b (header-holds b head).most, (header-holds b head).most))

  pub no_capacity : {k : Bool} → k ≡ is_capacity (length b) → not k ≡ true → false ≡ is_image b
  unfolding is_image
  no_capacity {k} e h = rw (← e, not-true k h)

  module _ (within : is_capacity (length b) ≡ true) where
    pub no_header : {k : Bool} → k ≡ header_ok b → not k ≡ true → false ≡ is_image b
    unfolding is_image
    no_header {k} e h = rw (within, ← e, not-true k h)

    module _ (are_bytes : AreBytes b) (head : header_ok b ≡ true) where
      pub no_entries : {k : Bool} → k ≡ is_whole (items_in b) → not k ≡ true → false ≡ is_image b
      unfolding is_image entries_ok
      no_entries {k} e h = rw (within, head, ← e, not-true k h)

      module _ (whole : is_whole (items_in b) ≡ true) where
        abbrev s : Bytes
        s = slice head_size (used_in b) b

        producers-same : producers (contents_of b).real ≡ producers_in (real_of (records (items_in b)))
        unfolding contents_of
        producers-same = producers-held (real_of (records (items_in b)))

        light_same : every flag_reads (records (items_in b)) && sound (contents_of b) ≡ true → leb (weight (contents_of b)) (length b) ≡ is_light s (length b)
        unfolding is_light
        light_same h =
            let flags = every_true flag_reads (records (items_in b)) (and_left (every flag_reads (records (items_in b))) (sound (contents_of b)) h) in
            let orderly = and_right (every flag_reads (records (items_in b))) (sound (contents_of b)) h in
            let d = header-holds b head in
            let w = weight_back b are_bytes d whole flags orderly in
            let n = length-slice head_size (used_in b) b d.most in
            let low = d.least in
            let p = producers-same in
            same-bound (weight (contents_of b)) (length b) (fixed_room + length s) (length b + producer_size * producers_in (real_of (records (items_in b))))
            (λ h. omega arith) (λ h. omega arith)

        pub entries_decide : {r : Bool} → r ≡ entries_sound s && is_light s (length b) → r ≡ is_image b
        unfolding is_image entries_ok entries_sound contents_of sound
        entries_decide {r} e = e ∙ rw (within, head, whole) (go (every flag_reads (records (items_in b)) && sound (contents_of b)) refl)
          where
            go : (t : Bool) → every flag_reads (records (items_in b)) && sound (contents_of b) ≡ t → t && is_light s (length b) ≡ t && leb (weight (contents_of b)) (length b)
            go true q = sym (light_same q)
            go false q = refl

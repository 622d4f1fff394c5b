-- What is wrong with a tag, with the end and with one element more, by the table's numbers.
use mathlib.Core.Path.{◌≡◌, refl, sym, ap, ◌∙◌}
use mathlib.Core.Bool.{true, false}
use Prim.Native.Nat.{ℕ, zero, suc, ◌+◌, ◌-◌, ◌≤◌, ◌<◌}
use native.Mathlib.Omega.{arith}
use borrow.Author.Tests.{lt-ltb, le-ltb, eq-eqb, ne_eqb}
use lib.Dec.{ltb}
use lib.Seq.{slice}
use Rattle.model.specs.Choice.{unless}
use Rattle.model.specs.Shape.{repeats, any_required, may_follow, count_fault}
use Rattle.shapes.specs.Table.{row_count, size_in, prior_in, many_in, presence_of, number_at, fields_at, rows_from}
use Rattle.shapes.proofs.Columns.{base_fits, row_at_lem, row_past, prior_after, prior_between}
use Rattle.shape_faults.specs.Walk.{IsBase, presence_at, tag_fault, end_fault}

-- 1. How often

pub repeats_many : (many : ℕ) → 1 < many → repeats (presence_of many) ≡ true
unfolding presence_of
repeats_many many h = rw (ne_eqb many 0 (omega arith), ne_eqb many 1 (omega arith))

pub repeats_once : (many : ℕ) → many ≤ 1 → repeats (presence_of many) ≡ false
unfolding presence_of
repeats_once zero h = refl
repeats_once (suc zero) h = refl
repeats_once (suc (suc n)) h = absurd (omega arith)

pub count_once : (many count : ℕ) → many < 2 → 0 ≡ count_fault (presence_of many) count
unfolding presence_of
count_once zero count h = refl
count_once (suc zero) count h = refl
count_once (suc (suc n)) count h = absurd (omega arith)

module _ (many count : ℕ) (several : 2 ≤ many) where
  count-many : count_fault (presence_of many) count ≡ unless (ltb count many) 5
  unfolding presence_of
  count-many = rw (ne_eqb many 0 (omega arith), ne_eqb many 1 (omega arith))

  pub count_right : count < many → 0 ≡ count_fault (presence_of many) count
  count_right h = rw (count-many, lt-ltb _ _ h)

  pub count_wrong : many ≤ count → 5 ≡ count_fault (presence_of many) count
  count_wrong h = rw (count-many, le-ltb _ _ h)

-- 2. Tags

module _ {base : ℕ} (is : IsBase base) (last : ℕ) where
  pub end_wrong : (row prior : ℕ) → row ≡ number_at base → prior ≡ prior_in row → last < prior → 4 ≡ end_fault (rows_from base) last
  unfolding end_fault
  end_wrong row prior e f h =
      let k : last < prior_in (number_at base) = rw (← e, ← f) h in
      rw (← prior_after is.shape is.at last, lt-ltb _ _ k)

  pub end_right : (row prior : ℕ) → row ≡ number_at base → prior ≡ prior_in row → prior ≤ last → 0 ≡ end_fault (rows_from base) last
  unfolding end_fault
  end_right row prior e f h =
      let k : prior_in (number_at base) ≤ last = rw (← e, ← f) h in
      rw (← prior_after is.shape is.at last, le-ltb _ _ k)

  module _ (tag : ℕ) where
    pub tag_zero : tag ≡ 0 → 4 ≡ tag_fault (rows_from base) last tag
    unfolding tag_fault
    tag_zero e = rw e

    module _ (head count : ℕ) (eh : head ≡ number_at base) (ec : count ≡ size_in head) where
      count-fields : count ≡ fields_at base
      count-fields = ec ∙ ap size_in eh

      pub tag_past : count < tag → 4 ≡ tag_fault (rows_from base) last tag
      unfolding tag_fault
      tag_past h = rw (row_past is.shape is.at tag (omega (arith, count-fields)))

      module _ (some-tag : tag ≡ 0 → ⊥) (most : tag ≤ count) where
        pub tag_fits : base + tag < row_count
        tag_fits = omega (arith, count-fields, base_fits is.shape is.at)

        opened : tag_fault (rows_from base) last tag ≡ unless (may_follow (rows_from base) last tag (presence_at base tag)) 4
        unfolding tag_fault
        opened = rw (row_at_lem is.shape is.at tag (omega arith) (omega (arith, count-fields)))

        between : ltb last (prior_in (number_at (base + tag))) ≡ any_required (slice last (tag - 1) (rows_from base))
        between = prior_between is.shape is.at last tag (omega arith) (omega (arith, count-fields))

        module _ (row : ℕ) (er : row ≡ number_at (base + tag)) where
          pub tag_misses : (prior : ℕ) → last < tag → prior ≡ prior_in row → last < prior → 4 ≡ tag_fault (rows_from base) last tag
          unfolding may_follow
          tag_misses prior h e k =
              let l : last < prior_in (number_at (base + tag)) = rw (← er, ← e) k in
              rw (opened, lt-ltb last tag h, ← between, lt-ltb _ _ l)

          pub tag_next : (prior : ℕ) → last < tag → prior ≡ prior_in row → prior ≤ last → 0 ≡ tag_fault (rows_from base) last tag
          unfolding may_follow
          tag_next prior h e k =
              let l : prior_in (number_at (base + tag)) ≤ last = rw (← er, ← e) k in
              rw (opened, lt-ltb last tag h, ← between, le-ltb _ _ l)

          module _ (many : ℕ) (h : tag ≤ last) (same : last ≡ tag) (em : many ≡ many_in row) where
            pub tag_again : 1 < many → 0 ≡ tag_fault (rows_from base) last tag
            unfolding may_follow
            tag_again k =
                let l : 1 < many_in (number_at (base + tag)) = rw (← er, ← em) k in
                rw (opened, le-ltb last tag h, eq-eqb tag last (sym same), repeats_many _ l)

            pub tag_twice : many ≤ 1 → 4 ≡ tag_fault (rows_from base) last tag
            unfolding may_follow
            tag_twice k =
                let l : many_in (number_at (base + tag)) ≤ 1 = rw (← er, ← em) k in
                rw (opened, le-ltb last tag h, eq-eqb tag last (sym same), repeats_once _ l)

          pub tag_back : tag ≤ last → (last ≡ tag → ⊥) → 4 ≡ tag_fault (rows_from base) last tag
          unfolding may_follow
          tag_back h n = rw (opened, le-ltb last tag h, ne_eqb tag last (λ e. n (sym e)))

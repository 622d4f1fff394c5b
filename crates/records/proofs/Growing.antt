-- An output that is written one part after another: what is written, and what is to come, are all.
use mathlib.Core.Path.{◌≡◌, refl, sym, ap, ap₂, ◌∙◌}
use mathlib.Core.List.{[], ◌++◌, append_assoc, append-nil}
use Prim.Native.Nat.{ℕ, ◌+◌, ◌≤◌}
use native.Mathlib.Omega.{arith}
use lib.ListN.{length, length-append}
use Rattle.model.specs.Number.{Bytes}
use Rattle.records.specs.Answers.{put_at}
use Rattle.records.proofs.Written.{put_at_nothing, put_at-append, length-written}

pub record Growing (out w : Bytes) (at to : ℕ) (all rest : Bytes) : Type 0 where
  pub first : Bytes
  pub joins : first ++ rest ≡ all
  pub place : to ≡ at + length first
  pub output : w ≡ put_at out at first
  pub fits : at + length all ≤ length out

pub grow_start : (out : Bytes) (at : ℕ) (all : Bytes) → at + length all ≤ length out → Growing out out at at all all
grow_start out at all fits = record { first = []; joins = refl; place = omega arith; output = sym (put_at_nothing out at); fits = fits }

module _ {out w : Bytes} {at to : ℕ} {all rest : Bytes} (g : Growing out w at to all rest) where
  split : length g.first + length rest ≡ length all
  split = sym (length-append g.first rest) ∙ ap length g.joins

  pub grown_length : length w ≡ length out
  grown_length = ap length g.output ∙ length-written out at g.first (omega (arith, split, g.fits))

  pub rest_fits : to + length rest ≤ length w
  rest_fits = omega (arith, split, g.fits, g.place, grown_length)

  -- nothing is to come
  pub grown : rest ≡ [] → (to ≡ at + length all) × (w ≡ put_at out at all)
  grown e =
      let whole : g.first ≡ all = sym (append-nil g.first) ∙ ap (λ x. g.first ++ x) (sym e) ∙ g.joins in
      (g.place ∙ ap (λ x. at + length x) whole, g.output ∙ ap (put_at out at) whole)

  -- one part more
  module _ (part more : Bytes) (e : rest ≡ part ++ more) where
    pub part_fits : to + length part ≤ length w
    part_fits = omega (arith, rest_fits, ap length e ∙ length-append part more)

    pub grow : {v : Bytes} {n : ℕ} → (n ≡ to + length part) × (v ≡ put_at w to part) → Growing out v at n all more
    grow {v} {n} h = record {
      first = g.first ++ part;
      joins = append_assoc g.first part more ∙ ap (λ x. g.first ++ x) (sym e) ∙ g.joins;
      place = omega (arith, h.0, g.place, length-append g.first part);
      output =
          h.1
          ∙ ap₂ (λ x y. put_at x y part) g.output g.place
          ∙ put_at-append out at g.first (omega (arith, split, g.fits)) part;
      fits = g.fits;
    }

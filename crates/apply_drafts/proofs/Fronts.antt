-- What stands at the start of a buffer after bytes were written there, and after a field was set.
use mathlib.Core.Path.{◌≡◌, sym, ap, ◌∙◌, subst}
use mathlib.Core.List.{◌++◌}
use Prim.Native.Nat.{ℕ, ◌+◌, ◌-◌, ◌≤◌}
use native.Mathlib.Omega.{arith}
use lib.ListN.{length, take, drop, length-append}
use lib.Seq.{paste, slice, take-append_seam, take-append-add, take-take, drop_at, length-take-le}
use Rattle.model.specs.Number.{Bytes}
use Rattle.model.specs.Run.{done, bytes_of, set_field}
use Rattle.fields.proofs.Parse.{take-drop}
use Rattle.keys.specs.Keys.{run_in}
use Rattle.entries.proofs.Splices.{spliced}
use Rattle.records.specs.Answers.{put_at, head}
use Rattle.apply_drafts.specs.Drafts.{spells, Spot}

-- 1. Bytes that are written at the start

pub put_at-front : (out s : Bytes) {v : Bytes} → v ≡ put_at out 0 s → take (length s) v ≡ s
put_at-front out s e = ap (take (length s)) e ∙ take-append_seam s (drop (0 + length s) out)

-- a record with no field
pub begun : (out : Bytes) (kind : ℕ) {v : Bytes} → v ≡ put_at out 0 (head kind 0) → take 3 v ≡ spells kind done
unfolding bytes_of
begun out kind e = put_at-front out (head kind 0) e

-- a head that is written over another
head-over : (w front body : Bytes) (kind size : ℕ) {v : Bytes} → length front ≡ 3 → size ≤ length w → take size w ≡ front ++ body
    → v ≡ put_at w 0 (head kind (size - 3)) → take size v ≡ head kind (length body) ++ body
head-over w front body kind size three most e f =
    let h = head kind (length body) in
    let long : size ≡ 3 + length body =
    sym (length-take-le size w most) ∙ ap length e ∙ length-append front body ∙ ap (λ n. n + length body) three in
    let left : size - 3 ≡ length body = omega arith in
    let rest : take (length body) (drop 3 w) ≡ body =
    take-drop 3 (length body) w ∙ ap (λ n. drop 3 (take n w)) (sym long) ∙ ap (drop 3) e ∙ drop_at front body 3 three in
    ap (take size) (f ∙ ap (λ n. put_at w 0 (head kind n)) left)
    ∙ ap (λ n. take n (put_at w 0 h)) long
    ∙ take-append-add h (drop 3 w) (length body)
    ∙ ap (λ x. h ++ x) rest

-- 2. A field that is set

-- where a value goes in a record of n bytes, and that there is room for it
pub record Gap (b v : Bytes) (n tag start end : ℕ) : Type 0 where
  pub spot : Spot (take n b) tag start end
  pub fits : n + 3 + length v ≤ length b
  pub within : end ≤ n
  pub most : start + 3 + length v + (n - end) ≤ n + 3 + length v

pub gap : (b v : Bytes) (n tag start end : ℕ) {t : ℕ} → n + 3 + length v ≤ length b → t ≡ tag → Spot (take n b) t start end
    → Gap b v n tag start end
gap b v n tag start end fits e s =
    let whole : length (take n b) ≡ n = length-take-le n b (omega arith) in
    let within : end ≤ n = omega (arith, s.most) in
    record { spot = subst (λ x. Spot (take n b) x start end) e s; fits = fits; within = within; most = omega (arith, s.order) }

module _ {b v : Bytes} {n tag start end : ℕ} (g : Gap b v n tag start end) where
  abbrev fields : Bytes
  fields = bytes_of (set_field tag v (run_in (take n b)))

  abbrev size : ℕ
  size = start + 3 + length v + (n - end)

  module _ {w1 w2 : Bytes} (shifted : w1 ≡ paste b (start + 3 + length v) (drop end b) (n - end))
      (filled : w2 ≡ put_at w1 start (head tag (length v) ++ v)) where
    -- the field is laid in the gap that was made for it
    laid : take size w2 ≡ take 3 (take n b) ++ fields
    laid =
        let f = head tag (length v) ++ v in
        let to : start + 3 + length v ≡ start + length f = omega arith in
        let moved : w1 ≡ paste b (start + length f) (drop end b) (n - end) = shifted ∙ ap (λ k. paste b k (drop end b) (n - end)) to in
        ap (λ k. take (k + (n - end)) w2) to
        ∙ spliced b w1 w2 f start end (n - end) n g.spot.order (omega (arith, g.within)) (omega (arith, g.fits))
        (omega (arith, g.most, g.fits)) moved filled
        ∙ ap (λ x. x ++ f ++ slice end n b) (sym (take-take start n b (omega (arith, g.within, g.spot.order))))
        ∙ g.spot.sets v

    pub field-set : (kind : ℕ) {w3 : Bytes} → length w2 ≡ length b → w3 ≡ put_at w2 0 (head kind (size - 3))
        → take size w3 ≡ spells kind (set_field tag v (run_in (take n b)))
    field-set kind same e =
        let three : length (take 3 (take n b)) ≡ 3 = length-take-le 3 (take n b) (omega (arith, g.spot.low, g.spot.order, g.spot.most)) in
        head-over w2 (take 3 (take n b)) fields kind size three (omega (arith, g.most, g.fits)) laid e

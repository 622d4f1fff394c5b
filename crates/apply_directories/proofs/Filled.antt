-- Directories that are filled up with zeros, and one of them replaced, at the start of a buffer.
use mathlib.Core.Path.{◌≡◌, sym, ap, ◌∙◌}
use mathlib.Core.List.{◌++◌}
use Prim.Native.Nat.{ℕ, ◌+◌, ◌-◌, ◌*◌, ◌≤◌, ◌<◌}
use native.Mathlib.Omega.{arith}
use lib.ListN.{length, take, drop, length-append, length-replicate, replicate-append-replicate}
use lib.Seq.{length-take-le, take-take, take-append-add, take_at, drop_at}
use Rattle.model.specs.Number.{Bytes}
use Rattle.model.specs.Image.{zeros}
use Rattle.model.specs.Move.{filled, assigned}
use Rattle.fields.proofs.Parse.{take-drop}

length-zeros : (n : ℕ) → length (zeros n) ≡ n
length-zeros n = length-replicate n 0

-- zeros after some of them, and some of them
split_zeros : (n size : ℕ) → n ≤ size → zeros size ≡ zeros n ++ zeros (size - n)
split_zeros n size h =
    let e : n + (size - n) ≡ size = omega arith in
    sym (replicate-append-replicate n (size - n) 0 ∙ ap zeros e)

drop-zeros : (n size : ℕ) → n ≤ size → drop n (zeros size) ≡ zeros (size - n)
drop-zeros n size h = ap (drop n) (split_zeros n size h) ∙ drop_at (zeros n) (zeros (size - n)) n (length-zeros n)

take-zeros : (n size : ℕ) → n ≤ size → take n (zeros size) ≡ zeros n
take-zeros n size h = ap (take n) (split_zeros n size h) ∙ take_at (zeros n) (zeros (size - n)) n (length-zeros n)

-- old ones before zeros, cut to a length
take-filled : (old : Bytes) (size count : ℕ) → length old ≤ size → count * 16 ≤ size
    → take (length old + (count * 16 - length old)) (old ++ drop (0 + length old) (zeros size)) ≡ filled count old
take-filled old size count few most =
    let more = count * 16 - length old in
    let n : 0 + length old ≡ length old = omega arith in
    ap (λ k. take (length old + more) (old ++ drop k (zeros size))) n
    ∙ ap (λ l. take (length old + more) (old ++ l)) (drop-zeros (length old) size few)
    ∙ take-append-add old (zeros (size - length old)) more
    ∙ ap (λ l. old ++ l) (take-zeros more (size - length old) (omega arith))

-- a part that is written over, cut to a length
take-written : (v id : Bytes) (at len : ℕ) → at + length id ≤ len → len ≤ length v
    → take len (take at v ++ id ++ drop (at + length id) v) ≡ take at (take len v) ++ id ++ drop (at + length id) (take len v)
take-written v id at len low most =
    let front = take at v ++ id in
    let after = at + length id in
    let k = len - after in
    let long : length front ≡ after = length-append (take at v) id ∙ ap (λ n. n + length id) (length-take-le at v (omega arith)) in
    let cut : len ≡ length front + k = omega arith in
    let whole : after + k ≡ len = omega arith in
    ap (λ n. take n (front ++ drop after v)) cut
    ∙ take-append-add front (drop after v) k
    ∙ ap (λ l. front ++ l) (take-drop after k v ∙ ap (λ n. drop after (take n v)) whole)
    ∙ ap (λ l. l ++ id ++ drop after (take len v)) (sym (take-take at len v (omega arith)))

pub dirs_filled : (dirs old id : Bytes) (count slot n : ℕ) {z v w : Bytes}
    → (length old ≤ length dirs) × (count * 16 ≤ length dirs) × (slot < count) × (length id ≡ 16) → z ≡ zeros (length dirs)
    → v ≡ take 0 z ++ old ++ drop (0 + length old) z → w ≡ take (slot * 16) v ++ id ++ drop (slot * 16 + length id) v
    → n ≡ length old + (count * 16 - length old)
    → (take n w ≡ assigned slot id (filled count old)) × (n ≡ length old + (count * 16 - length old))
dirs_filled dirs old id count slot n {z} {v} {w} h ez ev ew en =
    let all = zeros (length dirs) in
    let u = old ++ drop (0 + length old) all in
    let vs : v ≡ u = ev ∙ ap (λ x. take 0 x ++ old ++ drop (0 + length old) x) ez in
    let long : length u ≡ length dirs =
    length-append old (drop (0 + length old) all)
    ∙ ap (λ l. length old + length l) (ap (λ k. drop k all) zero-first ∙ drop-zeros (length old) (length dirs) h.0)
    ∙ ap (λ k. length old + k) (length-zeros (length dirs - length old))
    ∙ back in
    let shows : take n u ≡ filled count old = ap (λ k. take k u) en ∙ take-filled old (length dirs) count h.0 h.1 in (
      ap (take n) (ew ∙ ap (λ x. take (slot * 16) x ++ id ++ drop (slot * 16 + length id) x) vs)
          ∙ take-written u id (slot * 16) n (omega (arith, h.2, h.3)) (omega (arith, h.0, h.1))
          ∙ ap (λ x. take (slot * 16) x ++ id ++ drop (slot * 16 + length id) x) shows
          ∙ ap (λ k. take (slot * 16) (filled count old) ++ id ++ drop (slot * 16 + k) (filled count old)) h.3,
      en,
    )
  where
    zero-first : 0 + length old ≡ length old
    zero-first = omega arith

    back : length old + (length dirs - length old) ≡ length dirs
    back = omega (arith, h.0)

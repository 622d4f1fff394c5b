-- The parts of a message, from where a record's fields stand.
use mathlib.Core.Path.{◌≡◌, refl, ap, ◌∙◌, subst}
use mathlib.Core.Bool.{Bool, true, false}
use mathlib.Core.List.{◌++◌}
use Prim.Native.Nat.{ℕ, suc, ◌+◌, ◌-◌, ◌≤◌, ◌<◌}
use native.Mathlib.Omega.{arith}
use native.Mathlib.Nat.{zero-add}
use lib.Dec.{ltb}
use lib.ListN.{length, take, drop}
use lib.Seq.{slice, take-append_seam}
use borrow.Author.Tests.{ltb-true, ltb-false, lt-ltb, le-ltb}
use Rattle.model.specs.Number.{Bytes, number, bytes, half}
use Rattle.model.specs.Run.{value}
use Rattle.model.specs.Reply.{Reply, refused, emit_bytes}
use Rattle.model.specs.Kafka.{varint}
use Rattle.varints.proofs.Shortest.{one_long, two_long}
use Rattle.keys.specs.Keys.{run_in}
use Rattle.keys.proofs.Found.{lent_slice, part_length}
use Rattle.kafka_write.specs.Messages.{EndsAs, message_bytes, named_bytes, broker_ends}

-- a field's value stands between two places
abbrev pub Stands : Bytes → ℕ → ℕ → ℕ → Type 0
Stands s tag a e = (slice a e s ≡ value tag (run_in s)) × (a ≤ e) × (e ≤ length s)

part_is : (s : Bytes) (tag a e : ℕ) → Stands s tag a e → take (e - a) (drop a s) ≡ value tag (run_in s)
part_is s tag a e p = lent_slice s a e p.1 ∙ p.0

pub part_fits : (s : Bytes) (tag a e : ℕ) → Stands s tag a e → (n : ℕ) → length (value tag (run_in s)) ≤ n → length (take (e - a) (drop a s)) ≤ n
part_fits s tag a e p n h = omega (arith, ap length (part_is s tag a e p))

-- 1. A name's length and one, as a varint

-- two bytes are room for it
pub varint-room : {n : ℕ} → n < 16384 → (n < 16384) × (0 + length (varint n) ≤ 2)
varint-room {n} h = (h, go (ltb n 128) refl)
  where
    go : (b : Bool) → ltb n 128 ≡ b → 0 + length (varint n) ≤ 2
    go true q = omega (arith, one_long n (ltb-true n 128 q))
    go false q = omega (arith, two_long n (ltb-false n 128 q) h)

-- the front of an array that was written
front : (x zeros : Bytes) {w : Bytes} {n : ℕ} → n ≡ 0 + length x → w ≡ take 0 zeros ++ x ++ drop (0 + length x) zeros → take n w ≡ x
front x zeros {w} {n} e q =
    ap (λ k. take k w) (e ∙ zero-add (length x)) ∙ ap (take (length x)) q ∙ take-append_seam x (drop (0 + length x) zeros)

module _ (s : Bytes) (a e : ℕ) (p : Stands s 1 a e) where
  one_more : e - a + 1 ≡ suc (length (value 1 (run_in s)))
  one_more = omega (arith, part_length s a e (value 1 (run_in s)) p.1 p.2 p.0)

  module _ (zeros : Bytes) {w : Bytes} {n : ℕ}
      (h : (n ≡ 0 + length (varint (e - a + 1))) × (w ≡ take 0 zeros ++ varint (e - a + 1) ++ drop (0 + length (varint (e - a + 1))) zeros)) where
    size_is : take n w ≡ varint (e - a + 1)
    size_is = front (varint (e - a + 1)) zeros h.0 h.1

    -- 2. A name, and bytes as they stand

    pub named_sent : (key : ℕ) (out : Bytes) (f t : ℕ) → Stands s 2 f t → {r : Reply} {v : Bytes}
        → EndsAs r v (emit_bytes (message_bytes key (take n w) (take (e - a) (drop a s)) (take (t - f) (drop f s))) out)
        → EndsAs r v (emit_bytes (named_bytes key (run_in s)) out)
    named_sent key out f t q {r} {v} d =
        let size : take n w ≡ varint (suc (length (value 1 (run_in s)))) = size_is ∙ ap varint one_more in
        let all : message_bytes key (take n w) (take (e - a) (drop a s)) (take (t - f) (drop f s)) ≡ named_bytes key (run_in s) =
        rw (size, part_is s 1 a e p, part_is s 2 f t q) in
        subst (λ x. EndsAs r v (emit_bytes x out)) all d

-- 3. A broker's id, and bytes as they stand

module _ (s out : Bytes) (key : ℕ) {id : ℕ} (e : id ≡ number (value 1 (run_in s))) where
  pub broker_large : 2147483648 ≤ id → EndsAs (refused 27) out (broker_ends key (run_in s) out)
  broker_large h = rw (le-ltb (number (value 1 (run_in s))) (half 4) (omega (arith, e))) (refl, refl)

  pub broker_sent : id < 2147483648 → {w : Bytes} → w ≡ bytes 4 id → (a b f t : ℕ) → Stands s 2 a b → Stands s 3 f t → {r : Reply} {v : Bytes}
      → EndsAs r v (emit_bytes (message_bytes key w (take (b - a) (drop a s)) (take (t - f) (drop f s))) out) → EndsAs r v (broker_ends key (run_in s) out)
  broker_sent h {w} q a b f t p o {r} {v} d =
      let all : message_bytes key w (take (b - a) (drop a s)) (take (t - f) (drop f s))
      ≡ message_bytes key (bytes 4 (number (value 1 (run_in s)))) (value 2 (run_in s)) (value 3 (run_in s)) =
      rw (q, e, part_is s 2 a b p, part_is s 3 f t o) in
      rw (lt-ltb (number (value 1 (run_in s))) (half 4) (omega (arith, e))) (subst (λ x. EndsAs r v (emit_bytes x out)) all d)

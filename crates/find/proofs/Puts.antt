-- Writing an entry's record: its head and the part before the flag, or all of it.
use mathlib.Core.Path.{◌≡◌, refl, sym, ap, ap₂, ◌∙◌}
use mathlib.Core.Bool.{Bool, true, false, cond}
use mathlib.Core.List.{[], ◌∷◌, ◌++◌}
use Prim.Native.Nat.{ℕ, ◌+◌, ◌-◌, ◌≤◌, ◌<◌}
use native.Mathlib.Omega.{arith}
use borrow.Author.Tests.{eq-eqb, ne_eqb, eqb-true, le-leb, lt-leb}
use lib.Dec.{eqb}
use lib.ListN.{length, take, drop, get_or, length-append}
use lib.Seq.{slice, length-slice}
use Rattle.model.specs.Number.{Bytes}
use Rattle.model.specs.Reply.{accepted, refused, emit_bytes}
use Rattle.keys.proofs.Found.{lent_slice}
use Rattle.records.specs.Answers.{head, put_at}
use Rattle.records.proofs.Written.{put_at-append}
use Rattle.find.specs.Returned.{flag_size, Entire, returned_size, returned_bytes}

module _ (e : Bytes) (h : get_or e 0 0 ≡ 1) where
  pub size_topic : length e - flag_size ≡ returned_size e
  size_topic = rw (eq-eqb (get_or e 0 0) 1 h)

  bytes_topic : returned_bytes e ≡ head 1 (length e - flag_size - 3) ++ slice 3 (length e - flag_size) e
  unfolding returned_bytes
  bytes_topic = rw (eq-eqb (get_or e 0 0) 1 h)

  -- the head, then what stands before the flag
  pub topic_put : (out o1 o2 : Bytes) (at : ℕ) → Entire e → at + returned_size e ≤ length out → o1 ≡ put_at out at (head 1 (length e - flag_size - 3))
      → o2 ≡ put_at o1 (at + 3) (take (length e - flag_size - 3) (drop 3 e)) → o2 ≡ put_at out at (returned_bytes e)
  topic_put out o1 o2 at entire fits e1 e2 =
      let hd = head 1 (length e - flag_size - 3) in
      let room = entire.flagged h in
      let size = size_topic in
      e2 ∙ ap₂ (λ x y. put_at x (at + 3) y) e1 (lent_slice e 3 (length e - flag_size) (omega arith))
      ∙ put_at-append out at hd (omega arith) (slice 3 (length e - flag_size) e) ∙ ap (put_at out at) (sym bytes_topic)

module _ (e : Bytes) (h : get_or e 0 0 ≡ 1 → ⊥) where
  pub size_other : length e ≡ returned_size e
  size_other = rw (ne_eqb (get_or e 0 0) 1 h)

  pub other_put : (out o : Bytes) (at : ℕ) → o ≡ put_at out at e → o ≡ put_at out at (returned_bytes e)
  unfolding returned_bytes
  other_put out o at q = rw (ne_eqb (get_or e 0 0) 1 h) q

-- as long as it says
pub length-returned : (e : Bytes) → Entire e → length (returned_bytes e) ≡ returned_size e
unfolding returned_bytes
length-returned e entire = go (eqb (get_or e 0 0) 1) refl
  where
    go : (b : Bool) → eqb (get_or e 0 0) 1 ≡ b
        → length (cond b (head 1 (length e - flag_size - 3) ++ slice 3 (length e - flag_size) e) e) ≡ cond b (length e - flag_size) (length e)
    go true q =
        let room = entire.flagged (eqb-true (get_or e 0 0) 1 q) in
        length-append (head 1 (length e - flag_size - 3)) (slice 3 (length e - flag_size) e)
        ∙ ap (λ n. 3 + n) (length-slice 3 (length e - flag_size) e (omega arith)) ∙ omega arith
    go false q = refl

-- into an output
module _ (e out : Bytes) (entire : Entire e) {n : ℕ} (en : n ≡ returned_size e) where
  pub emit-short : length out < n → (refused 19 ≡ (emit_bytes (returned_bytes e) out).reply) × (out ≡ (emit_bytes (returned_bytes e) out).buffer)
  unfolding emit_bytes
  emit-short h = rw (length-returned e entire, ← en, lt-leb n (length out) h) (refl, refl)

  pub emit-room : n ≤ length out → {o : Bytes} → o ≡ put_at out 0 (returned_bytes e)
      → (accepted (n ∷ []) ≡ (emit_bytes (returned_bytes e) out).reply) × (o ≡ (emit_bytes (returned_bytes e) out).buffer)
  unfolding emit_bytes
  emit-room h {o} q =
      let l = length-returned e entire in
      let k : length (returned_bytes e) ≡ n = l ∙ sym en in
      let z : 0 + length (returned_bytes e) ≡ n = omega (arith, k) in
      rw (k, le-leb n (length out) h) (refl, q ∙ ap (λ m. returned_bytes e ++ drop m out) z)

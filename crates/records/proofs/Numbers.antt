-- A record whose one field is a number: written, how long it is, and that the log offset's is one.
use mathlib.Core.Path.{◌≡◌, refl, sym, ap, ◌∙◌}
use mathlib.Core.List.{◌++◌, append_assoc}
use Prim.Native.Nat.{ℕ, ◌+◌, ◌≤◌}
use native.Mathlib.Omega.{arith}
use lib.ListN.{length, take, drop}
use Rattle.model.specs.Number.{Bytes, bytes}
use Rattle.model.specs.Run.{bytes_of}
use Rattle.model.specs.Kind.{kind_number}
use Rattle.model.specs.Record.{record_bytes}
use Rattle.model.specs.Snapshot.{offset_rec}
use Rattle.laws.specs.Numbers.{length-bytes}
use Rattle.records.specs.Answers.{put_at, head, number_bytes}
use Rattle.records.proofs.Written.{put_at-append}

pub number-written : (out : Bytes) (at kind width n : ℕ) → at + 6 + width ≤ length out → {a b c : Bytes} → a ≡ put_at out at (head kind (3 + width))
    → b ≡ put_at a (at + 3) (head 1 width) → c ≡ take (at + 6) b ++ bytes width n ++ drop (at + 6 + width) b → c ≡ put_at out at (number_bytes kind width n)
number-written out at kind width n fits {a} {b} {c} ea eb ec =
    let first : b ≡ put_at out at (head kind (3 + width) ++ head 1 width) =
    eb ∙ rw ea (put_at-append out at (head kind (3 + width)) (omega arith) (head 1 width)) in
    let six : at + 6 ≡ at + length (head kind (3 + width) ++ head 1 width) = omega arith in
    ec
    ∙ ap (λ k. take (at + 6) b ++ bytes width n ++ drop (at + 6 + k) b) (sym (length-bytes width n))
    ∙ ap (λ x. put_at x (at + 6) (bytes width n)) first
    ∙ ap (λ x. put_at (put_at out at (head kind (3 + width) ++ head 1 width)) x (bytes width n)) six
    ∙ put_at-append out at (head kind (3 + width) ++ head 1 width) (omega arith) (bytes width n)
    ∙ ap (put_at out at) (append_assoc (head kind (3 + width)) (head 1 width) (bytes width n))

pub length-number : (kind width n : ℕ) → length (number_bytes kind width n) ≡ 6 + width
length-number kind width n = omega (arith, length-bytes width n)

pub offset-number : (n : ℕ) → record_bytes (offset_rec n) ≡ number_bytes 26 8 n
unfolding record_bytes bytes_of kind_number
offset-number n = refl

-- The contract says the whole answer: two answers that say what stands at one place are the same.
use mathlib.Core.Path.{◌≡◌, refl, sym, ap, ◌∙◌}
use Prim.Native.Nat.{ℕ, ◌+◌}
use native.Mathlib.Omega.{arith}
use lib.ListN.{length}
use lib.Seq.{slice, length-slice}
use Rattle.model.specs.Number.{Bytes}
use Rattle.laws.specs.Choice.{impossible}
use Rattle.reader.specs.Says.{told, Placed, Lies, Says}
use Rattle.reader.specs.declared.Next.{Next}
use Rattle.reader.specs.declared.Next.TheVariants.{Field, Torn, End}

value-length : (s : Bytes) {at tag start len next : ℕ} → Lies s at tag start len next → length (slice start (start + len) s) ≡ len
value-length s {at} {tag} {start} {len} l = length-slice start (start + len) s (omega arith) ∙ omega arith

same : (s : Bytes) (at : ℕ) (r q : Next) → told s r ≡ told s q → Placed s at r → Placed s at q → r ≡ q
unfolding told Placed
same s at (Field tag start len next) (Field tag' start' len' next') e p q =
    let v : slice start (start + len) s ≡ slice start' (start' + len') s = cc in
    let l : len ≡ len' = sym (value-length s p) ∙ ap length v ∙ value-length s q in
    let t : tag ≡ tag' = cc in
    let b : start ≡ start' = omega arith in
    let n : next ≡ next' = omega arith in
    cc
same s at (Field tag start len next) Torn e p q = impossible cc
same s at (Field tag start len next) End e p q = impossible cc
same s at Torn (Field tag start len next) e p q = impossible cc
same s at Torn Torn e p q = refl
same s at Torn End e p q = impossible cc
same s at End (Field tag start len next) e p q = impossible cc
same s at End Torn e p q = impossible cc
same s at End End e p q = refl

pub only_answer : (s : Bytes) (at : ℕ) (r q : Next) → Says s at r → Says s at q → r ≡ q
only_answer s at r q a b = same s at r q (a.0 ∙ sym b.0) a.1 b.1

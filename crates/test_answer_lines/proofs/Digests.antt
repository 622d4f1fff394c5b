-- The digest byte by byte: what is taken so far, followed by the bytes still to come, gives the whole's.
use Prim.Native.Nat.{ℕ, ◌+◌, ◌*◌, ◌%◌, ◌≤◌, ◌<◌}
use mathlib.Core.Path.{◌≡◌}
use mathlib.Core.List.{List}
use native.Mathlib.Numerals.{add-one}
use lib.ListN.{length, drop, get_or, drop_of_length-le}
use lib.Seq.{drop-cons}
use Rattle.test_answer_lines.specs.Digest.{digest_from}

-- a turn, and the end
pub digest_step : (s : List ℕ) (i n x all : ℕ) → i < length s → x ≡ get_or s i 0 → digest_from n (drop i s) ≡ all
    → digest_from ((n * 257 + x) % 4294967291) (drop (i + 1) s) ≡ all
unfolding digest_from
digest_step s i n x all h e w = rw (e, add-one) (rw (drop-cons s i 0 h) at w)

pub digest_end : (s : List ℕ) (i n all : ℕ) → length s ≤ i → digest_from n (drop i s) ≡ all → n ≡ all
unfolding digest_from
digest_end s i n all h w = rw (drop_of_length-le s h) at w

-- The digest of a buffer: its bytes as the digits of one number to the base 257, modulo the greatest prime below 2^32.
use Rattle.std.specs.Prelude.{ℕ, ◌+◌, ◌*◌, ◌%◌, List, [], ◌∷◌}

-- the digest of more bytes behind those that give `n`
unfoldable pub digest_from : ℕ → List ℕ → ℕ
digest_from n [] = n
digest_from n (b ∷ bs) = digest_from ((n * 257 + b) % 4294967291) bs

abbrev pub digest_of : List ℕ → ℕ
digest_of bytes = digest_from 0 bytes

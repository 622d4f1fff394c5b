-- The header: its length, and where its numbers stand.
use Rattle.std.specs.Prelude.{◌≡◌, ◌++◌, ℕ, ◌<◌, length}
use Rattle.std.proofs.Math.Path.{refl}
use Rattle.std.proofs.Common.{lit<}
use Rattle.model.specs.Number.{Bytes, AreBytes, bytes, span}
use Rattle.model.specs.Contents.{Fixed}
use Rattle.model.specs.Image.{mark, head_size, zeros, header, used_in, fixed_in}
use Rattle.laws.specs.Numbers.{number_bytes_lem, bytes_are_bytes, replicate_are_bytes, append_are_bytes}

mark-bytes : AreBytes mark
unfolding mark
mark-bytes = (lit< tt, (lit< tt, (lit< tt, (lit< tt, (lit< tt, (lit< tt, (lit< tt, (lit< tt, tt))))))))

pub zero-bytes : (n : ℕ) → AreBytes (zeros n)
zero-bytes n = replicate_are_bytes n 0 (lit< tt)

module _ (used : ℕ) (f : Fixed) where
  pub length-header : length (header used f) ≡ head_size
  unfolding header mark
  length-header = refl

  pub header-bytes : AreBytes (header used f)
  unfolding header
  header-bytes =
      let length-bytes = bytes 4 used in
      let epoch-bytes = bytes 8 f.epoch in
      let kraft-bytes = bytes 2 f.kraft in
      let front = append_are_bytes mark length-bytes mark-bytes (bytes_are_bytes 4 used) in
      let gap = append_are_bytes (mark ++ length-bytes) (zeros 4) front (zero-bytes 4) in
      let epoch = append_are_bytes (mark ++ length-bytes ++ zeros 4) epoch-bytes gap (bytes_are_bytes 8 f.epoch) in
      let kraft = append_are_bytes (mark ++ length-bytes ++ zeros 4 ++ epoch-bytes) kraft-bytes epoch (bytes_are_bytes 2 f.kraft) in
      let clear = append_are_bytes (mark ++ length-bytes ++ zeros 4 ++ epoch-bytes ++ kraft-bytes) (zeros 30) kraft (zero-bytes 30) in
      append_are_bytes (mark ++ length-bytes ++ zeros 4 ++ epoch-bytes ++ kraft-bytes ++ zeros 30) (bytes 8 f.offset) clear (bytes_are_bytes 8 f.offset)

  module _ (rest : Bytes) where
    pub used-header : used < span 4 → used_in (header used f ++ rest) ≡ used
    unfolding header mark
    used-header h = number_bytes_lem 4 used h

    pub fixed_header : f.epoch < span 8 → f.kraft < span 2 → f.offset < span 8 → fixed_in (header used f ++ rest) ≡ f
    unfolding header mark
    fixed_header h k o = λ i. record { epoch = number_bytes_lem 8 f.epoch h i; kraft = number_bytes_lem 2 f.kraft k i; offset = number_bytes_lem 8 f.offset o i }

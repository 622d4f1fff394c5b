-- Parts of a slice: what is lent as `&s[from..to]`, and some bytes from a place on.
use mathlib.Core.Path.{◌≡◌}
use Prim.Native.Nat.{ℕ, ◌+◌, ◌-◌, ◌≤◌}
use native.Mathlib.Omega.{arith}
use lib.ListN.{length, take, drop}
use lib.Seq.{slice, take-length}
use Rattle.model.specs.Number.{Bytes}
use Rattle.fields.proofs.Parse.{take-slice}

pub take-drop : (s : Bytes) (from n : ℕ) → from + n ≤ length s → take n (drop from s) ≡ slice from (from + n) s
take-drop s from n h =
    let p : take n (drop from (take (length s) s)) ≡ slice from (from + n) s = take-slice s from n (length s) h in
    rw take-length at p

pub part_slice : (s : Bytes) (from to : ℕ) → from ≤ to → to ≤ length s → take (to - from) (drop from s) ≡ slice from to s
part_slice s from to h k =
    let e : from + (to - from) ≡ to = omega arith in
    rw e at (take-drop s from (to - from) (omega arith))

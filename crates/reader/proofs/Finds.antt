-- What a caller of `find` learns: the value of the tag's first field stands at the place, within the bytes.
use mathlib.Core.Path.{◌≡◌, ap, subst}
use Prim.Native.Nat.{ℕ}
use native.Mathlib.Omega.{arith}
use lib.ListN.{length, drop}
use lib.Seq.{slice, take-length}
use Rattle.model.specs.Number.{Bytes}
use Rattle.model.specs.Run.{run_of, field}
use Rattle.fields.specs.Fields.{place_of, held, Within}
use Rattle.fields.specs.declared.Found.{Found}
use Rattle.fields.proofs.Places.{place-held}

pub found-held : (s : Bytes) (at tag : ℕ) {r : Found} → r ≡ place_of tag at (run_of (drop at s))
    → (held s r ≡ field tag (run_of (drop at s))) × Within (length s) r
found-held s at tag {r} e =
    let whole : slice at (length s) s ≡ drop at s = ap (drop at) (take-length s) in
    rw e (rw whole at (place-held s tag (length s) (omega arith) at))

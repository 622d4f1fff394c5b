-- `entries::splice` meets its contract: bytes are moved, and then the record is laid in the gap.
use Prim.Native.Nat.{◌-◌}
use mathlib.Core.Path.{refl}
use native.Mathlib.Omega.{arith}
use Rattle.entries.proofs.Splices.{spliced}
use Rattle.entries.proofs.splice.Goals as goal

pub returns : goal.returns
returns c =
    let a = c.args in
    let m = c.shift in
    let l = c.copy in (
      refl,
      spliced a.w.now m.new.w l.new.dst a.rec.now a.at a.end (a.used - a.end) a.used (omega arith) (omega arith)
          (omega arith) (omega arith) m.ensures l.ensures,
    )

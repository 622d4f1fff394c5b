-- `find::probe` meets its contract: a head and two fields, one after another.
use Prim.Native.Nat.{◌+◌, ◌-◌}
use mathlib.Core.Path.{◌≡◌, refl, ap, ◌∙◌}
use native.Mathlib.Omega.{arith}
use lib.ListN.{length, take}
use Rattle.find.specs.Probe.{probe_size}
use Rattle.find.proofs.Probes.{probe_written}
use Rattle.find.proofs.query.probe.Goals as goal

pub returns : goal.returns
returns c =
    let a = c.args in
    let h = c.put_head in
    let f = c.put_field in
    let g = c.put_field-2 in
    let n : 6 + length a.first.now + 3 + length a.second.now ≡ probe_size a.first.now a.second.now = omega arith in
    let l : 6 + length a.first.now + 3 + length a.second.now - 3 ≡ 6 + length a.first.now + length a.second.now = omega arith in (
      n,
      ap (λ x. take x g.new.out) n
          ∙ probe_written a.p.now h.new.out f.new.out g.new.out a.first.now a.second.now a.kind c.requires l refl h.ensures f.ensures g.ensures,
    )

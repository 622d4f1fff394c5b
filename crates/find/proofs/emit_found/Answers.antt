-- `find::emit_found` meets its contract.
use native.Mathlib.Omega.{arith}
use mathlib.Core.Path.{ap, ◌∙◌}
use Rattle.model.specs.Snapshot.{emit}
use Rattle.keys.proofs.Keys.{known_bytes}
use Rattle.find.proofs.Finds.{found-holds, found_record}
use Rattle.find.proofs.emit_found.Goals as goal

pub emit_place-requires : goal.emit_place-requires
emit_place-requires c =
    let s = c.args.s.now in
    let are_bytes = known_bytes s (λ i. omega (arith, c.type_inv.s i)) in
    found-holds s _ _ _ c.find-p.ensures are_bytes c.requires.0 c.requires.1

pub returns : goal.returns
returns c =
    let s = c.args.s.now in
    let are_bytes = known_bytes s (λ i. omega (arith, c.type_inv.s i)) in
    let e = c.emit_place.ensures in
    let same = found_record s _ _ _ c.find-p.ensures are_bytes c.requires.0 in
    let out = c.args.out.now in
    record { result_value = e.result_value ∙ ap (λ x. (emit x out).reply) same; out_after = e.out_after ∙ ap (λ x. (emit x out).buffer) same }

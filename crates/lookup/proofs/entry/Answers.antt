-- `lookup::entry` meets its contract: the entry among the real ones.
use mathlib.Core.Path.{ap, ◌∙◌}
use Rattle.model.specs.Snapshot.{emit}
use Rattle.find.proofs.Lent.{lent-entries, lent-kept}
use Rattle.lookup.proofs.Answers.{lent_found}
use Rattle.lookup.proofs.entry.Goals as goal

pub emit_found-requires : goal.emit_found-requires
emit_found-requires c =
    let r = c.reals_end-end.ensures in
    (lent-entries _ r, lent-kept _ r, c.requires.1)

pub returns : goal.returns
returns c =
    let e = c.emit_found.ensures in
    let same = lent_found _ c.reals_end-end.ensures _ in
    record { result_value = e.result_value ∙ ap (λ x. (emit x c.args.out.now).reply) same; out_after = e.out_after ∙ ap (λ x. (emit x c.args.out.now).buffer) same }

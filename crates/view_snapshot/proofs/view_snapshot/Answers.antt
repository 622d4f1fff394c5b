-- `view_snapshot::view_snapshot` meets its contract.
use mathlib.Core.Path.{sym, ◌∙◌}
use Rattle.laws_view.specs.Passed.{viewer_image, viewer_prefixes}
use Rattle.view_snapshot.proofs.Emits.{viewer_refused, said}
use Rattle.view_snapshot.proofs.view_snapshot.Goals as goal

pub returns-then-f-ne0 : goal.returns-then-f-ne0
returns-then-f-ne0 c =
    let the_whole = viewer_refused _ _ c.args.out.now c.viewer_fault-f.ensures c.if-f-ne0.true in record { result_value = the_whole.0; out_after = the_whole.1 }

pub emit_seen-requires : goal.emit_seen-requires
emit_seen-requires c =
    let passed = sym c.viewer_fault-f.ensures ∙ c.if-f-ne0.false in
    (viewer_image _ _ passed, viewer_prefixes _ _ passed)

pub returns : goal.returns
returns c =
    let the_whole = said _ _ c.args.out.now c.viewer_fault-f.ensures c.if-f-ne0.false (c.emit_seen.ensures.result_value, c.emit_seen.ensures.out_after) in record { result_value = the_whole.0; out_after = the_whole.1 }

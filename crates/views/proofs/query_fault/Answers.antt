-- `views::query_fault` meets its contract, exit by exit.
use mathlib.Core.Path.{sym, ◌∙◌}
use Rattle.laws_view.specs.Passed.{viewer_prefixes}
use Rattle.views.proofs.Queries.{query_unseen, query_wrong, query_hidden, query_passes}
use Rattle.views.proofs.query_fault.Goals as goal

pub returns-then-viewer-ne0 : goal.returns-then-viewer-ne0
returns-then-viewer-ne0 c = query_unseen _ _ _ c.viewer_fault-viewer.ensures c.if-viewer-ne0.true

pub returns-then-f-ne0 : goal.returns-then-f-ne0
returns-then-f-ne0 c =
    query_wrong _ _ _ c.viewer_fault-viewer.ensures c.if-viewer-ne0.false c.text_fault-f.ensures c.if-f-ne0.true

pub is_visible-requires : goal.is_visible-requires
is_visible-requires c =
    viewer_prefixes _ _ (sym c.viewer_fault-viewer.ensures ∙ c.if-viewer-ne0.false)

pub returns-then-not-is_visible : goal.returns-then-not-is_visible
returns-then-not-is_visible c =
    query_hidden _ _ _ c.viewer_fault-viewer.ensures c.if-viewer-ne0.false c.text_fault-f.ensures c.if-f-ne0.false c.is_visible.ensures c.if-not-is_visible.true-raw

pub returns : goal.returns
returns c =
    query_passes _ _ _ c.viewer_fault-viewer.ensures c.if-viewer-ne0.false c.text_fault-f.ensures c.if-f-ne0.false c.is_visible.ensures c.if-not-is_visible.false-raw

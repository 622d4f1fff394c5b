-- `views::viewer_fault` meets its contract, exit by exit.
use mathlib.Core.Path.{subst}
use mathlib.Core.Bool.{false}
use Rattle.names.specs.Lists.{CheckedAs}
use Rattle.views.proofs.Queries.{viewer_none, viewer_checked}
use Rattle.views.proofs.viewer_fault.Goals as goal

pub returns-then-not-is_image : goal.returns-then-not-is_image
returns-then-not-is_image c = viewer_none _ _ c.is_image.ensures c.if-not-is_image.true-raw

pub returns-in-Refused : goal.returns-in-Refused
returns-in-Refused c =
    let checked = subst (CheckedAs false 8 _) c.in-Refused.is c.check.ensures in
    viewer_checked _ _ c.is_image.ensures c.if-not-is_image.false-raw checked.0

pub returns-in-Names : goal.returns-in-Names
returns-in-Names c =
    let checked = subst (CheckedAs false 8 _) c.in-Names.is c.check.ensures in
    viewer_checked _ _ c.is_image.ensures c.if-not-is_image.false-raw checked.0

-- `shape_faults::text_fault` meets its contract, test by test.
use Rattle.shape_faults.proofs.Leaves.{no_text, text_long}
use Rattle.shape_faults.proofs.text_fault.Goals as goal

pub returns-then-not-is_text : goal.returns-then-not-is_text
returns-then-not-is_text c = no_text _ _ _ c.is_text.ensures c.if-not-is_text.true-raw

pub returns : goal.returns
returns c = text_long _ _ _ c.is_text.ensures c.if-not-is_text.false-raw c.limit_fault.ensures

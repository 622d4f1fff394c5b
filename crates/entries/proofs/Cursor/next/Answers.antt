-- `Cursor::next` meets its contract, test by test.
use Rattle.entries.proofs.Steps.{step_end, step_cut, step_past, step_entry}
use Rattle.entries.proofs.Cursor.next.Goals as goal

pub returns-then-s-at : goal.returns-then-s-at
returns-then-s-at c = step_end _ _ c.if-s-at.true

pub returns-then-left-lt3 : goal.returns-then-left-lt3
returns-then-left-lt3 c = step_cut _ _ c.if-s-at.false c.if-left-lt3.true

pub returns-then-left-len : goal.returns-then-left-len
returns-then-left-len c = step_past _ _ c.if-s-at.false c.if-left-lt3.false _ c.get16-len.ensures.0 c.if-left-len.true

pub returns : goal.returns
returns c = step_entry _ _ c.if-s-at.false c.if-left-lt3.false _ c.get16-len.ensures.0 c.if-left-len.false

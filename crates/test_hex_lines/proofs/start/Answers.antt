-- `test_hex_lines::start` has no byte to take.
use Rattle.test_hex_lines.proofs.start.Goals as goal

pub returns : goal.returns
returns c = c.unread.ensures

-- `records::read` meets its contract: what is read by itself has no repeat.
use Rattle.model.specs.Record.{read_of}
use Rattle.records.proofs.Replies.{accepted_apart}
use Rattle.records.proofs.read.Goals as goal

pub returns : goal.returns
unfolding read_of
returns c =
    record { result_value = c.read_from.ensures; s_value = accepted_apart _ c.read_from.ensures }

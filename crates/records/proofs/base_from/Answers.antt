-- `records::base_from` meets its contract, source by source.
use Rattle.records.proofs.base_from.Goals as goal

pub returns-in-Logged : goal.returns-in-Logged
returns-in-Logged c = rw c.in-Logged.is c.base_of.ensures

pub returns-in-Stored : goal.returns-in-Stored
returns-in-Stored c = rw c.in-Stored.is c.stored_base_of.ensures

pub returns-in-Framed : goal.returns-in-Framed
returns-in-Framed c = rw c.in-Framed.is c.framed_base_of.ensures

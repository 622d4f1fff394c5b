-- `restore::lay_whole` meets its contract: a run over records that are all applied has no other end than the last.
use lib.ListN.{length}
use Rattle.restore.proofs.Restoring.{done_lays, whole-laid, whole-read, whole-applied}
use Rattle.restore.proofs.lay_whole.Goals as goal

pub lay-requires : goal.lay-requires
lay-requires c =
    let a = c.args in
    done_lays (length a.image.now) a.input.now _ _ c.run.ensures c.in-Done.is

pub returns-in-Done : goal.returns-in-Done
returns-in-Done c =
    whole-laid (length c.args.image.now) c.args.input.now _ _ c.run.ensures c.requires.0 c.in-Done.is c.lay.ensures

pub returns-in-Unread : goal.returns-in-Unread
returns-in-Unread c =
    whole-read (length c.args.image.now) c.args.input.now _ _ c.run.ensures c.requires.0 c.in-Unread.is

pub returns-in-Refused : goal.returns-in-Refused
returns-in-Refused c =
    whole-applied (length c.args.image.now) c.args.input.now _ _ c.run.ensures c.requires.0 c.in-Refused.is

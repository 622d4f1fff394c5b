-- `entries::put` meets its contract: the record is laid where its key stands among the entries.
use Rattle.entries.proofs.Changes.{lent-entries, is_keyed, put_changed}
use Rattle.entries.proofs.put.Goals as goal

pub seek-p-requires : goal.seek-p-requires
seek-p-requires c =
    let p = c.requires in
    (lent-entries _ _ _ p.0 p.3, is_keyed _ p.4)

pub returns : goal.returns
returns c =
    let p = c.requires in
    let place = c.seek-p.ensures in
    let spliced = c.splice in
    put_changed c.args.w.now spliced.new.w c.args.rec.now c.args.from c.args.to c.args.used _ _ _ p.0 p.1 p.2 spliced.auto.w p.4
    place spliced.ensures

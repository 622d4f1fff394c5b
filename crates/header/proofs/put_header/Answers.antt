-- `header::put_header` meets its contract: seven parts, one after another.
use Rattle.model.specs.Image.{mark}
use Rattle.header.proofs.Writes.{header-written}
use Rattle.header.proofs.put_header.Goals as goal

pub returns : goal.returns
unfolding mark
returns c =
    let l = c.copy in
    let used = c.put in
    let gap = c.put-2 in
    let epoch = c.put-3 in
    let kraft = c.put-4 in
    let rest = c.put-5 in
    let offset = c.put-6 in
    header-written c.args.b.now l.new.dst used.new.s gap.new.s epoch.new.s kraft.new.s rest.new.s offset.new.s _ _ _ _ l.ensures
    used.ensures gap.ensures epoch.ensures kraft.ensures rest.ensures offset.ensures

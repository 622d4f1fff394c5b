-- `image::groups_ok` meets its contract, exit by exit.
use Rattle.entries.specs.Entries.{records_in}
use Rattle.image.proofs.Steps.{no_groups, groups_descend, members_decide, holds}
use Rattle.image.proofs.groups_ok.Goals as goal

pub returns-then-not-all_groups : goal.returns-then-not-all_groups
returns-then-not-all_groups c =
    no_groups (records_in c.args.s.now) (records_in c.args.t.now) c.all_groups.ensures c.if-not-all_groups.true-raw

pub returns-then-not-ascends : goal.returns-then-not-ascends
returns-then-not-ascends c =
    groups_descend (records_in c.args.s.now) (records_in c.args.t.now) c.all_groups.ensures c.if-not-all_groups.false-raw c.ascends.ensures c.if-not-ascends.true-raw

pub groups_apart-requires : goal.groups_apart-requires
groups_apart-requires c =
    let q = c.requires in
    (q.0, q.1, q.2, holds c.ascends.ensures c.if-not-ascends.false-raw, holds c.all_groups.ensures c.if-not-all_groups.false-raw)

pub returns : goal.returns
returns c =
    members_decide (records_in c.args.s.now) (records_in c.args.t.now) c.all_groups.ensures c.if-not-all_groups.false-raw
    c.ascends.ensures c.if-not-ascends.false-raw c.groups_apart.ensures

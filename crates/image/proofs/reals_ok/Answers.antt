-- `image::reals_ok` meets its contract, exit by exit.
use Rattle.entries.specs.Entries.{records_in}
use Rattle.image.proofs.Steps.{not_stored, not_ascending, not_counted, ids_decide, holds}
use Rattle.image.proofs.reals_ok.Goals as goal

pub returns-then-not-all_stored : goal.returns-then-not-all_stored
returns-then-not-all_stored c = not_stored (records_in c.args.s.now) c.all_stored.ensures c.if-not-all_stored.true-raw

pub returns-then-not-ascends : goal.returns-then-not-ascends
returns-then-not-ascends c =
    not_ascending (records_in c.args.s.now) c.all_stored.ensures c.if-not-all_stored.false-raw c.ascends.ensures c.if-not-ascends.true-raw

pub counts_fit-requires : goal.counts_fit-requires
counts_fit-requires c = (c.requires, holds c.ascends.ensures c.if-not-ascends.false-raw)

pub returns-then-not-counts_fit : goal.returns-then-not-counts_fit
returns-then-not-counts_fit c =
    not_counted (records_in c.args.s.now) c.all_stored.ensures c.if-not-all_stored.false-raw c.ascends.ensures c.if-not-ascends.false-raw
    c.counts_fit.ensures c.if-not-counts_fit.true-raw

pub returns : goal.returns
returns c =
    ids_decide (records_in c.args.s.now) c.all_stored.ensures c.if-not-all_stored.false-raw c.ascends.ensures c.if-not-ascends.false-raw
    c.counts_fit.ensures c.if-not-counts_fit.false-raw c.ids_apart.ensures

-- `header::open` meets its contract.
use Rattle.header.proofs.Opens.{open_refused, head_fits, opened}
use Rattle.header.proofs.open.Goals as goal

pub returns-then-not-is_capacity : goal.returns-then-not-is_capacity
returns-then-not-is_capacity c =
    let the_whole = open_refused _ c.is_capacity.ensures c.if-not-is_capacity.true-raw in record { result_value = the_whole.0; b_after = the_whole.1 }

pub put_header-requires : goal.put_header-requires
put_header-requires c =
    head_fits c.args.b.now c.is_capacity.ensures c.if-not-is_capacity.false-raw c.clear.ensures

pub returns : goal.returns
returns c =
    let the_whole = opened _ c.is_capacity.ensures c.if-not-is_capacity.false-raw c.clear.ensures c.put_header.ensures in record { result_value = the_whole.0; b_after = the_whole.1 }

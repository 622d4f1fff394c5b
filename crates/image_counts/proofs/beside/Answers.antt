-- `image_counts::beside` meets its contract: a rank tells partitions, and their first field is the topic's name.
use mathlib.Core.Path.{◌∙◌}
use Rattle.keys.proofs.Found.{lent_slice}
use Rattle.image_counts.proofs.Sides.{beside_low, beside_high, beside-named}
use Rattle.image_counts.proofs.beside.Goals as goal

pub returns-then-rank-lt5 : goal.returns-then-rank-lt5
returns-then-rank-lt5 c = beside_low _ _ c.requires _ c.rank_of-rank.ensures c.if-rank-lt5.true

pub returns-then-rank-gt5 : goal.returns-then-rank-gt5
returns-then-rank-gt5 c = beside_high _ _ c.requires _ c.rank_of-rank.ensures c.if-rank-gt5.true

pub returns : goal.returns
returns c =
    let p = c.value_at-p in
    beside-named _ _ c.requires _ c.rank_of-rank.ensures c.if-rank-lt5.false
    c.if-rank-gt5.false _ c.compare.result (lent_slice _ _ _ p.ensures.1 ∙ p.ensures.0) c.compare.ensures

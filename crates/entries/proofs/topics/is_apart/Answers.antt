-- `entries::is_apart` meets its contract: a rank tells the groups under topics, and there the first field is the topic's name.
use mathlib.Core.Path.{◌∙◌}
use Rattle.keys.proofs.Found.{lent_slice}
use Rattle.entries.proofs.Apart.{apart_low, apart_high, apart_named}
use Rattle.entries.proofs.topics.is_apart.Goals as goal

pub returns-then-rank-lt4 : goal.returns-then-rank-lt4
returns-then-rank-lt4 c = apart_low _ c.requires _ c.rank_of-rank.ensures _ c.if-rank-lt4.true

pub returns-then-rank-gt9 : goal.returns-then-rank-gt9
returns-then-rank-gt9 c = apart_high _ c.requires _ c.rank_of-rank.ensures _ c.if-rank-gt9.true

pub returns : goal.returns
returns c =
    let p = c.value_at-p in
    apart_named _ c.requires _ c.rank_of-rank.ensures _ c.if-rank-lt4.false
    c.if-rank-gt9.false _ _ (lent_slice _ _ _ p.ensures.1 ∙ p.ensures.0) c.same.ensures

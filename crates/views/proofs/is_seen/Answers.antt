-- `views::is_seen` meets its contract: a rank tells the groups under topics, and there the first field is the topic's name.
use mathlib.Core.Path.{◌∙◌}
use Rattle.keys.proofs.Found.{lent_slice}
use Rattle.views.proofs.Seen.{seen_low, seen_high, seen_named}
use Rattle.views.proofs.is_seen.Goals as goal

pub returns-then-rank-lt4 : goal.returns-then-rank-lt4
returns-then-rank-lt4 c = seen_low _ _ c.requires.0 _ c.rank_of-rank.ensures c.if-rank-lt4.true

pub returns-then-rank-gt9 : goal.returns-then-rank-gt9
returns-then-rank-gt9 c = seen_high _ _ c.requires.0 _ c.rank_of-rank.ensures c.if-rank-gt9.true

pub is_visible-requires : goal.is_visible-requires
is_visible-requires c = c.requires.1

pub returns : goal.returns
returns c =
    let p = c.value_at-p in
    seen_named _ _ c.requires.0 _ c.rank_of-rank.ensures c.if-rank-lt4.false
    c.if-rank-gt9.false (lent_slice _ _ _ p.ensures.1 ∙ p.ensures.0) c.is_visible.ensures

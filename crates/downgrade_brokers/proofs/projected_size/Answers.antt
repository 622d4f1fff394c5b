-- `downgrade_brokers::projected_size` meets its contract.
use Rattle.downgrade_brokers.proofs.Projected.{may_know, own-size, other_size}
use Rattle.downgrade_brokers.proofs.projected_size.Goals as goal

pub known_length-size-requires : goal.known_length-size-requires
known_length-size-requires c =
    may_know _ c.requires.0 c.requires.1

pub returns-then-size-s : goal.returns-then-size-s
returns-then-size-s c =
    other_size _ c.requires.0 c.requires.1 c.args.level c.empty_tag.ensures c.gone_tag.ensures c.known_length-size.ensures.0 c.if-size-s.true

pub returns : goal.returns
returns c =
    own-size _ c.requires.0 c.requires.1 c.args.level c.empty_tag.ensures c.gone_tag.ensures c.known_length-size.ensures.0
    c.if-size-s.false c.known_length-size.ensures.1

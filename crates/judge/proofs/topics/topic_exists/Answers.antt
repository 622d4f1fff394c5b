-- `topics::topic_exists` meets its contract: the topic of the name is sought, and the record held against it.
use native.Mathlib.Omega.{arith}
use Rattle.model.specs.Number.{AreBytes}
use Rattle.keys.proofs.Keys.{known_bytes}
use Rattle.find.proofs.Queries.{topic_query}
use Rattle.judge.proofs.Replaced.{no_topic, held-fields, replaced}
use Rattle.judge.proofs.topics.topic_exists.Goals as goal

pub find_named-p-requires : goal.find_named-p-requires
find_named-p-requires c = (c.requires.0, c.requires.1.headed, topic_query _ c.requires.1.name_fits)

pub returns-then-end-at : goal.returns-then-end-at
returns-then-end-at c = no_topic _ c.args.rec.now c.find_named-p.ensures c.if-end-at.true _

pub may_replace-requires : goal.may_replace-requires
may_replace-requires c =
    let bytes_in : AreBytes c.args.s.now = known_bytes c.args.s.now (λ i. omega (arith, c.type_inv.s i)) in
    (c.requires.1, held-fields _ c.args.rec.now c.find_named-p.ensures bytes_in c.requires.0 c.if-end-at.false, omega (arith, c.partitions_of-parts.ensures.1))

pub returns : goal.returns
returns c =
    let bytes_in : AreBytes c.args.s.now = known_bytes c.args.s.now (λ i. omega (arith, c.type_inv.s i)) in
    replaced _ c.args.rec.now c.find_named-p.ensures bytes_in c.requires.0 c.if-end-at.false c.partitions_of-parts.ensures.0 c.unless.ensures
    c.may_replace.ensures

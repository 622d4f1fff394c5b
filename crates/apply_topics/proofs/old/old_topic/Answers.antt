-- `old::old_topic` meets its contract: the topic is sought, and its id and count are read.
use mathlib.Core.Path.{sym, ◌∙◌}
use native.Mathlib.Omega.{arith}
use Rattle.keys.proofs.Keys.{known_bytes}
use Rattle.find.proofs.Queries.{topic_query}
use Rattle.apply_topics.proofs.Olds.{no_old, old_is, old_headed, old_id, old-count, old-found}
use Rattle.apply_topics.proofs.old.old_topic.Goals as goal

pub find-p-requires : goal.find-p-requires
find-p-requires c =
    (c.requires.0, topic_query _ c.requires.1)

pub returns-then-end-at : goal.returns-then-end-at
returns-then-end-at c = no_old _ _ c.find-p.ensures c.if-end-at.true _

pub copy_value-requires : goal.copy_value-requires
copy_value-requires c =
    let are_bytes_lem = known_bytes c.args.s.now (λ i. omega (arith, c.type_inv.s i)) in
    (old_headed _ _ c.find-p.ensures are_bytes_lem c.requires.0 c.if-end-at.false, old_id _ _ c.find-p.ensures are_bytes_lem c.requires.0 c.if-end-at.false ∙ sym c.requires.2)

pub value_number-requires : goal.value_number-requires
value_number-requires c =
    let are_bytes_lem = known_bytes c.args.s.now (λ i. omega (arith, c.type_inv.s i)) in
    (old_is _ _ c.find-p.ensures are_bytes_lem c.requires.0 c.if-end-at.false, omega arith, old-count _ _ c.find-p.ensures are_bytes_lem c.requires.0 c.if-end-at.false)

pub returns : goal.returns
returns c =
    old-found _ _ c.find-p.ensures (known_bytes c.args.s.now (λ i. omega (arith, c.type_inv.s i))) c.requires.0 c.if-end-at.false
    c.value_number.ensures c.copy_value.ensures

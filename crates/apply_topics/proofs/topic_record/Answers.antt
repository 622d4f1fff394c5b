-- `apply_topics::topic_record` meets its contract.
use native.Mathlib.Omega.{arith}
use Rattle.keys.proofs.Keys.{known_bytes}
use Rattle.apply_topics.proofs.Moved.{logged_size, copied_draft, counted_draft, topic_built}
use Rattle.apply_topics.proofs.topic_record.Goals as goal

pub copy_in-n-requires : goal.copy_in-n-requires
copy_in-n-requires c =
    omega (arith, logged_size _ c.requires.0 c.requires.1, c.requires.2)

pub set_field-m-requires : goal.set_field-m-requires
set_field-m-requires c = (
  omega (arith, c.copy_in-n.ensures.0, c.copy_in-n.auto.b, logged_size _ c.requires.0 c.requires.1, c.requires.2),
  omega arith,
  copied_draft _ c.requires.0 c.requires.1 c.copy_in-n.new.b c.copy_in-n.result c.copy_in-n.ensures.1,
)

pub set_field-requires : goal.set_field-requires
set_field-requires c = (
  omega (arith, c.copy_in-n.ensures.0, c.copy_in-n.auto.b, c.set_field-m.ensures.1, c.set_field-m.auto.b, logged_size _ c.requires.0 c.requires.1, c.requires.2),
  omega arith,
  counted_draft _ c.requires.0 c.requires.1 c.copy_in-n.new.b c.copy_in-n.result c.copy_in-n.ensures.1 c.args.count _ c.put.ensures
      c.set_field-m.new.b c.set_field-m.result c.set_field-m.ensures.0,
)

pub returns : goal.returns
returns c = (
  topic_built _ c.requires.0 c.requires.1 c.copy_in-n.new.b c.copy_in-n.result c.copy_in-n.ensures.1 c.args.count _
      c.put.ensures c.set_field-m.new.b
      c.set_field-m.result c.set_field-m.ensures.0 (known_bytes c.args.rec.now (λ i. omega (arith, c.type_inv.rec i)))
      c.set_field.ensures.0,
  omega (arith, c.copy_in-n.ensures.0, c.set_field-m.ensures.1, c.set_field.ensures.1, logged_size _ c.requires.0 c.requires.1, c.requires.2),
)

-- `apply_topics::is_new` meets its contract: it is sought.
use native.Mathlib.Omega.{arith}
use Rattle.keys.proofs.Keys.{known_bytes}
use Rattle.entries.proofs.Changes.{is_keyed}
use Rattle.apply_topics.proofs.Moved.{new-there, new_none}
use Rattle.apply_topics.proofs.is_new.Goals as goal

pub seek-p-requires : goal.seek-p-requires
seek-p-requires c =
    (c.requires.0, is_keyed _ c.requires.1)

pub returns-then-p : goal.returns-then-p
returns-then-p c = (
  new-there _ _ c.requires.1 (known_bytes c.args.s.now (λ i. omega (arith, c.type_inv.s i))) c.requires.0 c.seek-p.ensures c.if-p.true,
  omega arith,
)

pub returns : goal.returns
returns c = (new_none _ _ c.requires.1 c.seek-p.ensures c.if-p.false, omega arith)

-- `access::number_in` meets its contract, by the kind byte.
use mathlib.Core.Path.{◌∙◌}
use Rattle.access.specs.Access.{found_number, Below}
use Rattle.access.proofs.Values.{number_empty, other_kind, of_kind}
use Rattle.access.proofs.number_in.Goals as goal

pub returns-then-s-eq0 : goal.returns-then-s-eq0
unfolding found_number Below
returns-then-s-eq0 c = (number_empty _ _ _ _ c.if-s-eq0.true, tt)

pub returns-then-s-kind : goal.returns-then-s-kind
unfolding found_number Below
returns-then-s-kind c = (other_kind _ _ _ _ c.if-s-kind.true, tt)

pub returns : goal.returns
returns c = let n = c.field_number.ensures in (n.0 ∙ of_kind _ _ _ _ c.if-s-kind.false, n.1)

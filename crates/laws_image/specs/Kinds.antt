-- A kind is told by its number.
use Rattle.std.specs.Prelude.{◌≡◌, true, false, eqb}
use Rattle.std.proofs.Common.{eqb-true}
use Rattle.model.specs.Kind.{kind_number}
use Rattle.model.specs.declared.Kind.{Kind}
use Rattle.laws.specs.Choice.{not_true_false}
use Rattle.laws_records.specs.Kinds.{number_injective}

pub is_kind : (k other : Kind) → eqb (kind_number k) (kind_number other) ≡ true → k ≡ other
is_kind k other h = number_injective k other (eqb-true (kind_number k) (kind_number other) h)

pub not_kind : (k other : Kind) → (k ≡ other → ⊥) → eqb (kind_number k) (kind_number other) ≡ false
not_kind k other h = not_true_false (eqb (kind_number k) (kind_number other)) (λ q. h (is_kind k other q))

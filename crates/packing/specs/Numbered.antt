-- The kind of a number.
use Rattle.std.proofs.Math.Option.{Option, none, some}
use Rattle.model.specs.declared.Kind.{Kind}
use Rattle.packing.specs.declared.kinds.Numbered.{Numbered}
use Rattle.packing.specs.declared.kinds.Numbered.TheVariants as numbered

abbrev pub named : Numbered → Option Kind
named (numbered.Kind k) = some k
named numbered.Unknown = none

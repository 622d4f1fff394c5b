-- `kinds::flag_reads` meets its contract: only a topic has a flag, in a field of five bytes.
use mathlib.Core.Path.{refl}
use native.Mathlib.Omega.{arith}
use Rattle.model.specs.Kind.{kind_number}
use Rattle.model.specs.Shape.{rows_of, shape_of}
use Rattle.model.specs.declared.Kind.TheVariants.{Topic}
use Rattle.image_entries.proofs.Records.{headed, value_is}
use Rattle.image_entries.proofs.ByKind.{no_flag, flag-told}
use Rattle.image_entries.proofs.kinds.flag_reads.Goals as goal

pub bounds-e-0 : goal.bounds-e-0
bounds-e-0 c = omega (arith, headed _ c.requires)

pub returns-then-e-ne-TOPIC : goal.returns-then-e-ne-TOPIC
returns-then-e-ne-TOPIC c = no_flag _ c.requires c.if-e-ne-TOPIC.true

pub value_number-requires : goal.value_number-requires
unfolding rows_of shape_of kind_number
value_number-requires c = let i = c.requires in (i, omega arith, value_is _ i Topic c.if-e-ne-TOPIC.false 5 refl refl)

pub returns : goal.returns
returns c = flag-told _ c.requires c.if-e-ne-TOPIC.false _ c.value_number.ensures

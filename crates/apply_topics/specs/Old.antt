-- The stored topic of a name, as the code has it.
use Rattle.std.specs.Prelude.{◌≡◌, true, false}
use Rattle.std.proofs.Math.Option.{Option, none, some}
use Rattle.model.specs.Number.{Bytes}
use Rattle.model.specs.Contents.{Entry, topic, part, plain}
use Rattle.apply_topics.specs.declared.old.Old.{Old}

-- none, or a topic with this count and this id
abbrev pub OldIs : Option Entry → Old → Bytes → Type 0
OldIs none old i = (old.there ≡ false) × (old.count ≡ 0)
OldIs (some (topic name id count factor named)) old i = (old.there ≡ true) × (old.count ≡ count) × (i ≡ id)
OldIs (some (part r)) old i = ⊥
OldIs (some (plain r)) old i = ⊥

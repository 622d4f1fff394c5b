-- `reader::place_at` meets its contract: the fields from a place on are those of a cursor whose end is the bytes' end.
use mathlib.Core.Path.{refl, ap, ◌∙◌}
use lib.ListN.{length}
use Rattle.fields.specs.Fields.{place_of}
use Rattle.reader.proofs.Parts.{place_past, to_the_end}
use Rattle.reader.proofs.place_at.Goals as goal

pub returns-then-s-at : goal.returns-then-s-at
returns-then-s-at c = let a = c.args in place_past a.s.now a.at a.tag c.if-s-at.true

pub returns : goal.returns
returns c =
    let a = c.args in
    c.field.ensures ∙ ap (place_of a.tag a.at) (to_the_end a.s.now (record { at = a.at; to = length a.s.now }) refl)

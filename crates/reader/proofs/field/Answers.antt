-- `reader::field` meets its contract: the bytes up to the cursor's end are lent, and the place that is found there is that of the value.
use mathlib.Core.Path.{sym}
use lib.Seq.{length-take-le}
use Rattle.fields.proofs.Places.{place-held}
use Rattle.reader.proofs.field.Goals as goal

pub slice_bounds-find-end : goal.slice_bounds-find-end
slice_bounds-find-end c = sym (length-take-le c.args.from.to c.args.s.now c.requires.1)

pub returns : goal.returns
returns c =
    let a = c.args in
    rw c.find.ensures (place-held a.s.now a.tag a.from.to c.requires.1 a.from.at)

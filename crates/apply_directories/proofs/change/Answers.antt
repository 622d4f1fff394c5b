-- `apply_directories::change` meets its contract: the directories are built, and set.
use Rattle.apply_directories.proofs.Copies.{none-set, may-set, dirs_set}
use mathlib.Core.Path.{sym}
use lib.Seq.{length-take-le}
use Rattle.apply_directories.proofs.change.Goals as goal

pub slice_bounds-build-end-3 : goal.slice_bounds-build-end-3
slice_bounds-build-end-3 c = sym (length-take-le _ _ c.requires.2)

pub returns-then-size-eq0 : goal.returns-then-size-eq0
returns-then-size-eq0 c =
    none-set c.args.b.now c.args.rec.now c.args.n c.requires.0 c.build-size.ensures c.if-size-eq0.true _

pub slice_bounds-set_field-end : goal.slice_bounds-set_field-end
slice_bounds-set_field-end c = sym (length-take-le _ _ c.build-size.ensures.fits)

pub set_field-requires : goal.set_field-requires
set_field-requires c =
    may-set c.args.b.now c.args.rec.now c.args.n c.requires.0 c.build-size.ensures c.requires.2 c.requires.3

pub returns : goal.returns
returns c =
    dirs_set c.args.b.now c.args.rec.now c.args.n c.requires.0 c.build-size.ensures c.requires.2 c.requires.3 c.if-size-eq0.false _
    c.set_field.auto.b c.set_field.ensures

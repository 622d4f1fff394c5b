-- `restore::restore_each` meets its contract: what a run comes to is laid out, and where Apply refuses, what the records before it come to.
use native.Mathlib.Omega.{arith}
use lib.ListN.{length, length-take}
use Rattle.restore.proofs.Restoring.{done_lays, unread_lays, refused-within, refused-whole, laid_done, laid_unread, laid-refused}
use Rattle.restore.proofs.restore_each.Goals as goal

pub run-requires : goal.run-requires
run-requires c =
    (c.requires.0, c.requires.1, omega arith, omega arith)

pub lay-requires : goal.lay-requires
lay-requires c =
    done_lays (length c.args.image.now) c.args.input.now c.run.new.w _ c.run.ensures c.in-Done.is

pub lay-requires-in-Unread : goal.lay-requires-in-Unread
lay-requires-in-Unread c =
    unread_lays (length c.args.image.now) c.args.input.now c.run.new.w _ c.run.ensures c.in-Unread.is

pub slice_bounds-lay_whole-end-in-Refused-2 : goal.slice_bounds-lay_whole-end-in-Refused-2
slice_bounds-lay_whole-end-in-Refused-2 c =
    let k = refused-within (length c.args.image.now) c.args.input.now c.run.new.w _ c.run.ensures
    c.in-Refused.is in simp length-take (omega arith)

pub lay_whole-requires : goal.lay_whole-requires
lay_whole-requires c = (
  refused-whole (length c.args.image.now) c.args.input.now c.run.new.w _ c.run.ensures c.in-Refused.is,
  c.requires.0,
  omega (arith, c.run.auto.w, c.requires.1),
  omega (arith, c.run.auto.a),
  omega (arith, c.run.auto.b),
)

pub returns-in-Done : goal.returns-in-Done
returns-in-Done c =
    let the_whole = laid_done c.args.image.now c.args.input.now c.requires.0 c.run.new.w _ c.run.ensures c.in-Done.is c.lay.ensures in record { result_value = the_whole.0; image_after = the_whole.1 }

pub returns-in-Unread : goal.returns-in-Unread
returns-in-Unread c =
    let the_whole = laid_unread c.args.image.now c.args.input.now c.requires.0 c.run.new.w _ c.run.ensures c.in-Unread.is c.lay-in-Unread.ensures in record { result_value = the_whole.0; image_after = the_whole.1 }

pub returns-in-Refused : goal.returns-in-Refused
returns-in-Refused c =
    let the_whole = laid-refused c.args.image.now c.args.input.now c.requires.0 c.run.new.w _ c.run.ensures c.in-Refused.is c.lay_whole.ensures in record { result_value = the_whole.0; image_after = the_whole.1 }

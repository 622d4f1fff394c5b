-- `built::recovery_record` meets its contract: a state after the name and the number.
use mathlib.Core.Path.{refl}
use native.Mathlib.Omega.{arith}
use lib.Dec.{lit<}
use Rattle.model.specs.Run.{value}
use Rattle.keys.specs.Keys.{run_in}
use Rattle.apply_updates.specs.Updates.{named_of}
use Rattle.apply_updates.proofs.Drafting.{Upto, step_asks, step_says}
use Rattle.apply_updates.proofs.Values.{update_headed, state_short, named_draft, recovery_built}
use Rattle.apply_updates.proofs.built.recovery_record.Goals as goal

pub copy_field-requires : goal.copy_field-requires
copy_field-requires c =
    let begun : Upto 268 c.begin_named-n.new.b c.begin_named-n.result 22 (named_of (run_in c.args.rec.now)) = named_draft c.args.rec.now c.requires.0 c.begin_named-n.new.b c.begin_named-n.result 22 c.begin_named-n.ensures in
    let s = c.args.rec.now in
    let q = step_asks begun {v = value 4 (run_in s)} refl 1 (state_short s c.requires.0) (lit< tt) (omega (arith, c.begin_named-n.auto.b, c.requires.1)) in
    (update_headed s c.requires.0, q.0, q.1, q.2)

pub returns : goal.returns
returns c =
    let begun : Upto 268 c.begin_named-n.new.b c.begin_named-n.result 22 (named_of (run_in c.args.rec.now)) = named_draft c.args.rec.now c.requires.0 c.begin_named-n.new.b c.begin_named-n.result 22 c.begin_named-n.ensures in
    let f = c.copy_field in
    let s = c.args.rec.now in
    recovery_built s c.requires.0 (step_says begun refl 1 (state_short s c.requires.0) (lit< tt) 3 f.new.b f.result f.ensures)

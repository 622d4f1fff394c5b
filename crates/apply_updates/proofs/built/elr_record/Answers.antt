-- `built::elr_record` meets its contract: two lists after the name and the number.
use mathlib.Core.Path.{refl}
use native.Mathlib.Omega.{arith}
use lib.Dec.{lit<}
use Rattle.model.specs.Run.{value, set_field}
use Rattle.keys.specs.Keys.{run_in}
use Rattle.apply_updates.specs.Updates.{named_of}
use Rattle.apply_updates.proofs.Drafting.{Upto, step_asks, step_says}
use Rattle.apply_updates.proofs.Values.{update_headed, eligible_short, known-short, named_draft, elr_built}
use Rattle.apply_updates.proofs.built.elr_record.Goals as goal

pub copy_field-m-requires : goal.copy_field-m-requires
copy_field-m-requires c =
    let begun : Upto 268 c.begin_named-n.new.b c.begin_named-n.result 21 (named_of (run_in c.args.rec.now)) = named_draft c.args.rec.now c.requires.0 c.begin_named-n.new.b c.begin_named-n.result 21 c.begin_named-n.ensures in
    let s = c.args.rec.now in
    let q = step_asks begun {v = value 2 (run_in s)} refl 512 (eligible_short s c.requires.0) (lit< tt) (omega (arith, c.begin_named-n.auto.b, c.requires.1)) in
    (update_headed s c.requires.0, q.0, q.1, q.2)

pub copy_field-requires : goal.copy_field-requires
copy_field-requires c =
    let begun : Upto 268 c.begin_named-n.new.b c.begin_named-n.result 21 (named_of (run_in c.args.rec.now)) = named_draft c.args.rec.now c.requires.0 c.begin_named-n.new.b c.begin_named-n.result 21 c.begin_named-n.ensures in
    let with-eligible : Upto 783 c.copy_field-m.new.b c.copy_field-m.result 21 (set_field 3 (value 2 (run_in c.args.rec.now)) (named_of (run_in c.args.rec.now))) = step_says begun refl 512 (eligible_short _ c.requires.0) (lit< tt) 3 c.copy_field-m.new.b c.copy_field-m.result c.copy_field-m.ensures in
    let s = c.args.rec.now in
    let q = step_asks with-eligible {v = value 3 (run_in s)} refl 512 (known-short s c.requires.0) (lit< tt) (omega (arith, c.copy_field-m.auto.b, c.begin_named-n.auto.b, c.requires.1)) in
    (update_headed s c.requires.0, q.0, q.1, q.2)

pub returns : goal.returns
returns c =
    let begun : Upto 268 c.begin_named-n.new.b c.begin_named-n.result 21 (named_of (run_in c.args.rec.now)) = named_draft c.args.rec.now c.requires.0 c.begin_named-n.new.b c.begin_named-n.result 21 c.begin_named-n.ensures in
    let with-eligible : Upto 783 c.copy_field-m.new.b c.copy_field-m.result 21 (set_field 3 (value 2 (run_in c.args.rec.now)) (named_of (run_in c.args.rec.now))) = step_says begun refl 512 (eligible_short _ c.requires.0) (lit< tt) 3 c.copy_field-m.new.b c.copy_field-m.result c.copy_field-m.ensures in
    let f = c.copy_field in
    let s = c.args.rec.now in
    elr_built s c.requires.0 (step_says with-eligible refl 512 (known-short s c.requires.0) (lit< tt) 4 f.new.b f.result f.ensures)

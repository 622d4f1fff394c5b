-- `built::begin_named` meets its contract: two fields are set in a record with none.
use native.Mathlib.Omega.{arith}
use lib.Dec.{lit<}
use Rattle.model.specs.Run.{done, value, set_field}
use Rattle.keys.specs.Keys.{run_in}
use Rattle.apply_updates.specs.Updates.{partition_of}
use Rattle.apply_updates.proofs.Drafting.{lent, Upto, begun, step_asks, step_says}
use Rattle.apply_updates.proofs.Values.{update_headed, name_short, number_short, named_is}
use Rattle.apply_updates.proofs.built.begin_named.Goals as goal

pub nested_at-p-requires : goal.nested_at-p-requires
nested_at-p-requires c =
    update_headed _ c.requires.0

pub nested_at-q-requires : goal.nested_at-q-requires
nested_at-q-requires c =
    update_headed _ c.requires.0

pub set_field-m-requires : goal.set_field-m-requires
set_field-m-requires c =
    let bare : Upto 3 c.begin-n.new.b c.begin-n.result c.args.kind done = begun c.begin-n.new.b c.begin-n.result c.args.kind c.begin-n.ensures in
    let a = c.nested_at-p in
    let s = c.args.rec.now in
    step_asks bare (lent s (value 1 (partition_of (run_in s))) a.result.start a.result.end a.ensures) 255 (name_short s c.requires.0) (lit< tt)
    (omega (arith, c.begin-n.auto.b, c.requires.1))

pub set_field-requires : goal.set_field-requires
set_field-requires c =
    let bare : Upto 3 c.begin-n.new.b c.begin-n.result c.args.kind done = begun c.begin-n.new.b c.begin-n.result c.args.kind c.begin-n.ensures in
    let with-name : Upto 261 c.set_field-m.new.b c.set_field-m.result c.args.kind (set_field 1 (value 1 (partition_of (run_in c.args.rec.now))) done) = let a = c.nested_at-p in let s = c.args.rec.now in step_says bare (lent s (value 1 (partition_of (run_in s))) a.result.start a.result.end a.ensures) 255 (name_short s c.requires.0) (lit< tt) 1 c.set_field-m.new.b c.set_field-m.result c.set_field-m.ensures in
    let a = c.nested_at-q in
    let s = c.args.rec.now in
    step_asks with-name (lent s (value 2 (partition_of (run_in s))) a.result.start a.result.end a.ensures) 4 (number_short s c.requires.0) (lit< tt)
    (omega (arith, c.set_field-m.auto.b, c.begin-n.auto.b, c.requires.1))

pub returns : goal.returns
returns c =
    let bare : Upto 3 c.begin-n.new.b c.begin-n.result c.args.kind done = begun c.begin-n.new.b c.begin-n.result c.args.kind c.begin-n.ensures in
    let with-name : Upto 261 c.set_field-m.new.b c.set_field-m.result c.args.kind (set_field 1 (value 1 (partition_of (run_in c.args.rec.now))) done) = let a = c.nested_at-p in let s = c.args.rec.now in step_says bare (lent s (value 1 (partition_of (run_in s))) a.result.start a.result.end a.ensures) 255 (name_short s c.requires.0) (lit< tt) 1 c.set_field-m.new.b c.set_field-m.result c.set_field-m.ensures in
    let f = c.set_field in
    let a = c.nested_at-q in
    let s = c.args.rec.now in
    named_is s c.requires.0
    (step_says with-name (lent s (value 2 (partition_of (run_in s))) a.result.start a.result.end a.ensures) 4 (number_short s c.requires.0) (lit< tt) 2 f.new.b f.result f.ensures)

-- `shape_faults::leaf_fault` meets its contract: each code is a form, and each form has its test.
use borrow.Author.Tests.{eq-eqb, ne_eqb}
use lib.Seq.{length-slice}
use Rattle.model.specs.Shape.{leaf_fault}
use Rattle.shapes.specs.Table.{form_of}
use Rattle.shape_faults.proofs.Parts.{part_slice}
use Rattle.shape_faults.proofs.leaf_fault.Goals as goal

pub returns-then-len-size : goal.returns-then-len-size
unfolding leaf_fault form_of
returns-then-len-size c =
    rw (c.in-0.is, length-slice c.args.from c.args.to c.args.s.now c.requires.2, eq-eqb _ _ c.if-len-size.true)

pub returns-else-len-size : goal.returns-else-len-size
unfolding leaf_fault form_of
returns-else-len-size c =
    rw (c.in-0.is, length-slice c.args.from c.args.to c.args.s.now c.requires.2, ne_eqb _ _ c.if-len-size.false)

pub returns-in-1 : goal.returns-in-1
unfolding leaf_fault form_of
returns-in-1 c =
    rw (c.in-1.is, ← part_slice c.args.s.now c.args.from c.args.to c.requires.1 c.requires.2) c.below_fault.ensures

pub returns-in-2 : goal.returns-in-2
unfolding leaf_fault form_of
returns-in-2 c =
    rw (c.in-2.is, ← part_slice c.args.s.now c.args.from c.args.to c.requires.1 c.requires.2) c.text_fault.ensures

pub returns-in-3 : goal.returns-in-3
unfolding leaf_fault form_of
returns-in-3 c =
    rw (c.in-3.is, ← part_slice c.args.s.now c.args.from c.args.to c.requires.1 c.requires.2) c.key_fault.ensures

pub returns-in-4 : goal.returns-in-4
unfolding leaf_fault form_of
returns-in-4 c =
    rw (c.in-4.is, length-slice c.args.from c.args.to c.args.s.now c.requires.2) c.limit_fault.ensures

pub returns-in-5 : goal.returns-in-5
unfolding leaf_fault form_of
returns-in-5 c =
    rw (c.in-5.is, length-slice c.args.from c.args.to c.args.s.now c.requires.2) c.list_fault.ensures

pub returns-in-6 : goal.returns-in-6
unfolding leaf_fault form_of
returns-in-6 c =
    rw (c.in-6.is, length-slice c.args.from c.args.to c.args.s.now c.requires.2) c.list_fault-in-6.ensures

pub returns-in-7 : goal.returns-in-7
unfolding leaf_fault form_of
returns-in-7 c =
    rw (c.in-7.is, ← part_slice c.args.s.now c.args.from c.args.to c.requires.1 c.requires.2) c.set_fault.ensures

pub returns-in-8 : goal.returns-in-8
unfolding leaf_fault form_of
returns-in-8 c =
    rw (c.in-8.is, ← part_slice c.args.s.now c.args.from c.args.to c.requires.1 c.requires.2) c.offset_fault.ensures

pub returns-in_default : goal.returns-in_default
unfolding leaf_fault form_of
returns-in_default c =
    let past = c.in_default.in_default-own.rest in
    rw (
      ne_eqb _ _ past.0.0.0.0.0.0.0.0.1,
      ne_eqb _ _ past.0.0.0.0.0.0.0.1,
      ne_eqb _ _ past.0.0.0.0.0.0.1,
      ne_eqb _ _ past.0.0.0.0.0.1,
      ne_eqb _ _ past.0.0.0.0.1,
      ne_eqb _ _ past.0.0.0.1,
      ne_eqb _ _ past.0.0.1,
      ne_eqb _ _ past.0.1,
      ne_eqb _ _ past.1,
    )

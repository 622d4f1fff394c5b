-- `flat_faults::is_right` meets its contract: the usual forms in place, any other by what is wrong with a value.
use native.Mathlib.Omega.{arith}
use Rattle.flat_faults.proofs.Flat.{never, fixed_right, text_right, nodes_right, ids_right, set_right, leaf_right}
use Rattle.flat_faults.proofs.is_right.Goals as goal

pub returns-then-form-eq-FIXED : goal.returns-then-form-eq-FIXED
returns-then-form-eq-FIXED c =
    fixed_right _ c.form_in-form.ensures c.size_in-size.ensures _ _ _ c.requires.0 c.requires.1 c.if-form-eq-FIXED.true

pub returns-then-form-eq-TEXT : goal.returns-then-form-eq-TEXT
returns-then-form-eq-TEXT c =
    λ e. text_right _ c.form_in-form.ensures c.size_in-size.ensures _ _ _ c.requires.0 c.requires.1 c.if-form-eq-TEXT.true (c.is_string.ensures e)

pub returns-then-form-eq-NODES : goal.returns-then-form-eq-NODES
returns-then-form-eq-NODES c =
    λ e. nodes_right _ c.form_in-form.ensures c.size_in-size.ensures _ _ _ c.requires.0 c.requires.1 c.if-form-eq-NODES.true (c.is_list.ensures e)

pub returns-then-form-eq-IDS : goal.returns-then-form-eq-IDS
returns-then-form-eq-IDS c =
    λ e. ids_right _ c.form_in-form.ensures c.size_in-size.ensures _ _ _ c.requires.0 c.requires.1 c.if-form-eq-IDS.true (c.is_list-then-form-eq-IDS.ensures e)

pub returns-then-form-eq-SET : goal.returns-then-form-eq-SET
returns-then-form-eq-SET c =
    λ e. set_right _ c.form_in-form.ensures c.size_in-size.ensures _ _ _ c.requires.0 c.requires.1 c.if-form-eq-SET.true (c.is_set.ensures e)

pub returns-then-form-ge-NESTED : goal.returns-then-form-ge-NESTED
returns-then-form-ge-NESTED c = never

pub leaf_fault-requires : goal.leaf_fault-requires
leaf_fault-requires c =
    (rw c.no_key.ensures (omega arith), c.requires.0, c.requires.1)

pub returns : goal.returns
returns c =
    let a = c.args in
    leaf_right _ c.form_in-form.ensures c.size_in-size.ensures _ a.from a.to c.no_key.ensures c.if-form-ge-NESTED.false c.leaf_fault.ensures

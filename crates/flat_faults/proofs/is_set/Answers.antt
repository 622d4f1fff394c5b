-- `flat_faults::is_set` meets its contract.
use mathlib.Core.Path.{sym, ap, ◌∙◌}
use Rattle.model.specs.Nodes.{nodes_of, no_repeats}
use Rattle.shape_faults.proofs.Parts.{part_slice}
use Rattle.flat_faults.proofs.Flat.{never, not-false}
use Rattle.flat_faults.proofs.is_set.Goals as goal

pub returns-then-not-is_list : goal.returns-then-not-is_list
returns-then-not-is_list c = never

pub returns : goal.returns
returns c =
    let lent = part_slice c.args.s.now c.args.from c.args.to c.requires.0 c.requires.1 in
    let whole = c.is_list.ensures (not-false _ c.if-not-is_list.false-raw) in
    λ e. (whole.0, whole.1, sym (ap (λ v. no_repeats (nodes_of v)) lent) ∙ sym c.apart_in.ensures ∙ e)

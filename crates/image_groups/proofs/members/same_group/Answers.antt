-- `members::same_group` meets its contract: another kind has another rank, and without its name a member's key is the group's.
use mathlib.Core.Path.{sym}
use native.Mathlib.Omega.{arith}
use lib.Seq.{length-take-le}
use Rattle.std.specs.declared.cmp.Ordering.TheVariants.{Less, Equal, Greater}
use Rattle.entries.proofs.Changes.{is_keyed}
use Rattle.image_groups.proofs.Membership.{other_kind, cut_keyed, member_told}
use Rattle.image_groups.proofs.members.same_group.Goals as goal

pub bounds-e-0 : goal.bounds-e-0
bounds-e-0 c = omega (arith, (is_keyed _ c.requires.0).headed)

pub bounds-g-0 : goal.bounds-g-0
bounds-g-0 c = omega (arith, (is_keyed _ c.requires.1).headed)

pub returns-then-e-g : goal.returns-then-e-g
returns-then-e-g c =
    let p = c.requires in
    other_kind _ _ p.0 p.1 p.2 c.if-e-g.true

pub slice_bounds-compare_keys-end : goal.slice_bounds-compare_keys-end
slice_bounds-compare_keys-end c = sym (length-take-le _ c.args.e.now c.leading_end-n.ensures.2)

pub compare_keys-requires : goal.compare_keys-requires
compare_keys-requires c =
    let p = c.requires in
    (cut_keyed _ _ p.0 p.1 p.2 c.if-e-g.false _ c.leading_end-n.ensures, is_keyed _ p.1)

pub returns-in-Less : goal.returns-in-Less
returns-in-Less c =
    let p = c.requires in
    member_told _ _ p.0 p.1 p.2 c.if-e-g.false _ c.leading_end-n.ensures _ Less c.compare_keys.ensures c.in-Less.is

pub returns-in-Equal : goal.returns-in-Equal
returns-in-Equal c =
    let p = c.requires in
    member_told _ _ p.0 p.1 p.2 c.if-e-g.false _ c.leading_end-n.ensures _ Equal c.compare_keys.ensures c.in-Equal.is

pub returns-in-Greater : goal.returns-in-Greater
returns-in-Greater c =
    let p = c.requires in
    member_told _ _ p.0 p.1 p.2 c.if-e-g.false _ c.leading_end-n.ensures _ Greater c.compare_keys.ensures c.in-Greater.is

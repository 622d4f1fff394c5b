-- `members::quota` meets its contract.
use mathlib.Core.Path.{sym}
use native.Mathlib.Omega.{arith}
use lib.Seq.{length-take-le}
use Rattle.keys.proofs.Keys.{known_bytes}
use Rattle.apply_entities.proofs.Results.{sorted_is, sorted_in}
use Rattle.apply_work.proofs.Made.{record-size}
use Rattle.apply_plan.proofs.Arms.{sorted_grouped, sorted_ordered, quota_made}
use Rattle.apply_plan.proofs.members.quota.Goals as goal

pub sort_entities-n-requires : goal.sort_entities-n-requires
sort_entities-n-requires c =
    (c.requires.1, c.requires.2, omega (arith, record-size _ c.requires.1, c.requires.4))

pub slice_bounds-member-end : goal.slice_bounds-member-end
slice_bounds-member-end c =
    omega (arith, c.sort_entities-n.ensures.1, c.sort_entities-n.auto.b, record-size _ c.requires.1, c.requires.4)

pub slice_bounds-member-end-2 : goal.slice_bounds-member-end-2
slice_bounds-member-end-2 c =
    sym (length-take-le _ _ (omega (arith, c.sort_entities-n.ensures.1, c.sort_entities-n.auto.b, record-size _ c.requires.1, c.requires.4)))

pub member-requires : goal.member-requires
member-requires c =
    let are_bytes_lem = known_bytes c.args.rec.now (λ i. omega (arith, c.type_inv.rec i)) in
    let e = sorted_in _ are_bytes_lem c.requires.1 c.requires.2 _ c.sort_entities-n.ensures.0 in
    (c.requires.0, sorted_is _ are_bytes_lem c.requires.1 c.requires.2 _ c.sort_entities-n.ensures.0, sorted_grouped _ e, sorted_ordered _ e, c.requires.3, c.requires.5)

pub returns : goal.returns
returns c =
    quota_made _
    (sorted_in _ (known_bytes c.args.rec.now (λ i. omega (arith, c.type_inv.rec i))) c.requires.1 c.requires.2 _ c.sort_entities-n.ensures.0) _
    c.member.ensures

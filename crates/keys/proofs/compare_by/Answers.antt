-- `keys::compare_by` meets its contract, form by form.
use borrow.Author.Tests.{ne_eqb}
use Rattle.keys.proofs.compare_by.Goals as goal

pub compare_placed-requires : goal.compare_placed-requires
compare_placed-requires c =
    let p = c.requires in
    (p.0, p.1, p.2.0 c.in-4.is, p.3.0 c.in-4.is)

pub compare_quotas-requires : goal.compare_quotas-requires
compare_quotas-requires c =
    let p = c.requires in
    record { first = p.0; second = p.1; first-ascends = p.2.1 c.in-5.is; second_ascends = p.3.1 c.in-5.is }

pub returns-in-1 : goal.returns-in-1
returns-in-1 c = rw c.in-1.is c.compare_field.ensures

pub returns-in-2 : goal.returns-in-2
returns-in-2 c = rw c.in-2.is c.compare_both.ensures

pub returns-in-3 : goal.returns-in-3
returns-in-3 c = rw c.in-3.is c.compare_both-in-3.ensures

pub returns-in-4 : goal.returns-in-4
returns-in-4 c = rw c.in-4.is c.compare_placed.ensures

pub returns-in-5 : goal.returns-in-5
returns-in-5 c = rw c.in-5.is c.compare_quotas.ensures

pub returns-in_default : goal.returns-in_default
returns-in_default c =
    let r = c.in_default.in_default-own.rest in
    simp (ne_eqb _ _ r.0.0.0.0.1, ne_eqb _ _ r.0.0.0.1, ne_eqb _ _ r.0.0.1, ne_eqb _ _ r.0.1, ne_eqb _ _ r.1)

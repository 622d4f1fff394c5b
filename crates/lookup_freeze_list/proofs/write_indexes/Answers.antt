-- `lookup_freeze_list::write_indexes` meets its contract.
use native.Mathlib.Omega.{arith}
use Rattle.entries.specs.Held.{entries_in}
use Rattle.name_marks.specs.Marks.{jobs}
use Rattle.name_marks.specs.Laws.{behind-start}
use Rattle.lookup_freeze_list.proofs.Indexes.{last_name_lem, no_names, indexes-written, all_read}
use Rattle.lookup_freeze_list.proofs.write_indexes.Goals as goal

pub returns-then-n-eq0 : goal.returns-then-n-eq0
returns-then-n-eq0 c =
    let the_whole = no_names (jobs c.args.list.now) (entries_in c.args.s.now) c.args.out.now c.requires.3 c.if-n-eq0.true in record { out_after = the_whole.0; value = the_whole.1 }

pub pass-prefixes-requires : goal.pass-prefixes-requires
pass-prefixes-requires c =
    let p = c.requires in
    (p.0, p.1, p.2, omega (arith, p.3, p.4, c.fill.auto.out), p.5, last_name_lem (jobs c.args.list.now) p.6 p.3 c.if-n-eq0.false)

pub pass-literals-requires : goal.pass-literals-requires
pass-literals-requires c =
    let p = c.requires in
    (p.0, p.1, p.2, omega (arith, p.3, p.4, c.fill.auto.out, c.pass-prefixes.auto.out), p.5, last_name_lem (jobs c.args.list.now) p.6 p.3 c.if-n-eq0.false)

pub mark_from-requires : goal.mark_from-requires
mark_from-requires c =
    let p = c.requires in
    (p.2, omega (arith, p.3, p.4, c.fill.auto.out, c.pass-prefixes.auto.out, c.pass-literals.auto.out), behind-start _ _ p.2)

pub returns : goal.returns
returns c =
    let p = c.requires in
    let names = jobs c.args.list.now in
    let l = entries_in c.args.s.now in
    record { out_after = indexes-written names l p.1 c.args.out.now p.3 c.fill.ensures c.pass-prefixes.ensures.out_after c.pass-literals.ensures.out_after c.mark_from.ensures.0; value = all_read names l p.1 (last_name_lem names p.6 p.3 c.if-n-eq0.false) c.pass-prefixes.ensures.value.0 c.pass-literals.ensures.value.0 }

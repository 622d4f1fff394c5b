-- `lookup_freeze_list::freeze_list` meets its contract.
use mathlib.Core.Path.{subst}
use mathlib.Core.Bool.{true}
use native.Mathlib.Omega.{arith}
use Rattle.model.specs.FreezeList.{job_limit}
use Rattle.names.specs.Lists.{CheckedAs}
use Rattle.names.specs.declared.Checked.TheVariants.{Names}
use Rattle.find.proofs.Lent.{lent-entries, lent-held}
use Rattle.lookup_freeze_list.proofs.Answers.{no_image, image_is, list_refused, too_short, lent-ascends, all-written}
use Rattle.lookup_freeze_list.proofs.freeze_list.Goals as goal

pub returns-then-not-is_image : goal.returns-then-not-is_image
returns-then-not-is_image c =
    let the_whole = no_image c.args.image.now c.args.list.now c.args.out.now c.is_image.ensures c.if-not-is_image.true-raw in record { result_value = the_whole.0; out_after = the_whole.1 }

pub overflow_mul-n : goal.overflow_mul-n
overflow_mul-n c =
    let checked : CheckedAs true job_limit c.args.list.now (Names c.in-Names.n c.in-Names.last) = subst (CheckedAs true job_limit c.args.list.now) c.in-Names.is c.check.ensures in
    omega (arith, checked.2)

pub returns-then-out-n : goal.returns-then-out-n
returns-then-out-n c =
    let checked : CheckedAs true job_limit c.args.list.now (Names c.in-Names.n c.in-Names.last) = subst (CheckedAs true job_limit c.args.list.now) c.in-Names.is c.check.ensures in
    let the_whole = too_short c.args.image.now c.args.list.now c.args.out.now c.is_image.ensures c.if-not-is_image.false-raw checked c.if-out-n.true in record { result_value = the_whole.0; out_after = the_whole.1 }

pub reals_end-end-requires : goal.reals_end-end-requires
reals_end-end-requires c =
    image_is c.args.image.now c.args.list.now c.args.out.now c.is_image.ensures c.if-not-is_image.false-raw

pub write_indexes-read-requires : goal.write_indexes-read-requires
write_indexes-read-requires c =
    let checked : CheckedAs true job_limit c.args.list.now (Names c.in-Names.n c.in-Names.last) = subst (CheckedAs true job_limit c.args.list.now) c.in-Names.is c.check.ensures in
    let r = c.reals_end-end.ensures in
    let h = checked in
    (lent-entries _ r, lent-ascends _ r, h.0, h.1, c.if-out-n.false, h.3, h.4)

pub returns-in-Refused : goal.returns-in-Refused
returns-in-Refused c =
    let the_whole = list_refused c.args.image.now c.args.list.now c.args.out.now c.is_image.ensures c.if-not-is_image.false-raw
    (subst (CheckedAs true job_limit c.args.list.now) c.in-Refused.is c.check.ensures) in record { result_value = the_whole.0; out_after = the_whole.1 }

pub returns-else-out-n : goal.returns-else-out-n
returns-else-out-n c =
    let checked : CheckedAs true job_limit c.args.list.now (Names c.in-Names.n c.in-Names.last) = subst (CheckedAs true job_limit c.args.list.now) c.in-Names.is c.check.ensures in
    let the_whole = all-written c.args.image.now c.args.list.now c.args.out.now c.is_image.ensures c.if-not-is_image.false-raw checked
    c.if-out-n.false (lent-held _ c.reals_end-end.ensures) c.write_indexes-read.ensures.value c.write_indexes-read.ensures.out_after in record { result_value = the_whole.0; out_after = the_whole.1 }

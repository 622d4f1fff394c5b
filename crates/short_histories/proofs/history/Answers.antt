-- `short_histories::history` meets its contract, exit by exit.
use mathlib.Core.Path.{subst}
use Rattle.short_histories.specs.Histories.{CountAs, FoundAs}
use Rattle.short_histories.specs.declared.Count.TheVariants.{Records}
use Rattle.short_histories.proofs.Exits.{record-refused, no_record, some_record, past_last, history_written}
use Rattle.short_histories.proofs.history.Goals as goal

pub returns-then-n-eq-NO_RECORDS : goal.returns-then-n-eq-NO_RECORDS
returns-then-n-eq-NO_RECORDS c =
    let counted : CountAs c.args.input.now (Records c.in-Records.n) = subst (CountAs _) c.in-Records.is c.count_records.ensures in
    let a = c.args in
    let the_whole = no_record a.input.now a.number a.out.now counted c.if-n-eq-NO_RECORDS.true in record { result_value = the_whole.0; out_after = the_whole.1 }

pub find_history-requires : goal.find_history-requires
find_history-requires c =
    let counted : CountAs c.args.input.now (Records c.in-Records.n) = subst (CountAs _) c.in-Records.is c.count_records.ensures in
    counted.2

pub emit_history-requires : goal.emit_history-requires
emit_history-requires c =
    let counted : CountAs c.args.input.now (Records c.in-Records.n) = subst (CountAs _) c.in-Records.is c.count_records.ensures in
    let a = c.args in
    let d = counted in
    let f = subst (FoundAs _ _) c.in-History.is c.find_history.ensures in
    (d.1, some_record a.input.now a.number a.out.now d c.if-n-eq-NO_RECORDS.false, d.2, f.1, f.2)

pub returns-in-Refused : goal.returns-in-Refused
returns-in-Refused c =
    let a = c.args in
    let the_whole = record-refused a.input.now a.number a.out.now (subst (CountAs _) c.in-Refused.is c.count_records.ensures) in record { result_value = the_whole.0; out_after = the_whole.1 }

pub returns-in-Past : goal.returns-in-Past
returns-in-Past c =
    let counted : CountAs c.args.input.now (Records c.in-Records.n) = subst (CountAs _) c.in-Records.is c.count_records.ensures in
    let a = c.args in
    let the_whole = past_last a.input.now a.number a.out.now counted c.if-n-eq-NO_RECORDS.false (subst (FoundAs _ _) c.in-Past.is c.find_history.ensures) in record { result_value = the_whole.0; out_after = the_whole.1 }

pub returns-in-History : goal.returns-in-History
returns-in-History c =
    let counted : CountAs c.args.input.now (Records c.in-Records.n) = subst (CountAs _) c.in-Records.is c.count_records.ensures in
    let a = c.args in
    let the_whole = history_written a.input.now a.number a.out.now counted c.if-n-eq-NO_RECORDS.false (subst (FoundAs _ _) c.in-History.is c.find_history.ensures) (c.emit_history.ensures.result_value, c.emit_history.ensures.out_after) in record { result_value = the_whole.0; out_after = the_whole.1 }

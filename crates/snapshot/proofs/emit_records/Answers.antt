-- `snapshot::emit_records` meets its contract: each record is placed by the total of those before it.
use native.Mathlib.Omega.{arith}
use Rattle.find.proofs.Lent.{lent-entries, lent-kept}
use Rattle.snapshot.proofs.Emits.{too_short, offset_fits, entries_fit, entries-total, epoch_fits, epoch-total, kraft_fits, emitted}
use Rattle.snapshot.proofs.emit_records.Goals as goal

pub returns-then-is_too_short : goal.returns-then-is_too_short
returns-then-is_too_short c =
    let the_whole = too_short c.args.image.now c.reals_end-end.ensures c.args.out.now c.is_too_short.ensures c.if-is_too_short.true in record { result_value = the_whole.0; out_after = the_whole.1 }

pub put_offset-offset-requires : goal.put_offset-offset-requires
put_offset-offset-requires c =
    let reals = c.reals_end-end.ensures in (
      omega (arith, reals.low, reals.high),
      offset_fits c.args.image.now reals c.args.out.now c.is_too_short.ensures c.if-is_too_short.false,
    )

pub put_entries-entries-requires : goal.put_entries-entries-requires
put_entries-entries-requires c =
    let reals = c.reals_end-end.ensures in
    let offset = c.put_offset-offset.ensures in (
      lent-entries c.args.image.now reals,
      lent-kept c.args.image.now reals,
      offset.0,
      entries_fit c.args.image.now reals c.args.out.now c.is_too_short.ensures c.if-is_too_short.false offset,
    )

pub put_epoch-total-requires : goal.put_epoch-total-requires
put_epoch-total-requires c =
    let reals = c.reals_end-end.ensures in
    let tested = c.is_too_short.ensures in
    let offset = c.put_offset-offset.ensures in
    let entries = c.put_entries-entries.ensures in
    record {
      head_size_in_bounds = (
        omega (arith, reals.low, reals.high),
        entries-total c.args.image.now reals c.args.out.now tested c.if-is_too_short.false offset entries,
      );
      image_in_bounds = epoch_fits c.args.image.now reals c.args.out.now tested c.if-is_too_short.false offset entries;
    }

pub put_kraft-requires : goal.put_kraft-requires
put_kraft-requires c =
    let reals = c.reals_end-end.ensures in
    let tested = c.is_too_short.ensures in
    let offset = c.put_offset-offset.ensures in
    let entries = c.put_entries-entries.ensures in
    let epoch = c.put_epoch-total.ensures in
    record {
      head_size_in_bounds = (
        omega (arith, reals.low, reals.high),
        epoch-total c.args.image.now reals c.args.out.now tested c.if-is_too_short.false offset entries epoch,
      );
      image_in_bounds = kraft_fits c.args.image.now reals c.args.out.now tested c.if-is_too_short.false offset entries epoch;
    }

pub returns : goal.returns
returns c =
    let the_whole = emitted c.args.image.now c.reals_end-end.ensures c.args.out.now c.is_too_short.ensures c.if-is_too_short.false
    c.put_offset-offset.ensures c.put_entries-entries.ensures c.put_epoch-total.ensures c.put_kraft.ensures in record { result_value = the_whole.0; out_after = the_whole.1 }

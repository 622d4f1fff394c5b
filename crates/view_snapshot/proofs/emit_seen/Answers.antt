-- `view_snapshot::emit_seen` meets its contract.
use native.Mathlib.Omega.{arith}
use Rattle.model.specs.View.{prefixes_in}
use Rattle.find.proofs.Lent.{lent-entries, lent-short}
use Rattle.find.proofs.Passes.{too_short, emitted}
use Rattle.view_snapshot.proofs.Emits.{all-bytes}
use Rattle.view_snapshot.proofs.emit_seen.Goals as goal

pub seen_length-requires : goal.seen_length-requires
seen_length-requires c =
    let image = c.args.image.now in
    (lent-entries image c.reals_end-end.ensures, lent-short image c.reals_end-end.ensures c.requires.0, c.requires.1)

pub returns-then-out-seen_length : goal.returns-then-out-seen_length
returns-then-out-seen_length c =
    let the_whole = too_short _ _ (all-bytes c.args.image.now c.reals_end-end.ensures (prefixes_in c.args.list.now)) c.args.out.now
    c.seen_length.ensures c.if-out-seen_length.true in record { result_value = the_whole.0; out_after = the_whole.1 }

pub put_entries-requires : goal.put_entries-requires
put_entries-requires c =
    (lent-entries c.args.image.now c.reals_end-end.ensures, omega (arith, c.seen_length.ensures, c.if-out-seen_length.false), c.requires.1)

pub returns : goal.returns
returns c =
    let the_whole = emitted _ _ (all-bytes c.args.image.now c.reals_end-end.ensures (prefixes_in c.args.list.now)) c.args.out.now
    c.seen_length.ensures c.if-out-seen_length.false c.put_entries.ensures in record { result_value = the_whole.0; out_after = the_whole.1 }

-- `downgrade::emit_listed` meets its contract.
use native.Mathlib.Omega.{arith}
use Rattle.find.proofs.Lent.{lent-entries, lent-short}
use Rattle.find.proofs.Passes.{too_short, emitted}
use Rattle.downgrade.proofs.Emits.{all-bytes}
use Rattle.downgrade.proofs.emit_listed.Goals as goal

pub listed_length-requires : goal.listed_length-requires
listed_length-requires c =
    (lent-entries c.args.image.now c.reals_end-end.ensures, lent-short c.args.image.now c.reals_end-end.ensures c.requires)

pub returns-then-out-listed_length : goal.returns-then-out-listed_length
returns-then-out-listed_length c =
    let the_whole = too_short _ _ (all-bytes c.args.image.now c.reals_end-end.ensures c.args.level) c.args.out.now c.listed_length.ensures c.if-out-listed_length.true in record { result_value = the_whole.0; out_after = the_whole.1 }

pub put_entries-requires : goal.put_entries-requires
put_entries-requires c = (
  lent-entries c.args.image.now c.reals_end-end.ensures,
  omega (arith, c.listed_length.ensures, c.if-out-listed_length.false),
)

pub returns : goal.returns
returns c =
    let the_whole = emitted _ _ (all-bytes c.args.image.now c.reals_end-end.ensures c.args.level) c.args.out.now c.listed_length.ensures c.if-out-listed_length.false
    c.put_entries.ensures in record { result_value = the_whole.0; out_after = the_whole.1 }

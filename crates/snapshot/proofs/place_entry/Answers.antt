-- `snapshot::place_entry` meets its contract: the record stands behind the earlier ones, and the total is greater by its length.
use mathlib.Core.Path.{sym, ap, ◌∙◌}
use Prim.Native.Nat.{◌+◌}
use native.Mathlib.Omega.{arith}
use Rattle.records.specs.Answers.{put_at}
use Rattle.find.proofs.Finds.{entire}
use Rattle.snapshot.proofs.Totals.{here-bytes, here-length, total_with}
use Rattle.snapshot.proofs.place_entry.Goals as goal

pub put_returned-requires : goal.put_returned-requires
put_returned-requires c =
    let behind = c.requires.behind.0 in
    (entire _ behind.is, omega (arith, c.requires.end_in_bounds, here-length behind))

pub returned_size-requires : goal.returned_size-requires
returned_size-requires c =
    entire _ c.requires.behind.0.is

pub overflow_add-result : goal.overflow_add-result
overflow_add-result c =
    omega (arith, c.requires.end_in_bounds, here-length c.requires.behind.0, c.returned_size.ensures)

pub returns : goal.returns
returns c =
    let behind = c.requires.behind.0 in
    let more = c.returned_size.ensures ∙ sym (here-length behind) in
    let put = c.put_returned.ensures in
    record { value = (ap (λ n. c.args.total + n) more, ap (λ n. c.args.total + n) more ∙ total_with behind c.requires.behind.1); out_after = put ∙ ap (put_at c.args.out.now c.args.total) (sym (here-bytes behind)) }

-- `apply_topics::put_topic` meets its contract.
use mathlib.Core.Path.{refl, sym}
use native.Mathlib.Omega.{arith}
use lib.Seq.{length-take-le}
use Rattle.keys.proofs.Keys.{known_bytes}
use Rattle.find.proofs.Logged.{headed as logged-headed, topic_logged}
use Rattle.keys.proofs.Fields.{lent-value}
use Rattle.apply_work.proofs.Made.{record-size}
use Rattle.apply_topics.proofs.Moved.{count_fits_lem, topic_is, topic_kept, topic_moved}
use Rattle.apply_topics.proofs.put_topic.Goals as goal

pub clear_old_named-count-requires : goal.clear_old_named-count-requires
clear_old_named-count-requires c =
    (c.requires.0, logged-headed _ c.requires.1, (topic_logged _ c.requires.1 c.requires.2).name_fits)

pub value_at-p-requires : goal.value_at-p-requires
value_at-p-requires c = logged-headed _ c.requires.1

pub slice_bounds-put_real-end : goal.slice_bounds-put_real-end
slice_bounds-put_real-end c =
    omega (arith, c.topic_record-n.ensures.1, c.topic_record-n.auto.b)

pub slice_bounds-put_real-end-2 : goal.slice_bounds-put_real-end-2
slice_bounds-put_real-end-2 c =
    sym (length-take-le _ _ (omega (arith, c.topic_record-n.ensures.1, c.topic_record-n.auto.b)))

pub put_real-requires : goal.put_real-requires
put_real-requires c =
    let are_bytes_lem = known_bytes c.args.rec.now (λ i. omega (arith, c.type_inv.rec i)) in
    let count-fits-here = count_fits_lem _ _ (known_bytes c.args.w.now (λ i. omega (arith, c.slice_known-1.given i))) c.requires.0 _
    c.clear_old_named-count.ensures.3 in
    let is = topic_is _ c.requires.1 c.requires.2 are_bytes_lem c.clear_old_named-count.result
    count-fits-here _ c.topic_record-n.ensures.0 in (
      c.clear_named.ensures.0,
      is,
      topic_kept _ c.requires.1 c.requires.2 are_bytes_lem c.clear_old_named-count.result
          count-fits-here _ c.topic_record-n.ensures.0,
      omega (arith, record-size _ is, c.requires.3),
    )

pub returns : goal.returns
returns c =
    let are_bytes_lem = known_bytes c.args.rec.now (λ i. omega (arith, c.type_inv.rec i)) in
    let count-fits-here = count_fits_lem _ _ (known_bytes c.args.w.now (λ i. omega (arith, c.slice_known-1.given i))) c.requires.0 _
    c.clear_old_named-count.ensures.3 in
    topic_moved _ c.requires.1 c.requires.2 are_bytes_lem c.clear_old_named-count.result
    count-fits-here _ c.topic_record-n.ensures.0 c.args.w.now _ _ _ _ _ refl (lent-value _ _ _ _ c.value_at-p.ensures)
    (record-size _ (topic_is _ c.requires.1 c.requires.2 are_bytes_lem c.clear_old_named-count.result
    count-fits-here _ c.topic_record-n.ensures.0)) c.clear_old_named-count.ensures c.clear_named.ensures c.put_real.ensures

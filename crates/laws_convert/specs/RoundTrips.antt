-- The old and the new form of a snapshot undo each other.
use Rattle.std.specs.Prelude.{◌≡◌, List, [], ◌++◌, Bool, true, false, cond, ℕ, ◌+◌, drop}
use Rattle.std.proofs.Math.Path.{refl, ap}
use Rattle.std.proofs.Common.{sym, ◌∙◌, append-nil}
use Rattle.std.proofs.Math.ListN.{length}
use Rattle.model.specs.Choice.{joined}
use Rattle.model.specs.Number.{Bytes, is_offset}
use Rattle.model.specs.Run.{field, bytes_of}
use Rattle.model.specs.Kind.{kind_number}
use Rattle.model.specs.Shape.{logged, framed}
use Rattle.model.specs.Record.{Rec, record_bytes}
use Rattle.model.specs.Items.{end, item, items_from, items_of, records}
use Rattle.model.specs.Reply.{Ended, unchanged, emit_bytes}
use Rattle.model.specs.Snapshot.{offset_rec, offset_size}
use Rattle.model.specs.History.{written}
use Rattle.model.specs.Convert.{Checked, passes, run_checked, start_checked, start_offset, checked, beside, offset_beside, with_offset_of, without_offset_of}
use Rattle.model.specs.Convert.{Succeeds, OldNewOld, NewOldNew}
use Rattle.laws.specs.Choice.{true_false}
use Rattle.laws.specs.Lists.{All}
use Rattle.laws.specs.Numbers.{number_bytes_lem}
use Rattle.laws.specs.Offsets.{offset-span}
use Rattle.laws_records.specs.Items.{placed, items_record, items-records, items-append, spells-items}
use Rattle.laws_records.specs.Framed.{framed_pass}
use Rattle.laws_image.specs.Snapshot.{offset_passes}
use Rattle.laws_convert.specs.Checks.{Undated, run_passes, run-whole, items-numbered, run-positive, start-positive, succeeds_passes, emit-written, beside-written}
use Rattle.laws_convert.specs.NewForm.{NewForm, new_form, old_form}

-- 1. Old to new to old

-- kind 26, and records behind it
without : (n : ℕ) → is_offset n ≡ true → (run own : Bytes) (rs : List Rec)
    → items_from framed 0 (0 + length (record_bytes (offset_rec n))) run ≡ placed (0 + length (record_bytes (offset_rec n))) rs (λ p. end) → All Undated rs
    → without_offset_of (record_bytes (offset_rec n) ++ run) own ≡ beside n (emit_bytes run own)
unfolding without_offset_of start_checked start_offset kind_number field
without n h run own rs e u =
    let is : items_of framed (record_bytes (offset_rec n) ++ run) ≡ item 0 (offset_rec n) (placed (0 + length (record_bytes (offset_rec n))) rs (λ p. end)) =
    items_record framed 0 (offset_rec n) run (offset_passes n h) ∙ ap (item 0 (offset_rec n)) e in
    let tail : drop offset_size (record_bytes (offset_rec n) ++ run) ≡ run = unfold record_bytes bytes_of in refl in
    rw (is, run-whole (0 + length (record_bytes (offset_rec n))) rs u, number_bytes_lem 8 n (offset-span n h), tail) refl

pub old-new-old : OldNewOld
unfolding with_offset_of
old-new-old run n out own are h = go (is_offset n) refl h
  where
    new : Bytes
    new = record_bytes (offset_rec n) ++ run

    made : Ended
    made = checked (run_checked (items_of logged run)) (emit_bytes new out) out

    go : (b : Bool) → is_offset n ≡ b → Succeeds (cond b made (unchanged 23 out)) → without_offset_of (written (cond b made (unchanged 23 out))) own ≡ beside n (emit_bytes run own)
    go false e q = absurd (true_false q refl)
    go true e q =
        let a = succeeds_passes (run_checked (items_of logged run)) (emit_bytes new out) out (run-positive (items_of logged run) (items-numbered logged 0 0 run)) q in
        let wrote : written made ≡ new = ap (λ (c : Checked). written (checked c (emit_bytes new out) out)) a.0 ∙ emit-written new out a.1 in
        let p = run_passes (items_of logged run) a.0 in
        let s = spells-items logged run are p.whole in
        let rs = records (items_of logged run) in
        let here = 0 + length (record_bytes (offset_rec n)) in
        let rest : items_from framed 0 here run ≡ placed here rs (λ p. end) =
        ap (items_from framed 0 here) (sym s.spelt ∙ sym (append-nil (joined record_bytes rs)))
        ∙ items-append framed here rs [] (framed_pass rs s.pass) ∙ unfold items_from in refl in
        ap (λ (x : Bytes). without_offset_of x own) wrote ∙ without n e run own rs rest p.undated

-- 2. New to old to new

pub new-old-new : NewOldNew
new-old-new run out own are h =
    ap (λ (x : Ended). with_offset_of (written x) (offset_beside x) own) made
    ∙ ap (λ (x : Bytes). with_offset_of x (offset_beside (beside n (emit_bytes old out))) own) wrote.0
    ∙ ap (λ m. with_offset_of old m own) wrote.1
    ∙ again
  where
    n : ℕ
    n = start_offset (items_of framed run)

    old : Bytes
    old = drop offset_size run

    passed : (start_checked (items_of framed run) ≡ passes) × Succeeds (beside n (emit_bytes old out))
    passed = unfold without_offset_of in
        succeeds_passes (start_checked (items_of framed run)) (beside n (emit_bytes old out)) out (start-positive (items_of framed run) (items-numbered framed 0 0 run)) h

    made : without_offset_of run out ≡ beside n (emit_bytes old out)
    made = unfold without_offset_of in ap (λ (c : Checked). checked c (beside n (emit_bytes old out)) out) passed.0

    wrote : (written (beside n (emit_bytes old out)) ≡ old) × (offset_beside (beside n (emit_bytes old out)) ≡ n)
    wrote = beside-written n old out passed.1

    f : NewForm run
    f = new_form run are passed.0

    items : items_of logged old ≡ placed 0 f.later (λ p. end)
    items = ap (items_of logged) (old_form f) ∙ items-records logged f.later f.pass

    back : record_bytes (offset_rec n) ++ old ≡ run
    back = ap (λ (x : Bytes). record_bytes (offset_rec n) ++ x) (old_form f) ∙ f.spelt

    again : with_offset_of old n own ≡ emit_bytes run own
    again = unfold with_offset_of in rw (f.offset, items, run-whole 0 f.later f.undated, back) refl

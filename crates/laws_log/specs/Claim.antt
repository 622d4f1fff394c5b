-- The freeze from the log is the restored image's.
use Rattle.std.specs.Prelude.{◌≡◌, refl, List, [], ◌∷◌, ◌++◌, Bool, true, false, cond, ℕ, zero, suc, ◌+◌, drop}
use Rattle.std.proofs.Math.Path.{sym, ap}
use Rattle.std.proofs.Common.{◌∙◌, lit<}
use Rattle.std.proofs.Math.Option.{Option, none}
use Rattle.std.proofs.Math.ListN.{length}
use Rattle.std.proofs.Math.Seq.{drop-append_seam}
use Rattle.model.specs.Choice.{given, joined, last_of}
use Rattle.model.specs.Number.{Bytes, AreBytes, is_offset}
use Rattle.model.specs.Kind.{kind_number}
use Rattle.model.specs.Shape.{framed, string_limit, text_fault}
use Rattle.model.specs.Record.{Rec, record_bytes}
use Rattle.model.specs.Items.{Items, end, bad, item, items_from, items_of, records, is_whole}
use Rattle.model.specs.Key.{freeze_key}
use Rattle.model.specs.Map.{get}
use Rattle.model.specs.Reply.{accepted}
use Rattle.model.specs.Snapshot.{emit, offset_rec, is_offset_rec, restore_of}
use Rattle.model.specs.Lookup.{named, returned_at, freeze_by, freeze, as_list, freeze_of}
use Rattle.model.specs.Convert.{passes, fails, run_checked}
use Rattle.model.specs.LogFreeze.{log_checked, name_checked, is_freeze_of, in_force, last_freeze, log_freeze_of, starts_dated, FreezeFromLog}
use Rattle.model.specs.declared.Kind.TheVariants.{LogOffset}
use Rattle.laws.specs.Choice.{impossible, true_false}
use Rattle.laws.specs.Freeze.{freeze-same}
use Rattle.laws.specs.Lists.{All}
use Rattle.laws.specs.Numbers.{bytes_are_bytes, append_are_bytes}
use Rattle.laws_records.specs.Records.{bytes_record}
use Rattle.laws_records.specs.Items.{items_record, records-items}
use Rattle.laws_image.specs.Kinds.{is_kind}
use Rattle.laws_image.specs.Image.{image_is, image_contents}
use Rattle.laws_image.specs.Snapshot.{offset_passes}
use Rattle.laws_apply.specs.Accepts.{Inner, Accepts, accepting, offset_skipped, accepted-last}
use Rattle.laws_log.specs.Freezes.{moved-freeze}

-- 1. The restored image has the last freezes of its run

no_freeze_lem : (pattern scope : Bytes) (r : Rec) → is_offset_rec r ≡ true → is_freeze_of pattern scope r ≡ false
unfolding is_freeze_of kind_number
no_freeze_lem pattern scope r h = rw (is_kind r.kind LogOffset h) refl

module _ {run b : Bytes} (a : Accepts run b) where
  last_freeze_lem : (pattern scope : Bytes) → returned_at (freeze_key pattern scope) a.contents.real ≡ last_freeze (records (items_of framed run)) pattern scope
  unfolding last_freeze get
  last_freeze_lem pattern scope =
      accepted-last (is_freeze_of pattern scope) (no_freeze_lem pattern scope) in_force (λ c. returned_at (freeze_key pattern scope) c.real)
      (moved-freeze pattern scope) (λ n. refl) a

  image_freeze : (name out : Bytes)
      → freeze_of (restore_of run b).buffer name out ≡ named (text_fault string_limit name) (as_list (freeze_by (last_freeze (records (items_of framed run))) name)) out
  unfolding freeze_of freeze
  image_freeze name out =
      let same = freeze-same (λ p s. returned_at (freeze_key p s) a.contents.real) (last_freeze (records (items_of framed run))) last_freeze_lem name in
      rw (a.buffer, image_is (length b) a.contents a.fits, image_contents (length b) a.contents a.fits)
      (ap (λ o. named (text_fault string_limit name) (as_list o) out) same)

-- 2. Records that are whole, none of kind 26 behind the first

run_passes : (i : Items) → is_whole i ≡ true → All Inner (records i) → run_checked i ≡ passes
unfolding is_whole records run_checked
run_passes end w u = refl
run_passes (bad n place) w u = absurd (true_false w refl)
run_passes (item place r rest) w u = rw u.0 (run_passes rest w u.1)

log_passes : (i : Items) → is_whole i ≡ true → (r : Rec) (rs : List Rec) → records i ≡ r ∷ rs → All Inner rs → log_checked i ≡ passes
unfolding is_whole records log_checked
log_passes end w r rs e u = refl
log_passes (bad n place) w r rs e u = absurd (true_false w refl)
log_passes (item place q rest) w r rs e u = let same : rs ≡ records rest = cc in run_passes rest w (rw (← same) u)

run_log : (i : Items) → run_checked i ≡ passes → log_checked i ≡ passes
unfolding run_checked log_checked
run_log end e = refl
run_log (bad n place) e = e
run_log (item place r rest) e = go (is_offset_rec r) e
  where
    go : (t : Bool) → cond t (fails 22 place) (run_checked rest) ≡ passes → run_checked rest ≡ passes
    go true h = impossible cc
    go false h = h

-- 3. The answer from such a run

named-same : (f : ℕ) (rs : List Rec) (out : Bytes) → name_checked f (emit rs out) out ≡ named f rs out
named-same zero rs out = refl
named-same (suc f) rs out = refl

log_freeze : (run name out : Bytes) → log_checked (items_of framed run) ≡ passes
    → log_freeze_of run name out ≡ named (text_fault string_limit name) (as_list (freeze_by (last_freeze (records (items_of framed run))) name)) out
unfolding log_freeze_of
log_freeze run name out e = rw e (named-same (text_fault string_limit name) (as_list (freeze_by (last_freeze (records (items_of framed run))) name)) out)

-- 4. Kind 26 put before a run

offset_bytes_lem : (n : ℕ) → AreBytes (record_bytes (offset_rec n))
offset_bytes_lem n = bytes_record (offset_rec n) (lit< tt, bytes_are_bytes 8 n, tt)

-- its records are the run's, behind kind 26
module _ (run b : Bytes) (n : ℕ) (h : is_offset n ≡ true) (a : Accepts (record_bytes (offset_rec n) ++ run) b) where
  first : items_of framed (record_bytes (offset_rec n) ++ run) ≡ item 0 (offset_rec n) (items_from framed 0 (0 + length (record_bytes (offset_rec n))) run)
  first = items_record framed 0 (offset_rec n) run (offset_passes n h)

  head_is : a.head ≡ offset_rec n
  unfolding records
  head_is = let q : a.head ∷ a.rest ≡ offset_rec n ∷ records (items_from framed 0 (0 + length (record_bytes (offset_rec n))) run) = sym a.are ∙ ap records first in cc

  rest-spelt : joined record_bytes a.rest ≡ run
  rest-spelt =
      let o = record_bytes (offset_rec n) in
      let whole : o ++ joined record_bytes a.rest ≡ o ++ run = ap (λ (r : Rec). record_bytes r ++ joined record_bytes a.rest) (sym head_is) ∙ a.spelt in
      sym (drop-append_seam o (joined record_bytes a.rest)) ∙ ap (drop (length o)) whole ∙ drop-append_seam o run

  rest-records : (records (items_of framed run) ≡ a.rest) × (is_whole (items_of framed run) ≡ true)
  rest-records =
      let back = records-items framed a.rest a.pass.1 in
      (ap (λ (x : Bytes). records (items_of framed x)) (sym rest-spelt) ∙ back.0, ap (λ (x : Bytes). is_whole (items_of framed x)) (sym rest-spelt) ∙ back.1)

  rest_passes : log_checked (items_of framed run) ≡ passes
  rest_passes = run_log (items_of framed run) (run_passes (items_of framed run) rest-records.1 (rw rest-records.0 a.inner))

  rest_freezes : (pattern scope : Bytes)
      → last_freeze (records (items_of framed (record_bytes (offset_rec n) ++ run))) pattern scope ≡ last_freeze (records (items_of framed run)) pattern scope
  unfolding last_freeze
  rest_freezes pattern scope =
      ap (λ (o : Option Rec). given o none in_force)
      (ap (last_of (is_freeze_of pattern scope)) a.are
      ∙ offset_skipped (is_freeze_of pattern scope) (no_freeze_lem pattern scope) a.head a.rest a.offset
      ∙ ap (last_of (is_freeze_of pattern scope)) (sym rest-records.0))

-- 5. The claim

module _ (run name out b : Bytes) (are : AreBytes run) (n : ℕ) (h : is_offset n ≡ true) where
  abbrev Same : Bytes → Type 0
  Same s = (restore_of s b).reply ≡ accepted [] → log_freeze_of run name out ≡ freeze_of (restore_of s b).buffer name out

  first-dated : Same run
  first-dated e =
      let a = accepting run b are e in
      log_freeze run name out (log_passes (items_of framed run) a.whole a.head a.rest a.are a.inner) ∙ sym (image_freeze a name out)

  put-before : Same (record_bytes (offset_rec n) ++ run)
  put-before e =
      let s = record_bytes (offset_rec n) ++ run in
      let a = accepting s b (append_are_bytes (record_bytes (offset_rec n)) run (offset_bytes_lem n) are) e in
      let same = freeze-same (last_freeze (records (items_of framed s))) (last_freeze (records (items_of framed run))) (rest_freezes run b n h a) name in
      log_freeze run name out (rest_passes run b n h a)
      ∙ ap (λ o. named (text_fault string_limit name) (as_list o) out) (sym same)
      ∙ sym (image_freeze a name out)

  by_first : (t : Bool) → Same (cond t run (record_bytes (offset_rec n) ++ run))
  by_first true = first-dated
  by_first false = put-before

pub freeze_from_log : FreezeFromLog
freeze_from_log run name out b n are h = by_first run name out b are n h (starts_dated (items_of framed run))

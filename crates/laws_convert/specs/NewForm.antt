-- The new form: where its records are all right, its bytes are kind 26 with its offset, and records of the log.
use Rattle.std.specs.Prelude.{◌≡◌, List, [], ◌∷◌, ◌++◌, Bool, true, false, cond, ℕ, drop}
use Rattle.std.proofs.Math.Path.{refl, sym}
use Rattle.std.proofs.Common.{◌∙◌, ap}
use Rattle.model.specs.Choice.{joined}
use Rattle.model.specs.Number.{Bytes, AreBytes, number, is_offset}
use Rattle.model.specs.Run.{bytes_of, value}
use Rattle.model.specs.Shape.{logged, framed}
use Rattle.model.specs.Record.{Rec, record_bytes}
use Rattle.model.specs.Items.{Items, end, bad, item, items_of, records, is_whole}
use Rattle.model.specs.Snapshot.{offset_rec, offset_size, is_offset_rec}
use Rattle.model.specs.Convert.{passes, fails, run_checked, start_checked, start_offset}
use Rattle.laws.specs.Choice.{impossible}
use Rattle.laws.specs.Lists.{All}
use Rattle.laws.specs.Numbers.{left_are_bytes}
use Rattle.laws_records.specs.Stored.{framed_logged}
use Rattle.laws_records.specs.Items.{AllPass, Spells, spells-items}
use Rattle.laws_convert.specs.Checks.{Undated, Passes, run_passes}
use Rattle.laws_convert.specs.Offset.{offset_record}

abbrev offset_of : Bytes → ℕ
offset_of run = start_offset (items_of framed run)

pub record NewForm (run : Bytes) : Type 0 where
  pub later : List Rec
  pub offset : is_offset (offset_of run) ≡ true
  pub spelt : record_bytes (offset_rec (offset_of run)) ++ joined record_bytes later ≡ run
  pub pass : AllPass logged later
  pub undated : All Undated later

logged_pass : (rs : List Rec) → AllPass framed rs → All Undated rs → AllPass logged rs
logged_pass [] ok u = tt
logged_pass (x ∷ rs) ok u = (sym (framed_logged x.kind x.run u.0) ∙ ok.0, logged_pass rs ok.1 u.1)

-- where kind 26 stands first and nowhere else
module _ (run : Bytes) (are : AreBytes run) (place : ℕ) (r : Rec) (rest : Items) (e : items_of framed run ≡ item place r rest)
    (first : is_offset_rec r ≡ true) (p : Passes rest) where
  spells : Spells framed (r ∷ records rest) run
  unfolding is_whole records
  spells = rw e at (spells-items framed run are (rw e p.whole))

  its_record : (is_offset (number (value 1 r.run)) ≡ true) × (record_bytes r ≡ record_bytes (offset_rec (number (value 1 r.run))))
  its_record = offset_record r first spells.pass.0 (left_are_bytes (record_bytes r) (joined record_bytes (records rest)) (rw spells.spelt are))

  offset_is_lem : number (value 1 r.run) ≡ offset_of run
  unfolding start_offset
  offset_is_lem = sym (ap start_offset e)

  started : NewForm run
  started = record {
    later = records rest;
    offset = rw (sym offset_is_lem) its_record.0;
    spelt =
        ap (λ n. record_bytes (offset_rec n) ++ joined record_bytes (records rest)) (sym offset_is_lem)
        ∙ ap (λ (x : Bytes). x ++ joined record_bytes (records rest)) (sym its_record.1)
        ∙ spells.spelt;
    pass = logged_pass (records rest) spells.pass.1 p.undated;
    undated = p.undated;
  }

no_fails : {A : Type 0} (n place : ℕ) → fails n place ≡ passes → A
no_fails n place e = impossible cc

pub new_form : (run : Bytes) → AreBytes run → start_checked (items_of framed run) ≡ passes → NewForm run
unfolding start_checked
new_form run are h = go (items_of framed run) refl
  where
    go : (i : Items) → items_of framed run ≡ i → NewForm run
    go end e = no_fails 22 0 (sym (ap start_checked e) ∙ h)
    go (bad n place) e = no_fails n place (sym (ap start_checked e) ∙ h)
    go (item place r rest) e = each (is_offset_rec r) refl (sym (ap start_checked e) ∙ h)
      where
        each : (b : Bool) → is_offset_rec r ≡ b → cond b (run_checked rest) (fails 22 place) ≡ passes → NewForm run
        each true f q = started run are place r rest e f (run_passes rest q)
        each false f q = no_fails 22 place q

-- the old form is what stands behind kind 26
pub old_form : {run : Bytes} (f : NewForm run) → drop offset_size run ≡ joined record_bytes f.later
old_form {run} f = ap (drop offset_size) (sym f.spelt) ∙ tail
  where
    tail : drop offset_size (record_bytes (offset_rec (offset_of run)) ++ joined record_bytes f.later) ≡ joined record_bytes f.later
    tail = unfold record_bytes bytes_of in refl

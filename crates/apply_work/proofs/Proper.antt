-- The entries that a work array holds read back, and their numbers fit their fields.
use mathlib.Core.Path.{◌≡◌, refl, subst}
use mathlib.Core.Bool.{Bool, true, false}
use lib.Dec.{eqb}
use lib.ListN.{take}
use lib.Seq.{slice}
use Rattle.model.specs.Number.{Bytes, AreBytes, number}
use Rattle.model.specs.Run.{value}
use Rattle.model.specs.Kind.{kind_number}
use Rattle.model.specs.Record.{Rec}
use Rattle.model.specs.Shape.{stored}
use Rattle.model.specs.Contents.{topic, kept}
use Rattle.model.specs.Image.{entry_of, flag_reads}
use Rattle.laws.specs.Lists.{All, all_map, all_both}
use Rattle.laws.specs.Numbers.{take_are_bytes, slice_are_bytes}
use Rattle.laws_records.specs.Items.{spells-items}
use Rattle.laws_image.specs.Fits.{Readable, Proper}
use Rattle.laws_image.specs.Entries.{entry_proper, kept_reads}
use Rattle.laws_image.specs.Exact.{readable_records}
use Rattle.entries.specs.Entries.{records_in, Entries}
use Rattle.apply_work.specs.Work.{reals_in, groups_in, Good, held_in}
use Rattle.apply_work.specs.declared.Bounds.{Bounds}

pub entries_readable : (s : Bytes) → AreBytes s → Entries s → All Readable (records_in s)
entries_readable s are e =
    let sp = spells-items stored s are e in
    readable_records (records_in s) sp.pass (rw sp.spelt are)

-- a record that stands for its entry has a flag that reads
flag_reads_lem : (r : Rec) → kept (entry_of r) ≡ r → flag_reads r ≡ true
unfolding entry_of
flag_reads_lem r k = go (eqb (kind_number r.kind) 1) refl
  where
    go : (b : Bool) → eqb (kind_number r.kind) 1 ≡ b → flag_reads r ≡ true
    go true e = subst (λ x. flag_reads x ≡ true) (rw e at k) (kept_reads (topic (value 1 r.run) (value 2 r.run) (number (value 3 r.run)) (number (value 4 r.run)) (eqb (number (value 5 r.run)) 1)) tt)
    go false e = unfold flag_reads in rw e refl

module _ (w : Bytes) (bounds : Bounds) (are : AreBytes w) (good : Good w bounds) where
  pub held_proper : All Proper (held_in w bounds)
  held_proper =
      let s = take bounds.mid w in
      let readable = entries_readable s (take_are_bytes bounds.mid w are) good.reals in
      all_map (λ r. Readable r × (kept (entry_of r) ≡ r)) Proper entry_of (λ r p. entry_proper r p.0 (flag_reads_lem r p.1)) (reals_in w bounds)
      (all_both Readable (λ r. kept (entry_of r) ≡ r) (reals_in w bounds) readable good.keeps)

  pub groups_readable : All Readable (groups_in w bounds)
  groups_readable =
      entries_readable (slice bounds.mid bounds.used w) (slice_are_bytes bounds.mid bounds.used w are) good.groups

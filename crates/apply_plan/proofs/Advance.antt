-- Whether an advance leaves i64.
use mathlib.Core.Path.{◌≡◌, refl, sym, ◌∙◌}
use mathlib.Core.Bool.{false}
use mathlib.Core.List.{List}
use lib.Dec.{eqb}
use Rattle.model.specs.Number.{Bytes}
use Rattle.model.specs.Kind.{kind_number}
use Rattle.model.specs.Contents.{Entry}
use Rattle.model.specs.Move.{overflows}
use Rattle.model.specs.declared.Kind.TheVariants.{PartitionOffsetAdvance}
use Rattle.laws.specs.Choice.{impossible}
use Rattle.keys.specs.Keys.{kind_in}
use Rattle.entries.specs.Entries.{IsRecord, record_in}
use Rattle.find.specs.Logged.{IsLogged, logged_in}
use Rattle.find.proofs.Logged.{kind_in_lem}
use Rattle.apply_plan.specs.Plans.{leaves_by}
use Rattle.apply_plan.proofs.ByKind.{logged_is, record-logged, record-kind}

module _ (rec : Bytes) (i : IsLogged rec) (l : List Entry) where
  pub no_advance : eqb (kind_in rec) 15 ≡ false → overflows (logged_in rec) l ≡ false
  unfolding overflows kind_number
  no_advance ne = rw (sym (kind_in_lem rec i), ne) refl

  module _ (is : kind_in rec ≡ 15) where
    pub advance_is : IsRecord rec
    unfolding kind_number
    advance_is = logged_is rec i PartitionOffsetAdvance is (λ e. impossible cc)

    pub advance_kind : (record_in rec).kind ≡ PartitionOffsetAdvance
    unfolding kind_number
    advance_kind = record-kind rec i PartitionOffsetAdvance is (λ e. impossible cc)

    pub advance_leaves : leaves_by (record_in rec).run l ≡ overflows (logged_in rec) l
    unfolding overflows kind_number
    advance_leaves =
        let same : record_in rec ≡ logged_in rec = record-logged rec i PartitionOffsetAdvance is (λ q. impossible cc) in
        rw (same, sym (kind_in_lem rec i) ∙ is) refl

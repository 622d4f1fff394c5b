-- A record's plan on a state, by its kind number: the entries that its moves make, the fixed parts, and that no sum leaves i64.
use mathlib.Core.Path.{◌≡◌, refl, sym, ap₂, ◌∙◌, subst}
use mathlib.Core.Bool.{false}
use Prim.Native.Nat.{ℕ}
use lib.Dec.{eqb}
use Rattle.model.specs.Number.{Bytes, number}
use Rattle.model.specs.Run.{value}
use Rattle.model.specs.Kind.{kind_number}
use Rattle.model.specs.Contents.{Fixed}
use Rattle.model.specs.Move.{bumped, plan, moved}
use Rattle.model.specs.declared.Kind.TheVariants.{PartitionOffsetAdvance}
use Rattle.laws.specs.Choice.{impossible}
use Rattle.keys.specs.Keys.{kind_in, run_in}
use Rattle.entries.specs.Entries.{record_in}
use Rattle.find.specs.Logged.{IsLogged, logged_in}
use Rattle.apply_work.specs.Work.{Good, held_in, fixed_parts, state_in, Made}
use Rattle.apply_work.specs.declared.Bounds.{Bounds}
use Rattle.apply_work.specs.declared.State.{State}
use Rattle.apply_work.specs.declared.Tried.{Tried}
use Rattle.apply_work.specs.declared.Tried.TheVariants.{Refused, Moved}
use Rattle.apply_plan.specs.Fixed.{epoch_after, kraft_after}
use Rattle.apply_plan.proofs.Moved.{moved_fixed}
use Rattle.apply_plan.proofs.Steps.{epoch-bumped, epoch-set, epoch-kept, kraft-set, kraft-kept}
use Rattle.apply_plan.specs.Plans.{Planned, Added}
use Rattle.apply_plan.proofs.ByKind.{by_record, kraft-made, epoch-made}
use Rattle.apply_plan.proofs.Advance.{no_advance, advance_leaves}

-- a kind number that is no advance's and leaves the fixed parts as they are
abbrev pub Calm : ℕ → Type 0
Calm n = (eqb n 10 ≡ false) × (eqb n 11 ≡ false) × (eqb n 13 ≡ false) × (eqb n 15 ≡ false)

-- the fixed parts that the moves make
module _ (s : Bytes) (i : IsLogged s) (w : Bytes) (state : State) where
  fixed_made : {epoch kraft : ℕ} → epoch ≡ epoch_after (logged_in s) state.epoch → kraft ≡ kraft_after (logged_in s) state.kraft
      → ◌≡◌ {A = Fixed} (record { epoch = epoch; kraft = kraft; offset = state.offset }) (moved (logged_in s) (state_in w state)).fixed
  fixed_made ee ek = ap₂ (λ x y. record { epoch = x; kraft = y; offset = state.offset }) ee ek ∙ sym (moved_fixed (logged_in s) (state_in w state))

module _ (s : Bytes) (i : IsLogged s) (w v : Bytes) (state : State) where
  module _ {bounds : Bounds} (made : Made (plan (logged_in s).kind (logged_in s).run (held_in w state.bounds)) w state.bounds v bounds) {r : Tried} where
    pub planned_bounds : {n : ℕ} → kind_in s ≡ n → Calm n → r ≡ Moved (record { bounds = bounds; epoch = state.epoch; kraft = state.kraft; offset = state.offset })
        → Planned (logged_in s) w state v r
    planned_bounds {n} is calm e =
        let apart : (m : ℕ) → eqb n m ≡ false → eqb (kind_in s) m ≡ false = λ m q. rw is q in
        subst (Planned (logged_in s) w state v) (sym e) (
          no_advance s i (held_in w state.bounds) (apart 15 calm.3),
          made,
          fixed_made s i w state (epoch-kept s i state.epoch (apart 11 calm.1) (apart 13 calm.2)) (kraft-kept s i state.kraft (apart 10 calm.0)),
        )

    pub planned_level : kind_in s ≡ 11 → r ≡ Moved (record { bounds = bounds; epoch = bumped state.epoch; kraft = state.kraft; offset = state.offset })
        → Planned (logged_in s) w state v r
    planned_level is e =
        subst (Planned (logged_in s) w state v) (sym e) (
          no_advance s i (held_in w state.bounds) (rw is refl),
          made,
          fixed_made s i w state (epoch-bumped s i state.epoch is refl) (kraft-kept s i state.kraft (rw is refl)),
        )

-- records that move no entry
module _ (s : Bytes) (i : IsLogged s) (w : Bytes) (state : State) (good : Good w state.bounds) {r : Tried} where
  pub planned_epoch : kind_in s ≡ 13 → r ≡ Moved (record { bounds = state.bounds; epoch = number (value 1 (run_in s)); kraft = state.kraft; offset = state.offset })
      → Planned (logged_in s) w state w r
  planned_epoch is e =
      subst (Planned (logged_in s) w state w) (sym e) (
        no_advance s i (held_in w state.bounds) (rw is refl),
        epoch-made s i is good,
        fixed_made s i w state (epoch-set s i state.epoch is refl) (kraft-kept s i state.kraft (rw is refl)),
      )

  pub planned_kraft : kind_in s ≡ 10 → r ≡ Moved (record { bounds = state.bounds; epoch = state.epoch; kraft = number (value 1 (run_in s)); offset = state.offset })
      → Planned (logged_in s) w state w r
  planned_kraft is e =
      subst (Planned (logged_in s) w state w) (sym e) (
        no_advance s i (held_in w state.bounds) (rw is refl),
        kraft-made s i is good,
        fixed_made s i w state (epoch-kept s i state.epoch (rw is refl) (rw is refl)) (kraft-set s i state.kraft is refl),
      )

-- an advance
module _ (s : Bytes) (i : IsLogged s) (is : kind_in s ≡ 15) (w v : Bytes) (state : State) where
  pub planned_offset : (r : Tried) → Added (record_in s).run w state v r → Planned (logged_in s) w state v r
  unfolding kind_number
  planned_offset (Refused n) h = (h.0, sym (advance_leaves s i (held_in w state.bounds) is) ∙ h.1)
  planned_offset (Moved t) h = (
    sym (advance_leaves s i (held_in w state.bounds) is) ∙ h.0,
    by_record s i PartitionOffsetAdvance is (λ e. impossible cc) h.1,
    h.2 ∙ fixed_made s i w state (epoch-kept s i state.epoch (rw is refl) (rw is refl)) (kraft-kept s i state.kraft (rw is refl)),
  )

-- The answers: by the name's checks, by the records', and what is written of the slot that is chosen.
use mathlib.Core.Path.{◌≡◌, refl, sym, ap, ◌∙◌, subst}
use mathlib.Core.Bool.{Bool, true, false}
use mathlib.Core.List.{List, [], ◌∷◌}
use Prim.Native.Nat.{ℕ, zero, suc, ◌+◌, ◌-◌, ◌≤◌}
use native.Mathlib.Omega.{arith}
use lib.ListN.{length}
use Rattle.model.specs.Number.{Bytes}
use Rattle.model.specs.Shape.{framed, string_limit, text_fault}
use Rattle.model.specs.Items.{items_of}
use Rattle.model.specs.Reply.{Reply, accepted, refused}
use Rattle.model.specs.Snapshot.{emit}
use Rattle.model.specs.Lookup.{begins_with, internal, freeze_by, as_list}
use Rattle.model.specs.Convert.{passes, fails}
use Rattle.model.specs.LogFreeze.{last_freeze, log_checked, log_freeze_of}
use Rattle.find.proofs.Finds.{emit_nothing}
use Rattle.log_freeze.specs.Slots.{frozen_at, Holds, chosen_slot, all_records, Noted, written}
use Rattle.log_freeze.proofs.Chosen.{chosen_frozen, chosen_holds}
use Rattle.log_freeze.proofs.Emits.{EndsAs}

-- 1. The slot that is chosen

module _ (run name out : Bytes) (short : length name ≤ 255) (slots : List ℕ) (n : Noted run name slots) {b : Bool} (eb : b ≡ begins_with internal name) where
  pub internal-none : b ≡ true → EndsAs (accepted (0 ∷ [])) out (written run name out)
  unfolding freeze_by
  internal-none h = rw (sym eb ∙ h) (emit_nothing out)

  module _ (no : b ≡ false) {v : ℕ} (ev : v ≡ chosen_slot slots (length name)) where
    frozen_is : frozen_at run v ≡ freeze_by (last_freeze (all_records run)) name
    frozen_is = ap (frozen_at run) ev ∙ chosen_frozen run name short slots n ∙ (unfold freeze_by in rw (sym eb ∙ no) refl)

    pub none-noted : v ≡ 0 → EndsAs (accepted (0 ∷ [])) out (written run name out)
    unfolding frozen_at
    none-noted h = rw (← frozen_is, h) (emit_nothing out)

    module _ (some-noted : v ≡ 0 → ⊥) where
      again : v - 1 + 1 ≡ v
      again = omega (arith, some-noted)

      pub noted-there : Holds run (v - 1 + 1)
      noted-there = subst (Holds run) (sym (again ∙ ev)) (chosen_holds run name short slots n)

      pub noted-written : {r : Reply} {w : Bytes} → EndsAs r w (emit (as_list (frozen_at run (v - 1 + 1))) out) → EndsAs r w (written run name out)
      noted-written e =
          let same = ap (λ o. emit (as_list o) out) (ap (frozen_at run) again ∙ frozen_is) in
          (e.0 ∙ ap (λ x. x.reply) same, e.1 ∙ ap (λ x. x.buffer) same)

-- 2. The checks

module _ (run name out : Bytes) where
  pub name_refused : {f : ℕ} → f ≡ text_fault string_limit name → (f ≡ 0 → ⊥) → EndsAs (refused f) out (log_freeze_of run name out)
  unfolding log_freeze_of
  name_refused {f} e wrong = go f e wrong
    where
      go : (n : ℕ) → n ≡ text_fault string_limit name → (n ≡ 0 → ⊥) → EndsAs (refused n) out (log_freeze_of run name out)
      go zero q h = absurd (h refl)
      go (suc n) q h = rw (← q) (refl, refl)

  module _ (right : 0 ≡ text_fault string_limit name) where
    pub record-refused : {n at : ℕ} → log_checked (items_of framed run) ≡ fails n at → EndsAs (record { number = n; values = at ∷ [] }) out (log_freeze_of run name out)
    unfolding log_freeze_of
    record-refused e = rw (← right, e) (refl, refl)

    pub all_right : log_checked (items_of framed run) ≡ passes → {r : Reply} {v : Bytes} → EndsAs r v (written run name out) → EndsAs r v (log_freeze_of run name out)
    unfolding log_freeze_of
    all_right e h = rw (← right, e) h

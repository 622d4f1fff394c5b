-- The slot that is chosen holds the freeze of the name: the literal scope's, else the longest prefix's.
use mathlib.Core.Path.{◌≡◌, refl, sym, ap, ◌∙◌}
use mathlib.Core.Bool.{cond}
use mathlib.Core.List.{List, []}
use mathlib.Core.Option.{Option}
use Prim.Native.Nat.{ℕ, zero, suc, ◌≤◌}
use native.Mathlib.Omega.{arith}
use borrow.Author.Tests.{ne_eqb}
use lib.Dec.{eqb}
use lib.ListN.{length, get_or}
use Rattle.model.specs.Choice.{or_else}
use Rattle.model.specs.Number.{Bytes}
use Rattle.model.specs.Record.{Rec}
use Rattle.model.specs.Lookup.{literal, prefixed, longest_by}
use Rattle.model.specs.LogFreeze.{last_freeze}
use Rattle.lookup_freezes.proofs.Prefixes.{shorter, longest-shorter}
use Rattle.log_freeze.specs.Slots.{literal_slot, frozen_at, Holds, longest_slot, chosen_slot, all_records, Noted}

module _ (run name : Bytes) (short : length name ≤ 255) (slots : List ℕ) (n : Noted run name slots) where
  abbrev find : Bytes → Bytes → Option Rec
  find = last_freeze (all_records run)

  -- the first of two slots that holds something
  first : (v w : ℕ) → Holds run v → (o : Option Rec) → frozen_at run w ≡ o → frozen_at run (cond (eqb v 0) w v) ≡ or_else (frozen_at run v) o
  unfolding frozen_at
  first zero w h o e = e
  first (suc at) w h o e = rw (ne_eqb (suc at) 0 (λ q. absurd (omega arith)), h.2) refl

  longest-frozen : (m : ℕ) → m ≤ suc (length name) → frozen_at run (longest_slot slots m) ≡ shorter (find prefixed) name m
  unfolding frozen_at longest_slot
  longest-frozen zero h = refl
  longest-frozen (suc m) h =
      first (get_or slots m 0) (longest_slot slots m) (n.holds m (omega arith)) (shorter (find prefixed) name m) (longest-frozen m (omega arith))
      ∙ ap (λ o. or_else o (shorter (find prefixed) name m)) (sym (n.prefixes m (omega arith)))

  pub chosen_frozen : frozen_at run (chosen_slot slots (length name)) ≡ or_else (find literal name) (longest_by (find prefixed) [] name)
  chosen_frozen =
      let longest = longest-frozen (suc (length name)) (omega arith) ∙ sym (longest-shorter (find prefixed) name) in
      first (get_or slots literal_slot 0) (longest_slot slots (suc (length name))) (n.holds literal_slot (omega arith)) (longest_by (find prefixed) [] name) longest
      ∙ ap (λ o. or_else o (longest_by (find prefixed) [] name)) (sym n.literals)

  -- it holds nothing, or the place of a record
  first_holds : (v w : ℕ) → Holds run v → Holds run w → Holds run (cond (eqb v 0) w v)
  first_holds zero w h k = k
  first_holds (suc at) w h k = rw (ne_eqb (suc at) 0 (λ q. absurd (omega arith))) h

  longest-holds : (m : ℕ) → m ≤ suc (length name) → Holds run (longest_slot slots m)
  unfolding longest_slot
  longest-holds zero h = tt
  longest-holds (suc m) h = first_holds (get_or slots m 0) (longest_slot slots m) (n.holds m (omega arith)) (longest-holds m (omega arith))

  pub chosen_holds : Holds run (chosen_slot slots (length name))
  chosen_holds =
      first_holds (get_or slots literal_slot 0) (longest_slot slots (suc (length name))) (n.holds literal_slot (omega arith))
      (longest-holds (suc (length name)) (omega arith))
